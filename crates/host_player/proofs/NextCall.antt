-- The next call begins where this one stopped: playing changes of the records condition code and prefix only, all numbers keep to their fields, and
-- so the player that is left is read again. Where the bytes of the player are bytes, nothing else is asked. Assumes nothing.
use Prim.Native.Nat.{ℕ, zero, suc, ◌+◌, ◌<◌}
use native.Mathlib.Omega.{arith}
use mathlib.Core.Path.{◌≡◌, refl, ap, ◌∙◌}
use mathlib.Core.Bool.{not}
use mathlib.Core.List.{List}
use lib.ListN.{length, get_or}
use lib.Dec.{eqb}
use borrow.Author.Tests.{lt-ltb, eq-eqb}
use Rattle.boundary.specs.Boundary.{settings_of}
use Rattle.house_record.specs.Little.{little}
use Rattle.house_record.proofs.LittleBytes.{Bytes, little_bound}
use Rattle.player.specs.declared.Player.{Player}
use Rattle.player.specs.declared.Played.{Played}
use Rattle.player.specs.Run.{start_processor}
use Rattle.player.specs.Play.{progress_of, Left, played, play_outcome_of}
use Rattle.player.proofs.Playing.{play_fits}
use Rattle.player.proofs.Kept.{ControlsKept, RecordFits, ProgressFits, playing_keeps_controls, playing_fits, writes_within}
use Rattle.host_player.specs.Playing.{player_in, player_left, PlayCall, answered, call_played, play_called}
use Rattle.host_player.proofs.PlayerLeft.{PlayerFits, left_is_read, left_has_48, read_is_read, written_is_read}

-- a player that is read from bytes has numbers that fit
pub bytes_fit : (b : List ℕ) → Bytes b → PlayerFits (player_in b)
bytes_fit b bytes = record { each = each; requests = little_bound b bytes 8 16; records = little_bound b bytes 8 24 }
  where
    each : (i : ℕ) → RecordFits (get_or (player_in b).processors i start_processor)
    each zero = (bytes 2, omega (arith, bytes 4, bytes 5, bytes 6, bytes 7))
    each (suc zero) = (bytes 10, omega (arith, bytes 12, bytes 13, bytes 14, bytes 15))
    each (suc (suc i)) = (omega arith, omega arith)

module _ (settings : ℕ) (storage keys player piece : List ℕ) (last : ℕ) (output : List ℕ) where
  -- what the call leaves, and what playing leaves
  abbrev pub after : PlayCall
  after = play_called settings storage keys player piece last output

  abbrev pub stopped : Left
  stopped = played (length piece + 1) (settings_of settings) (not (eqb last 0)) (length output) (progress_of (player_in player) storage keys) piece

  module _ (few : settings < 4) (sized : length player ≡ 48) where
    pub call_is : after ≡ call_played (play_outcome_of stopped output) player
    unfolding play_called
    call_is = rw (lt-ltb settings 4 few, eq-eqb (length player) 48 sized) refl

    abbrev answer : Played
    answer = answered (play_outcome_of stopped output)

    left : after.player ≡ player_left answer player
    left = ap (λ (c : PlayCall). c.player) call_is

    kept : ControlsKept answer.player.processors (player_in player).processors
    kept =
        playing_keeps_controls (length piece + 1) (settings_of settings) (not (eqb last 0)) (length output) (progress_of (player_in player) storage keys)
        piece

    pub call_leaves_48 : length after.player ≡ 48
    call_leaves_48 = ap length left ∙ left_has_48 answer player sized kept

    -- the count of bytes read
    pub call_read : length piece < 18446744073709551616 → little 8 after.player 32 ≡ stopped.read
    call_read h =
        ap (λ (b : List ℕ). little 8 b 32) left
        ∙ read_is_read answer player sized kept
        (omega (
          arith,
          play_fits (length piece + 1) (settings_of settings) (not (eqb last 0)) (length output) (progress_of (player_in player) storage keys) piece,
        ))

    -- the count of bytes written, and the player
    module _ (fits : PlayerFits (player_in player)) where
      pub call_written : length output < 18446744073709551616 → little 8 after.player 40 ≡ length stopped.text
      call_written h =
          ap (λ (b : List ℕ). little 8 b 40) left
          ∙ written_is_read answer player sized kept
          (omega (
            arith,
            writes_within (length piece + 1) (settings_of settings) (not (eqb last 0)) (length output) (progress_of (player_in player) storage keys) piece
                fits,
          ))

      pub still_fits : ProgressFits stopped.progress
      still_fits =
          playing_fits (length piece + 1) (settings_of settings) (not (eqb last 0)) (length output) (progress_of (player_in player) storage keys) piece fits

      pub call_plays_on : player_in after.player ≡ answer.player
      call_plays_on = ap player_in left ∙ left_is_read answer player sized kept still_fits

      -- player, storage and keys that the call leaves are the run so far
      pub next_call_begins : progress_of (player_in after.player) after.storage after.keys ≡ stopped.progress
      next_call_begins =
          ap (λ (c : PlayCall). progress_of (player_in after.player) c.storage c.keys) call_is
          ∙ ap (λ (p : Player). progress_of p stopped.progress.state.storage stopped.progress.state.keys) call_plays_on
