-- A call by the tests that lead there: it is refused, or it is what the routine of the player leaves, with the player's bytes written.
-- Assumes nothing.
use Prim.Native.Nat.{ℕ, ◌+◌, ◌≤◌, ◌<◌}
use mathlib.Core.Path.{◌≡◌, refl, ap, ◌∙◌}
use mathlib.Core.Bool.{not}
use mathlib.Core.List.{List}
use lib.ListN.{length}
use lib.Dec.{eqb}
use borrow.Author.Tests.{lt-ltb, le-ltb, eq-eqb, ne_eqb}
use Rattle.machine.specs.declared.Settings.{Settings}
use Rattle.boundary.specs.Boundary.{settings_of}
use Rattle.player.specs.declared.Player.{Player}
use Rattle.player.specs.declared.Played.{Played}
use Rattle.player.specs.Play.{progress_of, played, PlayOutcome, play_outcome, play_outcome_of}
use Rattle.host_player.specs.Playing.{player_in, player_left, status_number, play_call, call_played, play_called}

module _ (settings : ℕ) (storage keys player piece : List ℕ) (last : ℕ) (output : List ℕ) where
  pub settings_refused : 4 ≤ settings → play_call 4 storage keys player output ≡ play_called settings storage keys player piece last output
  unfolding play_called
  settings_refused h = simp (le-ltb _ _ h)

  module _ (few : settings < 4) where
    pub player_refused : (length player ≡ 48 → ⊥) → play_call 4 storage keys player output ≡ play_called settings storage keys player piece last output
    unfolding play_called
    player_refused h = simp (lt-ltb _ _ few, ne_eqb _ _ h)

    module _ (sized : length player ≡ 48) (p : Player) (read : p ≡ player_in player) (s : Settings) (set : s ≡ settings_of settings) where
      pub call_played_lem : (r : Played) (storage' keys' output' player' : List ℕ) (result : ℕ)
          → play_outcome r storage' keys' output'
          ≡ play_outcome_of (played (length piece + 1) s (not (eqb last 0)) (length output) (progress_of p storage keys) piece) output
          → player' ≡ player_left r player
          → result ≡ status_number r.status
          → play_call result storage' keys' player' output' ≡ play_called settings storage keys player piece last output
      unfolding play_called
      call_played_lem r storage' keys' output' player' result e f g =
          rw (f, g)
          (ap (λ (o : PlayOutcome). call_played o player) (rw (read, set) at e) ∙ rw (lt-ltb settings 4 few, eq-eqb (length player) 48 sized) refl)
