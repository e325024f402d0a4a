-- Rows: the player at the start, the 48 bytes of a player read and written field by field, two calls on one recording, and the calls that are
-- refused. All but the last are computed. Assumes nothing.
use Prim.Native.Nat.{ℕ, ◌<◌}
use native.Mathlib.Decide.{dec_lt}
use native.Mathlib.Omega.{arith}
use mathlib.Core.Path.{◌≡◌, refl, sym, ap, subst}
use mathlib.Core.Bool.{true, false}
use mathlib.Core.List.{List, [], ◌∷◌}
use lib.ListN.{length, replicate}
use Rattle.machine.specs.declared.Processor.{Processor}
use Rattle.house_record.specs.Little.{little, little_bytes}
use Rattle.player.specs.declared.Player.{Player}
use Rattle.player.specs.declared.Played.{Played}
use Rattle.player.specs.declared.Status.TheVariants.{Ended, Room}
use Rattle.player.specs.Text.{pasted}
use Rattle.player.specs.Run.{Progress, progress, start_settings}
use Rattle.player.specs.Play.{start_player, state_of, progress_of, left}
use Rattle.player.specs.Parts.{joined, fed}
use Rattle.player.proofs.TwoPieces.{two_pieces, bad_record2, two_pieces_lem}
use Rattle.host_player.specs.Playing.{player_in, player_left, play_call, play_called}
use Rattle.host_player.proofs.Calls.{settings_refused, player_refused}
use Rattle.host_player.proofs.Recordings.{PieceCall, Made, made, Same, calls_are_fed, zeros_fit}

-- 48 zero bytes are the player at the start of a run
pub zeros_are_the_start : player_in (replicate 48 0) ≡ start_player
unfolding little
zeros_are_the_start = refl

-- a player with another number in every field, and its bytes
abbrev first_record : Processor
first_record =
    record { psw_key = 3; problem = true; low_protection = false; key_control = true; prefix = 67305985; code = 2 }

abbrev second_record : Processor
second_record =
    record { psw_key = 7; problem = false; low_protection = true; key_control = false; prefix = 134678021; code = 1 }

abbrev a_player : Player
a_player = record { processors = first_record ∷ second_record ∷ []; requests = 1157159078456920585; records = 1735880461161533969 }

abbrev a_played : Played
a_played = record { player = a_player; read = 2314601843866147353; written = 2893323226570760737; status = Room }

abbrev its_bytes : List ℕ
its_bytes =
    3 ∷ 5 ∷ 2 ∷ 0 ∷ 1 ∷ 2 ∷ 3 ∷ 4
    ∷ 7 ∷ 2 ∷ 1 ∷ 0 ∷ 5 ∷ 6 ∷ 7 ∷ 8
    ∷ 9 ∷ 10 ∷ 11 ∷ 12 ∷ 13 ∷ 14 ∷ 15 ∷ 16
    ∷ 17 ∷ 18 ∷ 19 ∷ 20 ∷ 21 ∷ 22 ∷ 23 ∷ 24
    ∷ 25 ∷ 26 ∷ 27 ∷ 28 ∷ 29 ∷ 30 ∷ 31 ∷ 32
    ∷ 33 ∷ 34 ∷ 35 ∷ 36 ∷ 37 ∷ 38 ∷ 39 ∷ 40 ∷ []

-- the same records before the call, with other condition codes and prefixes, and any counts
abbrev bytes_before : List ℕ
bytes_before =
    3 ∷ 5 ∷ 99 ∷ 0 ∷ 90 ∷ 90 ∷ 90 ∷ 90
    ∷ 7 ∷ 2 ∷ 98 ∷ 0 ∷ 91 ∷ 91 ∷ 91 ∷ 91
    ∷ 255 ∷ 255 ∷ 255 ∷ 255 ∷ 255 ∷ 255 ∷ 255 ∷ 255
    ∷ 255 ∷ 255 ∷ 255 ∷ 255 ∷ 255 ∷ 255 ∷ 255 ∷ 255
    ∷ 255 ∷ 255 ∷ 255 ∷ 255 ∷ 255 ∷ 255 ∷ 255 ∷ 255
    ∷ 255 ∷ 255 ∷ 255 ∷ 255 ∷ 255 ∷ 255 ∷ 255 ∷ 255 ∷ []

pub fields_read : player_in its_bytes ≡ a_player
unfolding little
fields_read = refl

pub fields_left : player_left a_played bytes_before ≡ its_bytes
unfolding player_left pasted little_bytes
fields_left = refl

-- a recording in two calls, from the start: they end the run, and all they have written is that the second record is bad
abbrev pub two_calls : List PieceCall
two_calls =
    record { piece = 2 ∷ 0 ∷ 255 ∷ []; last = 0; output = replicate 64 0 } ∷ record { piece = 0 ∷ 9 ∷ []; last = 1; output = replicate 64 0 } ∷ []

module _ (storage keys : List ℕ) where
  abbrev pub both : Made
  both = made storage keys (replicate 48 0) [] two_calls

  as_pieces : Same both (left bad_record2 (progress (state_of start_player.processors storage keys) 0 2) 4 Ended)
  unfolding joined
  as_pieces =
      subst (Same both) (two_pieces_lem storage keys)
      (subst (λ p. Same both (fed start_settings (progress_of p storage keys) [] two_pieces)) zeros_are_the_start
      (calls_are_fed storage keys (replicate 48 0) [] two_calls refl zeros_fit (omega arith) (omega arith, (omega arith, tt))))

  pub two_calls_lem : (both.result ≡ 1) × (both.text ≡ bad_record2) × ((player_in both.player).records ≡ 2)
  two_calls_lem = (as_pieces.result, as_pieces.text, ap (λ (p : Progress). p.records) as_pieces.progress)

-- the calls that are refused, whatever else they are given: result 4, and all is kept
module _ (storage keys piece : List ℕ) (last : ℕ) (output : List ℕ) where
  pub settings_4_refused : (player : List ℕ) → play_called 4 storage keys player piece last output ≡ play_call 4 storage keys player output
  unfolding play_called
  settings_4_refused player = refl

  pub not_48_refused : (settings : ℕ) (player : List ℕ) → (length player ≡ 48 → ⊥)
      → play_called settings storage keys player piece last output ≡ play_call 4 storage keys player output
  not_48_refused settings player other = go (dec_lt settings 4)
    where
      go : Dec (settings < 4) → play_called settings storage keys player piece last output ≡ play_call 4 storage keys player output
      go (yes few) = sym (player_refused settings storage keys player piece last output few other)
      go (no many) = sym (settings_refused settings storage keys player piece last output (omega arith))

  pub «47-refused» : (settings : ℕ) (player : List ℕ) → length player ≡ 47
      → play_called settings storage keys player piece last output ≡ play_call 4 storage keys player output
  «47-refused» settings player e = not_48_refused settings player (λ f. omega arith)

  pub «49-refused» : (settings : ℕ) (player : List ℕ) → length player ≡ 49
      → play_called settings storage keys player piece last output ≡ play_call 4 storage keys player output
  «49-refused» settings player e = not_48_refused settings player (λ f. omega arith)
