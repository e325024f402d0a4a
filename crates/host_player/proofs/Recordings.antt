-- A recording that is given in pieces, call after call over bytes, is played as the whole: each call begins where the one before it stopped, and so
-- the calls are those of the player. Nothing passes from a call to the next but storage, keys, the 48 bytes, and the bytes of the piece that by
-- its count are not read. Assumes nothing.
use Prim.Native.Nat.{ℕ, zero, suc, ◌+◌, ◌<◌}
use native.Mathlib.Omega.{arith}
use mathlib.Core.Path.{◌≡◌, refl, sym, ap, ◌∙◌, subst}
use mathlib.Core.Bool.{Bool, true, false, cond, not}
use mathlib.Core.List.{List, [], ◌∷◌, ◌++◌}
use lib.ListN.{length, get_or, take, drop, replicate, length-append, length-drop}
use lib.Seq.{take_at}
use lib.Dec.{eqb}
use Rattle.house_record.specs.Little.{little}
use Rattle.player.specs.declared.Status.{Status}
use Rattle.player.specs.declared.Status.TheVariants.{Passed, More, Ended, Room, Limit}
use Rattle.player.specs.Text.{over}
use Rattle.player.specs.Run.{Progress, start_processor, start_settings, start_progress, start_state, text_of, run_of}
use Rattle.player.specs.Play.{state_of, progress_of, Left, then, played, play_outcome_of}
use Rattle.player.specs.Parts.{is_ended, Call, joined, LastIsLast, fed}
use Rattle.player.proofs.Kept.{RecordFits, ProgressFits}
use Rattle.player.proofs.Pieces.{pieces_write_the_recording, pieces_leave_its_state}
use Rattle.host_player.specs.Playing.{player_in, status_number, PlayCall, call_played, play_called}
use Rattle.host_player.proofs.PlayerLeft.{PlayerFits}
use Rattle.host_player.proofs.NextCall.{call_is, call_leaves_48, call_read, call_written, next_call_begins, still_fits}

-- a call of a list of calls: the piece of the recording that is put behind the bytes not yet read, `last`, and the output that is lent
pub record PieceCall : Type 0 where
  pub piece : List ℕ
  pub last : ℕ
  pub output : List ℕ

-- what the calls leave: the bytes written by all of them, the last result, storage, keys and the player's bytes
pub record Made : Type 0 where
  pub text : List ℕ
  pub result : ℕ
  pub storage : List ℕ
  pub keys : List ℕ
  pub player : List ℕ

-- a call by its bytes alone: the text is the front of the output by the count at 40
abbrev pub text_written : PlayCall → List ℕ
text_written o = take (little 8 o.player 40) o.output

abbrev pub made_by : PlayCall → Made
made_by o = record { text = text_written o; result = o.result; storage = o.storage; keys = o.keys; player = o.player }

abbrev pub made_then : PlayCall → Made → Made
made_then o m =
    record { text = text_written o ++ m.text; result = m.result; storage = m.storage; keys = m.keys; player = m.player }

-- the calls, one after the other, until one answers 1; what is not read by the count at 32 is given again
unfoldable pub made : (storage keys player unread : List ℕ) → List PieceCall → Made
made storage keys player unread [] = record { text = []; result = 0; storage = storage; keys = keys; player = player }
made storage keys player unread (c ∷ cs) =
    let bytes = unread ++ c.piece in
    let o = play_called 2 storage keys player bytes c.last c.output in
    cond (eqb o.result 1) (made_by o) (made_then o (made o.storage o.keys o.player (drop (little 8 o.player 32) bytes) cs))

-- the same calls of the player
abbrev pub calls_of : List PieceCall → List Call
calls_of [] = []
calls_of (c ∷ cs) = record { piece = c.piece; last = not (eqb c.last 0); room = length c.output } ∷ calls_of cs

-- outputs of less than 2^64 bytes
abbrev pub OutputsFit : List PieceCall → Type 0
OutputsFit [] = Unit {0}
OutputsFit (c ∷ cs) = (length c.output < 18446744073709551616) × OutputsFit cs

-- calls over bytes leave what calls of the player leave
pub record Same (m : Made) (f : Left) : Type 0 where
  pub text : m.text ≡ f.text
  pub result : m.result ≡ status_number f.status
  pub progress : progress_of (player_in m.player) m.storage m.keys ≡ f.progress

ended_answers_1 : (x : Status) → eqb (status_number x) 1 ≡ is_ended x
ended_answers_1 Passed = refl
ended_answers_1 More = refl
ended_answers_1 Ended = refl
ended_answers_1 Room = refl
ended_answers_1 Limit = refl

answers_1 : (x : Status) → status_number x ≡ 1 → x ≡ Ended
answers_1 Passed e = absurd (omega arith)
answers_1 More e = absurd (omega arith)
answers_1 Ended e = refl
answers_1 Room e = absurd (omega arith)
answers_1 Limit e = absurd (omega arith)

-- a call, and what goes on from it
call_then : (o : PlayCall) (q : Left) (m : Made) (f : Left) (b : Bool) → Same (made_by o) q → Same m f
    → Same (cond b (made_by o) (made_then o m)) (cond b q (then q f))
call_then o q m f true first second = first
call_then o q m f false first second =
    record { text = rw (first.text, second.text) refl; result = second.result; progress = second.progress }

front_taken : (k : ℕ) (text output : List ℕ) → k ≡ length text → take k (over text output) ≡ text
unfolding over
front_taken k text output e = take_at text (drop (length text) output) k (sym e)

-- one call
module _ (storage keys player bytes : List ℕ) (last : ℕ) (output : List ℕ) (sized : length player ≡ 48) (fits : PlayerFits (player_in player))
    (short : length bytes < 18446744073709551616) (room : length output < 18446744073709551616) where
  abbrev called : PlayCall
  called = play_called 2 storage keys player bytes last output

  abbrev left : Left
  left = played (length bytes + 1) start_settings (not (eqb last 0)) (length output) (progress_of (player_in player) storage keys) bytes

  is_called : called ≡ call_played (play_outcome_of left output) player
  is_called = call_is 2 storage keys player bytes last output (omega arith) sized

  goes_on : progress_of (player_in called.player) called.storage called.keys ≡ left.progress
  goes_on = next_call_begins 2 storage keys player bytes last output (omega arith) sized fits

  one_call : Same (made_by called) left
  one_call = record {
    text =
        ap (λ (c : PlayCall). take (little 8 called.player 40) c.output) is_called
        ∙ front_taken (little 8 called.player 40) left.text output
        (call_written 2 storage keys player bytes last output (omega arith) sized fits room);
    result = ap (λ (c : PlayCall). c.result) is_called;
    progress = goes_on;
  }

  ends : eqb called.result 1 ≡ is_ended left.status
  ends = ap (λ (c : PlayCall). eqb c.result 1) is_called ∙ ended_answers_1 left.status

  unread_is : drop (little 8 called.player 32) bytes ≡ drop left.read bytes
  unread_is =
      ap (λ (k : ℕ). drop k bytes) (call_read 2 storage keys player bytes last output (omega arith) sized short)

  sized_again : length called.player ≡ 48
  sized_again = call_leaves_48 2 storage keys player bytes last output (omega arith) sized

  fits_again : PlayerFits (player_in called.player)
  fits_again =
      subst ProgressFits (sym goes_on) (still_fits 2 storage keys player bytes last output (omega arith) sized fits)

pub calls_are_fed : (storage keys player unread : List ℕ) (calls : List PieceCall) → length player ≡ 48 → PlayerFits (player_in player)
    → length unread + length (joined (calls_of calls)) < 18446744073709551616 → OutputsFit calls
    → Same (made storage keys player unread calls) (fed start_settings (progress_of (player_in player) storage keys) unread (calls_of calls))
unfolding made joined fed
calls_are_fed storage keys player unread [] sized fits short rooms = record { text = refl; result = refl; progress = refl }
calls_are_fed storage keys player unread (c ∷ cs) sized fits short rooms =
    let bytes : List ℕ = unread ++ c.piece in
    let rest : ℕ = length (joined (calls_of cs)) in
    let long : length bytes + rest < 18446744073709551616 =
    omega (arith, length-append unread c.piece, length-append c.piece (joined (calls_of cs))) in
    let few : length bytes < 18446744073709551616 = omega arith in
    let o : PlayCall = play_called 2 storage keys player bytes c.last c.output in
    let q : Left =
    played (length bytes + 1) start_settings (not (eqb c.last 0)) (length c.output) (progress_of (player_in player) storage keys) bytes in
    let after : List ℕ = drop (little 8 o.player 32) bytes in
    let m : Made = made o.storage o.keys o.player after cs in
    let again : Same m (fed start_settings (progress_of (player_in o.player) o.storage o.keys) after (calls_of cs)) =
    calls_are_fed o.storage o.keys o.player after cs
    (sized_again storage keys player bytes c.last c.output sized fits few rooms.0)
    (fits_again storage keys player bytes c.last c.output sized fits few rooms.0)
    (omega (arith, length-drop (little 8 o.player 32) bytes))
    rooms.1 in
    let from : Same m (fed start_settings q.progress (drop q.read bytes) (calls_of cs)) =
    subst (λ p. Same m (fed start_settings p (drop q.read bytes) (calls_of cs)))
    (goes_on storage keys player bytes c.last c.output sized fits few rooms.0)
    (subst (λ b. Same m (fed start_settings (progress_of (player_in o.player) o.storage o.keys) b (calls_of cs)))
    (unread_is storage keys player bytes c.last c.output sized fits few rooms.0) again) in
    rw (ends storage keys player bytes c.last c.output sized fits few rooms.0)
    (call_then o q m (fed start_settings q.progress (drop q.read bytes) (calls_of cs)) (is_ended q.status)
    (one_call storage keys player bytes c.last c.output sized fits few rooms.0) from)

-- a player of 48 zero bytes
pub zeros_fit : PlayerFits (player_in (replicate 48 0))
unfolding little
zeros_fit = record { each = each; requests = omega arith; records = omega arith }
  where
    each : (i : ℕ) → RecordFits (get_or (player_in (replicate 48 0)).processors i start_processor)
    each zero = (omega arith, omega arith)
    each (suc zero) = (omega arith, omega arith)
    each (suc (suc i)) = (omega arith, omega arith)

-- The whole recording, from the start: settings 2, 65,536 zero bytes, 32 zero keys, a player of 48 zero bytes.
module _ (calls : List PieceCall) (l : LastIsLast (calls_of calls)) (short : length (joined (calls_of calls)) < 18446744073709551616)
    (rooms : OutputsFit calls) where
  abbrev pub all : Made
  all = made (replicate 65536 0) (replicate 32 0) (replicate 48 0) [] calls

  start : progress_of (player_in (replicate 48 0)) (replicate 65536 0) (replicate 32 0) ≡ start_progress
  unfolding little start_state
  start = refl

  same : Same all (fed start_settings start_progress [] (calls_of calls))
  same =
      subst (λ p. Same all (fed start_settings p [] (calls_of calls))) start
      (calls_are_fed (replicate 65536 0) (replicate 32 0) (replicate 48 0) [] calls refl zeros_fit (omega arith) rooms)

  module _ (e : all.result ≡ 1) where
    ended : (fed start_settings start_progress [] (calls_of calls)).status ≡ Ended
    ended = answers_1 (fed start_settings start_progress [] (calls_of calls)).status (sym same.result ∙ e)

    pub calls_write_the_recording : all.text ≡ text_of (run_of (joined (calls_of calls)))
    calls_write_the_recording = same.text ∙ pieces_write_the_recording (calls_of calls) l ended

    pub calls_leave_its_state : state_of (player_in all.player).processors all.storage all.keys ≡ (run_of (joined (calls_of calls))).state
    calls_leave_its_state =
        ap (λ (p : Progress). p.state) same.progress ∙ pieces_leave_its_state (calls_of calls) l ended
