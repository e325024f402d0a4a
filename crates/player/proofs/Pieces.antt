-- A recording fed in pieces is played as the whole, whatever the pieces and the rooms are: by the calls, one after the other. Assumes nothing.
use Prim.Native.Nat.{ℕ, ◌+◌, ◌≤◌}
use mathlib.Core.Path.{◌≡◌, refl, sym, ap, ◌∙◌, subst}
use mathlib.Core.Bool.{Bool, true, false, cond}
use mathlib.Core.List.{List, [], ◌∷◌, ◌++◌, append_assoc, append-nil}
use lib.ListN.{length, drop}
use lib.Seq.{drop-append-le}
use Rattle.machine.specs.declared.Settings.{Settings}
use Rattle.player.specs.declared.Status.{Status}
use Rattle.player.specs.declared.Status.TheVariants.{Ended}
use Rattle.player.specs.Run.{Progress, start_settings, start_progress, text_of, run_of}
use Rattle.player.specs.Play.{Left, then, played}
use Rattle.player.specs.Parts.{text_from, state_from, is_ended, text_after, state_after, FrontOfRun, Call, joined, LastIsLast, fed, AnyPieces}
use Rattle.player.proofs.Playing.{play_fits}
use Rattle.player.proofs.Parts.{then_front, play_is_run}

-- the bytes that follow counted among the bytes
all_bytes : (s : Settings) (p : Progress) (bytes t : List ℕ) (o : Left) → o.read ≤ length bytes → FrontOfRun s p bytes t o
    → FrontOfRun s p (bytes ++ t) [] o
all_bytes s p bytes t o h f =
    let all : bytes ++ t ++ [] ≡ bytes ++ t = append-nil (bytes ++ t) in
    let rest : drop o.read bytes ++ t ≡ drop o.read (bytes ++ t) ++ [] =
    sym (append-nil (drop o.read (bytes ++ t)) ∙ drop-append-le o.read bytes t h) in
    record {
      text =
          ap (λ (b : List ℕ). text_from s p b) all
          ∙ f.text
          ∙ ap (λ (b : List ℕ). o.text ++ text_after o.status s o.progress b) rest;
      state =
          ap (λ (b : List ℕ). state_from s p b) all
          ∙ f.state
          ∙ ap (λ (b : List ℕ). state_after o.status s o.progress b) rest;
    }

one_call : (s : Settings) (p : Progress) (bytes t : List ℕ) (o next : Left) (b : Bool) → is_ended o.status ≡ b → o.read ≤ length bytes
    → FrontOfRun s p bytes t o → FrontOfRun s o.progress (drop o.read bytes ++ t) [] next
    → FrontOfRun s p (bytes ++ t) [] (cond b o (then o next))
one_call s p bytes t o next true e h first second = all_bytes s p bytes t o h first
one_call s p bytes t o next false e h first second =
    then_front s p (bytes ++ t) [] o next e (all_bytes s p bytes t o h first)
    (subst (λ b. FrontOfRun s o.progress b [] next) (sym (drop-append-le o.read bytes t h)) second)

pub any_pieces : AnyPieces
unfolding joined fed
any_pieces s p unread [] h = record { text = refl; state = refl }
any_pieces s p unread (c ∷ cs) h =
    let bytes : List ℕ = unread ++ c.piece in
    let o : Left = played (length bytes + 1) s c.last c.room p bytes in
    let next : Left = fed s o.progress (drop o.read bytes) cs in
    subst (λ b. FrontOfRun s p b [] (cond (is_ended o.status) o (then o next))) (append_assoc unread c.piece (joined cs))
    (one_call s p bytes (joined cs) o next (is_ended o.status) refl (play_fits (length bytes + 1) s c.last c.room p bytes)
    (play_is_run (length bytes + 1) s c.last c.room p bytes (joined cs) h.0)
    (any_pieces s o.progress (drop o.read bytes) cs h.1))

-- calls that end the run have written all that the recording gives, and leave its state
module _ (calls : List Call) (l : LastIsLast calls) (e : (fed start_settings start_progress [] calls).status ≡ Ended) where
  abbrev all : Left
  all = fed start_settings start_progress [] calls

  ended : is_ended all.status ≡ true
  ended = ap (λ (x : Status). is_ended x) e

  front : FrontOfRun start_settings start_progress (joined calls) [] all
  front = any_pieces start_settings start_progress [] calls l

  whole : joined calls ++ [] ≡ joined calls
  whole = append-nil (joined calls)

  pub pieces_write_the_recording : all.text ≡ text_of (run_of (joined calls))
  unfolding run_of
  pieces_write_the_recording =
      sym (append-nil all.text)
      ∙ ap (λ (b : Bool). all.text ++ cond b [] (text_from start_settings all.progress (drop all.read (joined calls) ++ []))) (sym ended)
      ∙ sym front.text
      ∙ ap (λ (b : List ℕ). text_from start_settings start_progress b) whole

  pub pieces_leave_its_state : all.progress.state ≡ (run_of (joined calls)).state
  unfolding run_of
  pieces_leave_its_state =
      ap (λ (b : Bool). cond b all.progress.state (state_from start_settings all.progress (drop all.read (joined calls) ++ []))) (sym ended)
      ∙ sym front.state
      ∙ ap (λ (b : List ℕ). state_from start_settings start_progress b) whole
