-- The run of a recording, record by record. As many records as there are bytes are enough, since a record has at least one byte.
-- Assumes nothing.
use Prim.Native.Nat.{ℕ, zero, suc, ◌+◌, ◌≤◌, ◌<◌}
use native.Mathlib.Omega.{arith}
use mathlib.Core.Path.{◌≡◌, refl, ap}
use mathlib.Core.List.{List, [], ◌∷◌, ◌++◌, map, append_assoc}
use lib.ListN.{length, drop, length-drop}
use Rattle.machine.specs.declared.Settings.{Settings}
use Rattle.trace.specs.Trace.{Read, ARequest, Remark, Bad, End, read_of}
use Rattle.trace.proofs.Front.{nothing_is_end, size_within, remark_within}
use Rattle.player.specs.Run.{Progress, turn_of, after_request, after_other, Line, line_of, Run, line_then, on_read, run_from, run_of}
use Rattle.player.specs.Run.{start_progress, start_settings, text_of_line, text_of_lines, text_of}

-- what a record adds depends on the run of fewer bytes only
module _ (s : Settings) (p : Progress) (bytes : List ℕ) (f g : Progress → List ℕ → Run)
    (same : (q : Progress) (b : List ℕ) → length b < length bytes → f q b ≡ g q b) where
  pub on_rest : (found : Read) → read_of bytes ≡ found → on_read found s p bytes f ≡ on_read found s p bytes g
  unfolding on_read
  on_rest (ARequest n r size) e =
      ap (line_then (line_of s p (turn_of n r bytes size)))
      (same (after_request s p (turn_of n r bytes size)) (drop size bytes) (omega (arith, length-drop size bytes, size_within bytes n r size e)))
  on_rest (Remark size) e = same (after_other p) (drop size bytes) (omega (arith, length-drop size bytes, remark_within bytes size e))
  on_rest Bad e = refl
  on_rest End e = refl

same_run : (m n : ℕ) (s : Settings) (p : Progress) (bytes : List ℕ) → length bytes ≤ m → length bytes ≤ n → run_from m s p bytes ≡ run_from n s p bytes
unfolding run_from on_read
same_run zero zero s p bytes h k = refl
same_run zero (suc n) s p [] h k = rw nothing_is_end refl
same_run zero (suc n) s p (x ∷ xs) h k = absurd (omega arith)
same_run (suc m) zero s p [] h k = rw nothing_is_end refl
same_run (suc m) zero s p (x ∷ xs) h k = absurd (omega arith)
same_run (suc m) (suc n) s p bytes h k =
    on_rest s p bytes (run_from m s) (run_from n s) (λ q b l. same_run m n s q b (omega arith) (omega arith)) (read_of bytes) refl

-- more records than bytes add nothing
pub fuel : (n : ℕ) (s : Settings) (p : Progress) (bytes : List ℕ) → length bytes ≤ n → run_from n s p bytes ≡ run_from (length bytes) s p bytes
fuel n s p bytes h = same_run n (length bytes) s p bytes h (omega arith)

-- the whole run: the record in front, and the whole run of the rest
pub run_begins : (s : Settings) (p : Progress) (bytes : List ℕ)
    → run_from (length bytes) s p bytes ≡ on_read (read_of bytes) s p bytes (λ q b. run_from (length b) s q b)
unfolding run_from on_read
run_begins s p [] = rw nothing_is_end refl
run_begins s p (x ∷ xs) =
    on_rest s p (x ∷ xs) (run_from (length xs) s) (λ q b. run_from (length b) s q b) (λ q b l. fuel (length xs) s q b (omega arith)) (read_of (x ∷ xs)) refl

pub text_behind : (l : Line) (r : Run) → text_of (line_then l r) ≡ text_of_line l ++ text_of r
unfolding text_of text_of_lines
text_behind l r = append_assoc (text_of_line l) (text_of_lines r.lines) _

-- Ordinals: n numbers from k on
unfoldable pub counted_from : (k n : ℕ) → List ℕ
counted_from k zero = []
counted_from k (suc n) = k ∷ counted_from (k + 1) n

unfoldable pub ordinals : Run → List ℕ
ordinals r = map (λ (l : Line). l.ordinal) r.lines

-- the lines of a run are counted from k on
abbrev Counted : ℕ → Run → Type 0
Counted k r = ordinals r ≡ counted_from k (length r.lines)

on_counted : (s : Settings) (p : Progress) (bytes : List ℕ) (rest : Progress → List ℕ → Run)
    → ((q : Progress) (b : List ℕ) → Counted (q.requests + 1) (rest q b)) → (found : Read) → Counted (p.requests + 1) (on_read found s p bytes rest)
unfolding on_read ordinals counted_from
on_counted s p bytes rest h (ARequest n r size) =
    ap (λ (l : List ℕ). (p.requests + 1) ∷ l) (h (after_request s p (turn_of n r bytes size)) (drop size bytes))
on_counted s p bytes rest h (Remark size) = h (after_other p) (drop size bytes)
on_counted s p bytes rest h Bad = refl
on_counted s p bytes rest h End = refl

counted_from_lem : (n : ℕ) (s : Settings) (p : Progress) (bytes : List ℕ) → Counted (p.requests + 1) (run_from n s p bytes)
unfolding run_from ordinals counted_from
counted_from_lem zero s p bytes = refl
counted_from_lem (suc n) s p bytes = on_counted s p bytes (run_from n s) (λ q b. counted_from_lem n s q b) (read_of bytes)

-- the lines of a recording carry 1, 2, 3 and so on
pub recording_counted : (bytes : List ℕ) → ordinals (run_of bytes) ≡ counted_from 1 (length (run_of bytes).lines)
unfolding run_of
recording_counted bytes = counted_from_lem (length bytes) start_settings start_progress bytes
