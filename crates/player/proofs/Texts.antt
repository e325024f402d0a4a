-- Laws of texts in a list of bytes. Assumes nothing.
use Prim.Native.Nat.{ℕ, ◌+◌, ◌≤◌, ◌<◌}
use native.Mathlib.Numerals.{add-one}
use native.Mathlib.Omega.{arith}
use native.Mathlib.Nat.{add_assoc}
use mathlib.Core.Path.{◌≡◌, refl, sym, ap, ◌∙◌}
use mathlib.Core.List.{List, ◌++◌, append_assoc}
use lib.ListN.{length, get_or, set, take, drop, length-append, length-take}
use lib.Seq.{paste, paste-suc, take_at, drop-append-add, drop-drop, take-length}
use Rattle.player.specs.Text.{pasted}

-- what a loop that copies has put after all its turns
pub paste_is : (d : List ℕ) (at : ℕ) (text : List ℕ) → paste d at text (length text) ≡ pasted d at text
unfolding pasted
paste_is d at text = rw (take-length text) refl

-- a text put behind a text is one text
pub pasted-pasted : (d : List ℕ) (at : ℕ) (a b : List ℕ) → at + length a + length b ≤ length d
    → pasted (pasted d at a) (at + length a) b ≡ pasted d at (a ++ b)
unfolding pasted
pasted-pasted d at a b h =
    let front : List ℕ = take at d ++ a in
    let back : List ℕ = drop (at + length a) d in
    let long : length front ≡ at + length a = simp (length-append, length-take) (omega arith) in
    let e1 : take (at + length a) (front ++ back) ≡ front = take_at front back (at + length a) long in
    let e2 : drop (at + length a + length b) (front ++ back) ≡ drop (at + (length a + length b)) d =
    ap (λ (n : ℕ). drop (n + length b) (front ++ back)) (sym long)
    ∙ drop-append-add front back (length b)
    ∙ drop-drop (length b) (at + length a) d
    ∙ ap (λ (n : ℕ). drop n d) (add_assoc at (length a) (length b)) in
    rw (e1, e2, length-append a b, append_assoc (take at d) a b) refl

-- a turn of the loop that copies
pub paste_more : (d : List ℕ) (at : ℕ) (text : List ℕ) (i : ℕ) (out : List ℕ) → out ≡ paste d at text i → at + length text ≤ length d
    → i < length text → set out (at + i) (get_or text i 0) ≡ paste d at text (i + 1)
paste_more d at text i out e room h = rw (e, add-one i) (paste-suc d at text i 0 (omega arith) h)
