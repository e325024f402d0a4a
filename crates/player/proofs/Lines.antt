-- A line that is put together from texts, one behind the other. `Written` says how far it is; each put adds one text. Assumes nothing.
use Prim.Native.Nat.{ℕ, ◌+◌, ◌≤◌}
use native.Mathlib.Omega.{arith}
use native.Mathlib.Nat.{zero-add}
use mathlib.Core.Path.{◌≡◌, refl, ◌∙◌}
use mathlib.Core.List.{List, [], ◌∷◌, ◌++◌}
use lib.ListN.{length, length-append}
use Rattle.player.specs.Text.{pasted, over, decimal_of, blank, line_end, line_text, bad_text}
use Rattle.player.proofs.Texts.{pasted-pasted}

-- what `put` and `put_number` leave: the place behind the text, and the output
abbrev Put : (line : List ℕ) (at : ℕ) (text : List ℕ) (end : ℕ) (line' : List ℕ) → Type 0
Put line at text end line' = (end ≡ at + length text) × (line' ≡ pasted line at text)

abbrev PutNumber : (line : List ℕ) (at n end : ℕ) (line' : List ℕ) → Type 0
PutNumber line at n end line' =
    (end ≡ at + length (decimal_of n)) × (line' ≡ pasted line at (decimal_of n)) × (length (decimal_of n) ≤ 20)

-- the output holds a text in front, and the place is behind it
record Written (d text line : List ℕ) (at : ℕ) : Type 0 where
  line_is : line ≡ pasted d 0 text
  place_is : at ≡ length text

first : (d text line : List ℕ) (at : ℕ) → Put d 0 text at line → Written d text line at
first d text line at p = record { line_is = p.1; place_is = omega (arith, p.0) }

more : (d text line p line' : List ℕ) (at end : ℕ) → Written d text line at → Put line at p end line' → at + length p ≤ length d
    → Written d (text ++ p) line' end
more d text line p line' at end w put room =
    let a : at ≡ 0 + length text = omega (arith, w.place_is) in
    record {
      line_is = rw (put.1, w.line_is, a) (pasted-pasted d 0 text p (omega (arith, w.place_is)));
      place_is = rw (length-append text p) (omega (arith, w.place_is, put.0));
    }

front : (d text : List ℕ) → pasted d 0 text ≡ over text d
unfolding pasted over
front d text = rw (zero-add (length text)) refl

whole : (d text line : List ℕ) (at : ℕ) → Written d text line at → (at ≡ length text) × (line ≡ over text d)
whole d text line at w = (w.place_is, w.line_is ∙ front d text)

pub line_written : (d d1 d2 d3 d4 d5 d6 : List ℕ) (a1 a2 a3 a4 a5 a6 ordinal number place : ℕ) → 64 ≤ length d
    → PutNumber d 0 ordinal a1 d1 → Put d1 a1 blank a2 d2 → PutNumber d2 a2 number a3 d3 → Put d3 a3 blank a4 d4
    → PutNumber d4 a4 place a5 d5 → Put d5 a5 line_end a6 d6
    → (a6 ≡ length (line_text ordinal number place)) × (d6 ≡ over (line_text ordinal number place) d)
unfolding line_text
line_written d d1 d2 d3 d4 d5 d6 a1 a2 a3 a4 a5 a6 ordinal number place h p1 p2 p3 p4 p5 p6 =
    let w1 : Written d (decimal_of ordinal) d1 a1 = first d (decimal_of ordinal) d1 a1 (p1.0, p1.1) in
    let w2 : _ = more d _ d1 blank d2 a1 a2 w1 p2 (omega (arith, p1)) in
    let w3 : _ = more d _ d2 (decimal_of number) d3 a2 a3 w2 (p3.0, p3.1) (omega (arith, p1, p2, p3)) in
    let w4 : _ = more d _ d3 blank d4 a3 a4 w3 p4 (omega (arith, p1, p2, p3)) in
    let w5 : _ = more d _ d4 (decimal_of place) d5 a4 a5 w4 (p5.0, p5.1) (omega (arith, p1, p2, p3, p4, p5)) in
    let w6 : _ = more d _ d5 line_end d6 a5 a6 w5 p6 (omega (arith, p1, p2, p3, p4, p5)) in
    whole d _ d6 a6 w6

pub bad_written : (d d1 d2 d3 : List ℕ) (a1 a2 a3 ordinal : ℕ) → 64 ≤ length d
    → Put d 0 (98 ∷ 97 ∷ 100 ∷ 32 ∷ 114 ∷ 101 ∷ 99 ∷ 111 ∷ 114 ∷ 100 ∷ 32 ∷ []) a1 d1 → PutNumber d1 a1 ordinal a2 d2 → Put d2 a2 line_end a3 d3
    → (a3 ≡ length (bad_text ordinal)) × (d3 ≡ over (bad_text ordinal) d)
unfolding bad_text
bad_written d d1 d2 d3 a1 a2 a3 ordinal h p1 p2 p3 =
    let w1 : _ = first d _ d1 a1 p1 in
    let w2 : _ = more d _ d1 (decimal_of ordinal) d2 a1 a2 w1 (p2.0, p2.1) (omega (arith, p1, p2)) in
    let w3 : _ = more d _ d2 line_end d3 a2 a3 w2 p3 (omega (arith, p1, p2)) in
    whole d _ d3 a3 w3
