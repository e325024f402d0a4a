-- Two runs of places that reach the same: a test of each place, and a mark in each place that is reached, come out the same. The units of a
-- range one after another reach what the units of its bytes do: each unit has a byte of the range, which is the first of the unit or of the range.
-- Assumes nothing.
use Prim.Native.Nat.{ℕ, ◌+◌, ◌-◌, ◌*◌, ◌/◌, ◌%◌, ◌<◌, ◌≤◌}
use mathlib.Core.Path.{◌≡◌, refl, sym, ◌∙◌}
use mathlib.Core.Bool.{Bool, true, false, cond}
use mathlib.Core.Logic.{⊎_elim}
use mathlib.Core.List.{List}
use native.Mathlib.Omega.{arith}
use native.Mathlib.Nat.{le-div_iff_mul-le, div-lt_iff_lt-mul, div-mul-le_self, div-eq_of_lt-le, add-mul}
use lib.Dec.{eqb}
use lib.ListN.{length, get_or}
use lib.Seq.{ext_get_or}
use borrow.Author.Tests.{eqb-true, eq-eqb}
use Rattle.machine.specs.declared.Settings.{Settings}
use Rattle.machine.specs.Lists.{written, any_below}
use Rattle.machine.specs.Numbers.{unit_size, unit_of}
use Rattle.machine.proofs.Units.{unit_holds_access}
use Rattle.machine.proofs.Verdicts.{tested, not_both, any_at, any_found}
use Rattle.machine.proofs.Written.{length-written, written_there, written_elsewhere}

-- n places p reach no other than m places q
abbrev pub Reached : (p q : ℕ → ℕ) (n m : ℕ) → Type 0
Reached p q n m = (i : ℕ) → i < n → (j : ℕ) × (j < m) × (q j ≡ p i)

pub record SamePlaces (p q : ℕ → ℕ) (n m : ℕ) : Type 0 where
  pub there : Reached p q n m
  pub back : Reached q p m n

any_reached : (test : ℕ → Bool) (p q : ℕ → ℕ) (n m : ℕ) → Reached p q n m
    → any_below (λ i. test (p i)) n ≡ true → any_below (λ j. test (q j)) m ≡ true
any_reached test p q n m reached e =
    let (i, h, t) = any_found (λ i. test (p i)) n e in
    let (j, k, same) = reached i h in
    any_at (λ j. test (q j)) m j k (rw same t)

same_answer : (a b : Bool) → (a ≡ true → b ≡ true) → (b ≡ true → a ≡ true) → a ≡ b
same_answer true b f g = sym (f refl)
same_answer false true f g = g refl
same_answer false false f g = refl

pub any_same_places : (test : ℕ → Bool) {p q : ℕ → ℕ} {n m : ℕ} → SamePlaces p q n m
    → any_below (λ i. test (p i)) n ≡ any_below (λ j. test (q j)) m
any_same_places test {p} {q} {n} {m} same =
    same_answer _ _ (any_reached test p q n m same.there) (any_reached test q p m n same.back)

-- each place that is reached is marked by f
abbrev pub marked : List ℕ → (ℕ → ℕ) → (ℕ → ℕ) → ℕ → List ℕ
marked xs f p n = written xs p (λ i. f (get_or xs (p i) 0)) n

marked_there : (xs : List ℕ) (f p : ℕ → ℕ) (n i : ℕ) → i < n → p i < length xs → get_or (marked xs f p n) (p i) 0 ≡ f (get_or xs (p i) 0)
marked_there xs f p n i h inside = written_there xs p (λ j. f (get_or xs (p j) 0)) n i h inside (λ j k e. rw e refl)

pub marked_same_places : (xs : List ℕ) (f : ℕ → ℕ) {p q : ℕ → ℕ} {n m : ℕ} → SamePlaces p q n m → marked xs f p n ≡ marked xs f q m
marked_same_places xs f {p} {q} {n} {m} same =
    ext_get_or 0 (marked xs f p n) (marked xs f q m) (length_p ∙ sym (length-written xs q _ m))
    (λ u h. ⊎_elim (reached u (omega (arith, length_p))) (missed u) (tested (any_below (λ i. eqb (p i) u) n)))
  where
    length_p : length (marked xs f p n) ≡ length xs
    length_p = length-written xs p _ n

    -- where a place of p is u, a place of q is u
    reached : (u : ℕ) → u < length xs → any_below (λ i. eqb (p i) u) n ≡ true → get_or (marked xs f p n) u 0 ≡ get_or (marked xs f q m) u 0
    reached u inside e =
        let (i, h, t) = any_found (λ i. eqb (p i) u) n e in
        let here : p i ≡ u = eqb-true _ _ t in
        let (j, k, also) = same.there i h in
        let there : q j ≡ u = also ∙ here in
        let by_p = rw here at (marked_there xs f p n i h (rw here inside)) in
        let by_q = rw there at (marked_there xs f q m j k (rw there inside)) in
        by_p ∙ sym by_q

    apart : (r : ℕ → ℕ) (l u : ℕ) → Reached r p l n → any_below (λ i. eqb (p i) u) n ≡ false → (i : ℕ) → i < l → r i ≡ u → ⊥
    apart r l u found e i h here =
        let (j, k, also) = found i h in
        not_both (any_at (λ i. eqb (p i) u) n j k (eq-eqb _ _ (also ∙ here))) e

    missed : (u : ℕ) → any_below (λ i. eqb (p i) u) n ≡ false → get_or (marked xs f p n) u 0 ≡ get_or (marked xs f q m) u 0
    missed u e =
        written_elsewhere xs p _ n u (apart p n u (λ i h. (i, h, refl)) e) ∙ sym (written_elsewhere xs q _ m u (apart q m u same.back e))

-- the units of a range, one after another from the first to the last, are the units of its bytes
module _ (s : Settings) (start count : ℕ) (positive : 0 < count) where
  size_positive : 0 < unit_size s
  size_positive = omega (arith, unit_holds_access s)

  in_order : (a b : ℕ) → a ≤ b → unit_of s a ≤ unit_of s b
  in_order a b h = (le-div_iff_mul-le size_positive).1 (omega (arith, div-mul-le_self a (unit_size s)))

  abbrev pub last_unit : ℕ
  last_unit = unit_of s (start + (count - 1))

  pub first_to_last : unit_of s start ≤ last_unit
  first_to_last = in_order start (start + (count - 1)) (omega arith)

  -- the first byte of the range in a unit
  unit_byte : (u : ℕ) → unit_of s start ≤ u → u ≤ last_unit → (j : ℕ) × (j < count) × (unit_of s (start + j) ≡ u)
  unit_byte u low high =
      let reaches : u * unit_size s ≤ start + (count - 1) = (le-div_iff_mul-le size_positive).0 high in
      let begins : start < (u + 1) * unit_size s = (div-lt_iff_lt-mul size_positive).0 (omega arith) in
      let next : (u + 1) * unit_size s ≡ u * unit_size s + 1 * unit_size s = add-mul u 1 (unit_size s) in
      let j = u * unit_size s - start in
      (j, omega arith, div-eq_of_lt-le (unit_size s) (omega arith) (omega (arith, size_positive)))

  pub units_of_bytes : SamePlaces (λ i. unit_of s start + i) (λ j. unit_of s (start + j)) (last_unit + 1 - unit_of s start) count
  units_of_bytes =
      record {
        there = λ i h. unit_byte (unit_of s start + i) (omega arith) (omega (arith, first_to_last));
        back = λ j h.
            let low = in_order start (start + j) (omega arith) in
            let high = in_order (start + j) (start + (count - 1)) (omega arith) in
            (unit_of s (start + j) - unit_of s start, omega arith, omega arith);
      }

-- a CCW, which is 8 bytes at a multiple of 8, is in one unit
pub unit_of_ccw : (s : Settings) (a : ℕ) → a % 8 ≡ 0 → SamePlaces (λ i. unit_of s a) (λ j. unit_of s (a + j)) 1 8
unit_of_ccw s a whole =
    record { there = λ i h. (0, omega arith, same s.four_k 0 (omega arith)); back = λ j h. (0, omega arith, sym (same s.four_k j h)) }
  where
    same : (b : Bool) (j : ℕ) → j < 8 → (a + j) / cond b 4096 2048 ≡ a / cond b 4096 2048
    same true j h = omega arith
    same false j h = omega arith
