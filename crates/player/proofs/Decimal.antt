-- The fewest digits that hold a number are its decimal digits. Assumes nothing.
use Prim.Native.Nat.{ℕ, zero, suc, ◌+◌, ◌/◌, ◌%◌, ◌^◌, ◌≤◌, ◌<◌}
use native.Mathlib.Omega.{arith}
use native.Mathlib.Nat.{pow-suc, one-le-pow}
use native.Mathlib.Numerals.{sub-one}
use mathlib.Core.Path.{◌≡◌, refl, sym, ap, ◌∙◌}
use mathlib.Core.List.{List, [], ◌∷◌, ◌++◌}
use mathlib.Core.Bool.{Bool, true, false, cond}
use lib.Dec.{ltb}
use lib.ListN.{length, take, length-append}
use borrow.Author.Tests.{lt-ltb, le-ltb, ltb-false}
use Rattle.io.specs.Digits.{last_digits, IsDigitCount}
use Rattle.player.specs.Text.{decimal_in, decimal_of}

one_digit : (k n : ℕ) → n < 10 → decimal_in (suc k) n ≡ last_digits 10 1 n
unfolding decimal_in
one_digit k n h =
    let e : n % 10 ≡ n = omega arith in
    rw e (simp (lt-ltb _ _ h))

more_digits : (k j n : ℕ) → 10 ≤ n → decimal_in k (n / 10) ≡ last_digits 10 j (n / 10) → decimal_in (suc k) n ≡ last_digits 10 (suc j) n
unfolding decimal_in
more_digits k j n h e =
    let l : n % 10 < 10 = omega arith in
    rw (← e) (simp (le-ltb _ _ h, lt-ltb _ _ l))

large : (j n : ℕ) → IsDigitCount 10 1 n (suc (suc j)) → 10 ^ suc j ≤ n
large j n f = rw (sub-one (suc (suc j))) at (f.2 (omega arith))

fewest : (k n j : ℕ) → n < 10 ^ suc k → IsDigitCount 10 1 n j → decimal_in (suc k) n ≡ last_digits 10 j n
fewest k n zero small f = absurd (omega (arith, f.0))
fewest k n (suc zero) small f = one_digit k n f.1
fewest zero n (suc (suc j)) small f = absurd (omega (arith, large j n f, pow-suc 10 j, one-le-pow j 10 (omega arith)))
fewest (suc k) n (suc (suc j)) small f =
    more_digits (suc k) (suc j) n (omega (arith, large j n f, pow-suc 10 j, one-le-pow j 10 (omega arith)))
    (fewest k (n / 10) (suc j) (omega (arith, small, pow-suc 10 (suc k))) (
      omega arith,
      omega (arith, f.1, pow-suc 10 (suc j)),
      λ h. rw (sub-one (suc j)) (omega (arith, large j n f, pow-suc 10 j)),
    ))

-- more digits than a number has add nothing
same_by : (c : Bool) (a b n : ℕ) → ltb n 10 ≡ c
    → (10 ≤ n → decimal_in a (n / 10) ≡ decimal_in b (n / 10))
    → cond c ((48 + n) ∷ []) (decimal_in a (n / 10) ++ ((48 + n % 10) ∷ [])) ≡ cond c ((48 + n) ∷ []) (decimal_in b (n / 10) ++ ((48 + n % 10) ∷ []))
same_by true a b n e h = refl
same_by false a b n e h = ap (λ (l : List ℕ). l ++ ((48 + n % 10) ∷ [])) (h (ltb-false n 10 e))

same_digits : (a b n : ℕ) → n < 10 ^ suc a → n < 10 ^ suc b → decimal_in (suc a) n ≡ decimal_in (suc b) n
unfolding decimal_in
same_digits zero zero n h k = refl
same_digits zero (suc b) n h k = same_by (ltb n 10) zero (suc b) n refl (λ l. absurd (omega (arith, h, pow-suc 10 0)))
same_digits (suc a) zero n h k = same_by (ltb n 10) (suc a) zero n refl (λ l. absurd (omega (arith, k, pow-suc 10 0)))
same_digits (suc a) (suc b) n h k =
    same_by (ltb n 10) (suc a) (suc b) n refl
    (λ l. same_digits a b (n / 10) (omega (arith, h, pow-suc 10 (suc a))) (omega (arith, k, pow-suc 10 (suc b))))

below_power : (n : ℕ) → n < 10 ^ suc n
below_power zero = omega (arith, pow-suc 10 0)
below_power (suc n) = omega (arith, pow-suc 10 (suc n), below_power n)

in_20 : (n : ℕ) → n < 2 ^ 64 → decimal_in 20 n ≡ decimal_of n
in_20 n h = same_digits 19 n n (omega arith) (below_power n)

-- what `io::decimal` answers and writes of a 64-bit number
decimal_is : (n k : ℕ) → n < 2 ^ 64 → IsDigitCount 10 1 n k → last_digits 10 k n ≡ decimal_of n
decimal_is n k h f = sym (fewest 19 n k (omega arith) f) ∙ in_20 n h

-- a number has at most as many digits as it is given
few_of : (b : Bool) (k a d : ℕ) (front : List ℕ) → length front ≤ k → length (cond b (a ∷ []) (front ++ (d ∷ []))) ≤ suc k
few_of true k a d front h = omega arith
few_of false k a d front h = rw (length-append front (d ∷ [])) (omega arith)

few : (k n : ℕ) → length (decimal_in k n) ≤ k
unfolding decimal_in
few zero n = omega arith
few (suc k) n = few_of (ltb n 10) k (48 + n) (48 + n % 10) (decimal_in k (n / 10)) (few k (n / 10))

pub number_text : (n k : ℕ) (out : List ℕ) → n < 2 ^ 64 → IsDigitCount 10 1 n k → take k out ≡ last_digits 10 k n
    → (take k out ≡ decimal_of n) × (length (decimal_of n) ≤ 20)
number_text n k out h f e = (e ∙ decimal_is n k h f, rw (← in_20 n h) (few 20 n))
