-- Tests as sentences: a Boolean test tells a sentence where it holds exactly when the sentence does. One law for each connective and each
-- comparison. Assumes nothing.
use Prim.Native.Nat.{ℕ, ◌+◌, ◌<◌, ◌≤◌}
use mathlib.Core.Path.{◌≡◌, refl}
use mathlib.Core.Bool.{Bool, true, false, not, ◌&&◌, ◌||◌}
use mathlib.Core.Logic.{◌≢◌, ◌↔◌, ◌⊎◌, inl, inr, ⊎_elim}
use native.Mathlib.Omega.{arith}
use lib.Dec.{eqb, leb, ltb}
use borrow.Author.Tests.{ltb-true, ltb-false, leb-true, leb-false, eqb-true, eqb-false, not-true, lt-ltb, le-ltb, le-leb, lt-leb, eq-eqb, ne_eqb}
use Rattle.machine.proofs.Verdicts.{not_both}

-- a test holds exactly when P, and fails exactly when P
abbrev pub Tells : Bool → Type 0 → Type 0
Tells b P = (b ≡ true) ↔ P

abbrev pub Denies : Bool → Type 0 → Type 0
Denies b P = (b ≡ false) ↔ P

pub off : {P : Type 0} (b : Bool) → Denies b P → Tells (not b) P
off b d = (λ e. d.0 (not-true b e), λ h. rw (d.1 h))

pub either : {P Q : Type 0} (a b : Bool) → Tells a P → Tells b Q → Tells (a || b) (P ⊎ Q)
either true b f g = (λ e. inl (f.0 refl), λ h. refl)
either false b f g = (λ e. inr (g.0 e), ⊎_elim (λ x. absurd (not_both (f.1 x) refl)) g.1)

pub not_both_hold : {P Q : Type 0} (a b : Bool) → Denies a P → Denies b Q → Denies (a && b) (P ⊎ Q)
not_both_hold true b f g = (λ e. inr (g.0 e), ⊎_elim (λ x. absurd (not_both refl (f.1 x))) g.1)
not_both_hold false b f g = (λ e. inl (f.0 refl), λ h. refl)

pub both_hold : {P Q : Type 0} (a b : Bool) → Tells a P → Tells b Q → Tells (a && b) (P × Q)
both_hold true b f g = (λ e. (f.0 refl, g.0 e), λ h. g.1 h.1)
both_hold false b f g = (λ e. absurd (not_both e refl), λ h. f.1 h.0)

pub neither_holds : {P Q : Type 0} (a b : Bool) → Denies a P → Denies b Q → Denies (a || b) (P × Q)
neither_holds true b f g = (λ e. absurd (not_both refl e), λ h. f.1 h.0)
neither_holds false b f g = (λ e. (f.0 refl, g.0 e), λ h. g.1 h.1)

pub never : Tells false ⊥
never = (λ e. absurd (not_both e refl), λ h. absurd h)

pub equal : (a b : ℕ) → Tells (eqb a b) (a ≡ b)
equal a b = (eqb-true a b, eq-eqb a b)

pub unequal : (a b : ℕ) → Denies (eqb a b) (a ≢ b)
unequal a b = (eqb-false a b, ne_eqb a b)

pub below : (a b : ℕ) → Tells (ltb a b) (a < b)
below a b = (ltb-true a b, lt-ltb a b)

pub not_below : (a b : ℕ) → Denies (ltb a b) (b ≤ a)
not_below a b = (ltb-false a b, le-ltb a b)

pub at_most : (a b : ℕ) → Tells (leb a b) (a ≤ b)
at_most a b = (leb-true a b, le-leb a b)

pub over : (a b : ℕ) → Denies (leb a b) (b < a)
over a b = (leb-false a b, lt-leb a b)

-- a number that is at least n and none of the five from n on
pub five_more : (n m : ℕ) → n ≤ m → (m ≡ n → ⊥) → (m ≡ n + 1 → ⊥) → (m ≡ n + 2 → ⊥) → (m ≡ n + 3 → ⊥) → (m ≡ n + 4 → ⊥) → n + 5 ≤ m
five_more n m h a b c d e = omega arith
