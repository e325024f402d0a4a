-- Lists: a run of writes, a test of the numbers below another, and the record of a processor in the pair.
use Rattle.std.specs.Prelude.{ℕ, zero, suc, Bool, false, cond, ◌||◌, List, set, ltb}
use Rattle.std.proofs.Math.Option.{Option, none}
use Rattle.std.proofs.Math.ListN.{get_elem?}
use Rattle.machine.specs.declared.Processor.{Processor}

-- xs with `value i` written at index `place i` for each i below n, in this order; an index outside xs is not written
unfoldable pub written : List ℕ → (ℕ → ℕ) → (ℕ → ℕ) → ℕ → List ℕ
written xs place value zero = xs
written xs place value (suc n) = set (written xs place value n) (place n) (value n)

-- the test holds of a number below n
unfoldable pub any_below : (ℕ → Bool) → ℕ → Bool
any_below test zero = false
any_below test (suc n) = any_below test n || test n

-- the record of the processor with this number. A number that isn't 0 or 1 has none, nor has one past the end of the list
abbrev pub record_of : List Processor → ℕ → Option Processor
record_of ps n = cond (ltb n 2) (get_elem? ps n) none
