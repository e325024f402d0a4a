-- The prefix of a record is a number of four bytes. Assumes nothing.
use Prim.Native.Nat.{ℕ, ◌+◌}
use native.Mathlib.Omega.{arith}
use mathlib.Core.Path.{◌≡◌}
use mathlib.Core.List.{List}
use Rattle.boundary.specs.Boundary.{record_at}
use Rattle.house_record.specs.Little.{little}

-- the prefix of the record at an offset
pub prefix_is : (s : List ℕ) (at : ℕ) → little 4 s (at + 4) ≡ (record_at s at).prefix
unfolding little
prefix_is s at =
    let second : at + 4 + 1 ≡ at + 5 = omega arith in
    let third : at + 5 + 1 ≡ at + 6 = omega arith in
    let fourth : at + 6 + 1 ≡ at + 7 = omega arith in
    rw (second, third, fourth) (omega arith)
