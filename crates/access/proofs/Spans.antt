-- Spans: bytes f to f + n - 1 of an access whose addresses lie in one unit before they wrap. They touch one unit; and since a unit lies in one
-- block, their real addresses are consecutive and in one block, and so are their absolute addresses. Everything is said over the unit.
-- Assumes nothing.
use Prim.Native.Nat.{ℕ, ◌+◌, ◌%◌, ◌<◌, ◌≤◌}
use mathlib.Core.Path.{◌≡◌, sym, ap, ◌∙◌}
use native.Mathlib.Omega.{arith}
use native.Mathlib.Nat.{mod-lt, div-eq_of_lt, div-eq_of_lt-le, add-zero, zero-add}
use Rattle.machine.specs.declared.Settings.{Settings}
use Rattle.machine.specs.declared.Processor.{Processor}
use Rattle.machine.specs.Numbers.{unit_size, unit_of, add24}
use Rattle.machine.specs.Prefixing.{byte_address}
use Rattle.machine.proofs.Prefixing.{block_of, prefixing_keeps_offset, prefixing_maps_blocks}
use Rattle.machine.proofs.Units.{unit_holds_access, unit_from, block_of_unit, bytes_in_unit}
use Rattle.access.specs.ByUnit.{to_unit_end}

-- byte f + j is in the unit of byte f
abbrev pub SameUnit : Settings → ℕ → ℕ → ℕ → Type 0
SameUnit s address f j = unit_of s (address + (f + j)) ≡ unit_of s (address + f)

-- and so are n bytes from byte f on
abbrev pub OneUnit : Settings → ℕ → ℕ → ℕ → Type 0
OneUnit s address f n = (j : ℕ) → j < n → SameUnit s address f j

module _ (s : Settings) (address f j : ℕ) (same : SameUnit s address f j) where
  same_block : block_of (address + (f + j)) ≡ block_of (address + f)
  same_block = rw (block_of_unit s (address + (f + j)), block_of_unit s (address + f), same)

  pub real_step : add24 address f + j ≡ add24 address (f + j)
  real_step = omega (arith, same_block)

  real_block : block_of (add24 address (f + j)) ≡ block_of (add24 address f)
  real_block = omega (arith, same_block)

  pub byte_step : (p : Processor) → byte_address p address f + j ≡ byte_address p address (f + j)
  byte_step p =
      omega (
        arith,
        real_step,
        real_block,
        prefixing_maps_blocks p.prefix (add24 address (f + j)) (add24 address f) real_block,
        prefixing_keeps_offset p.prefix (add24 address (f + j)),
        prefixing_keeps_offset p.prefix (add24 address f),
      )

  pub unit_same : (p : Processor) → unit_of s (byte_address p address (f + j)) ≡ unit_of s (byte_address p address f)
  unit_same p = bytes_in_unit s p address (f + j) f same

  -- whole blocks hold both or neither
  pub real_below : (m : ℕ) → m % 4096 ≡ 0 → add24 address f < m → add24 address (f + j) < m
  real_below m e l = omega (arith, real_block)

module _ (s : Settings) (address : ℕ) where
  in_unit : address % unit_size s < unit_size s
  in_unit = mod-lt address {m = unit_size s} (omega (arith, unit_holds_access s))

  pub to_unit_end_positive : 0 < to_unit_end s address
  to_unit_end_positive = omega (arith, in_unit)

  -- the bytes before the end of the first unit, and those after it, are in one unit each
  pub first_span : (n : ℕ) → n ≤ to_unit_end s address → OneUnit s address 0 n
  first_span n h j l =
      rw (zero-add j, add-zero address)
      (unit_from s address j ∙ rw (div-eq_of_lt {n = address % unit_size s + j} {m = unit_size s} (omega arith)) (add-zero _))

  second_unit : (i : ℕ) → to_unit_end s address ≤ i → i < 256 → unit_of s (address + i) ≡ unit_of s address + 1
  second_unit i h l =
      unit_from s address i ∙ ap (λ q. unit_of s address + q)
      (div-eq_of_lt-le {k = 1} (unit_size s) (omega arith) (omega (arith, unit_holds_access s, in_unit)))

  pub second_span : (n : ℕ) → to_unit_end s address + n ≤ 256 → OneUnit s address (to_unit_end s address) n
  second_span n h j l =
      second_unit (to_unit_end s address + j) (omega arith) (omega arith) ∙ sym (second_unit (to_unit_end s address) (omega arith) (omega arith))
