-- What is known of a request whose own lines pass: the lengths, and that a range inside storage has its keys. By the tests of
-- line 64. Assumes nothing.
use Prim.Native.Nat.{ℕ, ◌+◌, ◌-◌, ◌/◌, ◌%◌, ◌<◌, ◌≤◌}
use mathlib.Core.Path.{◌≡◌}
use mathlib.Core.Bool.{Bool, true, false, not, ◌&&◌, ◌||◌}
use native.Mathlib.Omega.{arith}
use lib.Dec.{eqb, leb, ltb}
use borrow.Author.Tests.{eqb-true, leb-true, ltb-false}
use Rattle.machine.specs.declared.Settings.{Settings}
use Rattle.machine.specs.declared.AccessKind.{AccessKind}
use Rattle.machine.specs.declared.channel.ChannelRequest.{ChannelRequest}
use Rattle.machine.specs.declared.channel.ChannelOperation.{ChannelOperation}
use Rattle.machine.specs.declared.channel.ChannelOperation.TheVariants.{Data}
use Rattle.machine.specs.Numbers.{storage_maximum, storage_valid, unit_size, unit_of}
use Rattle.machine.proofs.Verdicts.{both, neither}
use Rattle.machine.proofs.Units.{unit_inside}
use Rattle.channel.specs.Ranges.{Keyed}
use Rattle.channel.specs.Requests.{Passed, DataFits, Counted}

module _ {s : Settings} {storage_length key_length : ℕ} {q : ChannelRequest} (passed : Passed s storage_length key_length q) where
  storage_valid_lem : (storage_valid storage_length ≡ true) × (eqb key_length (storage_length / unit_size s) ≡ true)
  storage_valid_lem = both _ _ passed.lengths

  pub whole_blocks : storage_length % 4096 ≡ 0
  whole_blocks = eqb-true _ _ (both _ _ (both _ _ storage_valid_lem.0).0).0

  pub greatest : storage_length ≤ storage_maximum
  greatest = leb-true _ _ (both (eqb (storage_length % 4096) 0 && leb 4096 storage_length) _ storage_valid_lem.0).1

  pub key_inside : (a : ℕ) → a < storage_length → unit_of s a < key_length
  key_inside a h =
      let keys_of : key_length ≡ storage_length / unit_size s = eqb-true _ _ storage_valid_lem.1 in
      omega (arith, unit_inside s storage_length a whole_blocks h)

  pub range_keyed : (start count : ℕ) → 0 < count → start + count ≤ storage_length → Keyed s key_length start count
  range_keyed start count positive inside =
      record { positive = positive; short = omega (arith, greatest); keyed = key_inside (start + (count - 1)) (omega arith) }

  -- the data of a CCW, with a position in the device behind which there are bytes enough
  pub data_fits : (ccw address count device_length position : ℕ) → ccw + 8 ≤ storage_length → 0 < count → count < 65536
      → address + count ≤ storage_length → count ≤ device_length - position
      → DataFits s storage_length key_length ccw address count device_length position
  data_fits ccw address count device_length position fetched positive limited inside enough =
      record {
        keyed = range_keyed address count positive inside;
        counted = limited;
        inside = inside;
        ccw_inside = omega (arith, greatest);
        device = omega arith;
      }

-- a CCW at a multiple of 8 inside storage, and the key of its unit
pub ccw_inside : (storage_length ccw : ℕ) → not (eqb (ccw % 8) 0) || ltb storage_length (ccw + 8) ≡ false → ccw + 8 ≤ storage_length
ccw_inside storage_length ccw placed = ltb-false _ _ (neither (not (eqb (ccw % 8) 0)) _ placed).1

pub ccw_keyed : {s : Settings} {storage_length key_length : ℕ} {q : ChannelRequest} → Passed s storage_length key_length q
    → (ccw : ℕ) → not (eqb (ccw % 8) 0) || ltb storage_length (ccw + 8) ≡ false → {unit : ℕ} → unit ≡ unit_of s ccw → unit < key_length
ccw_keyed {storage_length = storage_length} passed ccw placed unit_is =
    let inside = ccw_inside storage_length ccw placed in
    omega (arith, key_inside passed ccw (omega arith))

-- a request that passed its lines passes them with the same lengths
pub still_passed : {s : Settings} {n n' k k' : ℕ} {q : ChannelRequest} → Passed s n k q → n' ≡ n → k' ≡ k → Passed s n' k' q
still_passed passed same_storage same_keys = rw (same_storage, same_keys) passed

-- a CCW that moves data
pub data_count : {kind : AccessKind} {address count : ℕ} {chains : Bool} {operation : ChannelOperation} → operation ≡ Data kind address count chains
    → Counted operation → (0 < count) × (count < 65536)
data_count is counted = rw is at counted
