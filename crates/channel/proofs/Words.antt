-- The CCW: its numbers of two words, and what is known of the operation it asks for. By arithmetic on digits, and by the cases
-- of the command. Assumes nothing.
use Prim.Native.Nat.{ℕ, ◌+◌, ◌/◌, ◌%◌, ◌<◌}
use mathlib.Core.Path.{◌≡◌, refl}
use mathlib.Core.Bool.{Bool, true, false, cond, not, ◌||◌}
use mathlib.Core.List.{List}
use native.Mathlib.Omega.{arith}
use lib.Dec.{eqb}
use lib.ListN.{get_or}
use borrow.Author.Tests.{eqb-false}
use Rattle.machine.specs.declared.AccessKind.{AccessKind}
use Rattle.machine.specs.declared.AccessKind.TheVariants.{Fetch, Store}
use Rattle.machine.specs.declared.channel.Ccw.{Ccw}
use Rattle.machine.specs.declared.channel.ChannelOperation.{ChannelOperation}
use Rattle.machine.specs.declared.channel.ChannelOperation.TheVariants.{TransferInChannel, Data, Invalid}
use Rattle.machine.specs.Bits.{field}
use Rattle.channel.specs.Requests.{Counted}
use Rattle.machine.specs.Channel.{big_endian, ccw_at, data_operation, operation_of}

-- the parts of a word: its first byte and the three behind it, and the last two
module _ (bytes : List ℕ) (small : (i : ℕ) → get_or bytes i 0 < 256) (a : ℕ) where
  first_byte : big_endian 4 bytes a / 0x1000000 ≡ big_endian 1 bytes a
  unfolding big_endian
  first_byte = omega (arith, small a, small (a + 1), small (a + 1 + 1), small (a + 1 + 1 + 1))

  three_bytes : big_endian 4 bytes a % 0x1000000 ≡ big_endian 3 bytes (a + 1)
  unfolding big_endian
  three_bytes = omega (arith, small a, small (a + 1), small (a + 1 + 1), small (a + 1 + 1 + 1))

  last_bytes : big_endian 4 bytes a % 0x10000 ≡ big_endian 2 bytes (a + 1 + 1)
  unfolding big_endian
  last_bytes = omega (arith, small a, small (a + 1), small (a + 1 + 1), small (a + 1 + 1 + 1))

pub ccw_read : (bytes : List ℕ) (a : ℕ) {first second : ℕ} → ((i : ℕ) → get_or bytes i 0 < 256) → first ≡ big_endian 4 bytes a
    → second ≡ big_endian 4 bytes (a + 4)
    → record { command = first / 0x1000000; address = first % 0x1000000; flags = second / 0x1000000; count = second % 0x10000 } ≡ ccw_at bytes a
unfolding ccw_at
ccw_read bytes a small first_is second_is =
    let sixth : a + 4 + 1 + 1 ≡ a + 6 = omega arith in
    rw (first_is, second_is, first_byte bytes small a, three_bytes bytes small a, first_byte bytes small (a + 4), last_bytes bytes small (a + 4), sixth) refl

-- the command, by remainders
pub operation_tests : (c : Ccw)
    → operation_of c
    ≡ cond (eqb (c.command % 4) 1) (data_operation Fetch c)
    (cond (eqb (c.command % 4) 2) (data_operation Store c)
    (cond (eqb (c.command % 16) 8) (TransferInChannel c.address) Invalid))
unfolding operation_of
operation_tests c =
    let low_two : field 8 6 7 c.command ≡ c.command % 4 = omega arith in
    let low_four : field 8 4 7 c.command ≡ c.command % 16 = omega arith in
    rw (low_two, low_four) refl

-- the count of a CCW that moves data is not zero, and is no greater than two bytes hold
data_counted : (kind : AccessKind) (c : Ccw) → c.count < 65536 → Counted (data_operation kind c)
data_counted kind c h = go (not (eqb c.flags 0 || eqb c.flags 64)) (eqb c.count 0) refl
  where
    go : (bad zero : Bool) → eqb c.count 0 ≡ zero
        → Counted (cond (bad || zero) Invalid (Data kind c.address c.count (eqb c.flags 64)))
    go true zero e = tt
    go false true e = tt
    go false false e =
        let nonzero : c.count ≡ 0 → ⊥ = eqb-false _ _ e in
        (omega arith, h)

pub operation_counted : (c : Ccw) → c.count < 65536 → Counted (operation_of c)
operation_counted c h = rw operation_tests (go (eqb (c.command % 4) 1) (eqb (c.command % 4) 2) (eqb (c.command % 16) 8))
  where
    go : (a b d : Bool)
        → Counted (cond a (data_operation Fetch c) (cond b (data_operation Store c) (cond d (TransferInChannel c.address) Invalid)))
    go true b d = data_counted Fetch c h
    go false true d = data_counted Store c h
    go false false true = tt
    go false false false = tt

-- and so of the operation that a fetched CCW asks for
pub fetched_counted : (bytes : List ℕ) (a : ℕ) {c : Ccw} {operation : ChannelOperation} → (c ≡ ccw_at bytes a) × (c.count < 65536)
    → operation ≡ operation_of c → Counted operation
fetched_counted bytes a {c} read is = rw is (operation_counted c read.1)
