-- The second column of the table of answers as sentences. They are said in numbers, fields and kinds of request, without the
-- tests of the rules, and each test of the rules tells its sentence: it holds exactly when the sentence does. A test is taken apart as it is built.
-- Assumes nothing.
use Prim.Native.Nat.{ℕ, ◌+◌, ◌*◌, ◌/◌, ◌%◌, ◌<◌, ◌≤◌}
use mathlib.Core.Path.{◌≡◌}
use mathlib.Core.Bool.{true, false, cond, not, ◌&&◌, ◌||◌}
use mathlib.Core.List.{List}
use mathlib.Core.Logic.Iff
use mathlib.Core.Logic.{◌≢◌, ◌⊎◌, inl, inr, ⊎_elim}
use native.Mathlib.Omega.{arith}
use lib.ListN.{get_or}
use lib.Dec.{eqb}
use Rattle.machine.specs.declared.Settings.{Settings}
use Rattle.machine.specs.declared.Processor.{Processor}
use Rattle.machine.specs.declared.AccessKind.{AccessKind}
use Rattle.machine.specs.declared.AccessKind.TheVariants.{Fetch, Store}
use Rattle.machine.specs.declared.KeyInstruction.{KeyInstruction}
use Rattle.machine.specs.declared.KeyInstruction.TheVariants.{Isk, Ssk, Rrb, Iske, Sske, Rrbe}
use Rattle.machine.specs.declared.PrefixInstruction.TheVariants.{SetPrefix, StorePrefix}
use Rattle.machine.specs.declared.Request.{Request}
use Rattle.machine.specs.declared.Request.TheVariants.{Access, Key, Prefix}
use Rattle.machine.specs.declared.Reason.TheVariants.{Addressing, Protection}
use Rattle.machine.specs.Numbers.{lengths_valid, record_valid}
use Rattle.machine.specs.Prefixing.{absolute, prefix_of}
use Rattle.machine.specs.Protection.{matches, permitted, low_protected, forbidden}
use Rattle.machine.specs.KeyInstructions.{designated}
use Rattle.machine.specs.Table.{operand_invalid, operation_exception, privileged_exception, special_operation_exception, specification_exception}
use Rattle.machine.specs.Table.{addressing, protection}
use Rattle.machine.proofs.Tests.{Tells, Denies, off, either, both_hold, not_both_hold, neither_holds, never}
use Rattle.machine.proofs.Tests.{equal, unequal, below, not_below, at_most, over}
use Rattle.machine.proofs.TableLines.{Sound, line_sound, clear_sound, bytes_sound}

-- 64: the storage is no multiple of 4,096 bytes from 4,096 to 16,777,216, or the key array has not one key for each 4,096 bytes with the 4K
-- facility, for each 2,048 without it
pub data Line64 (s : Settings) (storage_length key_length : ℕ) : Type 0 where
  part_of_block : storage_length % 4096 ≢ 0 → Line64 s storage_length key_length
  too_short : storage_length < 4096 → Line64 s storage_length key_length
  too_long : 16777216 < storage_length → Line64 s storage_length key_length
  keys_wrong : key_length ≢ storage_length / cond s.four_k 4096 2048 → Line64 s storage_length key_length

-- 65: the processor's own PSW key is over 15, its condition code over 3, or its prefix isn't a multiple of 4,096 below the storage length
pub data Line65 (storage_length : ℕ) (p : Processor) : Type 0 where
  key_over_15 : 15 < p.psw_key → Line65 storage_length p
  code_over_3 : 3 < p.code → Line65 storage_length p
  prefix_in_block : p.prefix % 4096 ≢ 0 → Line65 storage_length p
  prefix_outside : storage_length ≤ p.prefix → Line65 storage_length p

-- 66: access length is 0 or over 256; access or RRB address is 16,777,216 or more; a fetch or store buffer is shorter than the length
pub data BadAccess (address count buffer_length : ℕ) : Type 0 where
  length_0 : count ≡ 0 → BadAccess address count buffer_length
  length_over_256 : 256 < count → BadAccess address count buffer_length
  over_24_bits : 16777216 ≤ address → BadAccess address count buffer_length
  buffer_short : buffer_length < count → BadAccess address count buffer_length

abbrev pub Line66 : Request → ℕ → Type 0
Line66 (Access kind address count) buffer_length = BadAccess address count buffer_length
Line66 (Key (Rrb address)) buffer_length = 16777216 ≤ address
Line66 (Key (Isk r1 r2)) buffer_length = ⊥
Line66 (Key (Ssk r1 r2)) buffer_length = ⊥
Line66 (Key (Iske r1 r2)) buffer_length = ⊥
Line66 (Key (Sske r1 r2)) buffer_length = ⊥
Line66 (Key (Rrbe r2)) buffer_length = ⊥
Line66 (Prefix i) buffer_length = ⊥

-- 1: ISKE, SSKE or RRBE without the extensions
abbrev pub Line1 : Settings → Request → Type 0
Line1 s (Key (Iske r1 r2)) = s.extensions ≡ false
Line1 s (Key (Sske r1 r2)) = s.extensions ≡ false
Line1 s (Key (Rrbe r2)) = s.extensions ≡ false
Line1 s (Key (Isk r1 r2)) = ⊥
Line1 s (Key (Ssk r1 r2)) = ⊥
Line1 s (Key (Rrb address)) = ⊥
Line1 s (Access kind address count) = ⊥
Line1 s (Prefix i) = ⊥

-- 2: key or prefix instruction in problem state
abbrev pub Line2 : Processor → Request → Type 0
Line2 p (Key i) = p.problem ≡ true
Line2 p (Prefix i) = p.problem ≡ true
Line2 p (Access kind address count) = ⊥

-- 19: ISK, SSK or RRB, 4K facility present, CR0 bit 7 zero
abbrev pub Line19 : Settings → Processor → Request → Type 0
Line19 s p (Key (Isk r1 r2)) = (s.four_k ≡ true) × (p.key_control ≡ false)
Line19 s p (Key (Ssk r1 r2)) = (s.four_k ≡ true) × (p.key_control ≡ false)
Line19 s p (Key (Rrb address)) = (s.four_k ≡ true) × (p.key_control ≡ false)
Line19 s p (Key (Iske r1 r2)) = ⊥
Line19 s p (Key (Sske r1 r2)) = ⊥
Line19 s p (Key (Rrbe r2)) = ⊥
Line19 s p (Access kind address count) = ⊥
Line19 s p (Prefix i) = ⊥

-- 6: ISK or SSK with any of bits 28-31 of R2 on
abbrev pub Line6 : Request → Type 0
Line6 (Key (Isk r1 r2)) = r2 % 16 ≢ 0
Line6 (Key (Ssk r1 r2)) = r2 % 16 ≢ 0
Line6 (Key (Rrb address)) = ⊥
Line6 (Key (Iske r1 r2)) = ⊥
Line6 (Key (Sske r1 r2)) = ⊥
Line6 (Key (Rrbe r2)) = ⊥
Line6 (Access kind address count) = ⊥
Line6 (Prefix i) = ⊥

-- the real address of the block that an instruction designates: ISK, SSK and RRB take 24 bits and a 2K block, the extended ones 31 bits and a
-- 4K block
abbrev pub block_address : KeyInstruction → ℕ
block_address (Isk r1 r2) = r2 % 16777216 / 2048 * 2048
block_address (Ssk r1 r2) = r2 % 16777216 / 2048 * 2048
block_address (Rrb address) = address % 16777216 / 2048 * 2048
block_address (Iske r1 r2) = r2 % 2147483648 / 4096 * 4096
block_address (Sske r1 r2) = r2 % 2147483648 / 4096 * 4096
block_address (Rrbe r2) = r2 % 2147483648 / 4096 * 4096

-- the real address of byte i of an access
abbrev pub real_of : ℕ → ℕ → ℕ
real_of address i = (address + i) % 16777216

-- 5: a real address named, or the block SET PREFIX would install, lies outside storage. SET PREFIX takes a 4K block by 24 bits
abbrev pub Line5 : ℕ → Request → Type 0
Line5 storage_length (Access kind address count) = (i : ℕ) × (i < count) × (storage_length ≤ real_of address i)
Line5 storage_length (Key i) = storage_length ≤ block_address i
Line5 storage_length (Prefix (SetPrefix word)) = storage_length ≤ word % 16777216 / 4096 * 4096
Line5 storage_length (Prefix StorePrefix) = ⊥

-- 4: a byte of an access is forbidden. The access key and the key k do not match if the access key is not zero and not bits 0-3 of k. A store is
-- forbidden at real addresses 0 to 511 with low-address protection, or where they do not match; a fetch where they do not and bit 4 of k is one
abbrev pub Differ : ℕ → ℕ → Type 0
Differ access_key k = (access_key ≢ 0) × (access_key ≢ k / 16 % 16)

abbrev pub Forbidden : AccessKind → Processor → ℕ → ℕ → Type 0
Forbidden Store p real k = ((p.low_protection ≡ true) × (real < 512)) ⊎ Differ p.psw_key k
Forbidden Fetch p real k = Differ p.psw_key k × (k / 8 % 2 ≡ 1)

-- the key of the unit of a real address: the address is prefixed, and a unit has 4,096 bytes with the 4K facility, 2,048 without it
abbrev pub key_at : Settings → List ℕ → Processor → ℕ → ℕ
key_at s keys p real = get_or keys (absolute p.prefix real / cond s.four_k 4096 2048) 0

abbrev pub Line4 : Settings → List ℕ → Processor → Request → Type 0
Line4 s keys p (Access kind address count) = (i : ℕ) × (i < count) × Forbidden kind p (real_of address i) (key_at s keys p (real_of address i))
Line4 s keys p (Key i) = ⊥
Line4 s keys p (Prefix i) = ⊥

-- The tests of the rules tell these sentences.

without_control : (s : Settings) (p : Processor) → Tells (s.four_k && not p.key_control) ((s.four_k ≡ true) × (p.key_control ≡ false))
without_control s p = both_hold _ _ Iff.rfl (off p.key_control Iff.rfl)

low_bits : (r2 : ℕ) → Tells (not (eqb (r2 / 1 % 16) 0)) (r2 % 16 ≢ 0)
low_bits r2 = Iff.trans (off _ (unequal (r2 / 1 % 16) 0)) (λ h e. h (omega arith), λ h e. h (omega arith))

-- one of four
abbrev Four : Type 0 → Type 0 → Type 0 → Type 0 → Type 0
Four P Q R S = ((P ⊎ Q) ⊎ R) ⊎ S

-- the tests of the lines
pub tells_64 : (s : Settings) (storage_length key_length : ℕ) → Tells (not (lengths_valid s storage_length key_length)) (Line64 s storage_length key_length)
tells_64 s storage_length key_length =
    Iff.trans
    (off _ (not_both_hold _ _
    (not_both_hold _ _ (not_both_hold _ _ (unequal (storage_length % 4096) 0) (over 4096 storage_length)) (over storage_length 16777216))
    (unequal key_length _)))
    (⊎_elim (⊎_elim (⊎_elim part_of_block too_short) too_long) keys_wrong, from)
  where
    from : Line64 s storage_length key_length
        → Four (storage_length % 4096 ≢ 0) (storage_length < 4096) (16777216 < storage_length) (key_length ≢ storage_length / cond s.four_k 4096 2048)
    from (part_of_block h) = inl (inl (inl h))
    from (too_short h) = inl (inl (inr h))
    from (too_long h) = inl (inr h)
    from (keys_wrong h) = inr h

pub tells_65 : (storage_length : ℕ) (p : Processor) → Tells (not (record_valid storage_length p)) (Line65 storage_length p)
tells_65 storage_length p =
    Iff.trans
    (off _ (not_both_hold _ _
    (not_both_hold _ _ (not_both_hold _ _ (over p.psw_key 15) (over p.code 3)) (unequal (p.prefix % 4096) 0))
    (not_below p.prefix storage_length)))
    (⊎_elim (⊎_elim (⊎_elim key_over_15 code_over_3) prefix_in_block) prefix_outside, from)
  where
    from : Line65 storage_length p → Four (15 < p.psw_key) (3 < p.code) (p.prefix % 4096 ≢ 0) (storage_length ≤ p.prefix)
    from (key_over_15 h) = inl (inl (inl h))
    from (code_over_3 h) = inl (inl (inr h))
    from (prefix_in_block h) = inl (inr h)
    from (prefix_outside h) = inr h

pub tells_66 : (r : Request) (buffer_length : ℕ) → Tells (operand_invalid r buffer_length) (Line66 r buffer_length)
tells_66 (Access kind address count) buffer_length =
    Iff.trans
    (either _ _ (either _ _ (either _ _ (equal count 0) (below 256 count)) (at_most 16777216 address)) (below buffer_length count))
    (⊎_elim (⊎_elim (⊎_elim length_0 length_over_256) over_24_bits) buffer_short, from)
  where
    from : BadAccess address count buffer_length → Four (count ≡ 0) (256 < count) (16777216 ≤ address) (buffer_length < count)
    from (length_0 h) = inl (inl (inl h))
    from (length_over_256 h) = inl (inl (inr h))
    from (over_24_bits h) = inl (inr h)
    from (buffer_short h) = inr h
tells_66 (Key (Rrb address)) buffer_length = at_most 16777216 address
tells_66 (Key (Isk r1 r2)) buffer_length = never
tells_66 (Key (Ssk r1 r2)) buffer_length = never
tells_66 (Key (Iske r1 r2)) buffer_length = never
tells_66 (Key (Sske r1 r2)) buffer_length = never
tells_66 (Key (Rrbe r2)) buffer_length = never
tells_66 (Prefix i) buffer_length = never

pub tells_1 : (s : Settings) (r : Request) → Tells (operation_exception s r) (Line1 s r)
tells_1 s (Key (Iske r1 r2)) = off s.extensions Iff.rfl
tells_1 s (Key (Sske r1 r2)) = off s.extensions Iff.rfl
tells_1 s (Key (Rrbe r2)) = off s.extensions Iff.rfl
tells_1 s (Key (Isk r1 r2)) = never
tells_1 s (Key (Ssk r1 r2)) = never
tells_1 s (Key (Rrb address)) = never
tells_1 s (Access kind address count) = never
tells_1 s (Prefix i) = never

pub tells_2 : (p : Processor) (r : Request) → Tells (privileged_exception p r) (Line2 p r)
tells_2 p (Key i) = Iff.rfl
tells_2 p (Prefix i) = Iff.rfl
tells_2 p (Access kind address count) = never

pub tells_19 : (s : Settings) (p : Processor) (r : Request) → Tells (special_operation_exception s p r) (Line19 s p r)
tells_19 s p (Key (Isk r1 r2)) = without_control s p
tells_19 s p (Key (Ssk r1 r2)) = without_control s p
tells_19 s p (Key (Rrb address)) = without_control s p
tells_19 s p (Key (Iske r1 r2)) = never
tells_19 s p (Key (Sske r1 r2)) = never
tells_19 s p (Key (Rrbe r2)) = never
tells_19 s p (Access kind address count) = never
tells_19 s p (Prefix i) = never

pub tells_6 : (r : Request) → Tells (specification_exception r) (Line6 r)
tells_6 (Key (Isk r1 r2)) = low_bits r2
tells_6 (Key (Ssk r1 r2)) = low_bits r2
tells_6 (Key (Rrb address)) = never
tells_6 (Key (Iske r1 r2)) = never
tells_6 (Key (Sske r1 r2)) = never
tells_6 (Key (Rrbe r2)) = never
tells_6 (Access kind address count) = never
tells_6 (Prefix i) = never

-- the address of a block, said as above
designated_address : (i : KeyInstruction) → designated i ≡ block_address i
designated_address (Isk r1 r2) = omega arith
designated_address (Ssk r1 r2) = omega arith
designated_address (Rrb address) = omega arith
designated_address (Iske r1 r2) = omega arith
designated_address (Sske r1 r2) = omega arith
designated_address (Rrbe r2) = omega arith

-- a byte that is forbidden
differ : (access_key k : ℕ) → Denies (matches access_key k) (Differ access_key k)
differ access_key k = neither_holds _ _ (unequal access_key 0) (unequal access_key (k / 16 % 16))

pub tells_forbidden : (kind : AccessKind) (p : Processor) (real k : ℕ) → Tells (forbidden kind p real k) (Forbidden kind p real k)
unfolding permitted low_protected
tells_forbidden Store p real k = either _ _ (both_hold _ _ Iff.rfl (below real 512)) (off (matches p.psw_key k) (differ p.psw_key k))
tells_forbidden Fetch p real k = off (matches p.psw_key k || eqb (k / 8 % 2) 0) (neither_holds _ _ (differ p.psw_key k) on)
  where
    on : Denies (eqb (k / 8 % 2) 0) (k / 8 % 2 ≡ 1)
    on = Iff.trans (unequal (k / 8 % 2) 0) (λ h. omega arith, λ h e. omega arith)

-- Lines 5 and 4.

pub sound_5 : (storage_length : ℕ) (r : Request)
    → Sound (record { number = 5; verdict = addressing storage_length r; Applies = Line5 storage_length r })
unfolding addressing
sound_5 storage_length (Access kind address count) = bytes_sound Addressing _ count (λ i. at_most storage_length (real_of address i))
sound_5 storage_length (Key i) = rw (← designated_address i) (line_sound Addressing _ (at_most storage_length (designated i)))
sound_5 storage_length (Prefix (SetPrefix word)) =
    let e : prefix_of word ≡ word % 16777216 / 4096 * 4096 = omega arith in
    rw (← e) (line_sound Addressing _ (at_most storage_length (prefix_of word)))
sound_5 storage_length (Prefix StorePrefix) = line_sound Addressing _ never

pub sound_4 : (s : Settings) (keys : List ℕ) (p : Processor) (r : Request)
    → Sound (record { number = 4; verdict = protection s keys p r; Applies = Line4 s keys p r })
unfolding protection
sound_4 s keys p (Access kind address count) =
    bytes_sound Protection _ count (λ i. tells_forbidden kind p (real_of address i) (key_at s keys p (real_of address i)))
sound_4 s keys p (Key i) = clear_sound 4
sound_4 s keys p (Prefix i) = clear_sound 4
