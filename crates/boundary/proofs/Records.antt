-- Records and their eight bytes are a round trip: what is written is read again, and what is read, where no reserved bit is on, is written
-- again. Bits are compared case by case, the prefix byte by byte. Assumes nothing.
use Prim.Native.Nat.{ℕ, zero, suc, ◌+◌, ◌*◌, ◌/◌, ◌%◌, ◌<◌, ◌≤◌}
use mathlib.Core.Path.{◌≡◌, refl, sym, ap, ◌∙◌}
use mathlib.Core.Bool.{Bool, true, false, cond}
use mathlib.Core.List.{List}
use native.Mathlib.Omega.{arith}
use native.Mathlib.Nat.{add-zero, zero-add}
use lib.ListN.{length, get_or}
use lib.Dec.{eqb, ltb}
use borrow.Author.Tests.{lt-ltb, ltb-true, leb-true, eqb-true}
use Rattle.machine.specs.declared.Processor.{Processor}
use Rattle.machine.specs.Lists.{written}
use Rattle.machine.specs.Numbers.{record_valid}
use Rattle.machine.proofs.Written.{written_there}
use Rattle.machine.proofs.Verdicts.{both}
use Rattle.boundary.specs.Boundary.{bit, value, reserved_zero, record_at, record_bytes}

-- the bytes from `at` on are those of p
abbrev pub Holds : List ℕ → ℕ → Processor → Type 0
Holds bytes at p = (i : ℕ) → i < 8 → get_or bytes (at + i) 0 ≡ get_or (record_bytes p) i 0

-- the three control bits in one number, and back
abbrev pub joined : Bool → Bool → Bool → ℕ
joined a b c = value a 1 + value b 2 + value c 4

joined_back : (a b c : Bool) → (joined a b c < 8) × (bit 1 (joined a b c) ≡ a) × (bit 2 (joined a b c) ≡ b) × (bit 4 (joined a b c) ≡ c)
joined_back true true true = (omega arith, refl, refl, refl)
joined_back true true false = (omega arith, refl, refl, refl)
joined_back true false true = (omega arith, refl, refl, refl)
joined_back true false false = (omega arith, refl, refl, refl)
joined_back false true true = (omega arith, refl, refl, refl)
joined_back false true false = (omega arith, refl, refl, refl)
joined_back false false true = (omega arith, refl, refl, refl)
joined_back false false false = (omega arith, refl, refl, refl)

-- the word in the last four bytes of a number, from these bytes; a number below 2^32 is that word
pub last_word : (x : ℕ) → x % 4294967296 ≡ x % 256 + x / 256 % 256 * 256 + x / 65536 % 256 * 65536 + x / 16777216 % 256 * 16777216
last_word x =
    let a : x ≡ x % 256 + x / 256 * 256 = omega arith in
    let b : x / 256 ≡ x / 256 % 256 + x / 65536 * 256 = omega arith in
    let c : x / 65536 ≡ x / 65536 % 256 + x / 16777216 * 256 = omega arith in
    let d : x / 16777216 ≡ x / 16777216 % 256 + x / 4294967296 * 256 = omega arith in
    let e : x ≡ x % 4294967296 + x / 4294967296 * 4294967296 = omega arith in
    omega arith

four_bytes : (x : ℕ) → x < 4294967296 → x % 256 + x / 256 % 256 * 256 + x / 65536 % 256 * 65536 + x / 16777216 % 256 * 16777216 ≡ x
four_bytes x h = let whole : x % 4294967296 ≡ x = omega arith in sym (last_word x) ∙ whole

-- the record that is read depends on its eight bytes alone
pub same_record : (xs ys : List ℕ) (a b : ℕ) → ((i : ℕ) → i < 8 → get_or xs (a + i) 0 ≡ get_or ys (b + i) 0) → record_at xs a ≡ record_at ys b
same_record xs ys a b e =
    rw (
      rw (add-zero a, add-zero b) at (e 0 (omega arith)),
      e 1 (omega arith),
      e 2 (omega arith),
      e 3 (omega arith),
      e 4 (omega arith),
      e 5 (omega arith),
      e 6 (omega arith),
      e 7 (omega arith),
    )

read_bytes : (bytes : List ℕ) (at : ℕ) (p : Processor) → p.prefix < 4294967296 → Holds bytes at p → record_at bytes at ≡ p
read_bytes bytes at p small e = same_record bytes (record_bytes p) at 0 (λ i h. rw (zero-add i) (e i h)) ∙ read
  where
    read : record_at (record_bytes p) 0 ≡ p
    read =
        let back = joined_back p.problem p.low_protection p.key_control in
        rw (lt-ltb _ _ back.0, back.1, back.2, back.3, four_bytes p.prefix small)

-- a record is read from where it was written
pub written_record_is_read : (bytes : List ℕ) (at : ℕ) (p : Processor) → length bytes ≡ 16 → at ≤ 8 → p.prefix < 4294967296
    → record_at (written bytes (λ i. at + i) (λ i. get_or (record_bytes p) i 0) 8) at ≡ p
written_record_is_read bytes at p l h small =
    read_bytes (written bytes (λ i. at + i) (λ i. get_or (record_bytes p) i 0) 8) at p small
    (λ i k.
    written_there bytes (λ j. at + j) (λ j. get_or (record_bytes p) j 0) 8 i k (omega arith)
    (λ j m e. let q : j ≡ i = omega arith in ap (λ k. get_or (record_bytes p) k 0) q))

-- the value of a bit, and a number below 8 from its three bits
value_of_bit : (x v : ℕ) → x < 2 → value (eqb x 1) v ≡ x * v
value_of_bit zero v h = omega arith
value_of_bit (suc zero) v h = omega arith
value_of_bit (suc (suc x)) v h = absurd (omega arith)

three_bits : (c : ℕ) → c < 8 → c ≡ joined (bit 1 c) (bit 2 c) (bit 4 c)
three_bits c h =
    rw (value_of_bit (c / 1 % 2) 1 (omega arith), value_of_bit (c / 2 % 2) 2 (omega arith), value_of_bit (c / 4 % 2) 4 (omega arith)) (omega arith)

-- the bytes of a word are its digits
pub word_digits : (a b c d : ℕ) → a < 256 → b < 256 → c < 256 → d < 256 → let x = a + b * 256 + c * 65536 + d * 16777216 in
    (a ≡ x % 256) × (b ≡ x / 256 % 256) × (c ≡ x / 65536 % 256) × (d ≡ x / 16777216 % 256)
word_digits a b c d ha hb hc hd = omega arith

each_of_eight : (P : ℕ → Type 0) → P 0 → P 1 → P 2 → P 3 → P 4 → P 5 → P 6 → P 7 → (i : ℕ) → i < 8 → P i
each_of_eight P a b c d e f g h zero l = a
each_of_eight P a b c d e f g h (suc zero) l = b
each_of_eight P a b c d e f g h (suc (suc zero)) l = c
each_of_eight P a b c d e f g h (suc (suc (suc zero))) l = d
each_of_eight P a b c d e f g h (suc (suc (suc (suc zero)))) l = e
each_of_eight P a b c d e f g h (suc (suc (suc (suc (suc zero))))) l = f
each_of_eight P a b c d e f g h (suc (suc (suc (suc (suc (suc zero)))))) l = g
each_of_eight P a b c d e f g h (suc (suc (suc (suc (suc (suc (suc zero))))))) l = h
each_of_eight P a b c d e f g h (suc (suc (suc (suc (suc (suc (suc (suc i)))))))) l = absurd (omega arith)

-- bytes with no reserved bit on are what is written for the record that is read from them
pub read_record_is_written : (bytes : List ℕ) (at : ℕ) → ((i : ℕ) → get_or bytes i 0 < 256)
    → reserved_zero (get_or bytes (at + 1) 0) (get_or bytes (at + 3) 0) ≡ true → Holds bytes at (record_at bytes at)
read_record_is_written bytes at byte reserved =
    each_of_eight (λ i. get_or bytes (at + i) 0 ≡ get_or (record_bytes (record_at bytes at)) i 0)
    (rw (add-zero at, reserved))
    (three_bits _ (ltb-true _ _ zeros.0))
    refl
    (eqb-true _ _ zeros.1)
    four.0 four.1 four.2 four.3
  where
    zeros : (ltb (get_or bytes (at + 1) 0) 8 ≡ true) × (eqb (get_or bytes (at + 3) 0) 0 ≡ true)
    zeros = both _ _ reserved

    four : (get_or bytes (at + 4) 0 ≡ (record_at bytes at).prefix % 256)
        × (get_or bytes (at + 5) 0 ≡ (record_at bytes at).prefix / 256 % 256)
        × (get_or bytes (at + 6) 0 ≡ (record_at bytes at).prefix / 65536 % 256)
        × (get_or bytes (at + 7) 0 ≡ (record_at bytes at).prefix / 16777216 % 256)
    four = word_digits _ _ _ _ (byte (at + 4)) (byte (at + 5)) (byte (at + 6)) (byte (at + 7))

-- so are the bytes of a record that line 65 lets pass: with a reserved bit on, its PSW key would be 255
pub valid_record_is_written : (bytes : List ℕ) (at storage_length : ℕ) → ((i : ℕ) → get_or bytes i 0 < 256)
    → record_valid storage_length (record_at bytes at) ≡ true → Holds bytes at (record_at bytes at)
valid_record_is_written bytes at storage_length byte valid =
    read_record_is_written bytes at byte (zeros _ _ (leb-true _ _ (both _ _ (both _ _ (both _ _ valid).0).0).0))
  where
    zeros : (b : Bool) (k : ℕ) → cond b k 255 ≤ 15 → b ≡ true
    zeros true k h = refl
    zeros false k h = absurd (omega arith)
