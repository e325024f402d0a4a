-- The record in two words is the record in their eight bytes. A word has its bytes as digits; where the state is valid, PSW key and condition
-- code are below 16 and 4, so that a remainder by these is the byte itself; where it is not, line 65 refuses the record.
-- Assumes nothing.
use Prim.Native.Nat.{ℕ, ◌+◌, ◌*◌, ◌/◌, ◌%◌, ◌<◌, ◌≤◌}
use mathlib.Core.Path.{◌≡◌, refl, sym, ◌∙◌}
use mathlib.Core.Bool.{Bool, true, false, cond, ◌&&◌}
use mathlib.Core.List.{List}
use native.Mathlib.Omega.{arith}
use native.Mathlib.Nat.{add_assoc}
use lib.ListN.{get_or}
use lib.Dec.{leb}
use borrow.Author.Tests.{leb-true}
use Rattle.machine.specs.Numbers.{record_valid}
use Rattle.machine.proofs.Verdicts.{not_both, both}
use Rattle.boundary.specs.Boundary.{reserved_zero, reserved_zero_at, record_at}
use Rattle.boundary.specs.Words.{word_at, state_valid, record_of}
use Rattle.boundary.proofs.Records.{word_digits}

-- The word of four bytes.
module _ (a b c d : ℕ) (ha : a < 256) (hb : b < 256) (hc : c < 256) (hd : d < 256) where
  abbrev word : ℕ
  word = a + b * 256 + c * 65536 + d * 16777216

  valid_by_bytes : state_valid word ≡ reserved_zero b d && leb a 15 && leb c 3
  valid_by_bytes =
      let digits = word_digits a b c d ha hb hc hd in
      let top : d ≡ word / 16777216 = omega arith in
      rw (← digits.0, ← digits.1, ← digits.2, ← top)

  -- PSW key, controls and condition code of a valid state
  parts : a ≤ 15 → c ≤ 3 → (word % 16 ≡ a) × (word / 256 % 256 ≡ b) × (word / 65536 % 4 ≡ c)
  parts key code =
      let digits = word_digits a b c d ha hb hc hd in
      (omega arith, sym digits.1, omega (arith, digits.2))

-- A record whose state is not valid is refused, whatever its prefix: r is that no reserved bit is on.
refused_state : (r key code prefix inside : Bool) (a : ℕ) → leb a 15 ≡ key → r && key && code ≡ false
    → leb (cond r a 255) 15 && code && prefix && inside ≡ false
refused_state false key code prefix inside a e f = refl
refused_state true true true prefix inside a e f = absurd (not_both refl f)
refused_state true true false prefix inside a e f = rw e refl
refused_state true false code prefix inside a e f = rw e refl

-- The state of the record whose bytes stand from `at` on.
module _ (bytes : List ℕ) (at : ℕ) (byte : (i : ℕ) → get_or bytes i 0 < 256) where
  abbrev digit : ℕ → ℕ
  digit i = get_or bytes (at + i) 0

  by_bytes : state_valid (word_at bytes at) ≡ reserved_zero_at bytes at && leb (get_or bytes at 0) 15 && leb (digit 2) 3
  by_bytes = valid_by_bytes (get_or bytes at 0) (digit 1) (digit 2) (digit 3) (byte at) (byte (at + 1)) (byte (at + 2)) (byte (at + 3))

  pub state_wrong : (storage_length : ℕ) → state_valid (word_at bytes at) ≡ false → record_valid storage_length (record_at bytes at) ≡ false
  state_wrong storage_length e = refused_state (reserved_zero_at bytes at) _ _ _ _ (get_or bytes at 0) refl (sym by_bytes ∙ e)

  pub state_read : state_valid (word_at bytes at) ≡ true → record_of (word_at bytes at) (word_at bytes (at + 4)) ≡ record_at bytes at
  state_read e =
      let (front, code) = both (reserved_zero_at bytes at && leb (get_or bytes at 0) 15) (leb (digit 2) 3) (sym by_bytes ∙ e) in
      let (zeros, key) = both (reserved_zero_at bytes at) (leb (get_or bytes at 0) 15) front in
      let found = parts (get_or bytes at 0) (digit 1) (digit 2) (digit 3) (byte at) (byte (at + 1)) (byte (at + 2)) (byte (at + 3))
      (leb-true _ _ key) (leb-true _ _ code) in
      rw (found.0, found.1, found.2, zeros, add_assoc at 4 1, add_assoc at 4 2, add_assoc at 4 3)
