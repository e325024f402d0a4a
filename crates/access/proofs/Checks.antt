-- The table of an access by unit is the table by byte. Line 5 may be tested at the first byte before all else. A test that passes at the first byte
-- of a span passes at all its bytes: so a scan goes on over a span by one test, and an access in one unit takes one test of each line, an
-- access in two units two.
-- Assumes nothing.
use Prim.Native.Nat.{ℕ, ◌+◌, ◌-◌, ◌%◌, ◌<◌, ◌≤◌}
use mathlib.Core.Path.{◌≡◌, refl, sym, ◌∙◌}
use mathlib.Core.Bool.{Bool, true, false, ◌&&◌}
use mathlib.Core.List.{List}
use native.Mathlib.Omega.{arith}
use native.Mathlib.Nat.{zero-add}
use borrow.Author.Tests.{ltb-false, leb-false, le-ltb, lt-leb}
use lib.Dec.{leb, ltb}
use lib.ListN.{length, get_or}
use Rattle.std.specs.Prelude.{Ok, Err}
use Rattle.machine.specs.declared.Settings.{Settings}
use Rattle.machine.specs.declared.Refusal.{Refusal}
use Rattle.machine.specs.declared.Processor.{Processor}
use Rattle.machine.specs.declared.Reason.{Reason}
use Rattle.machine.specs.declared.Reason.TheVariants.{Operand, Addressing, Protection}
use Rattle.machine.specs.declared.Request.{Request}
use Rattle.machine.specs.declared.Request.TheVariants.{Access}
use Rattle.machine.specs.Answers.{Verdict, Clear, stops, line, first_of, first_byte, first_line}
use Rattle.machine.specs.declared.AccessKind.{AccessKind}
use Rattle.machine.specs.declared.AccessKind.TheVariants.{Fetch, Store}
use Rattle.machine.specs.Numbers.{unit_of, add24}
use Rattle.machine.specs.Prefixing.{byte_address}
use Rattle.machine.specs.Protection.{low_protected, forbidden}
use Rattle.machine.specs.Table.{configuration, own_record, operand_invalid, addressing, protection, before_protection, verdict}
use Rattle.machine.proofs.Verdicts.{neither, line_clear, first_clear, first_of_clear, first_none, first_assoc}
use Rattle.machine.proofs.Verdicts.{skipped, first_of_stop, first_byte_before, left_out, scan_on}
use Rattle.machine.proofs.AbsoluteAddress.{configured, absolute_inside}
use Rattle.machine.proofs.Units.{unit_inside}
use Rattle.machine.proofs.BeforeProtection.{operands_passed}
use Rattle.access.specs.declared.span.Span.{Span}
use Rattle.access.specs.ByUnit.{to_unit_end, span_at, byte_outside, first_lines, stop_at, lines_of_one, lines_of_two}
use Rattle.access.proofs.Spans.{SameUnit, real_below, real_step, unit_same, to_unit_end_positive, first_span, second_span}

-- a test that passes at every byte of a span where it passes at the first
abbrev Steady : Settings → ℕ → (ℕ → Bool) → Type 0
Steady s address test = (f j : ℕ) → SameUnit s address f j → test f ≡ false → test (f + j) ≡ false

module _ (s : Settings) (address : ℕ) (r : Reason) (test : ℕ → Bool) (steady : Steady s address test) where
  by_one : (n : ℕ) → 0 < n → n ≤ to_unit_end s address → first_byte r test n ≡ line r (test 0)
  unfolding first_byte first_of line
  by_one n positive whole =
      rw (zero-add n) at (scan_on r test 0 n positive (λ j l. steady 0 j (first_span s address n whole j l)))

  by_two : (count : ℕ) → to_unit_end s address < count → count ≤ 256
      → first_byte r test count ≡ first_of (stop_at r 0 (test 0)) (stop_at r (to_unit_end s address) (test (to_unit_end s address)))
  unfolding line
  by_two count more short =
      let k = to_unit_end s address in
      let whole : k + (count - k) ≡ count = omega arith in
      rw whole at (scan_on r test k (count - k) (omega arith) (λ j l. steady k j (second_span s address (count - k) (omega arith) j l)))
      ∙ rw (by_one k (to_unit_end_positive s address) (omega arith))

-- where a real address is not low-protected, no greater one is
low_later : (kind : AccessKind) (p : Processor) (x y : ℕ) → x ≤ y → low_protected kind p x ≡ false → low_protected kind p y ≡ false
unfolding low_protected
low_later Fetch p x y h e = refl
low_later Store p x y h e = go p.low_protection e
  where
    go : (b : Bool) → (b && ltb x 512) ≡ false → (b && ltb y 512) ≡ false
    go true q = le-ltb y 512 (omega (arith, ltb-false x 512 q))
    go false q = refl

-- the tests of lines 5 and 4 are steady
module _ (s : Settings) (address : ℕ) where
  outside_steady : (m : ℕ) → m % 4096 ≡ 0 → Steady s address (λ i. leb m (add24 address i))
  outside_steady m e f j same q = lt-leb m (add24 address (f + j)) (real_below s address f j same m e (leb-false m (add24 address f) q))

  forbidden_steady : (keys : List ℕ) (p : Processor) (kind : AccessKind)
      → Steady s address (λ i. forbidden kind p (add24 address i) (get_or keys (unit_of s (byte_address p address i)) 0))
  forbidden_steady keys p kind f j same q =
      let (high, permitted) = neither (low_protected kind p (add24 address f)) _ q in
      rw (low_later kind p (add24 address f) (add24 address (f + j)) (omega (arith, real_step s address f j same)) high, unit_same s address f j same p)
      permitted

module _ (s : Settings) (storage_length : ℕ) (keys : List ℕ) (p : Processor) (kind : AccessKind) (address count buffer_length : ℕ) where
  abbrev request : Request
  request = Access kind address count

  abbrev table : Verdict
  table = verdict s storage_length keys p request buffer_length

  -- the tests of byte i by lines 5 and 4
  abbrev test_5 : ℕ → Bool
  test_5 = byte_outside storage_length address

  abbrev test_4 : ℕ → Bool
  test_4 i = forbidden kind p (add24 address i) (get_or keys (unit_of s (byte_address p address i)) 0)

  abbrev lines_5_and_4 : Verdict
  lines_5_and_4 = first_of (first_byte Addressing test_5 count) (first_byte Protection test_4 count)

  -- lines 64 and 65; with line 66; and with line 5 at the first byte
  abbrev machine_lines : Verdict
  machine_lines = first_of (configuration s storage_length (length keys)) (own_record storage_length p)

  abbrev operand_line : Verdict
  operand_line = line Operand (operand_invalid request buffer_length)

  abbrev operand_lines : Verdict
  operand_lines = first_of machine_lines operand_line

  abbrev line_5_first : Verdict
  line_5_first = line Addressing (test_5 0)

  abbrev firsts : Verdict
  firsts = first_lines s storage_length (length keys) p kind address count buffer_length

  firsts_in_two : firsts ≡ first_of operand_lines line_5_first
  unfolding first_lines
  firsts_in_two = sym (first_assoc machine_lines operand_line line_5_first)

  -- the table of an access is lines 64, 65 and 66, and lines 5 and 4
  table_in_two : first_of operand_lines lines_5_and_4 ≡ table
  unfolding addressing protection first_line before_protection verdict
  table_in_two = simp (first_assoc, first_none, skipped)

  operands_known : operand_lines ≡ Clear → (0 < count) × (count ≤ 256) × (count ≤ buffer_length)
  operands_known clear = operands_passed kind address count buffer_length (line_clear _ _ (first_clear _ _ clear).1)

  -- line 5 may be tested at the first byte before: an access without bytes is refused before it
  first_byte_first : first_of firsts lines_5_and_4 ≡ table
  first_byte_first =
      rw (firsts_in_two, first_assoc operand_lines line_5_first lines_5_and_4)
      (left_out operand_lines line_5_first lines_5_and_4
      (λ clear. first_byte_before Addressing test_5 count (operands_known clear).0 (first_byte Protection test_4 count))
      ∙ table_in_two)

  -- where one of the first lines refuses, it is the verdict of the table
  pub refused_first : {v : Verdict} → v ≡ firsts → stops v ≡ true → v ≡ table
  refused_first {v} found stop = sym (first_of_stop v _ stop) ∙ rw (← found) at first_byte_first

  -- where none does, the other lines decide
  module _ (first : firsts ≡ Clear) where
    both_clear : (operand_lines ≡ Clear) × (line_5_first ≡ Clear)
    both_clear = first_clear operand_lines line_5_first (sym firsts_in_two ∙ first)

    operands : (0 < count) × (count ≤ 256) × (count ≤ buffer_length)
    operands = operands_known both_clear.0

    -- line 5 passes at the first byte
    first_inside : test_5 0 ≡ false
    first_inside = line_clear _ _ both_clear.1

    machine_clear : (configuration s storage_length (length keys) ≡ Clear) × (own_record storage_length p ≡ Clear)
    machine_clear = first_clear _ _ (first_clear _ _ both_clear.0).0

    steady_5 : Steady s address test_5
    steady_5 = outside_steady s address storage_length (configured s storage_length (length keys) machine_clear.0).whole

    -- the key of a byte that line 5 lets pass is there, of the first byte as well
    pub byte_keyed : (i : ℕ) → test_5 i ≡ false → unit_of s (byte_address p address i) < length keys
    byte_keyed i inside =
        let known = configured s storage_length (length keys) machine_clear.0 in
        let below = absolute_inside s storage_length (length keys) p machine_clear.0 machine_clear.1 (add24 address i) (leb-false _ _ inside) in
        rw known.keyed (unit_inside s storage_length (byte_address p address i) known.whole below)

    pub first_keyed : unit_of s (byte_address p address 0) < length keys
    first_keyed = byte_keyed 0 first_inside

    steady_4 : Steady s address test_4
    steady_4 = forbidden_steady s address keys p kind

    others : lines_5_and_4 ≡ table
    others = sym (first_of_clear _ _ first) ∙ first_byte_first

    -- the verdict of lines 5 and 4 on an access in one unit
    pub table_of_one : {here : Span} {v : Verdict} → count ≤ to_unit_end s address → here ≡ span_at s keys p address 0
        → v ≡ lines_of_one p kind here → v ≡ table
    unfolding lines_of_one
    table_of_one whole spanned tested =
        let positive = operands.0 in
        rw (tested, spanned)
        (rw (
          by_one s address Addressing test_5 steady_5 count positive whole,
          by_one s address Protection test_4 steady_4 count positive whole,
          first_inside,
          skipped Addressing (line Protection (test_4 0)),
        ) at others)

    -- and on one in two
    module _ {k : ℕ} (end : k ≡ to_unit_end s address) (more : k < count) where
      in_two : first_of (stop_at Addressing k (test_5 k)) (first_of (stop_at Protection 0 (test_4 0)) (stop_at Protection k (test_4 k))) ≡ table
      unfolding first_of
      in_two =
          let beyond : to_unit_end s address < count = rw end at more in
          let short = operands.1 in
          rw end
          (rw (
            by_two s address Addressing test_5 steady_5 count beyond short,
            by_two s address Protection test_4 steady_4 count beyond short,
            first_inside,
          ) at others)

      pub outside_second : {e : Refusal} → Err e ≡ stop_at Addressing k (test_5 k) → Err e ≡ table
      unfolding first_of
      outside_second found = rw (← found) at in_two

      pub table_of_two : {here there : Span} {v : Verdict} → Ok tt ≡ stop_at Addressing k (test_5 k) → here ≡ span_at s keys p address 0
          → there ≡ span_at s keys p address k → v ≡ lines_of_two p kind here k there → v ≡ table
      unfolding lines_of_two first_of
      table_of_two inside spanned_here spanned_there tested = rw (tested, spanned_here, spanned_there) (rw (← inside) at in_two)
