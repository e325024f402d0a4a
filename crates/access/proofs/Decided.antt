-- What `spans_of` decides, from what the functions that it calls ensure: the verdict of the table, and where that is clear the spans.
-- Assumes nothing.
use Prim.Native.Nat.{ℕ, ◌<◌, ◌≤◌}
use mathlib.Core.Path.{◌≡◌, refl, sym}
use mathlib.Core.Bool.{Bool, true, false}
use mathlib.Core.List.{List}
use borrow.Author.Tests.{le-leb, lt-leb}
use lib.ListN.{length}
use Rattle.std.specs.Prelude.{Some, None, Ok, Err, Result}
use Rattle.machine.specs.declared.Settings.{Settings}
use Rattle.machine.specs.declared.Processor.{Processor}
use Rattle.machine.specs.declared.AccessKind.{AccessKind}
use Rattle.machine.specs.declared.Reason.{Reason}
use Rattle.machine.specs.declared.Reason.TheVariants.{Addressing}
use Rattle.machine.specs.declared.Refusal.{Refusal}
use Rattle.machine.specs.declared.Request.TheVariants.{Access}
use Rattle.machine.specs.Answers.{Verdict, Clear}
use Rattle.machine.specs.Numbers.{unit_of}
use Rattle.machine.specs.Prefixing.{byte_address}
use Rattle.machine.specs.Table.{verdict}
use Rattle.machine.proofs.Verdicts.{not_clear}
use Rattle.access.specs.declared.span.Span.{Span}
use Rattle.access.specs.declared.span.Spans.{Spans}
use Rattle.access.specs.ByUnit.{to_unit_end, span_at, byte_outside, first_lines, stop_at, lines_of_one, lines_of_two, spans_of, passed}
use Rattle.access.proofs.Checks.{refused_first, byte_keyed, table_of_one, outside_second, table_of_two}

-- a refusal of the verdict, and a value where the verdict is clear
pub refused : {A : Type 0} {v : Verdict} (x : A) {e : Refusal} → Err e ≡ v → Err e ≡ passed v x
refused x found = rw (← found)

pub clears : {A : Type 0} {v : Verdict} {x y : A} → Ok tt ≡ v → y ≡ x → Ok y ≡ passed v x
clears found same = rw (← found, same)

stop_clear : (r : Reason) (k : ℕ) (b : Bool) → Ok tt ≡ stop_at r k b → b ≡ false
stop_clear r k true e = absurd (not_clear refl (sym e))
stop_clear r k false e = refl

-- the first lines of an access are clear, and its first unit is known and measured
pub record Begun (s : Settings) (storage_length : ℕ) (keys : List ℕ) (p : Processor) (kind : AccessKind) (address count buffer_length : ℕ) (here : Span)
    (k : ℕ) : Type 0 where
  pub first : first_lines s storage_length (length keys) p kind address count buffer_length ≡ Clear
  pub spanned : here ≡ span_at s keys p address 0
  pub measured : k ≡ to_unit_end s address

-- what is decided of an access: the spans, or the refusal of the table
abbrev pub decided : Settings → ℕ → List ℕ → Processor → AccessKind → ℕ → ℕ → ℕ → Result Spans Refusal
decided s storage_length keys p kind address count buffer_length =
    passed (verdict s storage_length keys p (Access kind address count) buffer_length) (spans_of s keys p address count)

module _ (s : Settings) (storage_length : ℕ) (keys : List ℕ) (p : Processor) (kind : AccessKind) (address count buffer_length : ℕ) where
  pub first_refused : {e : Refusal} → Err e ≡ first_lines s storage_length (length keys) p kind address count buffer_length
      → Err e ≡ decided s storage_length keys p kind address count buffer_length
  first_refused found = refused _ (refused_first s storage_length keys p kind address count buffer_length found refl)

  pub has_begun : Ok tt ≡ first_lines s storage_length (length keys) p kind address count buffer_length
      → {here : Span} → here ≡ span_at s keys p address 0 → {k : ℕ} → k ≡ to_unit_end s address
      → Begun s storage_length keys p kind address count buffer_length here k
  has_begun found spanned measured = record { first = sym found; spanned = spanned; measured = measured }

module _ {s : Settings} {storage_length : ℕ} {keys : List ℕ} {p : Processor} {kind : AccessKind} {address count buffer_length : ℕ} {here : Span} {k : ℕ}
    (begun : Begun s storage_length keys p kind address count buffer_length here k) where
  -- an access in one unit
  module _ (whole : count ≤ k) where
    one_table : {v : Verdict} → v ≡ lines_of_one p kind here → v ≡ verdict s storage_length keys p (Access kind address count) buffer_length
    one_table =
        table_of_one s storage_length keys p kind address count buffer_length begun.first (rw begun.measured at whole) begun.spanned

    pub one_refused : {e : Refusal} → Err e ≡ lines_of_one p kind here → Err e ≡ decided s storage_length keys p kind address count buffer_length
    one_refused tested = refused _ (one_table tested)

    pub one_passed : Ok tt ≡ lines_of_one p kind here
        → Ok (record { first = here; first_count = count; second = None }) ≡ decided s storage_length keys p kind address count buffer_length
    one_passed tested =
        let short : count ≤ to_unit_end s address = rw begun.measured at whole in
        clears (one_table tested) (rw (le-leb _ _ short, begun.spanned))

  -- an access in two, byte k being the first in the second unit
  module _ (more : k < count) where
    pub outside_refused : {e : Refusal} → Err e ≡ stop_at Addressing k (byte_outside storage_length address k)
        → Err e ≡ decided s storage_length keys p kind address count buffer_length
    outside_refused found =
        refused _ (outside_second s storage_length keys p kind address count buffer_length begun.first begun.measured more found)

    module _ (inside : Ok tt ≡ stop_at Addressing k (byte_outside storage_length address k)) where
      pub second_keyed : unit_of s (byte_address p address k) < length keys
      second_keyed = byte_keyed s storage_length keys p kind address count buffer_length begun.first k (stop_clear Addressing k _ inside)

      module _ {there : Span} (spanned_there : there ≡ span_at s keys p address k) where
        two_table : {v : Verdict} → v ≡ lines_of_two p kind here k there → v ≡ verdict s storage_length keys p (Access kind address count) buffer_length
        two_table =
            table_of_two s storage_length keys p kind address count buffer_length begun.first begun.measured more inside begun.spanned spanned_there

        pub two_refused : {e : Refusal} → Err e ≡ lines_of_two p kind here k there
            → Err e ≡ decided s storage_length keys p kind address count buffer_length
        two_refused tested = refused _ (two_table tested)

        pub two_passed : Ok tt ≡ lines_of_two p kind here k there
            → Ok (record { first = here; first_count = k; second = Some there }) ≡ decided s storage_length keys p kind address count buffer_length
        two_passed tested =
            let long : to_unit_end s address < count = rw begun.measured at more in
            clears (two_table tested) (rw (lt-leb _ _ long, begun.spanned, spanned_there, begun.measured))
