-- The laws that answer the needs of `fetch` and `store`, from what `spans_of` decides. An access in one unit is one span after no bytes; one in two
-- units is a second span after the first.
-- Assumes nothing.
use Prim.Native.Nat.{ℕ, ◌+◌, ◌-◌, ◌<◌, ◌≤◌}
use mathlib.Core.Path.{◌≡◌, refl}
use mathlib.Core.Bool.{Bool, true, false}
use mathlib.Core.List.{List}
use native.Mathlib.Omega.{arith}
use native.Mathlib.Nat.{zero-add}
use borrow.Author.Tests.{leb-true, leb-false}
use lib.Dec.{leb}
use lib.ListN.{length}
use Rattle.std.specs.Prelude.{Some, None, Ok, Err}
use Rattle.machine.specs.declared.Settings.{Settings}
use Rattle.machine.specs.declared.Processor.{Processor}
use Rattle.machine.specs.declared.AccessKind.{AccessKind}
use Rattle.machine.specs.declared.Refusal.{Refusal}
use Rattle.machine.specs.declared.Request.TheVariants.{Access}
use Rattle.machine.specs.Answers.{Answer, Completed, Verdict, Clear}
use Rattle.machine.specs.Step.{rule_given}
use Rattle.machine.proofs.Requests.{refused_request}
use Rattle.access.specs.declared.span.Span.{Span}
use Rattle.access.specs.declared.span.Spans.{Spans}
use Rattle.access.specs.ByUnit.{to_unit_end, span_at, spans_of, passed}
use Rattle.access.specs.Moving.{SpanFits}
use Rattle.access.proofs.Spans.{OneUnit, to_unit_end_positive, first_span, second_span}
use Rattle.access.proofs.Decided.{decided}
use Rattle.access.proofs.Completed.{SpanCompleted, After, at_start, after_span, table, Performed, finished, known, span_fits}

-- a refusal that was decided is that of the verdict; where spans were, the verdict is clear
is_refused : {A : Type 0} (v : Verdict) (x : A) {e : Refusal} → Err e ≡ passed v x → Err e ≡ v
is_refused Clear x found = cc
is_refused (Err refusal) x found = cc

is_clear : {A : Type 0} (v : Verdict) (x : A) {y : A} → Ok y ≡ passed v x → (v ≡ Clear) × (y ≡ x)
is_clear Clear x found = (refl, cc)
is_clear (Err refusal) x found = cc

-- the spans of an access in one unit, and of an access in two
pub data Shape (s : Settings) (keys : List ℕ) (p : Processor) (address count : ℕ) (spans : Spans) : Type 0 where
  one : count ≤ to_unit_end s address → spans.first_count ≡ count → spans.second ≡ None → Shape s keys p address count spans
  two : to_unit_end s address < count → spans.first_count ≡ to_unit_end s address
      → spans.second ≡ Some (span_at s keys p address (to_unit_end s address)) → Shape s keys p address count spans

-- an access that the table lets pass, and its spans
pub record Admitted (s : Settings) (storage keys : List ℕ) (p : Processor) (kind : AccessKind) (address count : ℕ) (buffer : List ℕ) (spans : Spans)
    : Type 0 where
  pub clear : table s storage keys p kind address count buffer ≡ Clear
  pub spanned : spans.first ≡ span_at s keys p address 0
  pub shape : Shape s keys p address count spans

shape_of : (s : Settings) (keys : List ℕ) (p : Processor) (address count : ℕ) (whole : Bool) → leb count (to_unit_end s address) ≡ whole
    → (spans : Spans) → spans ≡ spans_of s keys p address count → (spans.first ≡ span_at s keys p address 0) × Shape s keys p address count spans
shape_of s keys p address count true test spans same = rw (same, test) (refl, one (leb-true _ _ test) refl refl)
shape_of s keys p address count false test spans same = rw (same, test) (refl, two (leb-false _ _ test) refl refl)

module _ (s : Settings) (storage keys : List ℕ) (p : Processor) (kind : AccessKind) (address count : ℕ) (buffer : List ℕ) where
  pub refused : {e : Refusal} → Err e ≡ decided s (length storage) keys p kind address count (length buffer)
      → Performed s storage keys p kind address count buffer (Err e) storage keys buffer
  refused found = refused_request s storage keys p (Access kind address count) buffer (is_refused _ _ found) 0 0 refl

  pub admitted : {spans : Spans} → Ok spans ≡ decided s (length storage) keys p kind address count (length buffer)
      → Admitted s storage keys p kind address count buffer spans
  admitted {spans} found =
      let (clear, same) = is_clear (table s storage keys p kind address count buffer) (spans_of s keys p address count) found in
      let (spanned, shaped) = shape_of s keys p address count (leb count (to_unit_end s address)) refl spans same in
      record { clear = clear; spanned = spanned; shape = shaped }

module _ {s : Settings} {storage keys : List ℕ} {p : Processor} {kind : AccessKind} {address count : ℕ} {buffer : List ℕ} {spans : Spans}
    (passes : Admitted s storage keys p kind address count buffer spans) where
  -- an answer and these lists are what the step leaves
  abbrev Left : Answer → List ℕ → List ℕ → List ℕ → Type 0
  Left = Performed s storage keys p kind address count buffer

  -- n bytes of a span fit, being those from byte f of the access on
  abbrev Fitting : Span → ℕ → ℕ → Type 0
  Fitting span f n = SpanFits span f n (length storage) (length keys) (length buffer)

  -- the rule of its first byte is that of its first span
  first_rule : spans.first.rule ≡ rule_given p (Access kind address count)
  first_rule = rw passes.spanned

  measured : Shape s keys p address count spans → (0 < spans.first_count) × (spans.first_count ≤ count) × (spans.first_count ≤ to_unit_end s address)
  measured (one whole same none) =
      let positive = (known s storage keys p kind address count buffer passes.clear).positive in
      (omega arith, omega arith, omega arith)
  measured (two more same some) =
      let positive = to_unit_end_positive s address in
      (omega arith, omega arith, omega arith)

  first_unit : OneUnit s address 0 spans.first_count
  first_unit = first_span s address spans.first_count (measured passes.shape).2

  -- the first span fits
  pub first_fits : Fitting spans.first 0 spans.first_count
  first_fits =
      let (positive, inside, in_unit) = measured passes.shape in
      span_fits s storage keys p kind address count buffer passes.clear 0 spans.first_count positive (omega arith) first_unit passes.spanned

  -- a second span is that of the bytes after those in the first unit, and fits
  record Second (there : Span) : Type 0 where
    more : spans.first_count < count
    one_unit : OneUnit s address spans.first_count (count - spans.first_count)
    spanned : there ≡ span_at s keys p address spans.first_count

  in_second : {there : Span} → spans.second ≡ Some there → Second there
  in_second {there} goes_on = go passes.shape
    where
      go : Shape s keys p address count spans → Second there
      go (one whole same none) = cc
      go (two more same some) =
          let short = (known s storage keys p kind address count buffer passes.clear).short in
          let there_spanned : there ≡ span_at s keys p address (to_unit_end s address) = cc in
          record {
            more = omega arith;
            one_unit = rw same (second_span s address (count - to_unit_end s address) (omega arith));
            spanned = rw same there_spanned;
          }

  pub second_fits : {there : Span} → spans.second ≡ Some there → Fitting there spans.first_count (count - spans.first_count)
  second_fits goes_on =
      let second = in_second goes_on in
      span_fits s storage keys p kind address count buffer passes.clear spans.first_count (count - spans.first_count) (omega (arith, second.more))
      (omega (arith, second.more)) second.one_unit second.spanned

  -- the bytes of the first span
  module _ {xs ks ys : List ℕ} (first_completed : SpanCompleted kind spans.first 0 spans.first_count storage keys buffer xs ks ys) where
    after_first : After s storage keys p kind address buffer spans.first_count xs ks ys
    after_first =
        let start = at_start s storage keys p kind address buffer in
        let positive = (measured passes.shape).0 in
        let first = after_span s storage keys p kind address buffer 0 spans.first_count positive first_unit passes.spanned start first_completed in
        rw (zero-add spans.first_count) at first

    -- are all, where there is no second
    pub one_completed : ((span : Span) → spans.second ≡ Some span → ⊥) → Left (Completed 0 spans.first.rule) xs ks ys
    one_completed none =
        let all = only none passes.shape in
        finished s storage keys p kind address count buffer refl (rw passes.clear refl) first_rule (rw all at after_first)
      where
        only : ((span : Span) → spans.second ≡ Some span → ⊥) → Shape s keys p address count spans → spans.first_count ≡ count
        only none (one whole same absent) = same
        only none (two more same some) = absurd (none _ some)

    -- or those before the second
    module _ {there : Span} (goes_on : spans.second ≡ Some there) where
      pub two_completed : {storage' keys' buffer' : List ℕ}
          → SpanCompleted kind there spans.first_count (count - spans.first_count) xs ks ys storage' keys' buffer'
          → Left (Completed 0 spans.first.rule) storage' keys' buffer'
      two_completed second_completed =
          let second = in_second goes_on in
          let all : spans.first_count + (count - spans.first_count) ≡ count = omega (arith, second.more) in
          let after = after_span s storage keys p kind address buffer spans.first_count (count - spans.first_count) (omega (arith, second.more))
          second.one_unit second.spanned after_first second_completed in
          finished s storage keys p kind address count buffer refl (rw passes.clear refl) first_rule (rw all at after)
