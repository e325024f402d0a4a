-- `spans_of` gives the refusal of the table, or the spans where there is none. Assumes nothing.
use mathlib.Core.Path.{sym}
use borrow.Author.Rules.{rules}
use Rattle.access.proofs.Checks.{first_keyed}
use Rattle.access.proofs.Decided.{first_refused, has_begun, one_refused, one_passed, outside_refused, second_keyed, two_refused, two_passed}
use Rattle.access.proofs.check.spans_of.Goals as goal

pub returns-in_err-first_lines : goal.returns-in_err-first_lines
returns-in_err-first_lines c =
    let e = first_refused _ _ _ _ _ _ _ _ c.in_err-first_lines.ensures in
    search rules

pub span_at-first-requires : goal.span_at-first-requires
span_at-first-requires c = first_keyed _ _ _ _ _ _ _ _ (sym c.in_ok-first_lines.ensures)

pub returns-in_err-lines_of_one : goal.returns-in_err-lines_of_one
returns-in_err-lines_of_one c =
    let begun = has_begun _ _ _ _ _ _ _ _ c.in_ok-first_lines.ensures c.span_at-first.ensures c.bytes_to_unit_end-k.ensures in
    let tested = rw (c.of.ensures.0, c.of.ensures.1) at c.in_err-lines_of_one.ensures in
    let e = one_refused begun c.if-count-k.true tested in
    search rules

pub returns-then-count-k : goal.returns-then-count-k
returns-then-count-k c =
    let begun = has_begun _ _ _ _ _ _ _ _ c.in_ok-first_lines.ensures c.span_at-first.ensures c.bytes_to_unit_end-k.ensures in
    let tested = rw (c.of.ensures.0, c.of.ensures.1) at c.in_ok-lines_of_one.ensures in
    one_passed begun c.if-count-k.true tested

pub returns-in_err-refuse_at : goal.returns-in_err-refuse_at
returns-in_err-refuse_at c =
    let begun = has_begun _ _ _ _ _ _ _ _ c.in_ok-first_lines.ensures c.span_at-first.ensures c.bytes_to_unit_end-k.ensures in
    let found = rw c.outside.ensures at c.in_err-refuse_at.ensures in
    let e = outside_refused begun c.if-count-k.false found in
    search rules

pub span_at-second-requires : goal.span_at-second-requires
span_at-second-requires c =
    let begun = has_begun _ _ _ _ _ _ _ _ c.in_ok-first_lines.ensures c.span_at-first.ensures c.bytes_to_unit_end-k.ensures in
    let inside = rw c.outside.ensures at c.in_ok-refuse_at.ensures in
    second_keyed begun c.if-count-k.false inside

pub returns-in_err-lines_of_two : goal.returns-in_err-lines_of_two
returns-in_err-lines_of_two c =
    let begun = has_begun _ _ _ _ _ _ _ _ c.in_ok-first_lines.ensures c.span_at-first.ensures c.bytes_to_unit_end-k.ensures in
    let inside = rw c.outside.ensures at c.in_ok-refuse_at.ensures in
    let tested = rw (c.of-2.ensures.0, c.of-2.ensures.1) at c.in_err-lines_of_two.ensures in
    let e = two_refused begun c.if-count-k.false inside c.span_at-second.ensures tested in
    search rules

pub returns : goal.returns
returns c =
    let begun = has_begun _ _ _ _ _ _ _ _ c.in_ok-first_lines.ensures c.span_at-first.ensures c.bytes_to_unit_end-k.ensures in
    let inside = rw c.outside.ensures at c.in_ok-refuse_at.ensures in
    let tested = rw (c.of-2.ensures.0, c.of-2.ensures.1) at c.in_ok-lines_of_two.ensures in
    two_passed begun c.if-count-k.false inside c.span_at-second.ensures tested
