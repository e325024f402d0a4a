-- `fetch` is the rules' step: refused as decided, else its one span or its two are recorded and moved. Assumes nothing.
use borrow.Author.Rules.{rules}
use mathlib.Core.Path.{refl}
use Rattle.access.proofs.InUnits.{refused, admitted, first_fits, second_fits, one_completed, two_completed}
use Rattle.access.proofs.fetch.Goals as goal

pub returns-in_err-spans : goal.returns-in_err-spans
returns-in_err-spans c =
    let left = refused _ c.args.storage.now _ _ _ _ _ c.args.buffer.now c.in_err-spans.ensures in
    search rules

pub record_access-requires : goal.record_access-requires
record_access-requires c =
    let passes = admitted _ c.args.storage.now _ _ _ _ _ c.args.buffer.now c.in_ok-spans.ensures in
    (first_fits passes).1

pub move_run-requires : goal.move_run-requires
move_run-requires c =
    let passes = admitted _ c.args.storage.now _ _ _ _ _ c.args.buffer.now c.in_ok-spans.ensures in
    let fits = first_fits passes in search rules

pub record_access-requires-in-Some : goal.record_access-requires-in-Some
record_access-requires-in-Some c =
    let passes = admitted _ c.args.storage.now _ _ _ _ _ c.args.buffer.now c.in_ok-spans.ensures in
    let fits = second_fits passes c.in-Some.is in search rules

pub move_run-requires-in-Some : goal.move_run-requires-in-Some
move_run-requires-in-Some c =
    let passes = admitted _ c.args.storage.now _ _ _ _ _ c.args.buffer.now c.in_ok-spans.ensures in
    let fits = second_fits passes c.in-Some.is in search rules

pub returns-in_default : goal.returns-in_default
returns-in_default c =
    let passes = admitted _ c.args.storage.now _ _ _ _ _ c.args.buffer.now c.in_ok-spans.ensures in
    one_completed passes (refl, c.move_run.ensures, c.record_access.ensures) c.in_default.not-Some

pub returns-in-Some : goal.returns-in-Some
returns-in-Some c =
    let passes = admitted _ c.args.storage.now _ _ _ _ _ c.args.buffer.now c.in_ok-spans.ensures in
    two_completed passes (refl, c.move_run.ensures, c.record_access.ensures) c.in-Some.is
    (refl, c.move_run-in-Some.ensures, c.record_access-in-Some.ensures)
