-- `storage_unit_request` is the call: by the settings, then by whether the request has a record. Assumes nothing.
use Rattle.std.proofs.Common.{sym, ◌∙◌}
use borrow.Author.Tests.{lt-ltb, eq-eqb}
use Rattle.boundary.specs.Boundary.{called_with, called}
use Rattle.boundary.proofs.Settings.{settings_fit, settings_unfit}
use Rattle.host.proofs.Calls.{no_processor, no_records}
use Rattle.host.proofs.storage_unit_request.Goals as goal

pub returns-in-Err-clause-condition_2 : goal.returns-in-Err-clause-condition_2
unfolding called
returns-in-Err-clause-condition_2 c =
    let wrong = settings_unfit c.args.settings _ (sym c.settings_in.ensures ∙ c.in-Err.is) in
    rw (c.pack.ensures.0, wrong.0, wrong.1)

pub returns-then-processor_number-ge2-clause-condition_2 : goal.returns-then-processor_number-ge2-clause-condition_2
returns-then-processor_number-ge2-clause-condition_2 c =
    let fit = settings_fit c.args.settings _ (sym c.settings_in.ensures ∙ c.in-Ok.is) in
    let a = c.args in
    no_processor a.settings a.storage.now a.keys.now a.records.now a.processor_number a.operation a.first a.second a.buffer.now fit.0
    (rw (c.of-sizes.ensures, fit.1) at c.refused.ensures) c.if-processor_number-ge2.true

pub returns-in-Some-clause-condition_2 : goal.returns-in-Some-clause-condition_2
unfolding called called_with
returns-in-Some-clause-condition_2 c =
    let fit = settings_fit c.args.settings _ (sym c.settings_in.ensures ∙ c.in-Ok.is) in
    let whole = c.in-Some.ensures.cases in
    rw (lt-ltb _ _ fit.0, ← fit.1, eq-eqb _ _ whole.long, lt-ltb _ _ c.if-processor_number-ge2.false, ← whole.same) c.serve_bytes.ensures.1

pub returns-in-None-clause-condition_2 : goal.returns-in-None-clause-condition_2
returns-in-None-clause-condition_2 c =
    let fit = settings_fit c.args.settings _ (sym c.settings_in.ensures ∙ c.in-Ok.is) in
    let a = c.args in
    no_records a.settings a.storage.now a.keys.now a.records.now a.processor_number a.operation a.first a.second a.buffer.now fit.0
    (rw (c.of-sizes.ensures, fit.1) at c.refused-in-None.ensures) c.in-None.ensures.cases
