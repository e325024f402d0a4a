-- `request` serves the processor by its own record and puts it back into the pair; a number that isn't 0 or 1 is refused. Assumes nothing.
use mathlib.Core.Path.{◌≡◌, refl, ap, ◌∙◌}
use Rattle.std.proofs.Common.{rules}
use Rattle.machine.specs.Answers.{answer_of}
use native.Mathlib.Omega.{arith}
use Rattle.storage_unit.proofs.Conditions.{both_of_served, both_without_record}
use Rattle.storage_unit.proofs.request.Goals as goal

pub returns-then-processor_number-lt2 : goal.returns-then-processor_number-lt2
returns-then-processor_number-lt2 c =
    let both =
    both_of_served _ _ _ _ _ _ _ _ _ _ _ _ _ _ (omega arith) (omega (arith, c.well_formed)) refl c.serve-served.ensures
    in
    record { condition_1 = both.0; condition_2 = both.1 }

pub returns : goal.returns
returns c =
    let e : c.map.result ≡ answer_of c.lines_without_record-refused.result 0 0 = search rules in
    let both = both_without_record _ _ _ _ _ _ _ _ (e ∙ ap (λ v. answer_of v 0 0) (rw c.of.ensures at c.lines_without_record-refused.ensures)) (omega arith)
    in
    record { condition_1 = both.0; condition_2 = both.1 }
