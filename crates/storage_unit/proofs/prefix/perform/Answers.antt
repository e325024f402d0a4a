-- `perform` is the step of a prefix instruction: refused where a line refuses it, else what the instruction gives and leaves. Assumes nothing.
use mathlib.Core.Path.{◌≡◌, refl}
use Rattle.std.proofs.Common.{rules}
use Rattle.std.specs.Prelude.{Err}
use Rattle.machine.specs.Step.{completed}
use Rattle.machine.proofs.Requests.{refused_instruction, completed_instruction}
use Rattle.storage_unit.proofs.prefix.perform.Goals as goal

pub returns-in_err-lines : goal.returns-in_err-lines
returns-in_err-lines c =
    let e : c.from_residual.result ≡ Err c.in_err-lines.field-0.0 = search rules in
    rw e (refused_instruction _ _ _ _ _ tt (rw c.of.ensures at c.in_err-lines.ensures) 0 0 refl)

pub returns-in-SetPrefix : goal.returns-in-SetPrefix
unfolding completed
returns-in-SetPrefix c =
    rw (c.in-SetPrefix.is, c.prefix_of-p.ensures)
    (completed_instruction _ _ _ _ _ tt (rw (c.of.ensures, c.in-SetPrefix.is) at c.in_ok-lines.ensures) refl)

pub returns-in-StorePrefix : goal.returns-in-StorePrefix
unfolding completed
returns-in-StorePrefix c =
    rw (c.in-StorePrefix.is, c.prefix_of-word.ensures)
    (completed_instruction _ _ _ _ _ tt (rw (c.of.ensures, c.in-StorePrefix.is) at c.in_ok-lines.ensures) refl)
