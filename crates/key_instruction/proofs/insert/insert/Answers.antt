-- `insert` is the step of its instruction: refused where a line refuses it, else what the operation gives and leaves. Assumes nothing.
use mathlib.Core.Path.{◌≡◌}
use Rattle.std.proofs.Common.{rules}
use Rattle.std.specs.Prelude.{Err}
use Rattle.key_instruction.proofs.Steps.{refused, inserted}
use Rattle.key_instruction.proofs.insert.insert.Goals as goal

pub returns-in_err-lines : goal.returns-in_err-lines
returns-in_err-lines c =
    let e : c.from_residual.result ≡ Err c.in_err-lines.field-0.0 = search rules in
    rw e (refused _ _ _ _ _ (rw c.of-sizes.ensures at c.in_err-lines.ensures))

pub returns : goal.returns
returns c =
    let clear = rw c.of-sizes.ensures at c.in_ok-lines.ensures in
    let works = rw c.of-sizes.ensures at c.block_of-block.ensures in
    rw (c.joined-key.ensures) (inserted _ _ _ _ _ clear works c.requires)
