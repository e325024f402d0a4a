-- `aside` takes what is no request by its case. Assumes nothing.
use mathlib.Core.Path.{ap, ◌∙◌}
use Rattle.std.specs.Prelude.{Err}
use Rattle.player.proofs.Asides.{remark_left, bad_left, end_left}
use Rattle.player.proofs.aside.Goals as goal

pub returns-in-Ok-clause-outcome : goal.returns-in-Ok-clause-outcome
returns-in-Ok-clause-outcome c =
    remark_left c.args.ready.player c.args.bytes.now c.args.last _ c.args.found _ _ _ c.requires c.in-Ok.is c.size.ensures
    c.after_other.ensures

pub returns-in-Err-Bad-clause-outcome : goal.returns-in-Err-Bad-clause-outcome
returns-in-Err-Bad-clause-outcome c =
    let why = rw c.in-Err-Bad.is at c.in-Err-Bad.field-0-is in
    bad_left c.args.ready.player c.args.bytes.now c.args.last _ c.args.found _ _ (c.in-Err-Bad.is ∙ ap Err why) c.bad_record.ensures

pub returns-in-Err-End-clause-outcome : goal.returns-in-Err-End-clause-outcome
returns-in-Err-End-clause-outcome c =
    let why = rw c.in-Err-End.is at c.in-Err-End.field-0-is in
    end_left c.args.ready.player c.args.bytes.now c.args.last _ c.args.found _ (c.in-Err-End.is ∙ ap Err why) c.end_of_bytes.ensures
