-- `put_progress` writes nothing where the bytes or the status are wrong, else each field. Assumes nothing.
use borrow.Author.Tests.{eq-eqb, lt-ltb}
use Rattle.host_channel.proofs.ProgressBytes.{all_put}
use Rattle.host_channel.proofs.progress.put_progress.Goals as goal

pub returns : goal.returns
returns c =
    rw (eq-eqb _ _ c.if-bytes-ne-PROGRESS_LENGTH.false, lt-ltb _ _ c.if-status-ge256.false)
    (all_put c.args.state c.args.count _ c.from-control.result _ _ _ _ _ _ _ c.if-bytes-ne-PROGRESS_LENGTH.false c.from-control.ensures.0
    (rw c.from.ensures at c.put.ensures) (rw c.from-2.ensures at c.put-2.ensures) (rw c.from-3.ensures at c.put-3.ensures)
    c.put-4.ensures c.put-5.ensures c.put-6.ensures)
