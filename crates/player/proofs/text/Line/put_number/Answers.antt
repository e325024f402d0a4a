-- The digits that `io::decimal` makes are those of the definition. Assumes nothing.
use native.Mathlib.Omega.{arith}
use Rattle.player.proofs.Decimal.{number_text}
use Rattle.player.proofs.text.Line.put_number.Goals as goal

pub returns-clause-written : goal.returns-clause-written
returns-clause-written c =
    let t = number_text c.args.n _ _ (omega arith) c.decimal-count.ensures.len c.decimal-count.ensures.digits in
    rw (← t.0) c.put.ensures.written

pub returns-clause-room : goal.returns-clause-room
returns-clause-room c =
    let t = number_text c.args.n _ _ (omega arith) c.decimal-count.ensures.len c.decimal-count.ensures.digits in
    rw (← t.0) c.put.ensures.room

pub returns-clause-short : goal.returns-clause-short
returns-clause-short c = (number_text c.args.n _ _ (omega arith) c.decimal-count.ensures.len c.decimal-count.ensures.digits).1
