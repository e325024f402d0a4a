-- The words, the number and the line end, one behind the other. Assumes nothing.
use native.Mathlib.Omega.{arith}
use mathlib.Core.Path.{◌∙◌}
use Rattle.std.proofs.Common.{rules}
use Rattle.player.proofs.Lines.{bad_written}
use Rattle.player.proofs.text.put_bad.Goals as goal

pub returns : goal.returns
returns c =
    let w = bad_written c.args.room.now _ _ _ _ _ _ c.args.ordinal (omega (arith, c.told-room)) (c.put.ensures.written, c.put.ensures.room)
    (c.put_number.ensures.written, c.put_number.ensures.room, c.put_number.ensures.short)
    (c.put-2.ensures.written, c.put-2.ensures.room)
    in
    let same = c.put-2.ensures.same_room ∙ c.put_number.ensures.same_room ∙ c.put.ensures.same_room in
    (w.0, (search (rules, w.1, same)))
