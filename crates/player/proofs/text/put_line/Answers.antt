-- Three numbers with their blanks and the line end, one behind the other. Assumes nothing.
use native.Mathlib.Omega.{arith}
use mathlib.Core.Path.{◌∙◌}
use Rattle.std.proofs.Common.{rules}
use Rattle.player.proofs.Lines.{line_written}
use Rattle.player.proofs.text.put_line.Goals as goal

pub returns : goal.returns
returns c =
    let w = line_written c.args.room.now _ _ _ _ _ _ _ _ _ _ _ _ c.args.ordinal c.from.result c.from-2.result (omega (arith, c.told-room))
    (c.put_number.ensures.written, c.put_number.ensures.room, c.put_number.ensures.short)
    (c.put.ensures.written, c.put.ensures.room)
    (c.put_number-2.ensures.written, c.put_number-2.ensures.room, c.put_number-2.ensures.short)
    (c.put-2.ensures.written, c.put-2.ensures.room)
    (c.put_number-3.ensures.written, c.put_number-3.ensures.room, c.put_number-3.ensures.short)
    (c.put-3.ensures.written, c.put-3.ensures.room)
    in
    let same = c.put-3.ensures.same_room ∙ c.put_number-3.ensures.same_room ∙ c.put-2.ensures.same_room ∙ c.put_number-2.ensures.same_room
    ∙ c.put.ensures.same_room ∙ c.put_number.ensures.same_room in
    rw (← c.from.ensures, ← c.from-2.ensures) (w.0, (search (rules, w.1, same)))
