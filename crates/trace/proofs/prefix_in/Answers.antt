-- The operation is told by its number. Assumes nothing.
use mathlib.Core.Path.{refl, sym, ◌∙◌}
use Rattle.trace.proofs.Bodies.{prefix_case}
use Rattle.trace.proofs.prefix_in.Goals as goal

pub returns-in-0 : goal.returns-in-0
returns-in-0 c = rw c.word.ensures (prefix_case _ 0 _ refl (sym c.byte.ensures.0 ∙ c.in-0.is) c.if-body-ne6.false)

pub returns-in-1 : goal.returns-in-1
returns-in-1 c = prefix_case _ 1 _ refl (sym c.byte.ensures.0 ∙ c.in-1.is) c.if-body-ne6.false
