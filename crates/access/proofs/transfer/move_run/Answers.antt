-- `move_run` holds its bytes, and then writes them one after the other. Assumes nothing.
use mathlib.Core.Path.{refl}
use native.Mathlib.Omega.{arith}
use native.Mathlib.Nat.{le_antisymm}
use Rattle.machine.specs.Lists.{written}
use Rattle.access.specs.Moving.{moved}
use Rattle.machine.proofs.Written.{one_more, held_then_written}
use Rattle.access.proofs.transfer.move_run.Goals as goal

pub loop-i-init : goal.loop-i-init
unfolding written
loop-i-init c = refl

pub loop-i-preserved : goal.loop-i-preserved
loop-i-preserved c = rw c.offset.ensures.1 (one_more _ _ _ _ _ c.loop-i.invariant)

pub loop-j-init : goal.loop-j-init
unfolding written
loop-j-init c = refl

pub loop-j-preserved : goal.loop-j-preserved
loop-j-preserved c = rw c.offset-in-loop-j.ensures.1 (one_more _ _ _ _ _ c.loop-j.invariant)

pub returns : goal.returns
unfolding moved
returns c =
    held_then_written _ _ _ _ _ _ _ _ _
    c.loop-i.invariant (le_antisymm c.loop-i.auto.i-end c.loop-i-test.false)
    c.loop-j.invariant (le_antisymm c.loop-j.auto.j-end c.loop-j-test.false)
    (omega arith)
