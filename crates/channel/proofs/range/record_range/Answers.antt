-- `record_range` writes the key of the one unit, or of each unit from the first to the last. The invariant: those passed are written, and no other.
-- Assumes nothing.
use mathlib.Core.Path.{refl}
use native.Mathlib.Omega.{arith}
use Rattle.machine.specs.Lists.{written}
use Rattle.channel.proofs.Ranges.{units_in_order, one_unit_recorded, range_recorded_lem, recorded_more}
use Rattle.channel.proofs.range.record_range.Goals as goal

pub returns-then-first-last : goal.returns-then-first-last
returns-then-first-last c =
    one_unit_recorded c.args.settings c.args.kind _ _ _ _ _ (omega arith) c.unit_of-first.ensures
    c.unit_of-last.ensures c.if-first-last.true c.recorded.ensures

pub loop-done-init : goal.loop-done-init
unfolding written
loop-done-init c =
    (omega (arith, units_in_order c.args.settings _ _ _ _ (omega arith) c.unit_of-first.ensures c.unit_of-last.ensures), refl)

pub loop-done-preserved : goal.loop-done-preserved
loop-done-preserved c =
    (omega arith, recorded_more c.args.kind _ _ _ _ c.loop-done.invariant.1 c.recorded-in-loop-done.ensures)

pub returns : goal.returns
returns c =
    range_recorded_lem c.args.settings c.args.kind _ _ _ _ _ _ _ (omega arith) c.unit_of-first.ensures
    c.unit_of-last.ensures c.loop-done.invariant.0 c.loop-done-test.false c.loop-done.invariant.1
