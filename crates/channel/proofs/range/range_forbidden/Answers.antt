-- `range_forbidden` tests the one unit, or the units from the first to the last. The invariant: those passed forbid nothing.
-- Assumes nothing.
use mathlib.Core.Path.{refl}
use native.Mathlib.Omega.{arith}
use Rattle.machine.specs.Lists.{any_below}
use Rattle.channel.proofs.Ranges.{units_forbid, units_in_order, one_unit_forbids, unit_forbids, no_unit_forbids, permits_more}
use Rattle.channel.proofs.range.range_forbidden.Goals as goal

pub returns-then-first-last : goal.returns-then-first-last
returns-then-first-last c =
    one_unit_forbids c.args.settings c.args.kind _ _ (λ u. omega (arith, c.type_inv.keys u)) _
    c.permissions-allowed.ensures _ _ (omega arith) _ _ c.unit_of-first.ensures c.unit_of-last.ensures c.if-first-last.true
    c.permits.ensures

pub loop-passed-init : goal.loop-passed-init
unfolding units_forbid any_below
loop-passed-init c =
    (omega (arith, units_in_order c.args.settings _ _ _ _ (omega arith) c.unit_of-first.ensures c.unit_of-last.ensures), refl)

pub returns-then-not-permits : goal.returns-then-not-permits
returns-then-not-permits c =
    unit_forbids c.args.settings c.args.kind _ _ (λ u. omega (arith, c.type_inv.keys u)) _
    c.permissions-allowed.ensures _ _ (omega arith) _ _ c.unit_of-first.ensures c.unit_of-last.ensures _
    (omega arith) c.permits-in-loop-passed.ensures c.if-not-permits.true

pub loop-passed-preserved : goal.loop-passed-preserved
loop-passed-preserved c =
    (omega arith, permits_more _ _ _ _ c.loop-passed.invariant.1 c.permits-in-loop-passed.ensures c.if-not-permits.false)

pub returns : goal.returns
returns c =
    no_unit_forbids c.args.settings c.args.kind _ _ (λ u. omega (arith, c.type_inv.keys u)) _
    c.permissions-allowed.ensures _ _ (omega arith) _ _ c.unit_of-first.ensures c.unit_of-last.ensures _
    c.loop-passed.invariant.0 c.loop-passed-test.false c.loop-passed.invariant.1
