-- `range_forbidden` tests the one unit, or the units from the first to the last. The invariant: those passed forbid nothing.
-- Assumes nothing.
use Prim.Native.Nat.{◌+◌, ◌-◌, ◌≤◌}
use mathlib.Core.Path.{◌≡◌}
use mathlib.Core.Bool.{false}
use Rattle.channel.proofs.Ranges.{units_forbid}
use Rattle.channel.proofs.range.range_forbidden.Given as goal

abbrev pub invariant-loop-passed : goal.invariant-loop-passed
invariant-loop-passed l =
    (l.first + l.passed ≤ l.last + 1) × (units_forbid l.allowed l.keys l.first l.passed ≡ false)

abbrev pub decreases-loop-passed : goal.decreases-loop-passed
decreases-loop-passed l =
    l.last + 1 - (l.first + l.passed)
