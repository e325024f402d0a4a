-- `record_range` writes the key of the one unit, or of each unit from the first to the last. The invariant: those passed are written, and no other.
-- Assumes nothing.
use Prim.Native.Nat.{◌+◌, ◌-◌, ◌≤◌}
use mathlib.Core.Path.{◌≡◌}
use Rattle.machine.specs.Protection.{recorded}
use Rattle.channel.proofs.Places.{marked}
use Rattle.channel.proofs.range.record_range.Given as goal

abbrev pub invariant-loop-done : goal.invariant-loop-done
invariant-loop-done l =
    (l.first + l.done ≤ l.last + 1) × (l.keys ≡ marked l.initial.keys (recorded l.kind) (λ k. l.first + k) l.done)

abbrev pub decreases-loop-done : goal.decreases-loop-done
decreases-loop-done l =
    l.last + 1 - (l.first + l.done)
