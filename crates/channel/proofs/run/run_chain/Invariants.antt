-- `run_chain` does one CCW after the other. The invariant: the run from what they left is the same, and it goes on, or has ended later; so the
-- part of the grant that is left falls. Assumes nothing.
use Prim.Native.Nat.{◌+◌, ◌-◌}
use mathlib.Core.Path.{◌≡◌}
use mathlib.Core.Bool.{cond}
use lib.ListN.{length}
use Rattle.machine.specs.Channel.{channel}
use Rattle.channel.proofs.Replies.{Chain}
use Rattle.channel.proofs.run.run_chain.Given as goal

abbrev pub invariant-loop-more : goal.invariant-loop-more
invariant-loop-more l =
    (length l.storage ≡ length l.initial.storage) × (length l.keys ≡ length l.initial.keys) × (length l.room ≡ length l.initial.room)
    × Chain l.settings l.request l.from_device l.initial.progress.fetched
    (channel l.initial.storage l.initial.keys l.initial.room l.initial.progress)
    (channel l.storage l.keys l.room l.progress) l.more

abbrev pub decreases-loop-more : goal.decreases-loop-more
decreases-loop-more l =
    cond l.more (l.request.grant + 1 - l.progress.fetched) 0
