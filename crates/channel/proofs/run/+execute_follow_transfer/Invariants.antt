-- The cycle of calls {execute, follow_transfer}: the measure of each is the part of the grant that is left, from which `follow_transfer` has still to
-- take the transfer in channel. A chain that leaves the request under way has counted the transfer and a CCW before it, so the measure falls at each
-- call. Assumes nothing.
use Rattle.std.proofs.Common.{◌+◌, ◌-◌}
use Rattle.channel.proofs.run.+execute_follow_transfer.Given as goal

abbrev pub decreases-execute : goal.decreases-execute
decreases-execute l = l.request.grant - l.start.fetched

abbrev pub decreases-follow_transfer : goal.decreases-follow_transfer
decreases-follow_transfer l = l.request.grant + 1 - l.named.fetched
