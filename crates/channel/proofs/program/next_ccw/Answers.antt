-- `next_ccw` tests the lines in their order; the CCW that it fetches lies in one unit, whose key it reads and writes once. Assumes nothing.
use Rattle.channel.proofs.Words.{fetched_counted}
use Rattle.channel.proofs.Requests.{ccw_inside}
use Rattle.channel.proofs.Ccws.{used_up, misplaced, forbidden, fetched}
use Rattle.channel.proofs.program.next_ccw.Goals as goal

pub returns-then-request-progress : goal.returns-then-request-progress
returns-then-request-progress c =
    used_up _ _ _ _ _ _ _ c.requires c.answered.ensures c.if-request-progress.true

pub returns-then-at-storage : goal.returns-then-at-storage
returns-then-at-storage c =
    misplaced _ _ _ _ _ _ _ c.requires c.if-request-progress.false c.answered-then-at-storage.ensures c.if-at-storage.true

pub returns-then-not-permitted : goal.returns-then-not-permitted
returns-then-not-permitted c =
    forbidden _ _ _ _ _ _ _ c.requires c.if-request-progress.false c.if-at-storage.false c.unit_of-unit.ensures c.answered-then-not-permitted.ensures
    c.permitted.ensures c.if-not-permitted.true

pub obey-requires-clause-ccw_in_bounds : goal.obey-requires-clause-ccw_in_bounds
obey-requires-clause-ccw_in_bounds c =
    let asked = fetched_counted _ _ c.ccw_at.ensures c.operation_of-operation.ensures in
    (rw c.counted-fetched.ensures (ccw_inside _ _ c.if-at-storage.false), asked)

pub returns : goal.returns
returns c =
    fetched _ _ _ _ _ _ _ c.requires c.if-request-progress.false c.if-at-storage.false c.unit_of-unit.ensures c.permitted.ensures
    c.if-not-permitted.false c.recorded.ensures c.ccw_at.ensures.0 c.operation_of-operation.ensures c.counted-fetched.ensures
    c.obey.ensures
