-- `transfer_data` tests the lines in their order, and does what the rules say where none holds. Assumes nothing.
use Rattle.channel.proofs.Ccws.{data_outside_lem, device_short_lem, data_forbidden_lem, given, taken}
use Rattle.channel.proofs.transfer.transfer_data.Goals as goal

pub returns-then-storage-at : goal.returns-then-storage-at
returns-then-storage-at c = data_outside_lem _ _ _ _ _ _ _ _ _ _ _ c.answered.ensures c.if-storage-at.true

pub returns-then-device_left-n : goal.returns-then-device_left-n
returns-then-device_left-n c =
    device_short_lem _ _ _ _ _ _ _ _ _ _ _ c.if-storage-at.false c.device_left.ensures c.answered-then-device_left-n.ensures c.if-device_left-n.true

pub returns-then-range_forbidden : goal.returns-then-range_forbidden
returns-then-range_forbidden c =
    data_forbidden_lem _ _ _ _ _ _ _ _ _ _ _ c.if-storage-at.false c.device_left.ensures c.if-device_left-n.false c.range_forbidden.ensures
    c.answered-then-range_forbidden.ensures c.if-range_forbidden.true

pub returns-in-Fetch : goal.returns-in-Fetch
returns-in-Fetch c =
    given _ _ _ _ _ _ _ _ _ _ _ c.if-storage-at.false c.device_left.ensures c.if-device_left-n.false c.range_forbidden.ensures
    c.if-range_forbidden.false c.in-Fetch.is c.give_data.ensures

pub returns-in-Store : goal.returns-in-Store
returns-in-Store c =
    taken _ _ _ _ _ _ _ _ _ _ _ c.if-storage-at.false c.device_left.ensures c.if-device_left-n.false c.range_forbidden.ensures
    c.if-range_forbidden.false c.in-Store.is c.take_data.ensures
