-- `obey` is the rule, by the operation. Assumes nothing.
use Rattle.channel.proofs.Ccws.{control_transferred, bad}
use Rattle.channel.proofs.program.obey.Goals as goal

pub returns-in-TransferInChannel : goal.returns-in-TransferInChannel
returns-in-TransferInChannel c = control_transferred _ _ _ _ _ _ _ _ c.in-TransferInChannel.is c.transfer_in_channel.ensures

pub returns-in-Invalid : goal.returns-in-Invalid
returns-in-Invalid c = bad _ _ _ _ _ _ _ c.in-Invalid.is c.answered.ensures
