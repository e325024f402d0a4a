-- `storage_unit_channel` by its tests, and then what the whole request leaves. Assumes nothing.
use mathlib.Core.Path.{sym, ◌∙◌}
use borrow.Author.Tests.{ne_eqb, ltb-false}
use Rattle.machine.specs.Channel.{Answered}
use Rattle.boundary.proofs.Settings.{settings_fit, settings_unfit}
use Rattle.host_channel.specs.ChannelCalls.{channel_called}
use Rattle.host_channel.proofs.ProgressBytes.{put_left}
use Rattle.host_channel.proofs.Calls.{settings_refused, progress_refused, request_called}
use Rattle.host_channel.proofs.storage_unit_channel.Goals as goal

pub returns-in_default : goal.returns-in_default
unfolding channel_called
returns-in_default c =
    settings_refused _ _ _ _ _ _ _ _ (ltb-false _ _ (settings_unfit _ _ (sym c.settings_in.ensures ∙ c.in_default.is)).0) c.settings_refused.ensures

pub returns-then-progress-ne-PROGRESS_LENGTH : goal.returns-then-progress-ne-PROGRESS_LENGTH
unfolding channel_called
returns-then-progress-ne-PROGRESS_LENGTH c =
    let (few, set) = settings_fit _ _ (sym c.settings_in.ensures ∙ c.in-Ok.is) in
    progress_refused _ _ _ _ _ _ _ _ _ few (ne_eqb _ _ c.if-progress-ne-PROGRESS_LENGTH.true) set (rw c.of.ensures at c.progress_refused.ensures)

pub returns : goal.returns
returns c =
    let (few, set) = settings_fit _ _ (sym c.settings_in.ensures ∙ c.in-Ok.is) in
    request_called c.args.settings c.args.storage.now c.args.keys.now _ c.args.from_device.now
    c.args.room.now c.args.progress.now few _ set _ _ _ _ _
    c.channel_request-reply.result c.if-progress-ne-PROGRESS_LENGTH.false c.channel_request-reply.ensures.condition_2
    (put_left (Answered c.channel_request-reply.result.answer) _ _ _ _ c.if-progress-ne-PROGRESS_LENGTH.false c.leave_progress.ensures) c.result_of.ensures
