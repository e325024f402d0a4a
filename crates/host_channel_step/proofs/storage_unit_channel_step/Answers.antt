-- `storage_unit_channel_step` by its tests, and then what the step leaves. Assumes nothing.
use mathlib.Core.Path.{sym, ◌∙◌}
use borrow.Author.Tests.{ltb-false}
use Rattle.machine.specs.declared.channel.ChannelRequest.{ChannelRequest}
use Rattle.boundary.proofs.Settings.{settings_fit, settings_unfit}
use Rattle.host_channel.specs.ChannelCalls.{channel_step_called}
use Rattle.host_channel.proofs.ProgressBytes.{put_left}
use Rattle.host_channel.proofs.Calls.{progress_found, progress_wrong, valid_length, settings_refused, progress_refused, step_called}
use Rattle.host_channel_step.proofs.storage_unit_channel_step.Goals as goal

pub returns-in_default : goal.returns-in_default
unfolding channel_step_called
returns-in_default c =
    settings_refused _ _ _ _ _ _ _ _ (ltb-false _ _ (settings_unfit _ _ (sym c.settings_in.ensures ∙ c.in_default.is)).0) c.settings_refused.ensures

pub returns-in_default-progress_of : goal.returns-in_default-progress_of
unfolding channel_step_called
returns-in_default-progress_of c =
    let (few, set) = settings_fit _ _ (sym c.settings_in.ensures ∙ c.in-Ok.is) in
    let request : ChannelRequest = record { key = c.args.key; first = c.args.first; grant = c.args.grant } in
    progress_refused _ _ _ _ _ c.args.progress.now _ _ _ few
    (progress_wrong request _ (sym c.in_default-progress_of.is ∙ c.progress_of.ensures)) set (rw c.of.ensures at c.progress_refused.ensures)

pub returns : goal.returns
returns c =
    let (few, set) = settings_fit _ _ (sym c.settings_in.ensures ∙ c.in-Ok.is) in
    let request : ChannelRequest = record { key = c.args.key; first = c.args.first; grant = c.args.grant } in
    let read = sym c.in-Some.is ∙ c.progress_of.ensures in
    step_called c.args.settings c.args.storage.now c.args.keys.now _ c.args.from_device.now
    c.args.room.now c.args.progress.now few _ set _ _ _ _ _ _ _
    read c.channel_step-after.ensures.condition_2
    (put_left c.channel_step-after.result.standing _ _ _ _ (valid_length c.args.progress.now (progress_found request _ read).0) c.leave_progress.ensures)
    c.standing_result.ensures
