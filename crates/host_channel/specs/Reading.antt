-- The numbers of a progress and its bytes as the code reads them: a number or bytes that stand for nothing are told apart.
use Rattle.std.specs.Prelude.{ℕ, leb, eqb, cond, List, Result, Ok, Err, Option, Some, None}
use Rattle.machine.specs.declared.channel.ChannelRequest.{ChannelRequest}
use Rattle.machine.specs.declared.channel.ChannelProgress.{ChannelProgress}
use Rattle.machine.specs.Channel.{answer_in}
use Rattle.host_channel.specs.declared.numbers.Control.{Control}
use Rattle.host_channel.specs.declared.numbers.Status.{Status}
use Rattle.host_channel.specs.declared.numbers.Status.TheVariants.{NotBegun, Begun}
use Rattle.host_channel.specs.declared.numbers.NoMeaning.{NoMeaning}
use Rattle.host_channel.specs.ChannelCalls.{chaining_number, chaining_of, status_of, status_valid, standing_of, progress_valid, progress_in}

abbrev pub control_number : Control → ℕ
control_number control = chaining_number control.0

abbrev pub control_read : ℕ → Result Control NoMeaning
control_read n = cond (leb n 3) (Ok (record { 0 = chaining_of n })) (Err (record { 0 = n }))

abbrev pub status_number : Status → ℕ
status_number NotBegun = 0
status_number (Begun standing) = status_of (answer_in standing)

abbrev pub status_read : ℕ → Result Status NoMeaning
status_read n = cond (status_valid n) (Ok (cond (eqb n 0) NotBegun (Begun (standing_of n)))) (Err (record { 0 = n }))

-- the progress in bytes that are one
abbrev pub progress_read : ChannelRequest → List ℕ → Option ChannelProgress
progress_read q bytes = cond (progress_valid bytes) (Some (progress_in q bytes)) None
