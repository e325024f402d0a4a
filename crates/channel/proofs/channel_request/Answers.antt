-- `channel_request`: one that its own lines refuse is answered at its start, and else the run from the start is executed. Assumes nothing.
use Rattle.channel.proofs.Replies.{lines_pass, request_refused, request_executed}
use Rattle.channel.proofs.channel_request.Goals as goal

pub execute-requires-clause-passed : goal.execute-requires-clause-passed
execute-requires-clause-passed c = lines_pass _ _ _ _ (rw c.of.ensures at c.request_lines.ensures) c.in-Ok.is

pub returns-in-Err : goal.returns-in-Err
returns-in-Err c =
    let refused = request_refused c.args.settings c.args.request c.args.from_device.now c.args.storage.now c.args.keys.now c.args.room.now in
    let (run, counts) = refused (rw c.of.ensures at c.request_lines.ensures) c.in-Err.is c.begin-start.ensures c.reply.ensures in
    record { condition_2 = run; count_at_most_grant = counts.0; count_of_steps = counts.1 }

pub returns-in-Ok : goal.returns-in-Ok
returns-in-Ok c =
    let (run, counts) = request_executed _ _ _ _ _ _ c.execute.result c.begin-start.ensures c.execute.ensures in
    record { condition_2 = run; count_at_most_grant = counts.0; count_of_steps = counts.1 }
