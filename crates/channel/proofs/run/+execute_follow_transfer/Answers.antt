-- The cycle of calls {execute, follow_transfer}: what both mean is one run, also where the chain has answered. Assumes nothing.
use Rattle.channel.proofs.Replies.{run_ends}
use Rattle.channel.proofs.run.+execute_follow_transfer.Goals as goal

pub execute-returns-in-Some : goal.execute-returns-in-Some
execute-returns-in-Some t c = run_ends _ _ _ _ _ _ _ c.run_chain-next.ensures.result_after c.in-Some.is c.reply.ensures
