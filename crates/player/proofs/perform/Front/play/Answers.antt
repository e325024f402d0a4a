-- A request leaves what the step gives and leaves, and the line of its answer. Assumes nothing.
use Rattle.player.specs.Run.{turn_of}
use Rattle.player.proofs.Requests.{request_left}
use Rattle.player.proofs.perform.Front.play.Goals as goal

pub returns-clause-outcome : goal.returns-clause-outcome
returns-clause-outcome c =
    let front = c.args.self.now in
    let turn = turn_of front.processor_number front.request front.bytes.now front.size in
    let line = rw c.after_request-player.ensures at c.put_answer.ensures in
    rw c.after_request-player.ensures
    (request_left _ c.args.ready.player _ _ turn front.size c.perform-reply.result.answer _ _ _ _ _ _ c.perform-reply.ensures.0
    c.perform-reply.ensures.1 line)
