-- `serve` is the step: by the family of the request. The instructions look at no buffer. Assumes nothing.
use Rattle.machine.proofs.Requests.{with_any_buffer}
use Rattle.storage_unit.proofs.serve.Goals as goal

pub returns-in-Key : goal.returns-in-Key
returns-in-Key c = rw c.in-Key.is (with_any_buffer _ _ _ _ _ _ tt c.key_instruction.ensures)

pub returns-in-Prefix : goal.returns-in-Prefix
returns-in-Prefix c = rw c.in-Prefix.is (with_any_buffer _ _ _ _ _ _ tt c.prefix_instruction.ensures)
