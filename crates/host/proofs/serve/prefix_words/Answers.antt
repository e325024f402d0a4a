-- `prefix_words` passes the instruction on with the record in the two words, and writes back the prefix that it leaves.
-- Assumes nothing.
use Rattle.host.proofs.Calls.{prefix_call}
use borrow.Author.Rules.{rules}
use Rattle.host.proofs.serve.prefix_words.Goals as goal

pub returns : goal.returns
returns c =
    let stepped = rw c.«record».ensures at c.prefix_instruction-served.ensures in
    prefix_call c.args.records.now _ _ _ _ _ c.prefix_instruction-served.result.answer c.requires stepped
    (search rules) c.pack.ensures c.put_prefix.ensures
