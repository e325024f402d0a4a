-- `serve_words` passes each request on by its operation number; no access changes a record. Assumes nothing.
use mathlib.Core.Path.{◌∙◌}
use native.Mathlib.Omega.{arith}
use Rattle.host.proofs.Calls.{kept_call}
use Rattle.host.proofs.serve.serve_words.Goals as goal

pub returns-in-0 : goal.returns-in-0
returns-in-0 c =
    rw c.in-0.is
    (kept_call c.args.records.now _ _ _ _ _ _ c.fetch.result (c.record-p.ensures ∙ c.requires) c.fetch.ensures
    c.fits-records c.pack.ensures)

pub returns-in-1 : goal.returns-in-1
returns-in-1 c =
    rw c.in-1.is
    (kept_call c.args.records.now _ _ _ _ _ _ c.store.result (c.record-p-in-1.ensures ∙ c.requires) c.store.ensures
    c.fits-records c.pack-in-1.ensures)

pub returns-in_default : goal.returns-in_default
returns-in_default c =
    c.instruction_words.ensures c.args.buffer.now
