-- `serve_bytes` reads the two words of the record; it refuses what lines 64 and 65 refuse by lengths or state, and serves the rest. Assumes nothing.
use Rattle.machine.proofs.Verdicts.{both}
use Rattle.boundary.proofs.Words.{state_read}
use Rattle.host.proofs.Calls.{wrong_call}
use Rattle.host.proofs.serve.serve_bytes.Goals as goal

pub returns-then-not-valid-is_valid : goal.returns-then-not-valid-is_valid
returns-then-not-valid-is_valid c =
    let wrong =
    rw (c.valid.ensures, c.is_valid.ensures, c.of-sizes.ensures, c.read-own.ensures.words, c.read-own.ensures.at)
    at c.if-not-valid-is_valid.true in
    wrong_call c.args.records.now _ _ _ _ _ _ c.fits-records wrong (rw c.of-sizes.ensures at c.refused.ensures)

pub serve_words-requires : goal.serve_words-requires
serve_words-requires c =
    let valid = (both c.valid.result c.is_valid.result c.if-not-valid-is_valid.false).1 in
    rw c.read-own.ensures.words
    (state_read c.args.records.now c.read-own.result.at c.fits-records (rw (c.is_valid.ensures, c.read-own.ensures.words) at valid))
