-- `ccw_at` takes the parts of the two words that the rules name. Assumes nothing.
use native.Mathlib.Omega.{arith}
use Rattle.channel.proofs.Words.{ccw_read}
use Rattle.channel.proofs.ccw.ccw_at.Goals as goal

pub returns : goal.returns
returns c =
    (ccw_read _ _ (λ i. omega (arith, c.type_inv.storage i)) c.word_at-first.ensures c.word_at-second.ensures, omega arith)
