-- `run_chain` does one CCW after the other. The invariant: the run from what they left is the same, and it goes on, or has ended later; so the
-- part of the grant that is left falls. Assumes nothing.
use mathlib.Core.Path.{◌∙◌}
use Rattle.channel.proofs.Replies.{chain_goes_on, chain_falls}
use Rattle.channel.proofs.run.run_chain.Goals as goal

pub loop-more-smaller : goal.loop-more-smaller
loop-more-smaller c =
    chain_falls _ _ _ _ _ _ _ _ _ c.loop-more.invariant.3 c.loop-more-test.true c.next_ccw-progress.ensures c.chains_on-more.ensures

pub loop-more-preserved : goal.loop-more-preserved
loop-more-preserved c =
    let held = c.loop-more.invariant in (
      c.next_ccw-progress.auto.storage ∙ held.0,
      c.next_ccw-progress.auto.keys ∙ held.1,
      c.next_ccw-progress.auto.room ∙ held.2,
      chain_goes_on _ _ _ _ _ _ _ _ _ held.3 c.loop-more-test.true c.next_ccw-progress.ensures c.chains_on-more.ensures,
    )
