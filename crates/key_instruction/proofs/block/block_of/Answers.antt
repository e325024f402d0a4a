-- `block_of` finds the block of an instruction that no line refuses. Assumes nothing.
use Rattle.key_instruction.proofs.Steps.{block_found}
use Rattle.key_instruction.proofs.block.block_of.Goals as goal

pub returns : goal.returns
returns c =
    rw (c.unit_of-low.ensures, c.two_keys.ensures, c.prefixed-at.ensures, c.designated.ensures) (block_found _ _ _ _ _ c.requires)
