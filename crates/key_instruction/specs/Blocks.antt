-- The block that a key instruction works on.
use Rattle.std.specs.Prelude.{ℕ, ◌+◌, ◌<◌, ◌≡◌, cond}
use Rattle.machine.specs.declared.Settings.{Settings}
use Rattle.machine.specs.declared.Processor.{Processor}
use Rattle.machine.specs.declared.KeyInstruction.{KeyInstruction}
use Rattle.machine.specs.Prefixing.{rule}
use Rattle.machine.specs.KeyInstructions.{designated, first_unit, two_keys}
use Rattle.key_instruction.specs.declared.block.Block.{Block}

-- the instruction works on this block, whose keys are in a key array of this length: the high-order key is that of the next unit where there
-- are two keys, else the low-order one
pub record Works (s : Settings) (key_length : ℕ) (p : Processor) (i : KeyInstruction) (block : Block) : Type 0 where
  pub first : block.low ≡ first_unit s p i
  pub last : block.high ≡ block.low + cond (two_keys s i) 1 0
  pub prefixed : block.rule ≡ rule p.prefix (designated i)
  pub low_inside : block.low < key_length
  pub high_inside : block.high < key_length
