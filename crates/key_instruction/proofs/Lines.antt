-- The lines of the table that a key instruction can meet, one after the other. Assumes nothing.
use Prim.Native.Nat.{ℕ}
use mathlib.Core.Path.{◌≡◌}
use mathlib.Core.Bool.{not, ◌&&◌}
use lib.Dec.{leb}
use Rattle.machine.specs.declared.Settings.{Settings}
use Rattle.machine.specs.declared.Processor.{Processor}
use Rattle.machine.specs.declared.KeyInstruction.{KeyInstruction}
use Rattle.machine.specs.declared.Reason.TheVariants.{Operand, Operation, Privileged, SpecialOperation, Specification, Addressing}
use Rattle.machine.specs.declared.Request.TheVariants.{Key}
use Rattle.machine.specs.Answers.{line, first_of, first_line}
use Rattle.machine.specs.KeyInstructions.{designated, extended, address_invalid, low_bits_on}
use Rattle.machine.specs.Table.{configuration, own_record, addressing, before_protection}
use Rattle.machine.proofs.Verdicts.{first_assoc, first_none}

pub eight_lines : (s : Settings) (storage_length key_length : ℕ) (p : Processor) (i : KeyInstruction)
    → before_protection s storage_length key_length p (Key i) 0
    ≡ first_of (first_of (configuration s storage_length key_length) (own_record storage_length p))
    (first_of (line Operand (address_invalid i))
    (first_of (line Operation (extended i && not s.extensions))
    (first_of (line Privileged p.problem)
    (first_of (line SpecialOperation (not (extended i) && s.four_k && not p.key_control))
    (first_of (line Specification (low_bits_on i))
    (line Addressing (leb storage_length (designated i))))))))
unfolding before_protection first_line addressing
eight_lines s storage_length key_length p i = simp (first_assoc, first_none)
