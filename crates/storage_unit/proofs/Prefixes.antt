-- Prefix instructions: of the lines before protection they meet 64, 65, 2 and 5. Assumes nothing.
use Prim.Native.Nat.{ℕ}
use mathlib.Core.Path.{◌≡◌}
use Rattle.machine.specs.declared.Settings.{Settings}
use Rattle.machine.specs.declared.Processor.{Processor}
use Rattle.machine.specs.declared.PrefixInstruction.{PrefixInstruction}
use Rattle.machine.specs.declared.Request.TheVariants.{Prefix}
use Rattle.machine.specs.declared.Reason.TheVariants.{Privileged, Addressing}
use Rattle.machine.specs.Answers.{line, first_of, first_line}
use Rattle.machine.specs.Table.{configuration, own_record, install_outside, addressing, before_protection}
use Rattle.machine.proofs.Verdicts.{first_none, first_assoc, skipped}

-- the lines that a prefix instruction can meet
pub four_lines : (s : Settings) (storage_length key_length : ℕ) (p : Processor) (i : PrefixInstruction)
    → before_protection s storage_length key_length p (Prefix i) 0
    ≡ first_of (first_of (configuration s storage_length key_length) (own_record storage_length p))
    (first_of (line Privileged p.problem) (line Addressing (install_outside storage_length i)))
unfolding before_protection first_line addressing
four_lines s storage_length key_length p i = simp (first_assoc, first_none, skipped)
