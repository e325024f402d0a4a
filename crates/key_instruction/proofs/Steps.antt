-- From the lines that the code takes to the step. Where they refuse, the step is the refusal; where they do not, the keys are in the array, and
-- the step is what the operation leaves. Assumes nothing.
use Prim.Native.Nat.{ℕ, ◌+◌, ◌*◌, ◌/◌, ◌<◌}
use mathlib.Core.Path.{◌≡◌, refl}
use mathlib.Core.Bool.{Bool, true, false, cond}
use mathlib.Core.List.{List, []}
use native.Mathlib.Omega.{arith}
use mir.Val.{bool_byte}
use lib.ListN.{length, get_or, set}
use Rattle.std.specs.Prelude.{Err}
use Rattle.machine.specs.declared.Settings.{Settings}
use Rattle.machine.specs.declared.Processor.{Processor}
use Rattle.machine.specs.declared.Refusal.{Refusal}
use Rattle.machine.specs.declared.KeyInstruction.{KeyInstruction}
use Rattle.machine.specs.declared.KeyOperation.TheVariants.{Insert, Set, Reset}
use Rattle.machine.specs.declared.Request.TheVariants.{Key}
use Rattle.machine.specs.Answers.{Completed, Verdict, Clear}
use Rattle.machine.specs.Bits.{replace_bits}
use Rattle.machine.specs.Key.{key_in_word, after_reset, code_of, joined}
use Rattle.machine.specs.Prefixing.{rule}
use Rattle.machine.specs.KeyInstructions.{designated, first_unit, operation, key_count, two_keys, key_read, word_given, keys_left, code_left}
use Rattle.machine.specs.Table.{before_protection}
use Rattle.machine.specs.Step.{with_code, outcome, completed, step}
use Rattle.machine.proofs.Requests.{refused_instruction, completed_instruction}
use Rattle.machine.proofs.KeyInstructions.{key_instruction_passed}
use Rattle.key_instruction.specs.declared.block.Block.{Block}
use Rattle.key_instruction.specs.Blocks.{Works}
use Rattle.key_instruction.proofs.Keys.{joined_is_read, keys_set, keys_reset}

-- both units are inside where each of the keys is
both_inside : (key_length u : ℕ) (two : Bool) → ((j : ℕ) → j < key_count two → u + j < key_length)
    → (u < key_length) × (u + cond two 1 0 < key_length)
both_inside key_length u true all = (omega (arith, all 0 (omega arith)), all 1 (omega arith))
both_inside key_length u false all = (omega (arith, all 0 (omega arith)), all 0 (omega arith))

-- the word of R1 with bits 24-31 replaced
word_replaced : (key r1 : ℕ) → replace_bits 24 31 key r1 ≡ r1 / 256 * 256 + key
word_replaced key r1 = omega arith

as_number : (two : Bool) → bool_byte two ≡ cond two 1 0
as_number true = refl
as_number false = refl

-- an instruction that no line refuses works on the block that the code finds
pub block_found : (s : Settings) (storage_length key_length : ℕ) (p : Processor) (i : KeyInstruction)
    → before_protection s storage_length key_length p (Key i) 0 ≡ Clear
    → Works s key_length p i
    (record { low = first_unit s p i; high = first_unit s p i + bool_byte (two_keys s i); rule = rule p.prefix (designated i) })
block_found s storage_length key_length p i clear =
    rw (as_number (two_keys s i))
    (record { first = refl; last = refl; prefixed = refl; low_inside = inside.0; high_inside = inside.1 })
  where
    inside : (first_unit s p i < key_length) × (first_unit s p i + cond (two_keys s i) 1 0 < key_length)
    inside = both_inside key_length _ (two_keys s i) (key_instruction_passed s p i storage_length key_length 0 clear)

module _ (s : Settings) (storage keys : List ℕ) (p : Processor) (i : KeyInstruction) where
  -- the verdict of the lines
  abbrev pub lines : Verdict
  lines = before_protection s (length storage) (length keys) p (Key i) 0

  pub refused : {refusal : Refusal} → Err refusal ≡ lines → outcome (Err refusal) storage keys p [] ≡ step s storage keys p (Key i) []
  refused e = refused_instruction s storage keys p (Key i) tt e 0 0 refl

  module _ (clear : Clear ≡ lines) where
    pub operated :
        outcome (Completed (word_given keys (first_unit s p i) (two_keys s i) (operation i)) (rule p.prefix (designated i)))
        storage
        (keys_left keys (first_unit s p i) (two_keys s i) (operation i))
        (with_code p (code_left keys (first_unit s p i) (two_keys s i) (operation i) p.code))
        []
        ≡ step s storage keys p (Key i) []
    unfolding completed
    operated = completed_instruction s storage keys p (Key i) tt clear refl

    module _ {block : Block} (works : Works s (length keys) p i block) where
      pub inserted : {r1 : ℕ} → operation i ≡ Insert r1
          → outcome (Completed (r1 / 256 * 256 + joined (get_or keys block.low 0) (get_or keys block.high 0)) block.rule) storage keys p []
          ≡ step s storage keys p (Key i) []
      unfolding word_given keys_left code_left
      inserted {r1} e =
          rw (works.last, works.first, works.prefixed, joined_is_read keys _ (two_keys s i), ← word_replaced (key_read keys _ (two_keys s i)) r1)
          (rw e at operated)

      pub was_set : {r1 : ℕ} → operation i ≡ Set r1
          → outcome (Completed 0 block.rule) storage (set (set keys block.low (key_in_word r1)) block.high (key_in_word r1)) p []
          ≡ step s storage keys p (Key i) []
      unfolding word_given code_left
      was_set {r1} e =
          rw (works.last, works.first, works.prefixed, keys_set keys (first_unit s p i) (two_keys s i) r1) (rw e at operated)

      pub was_reset : operation i ≡ Reset
          → outcome (Completed 0 block.rule)
          storage
          (set (set keys block.low (after_reset (get_or keys block.low 0))) block.high (after_reset (get_or keys block.high 0)))
          (with_code p (code_of (joined (get_or keys block.low 0) (get_or keys block.high 0))))
          []
          ≡ step s storage keys p (Key i) []
      unfolding word_given code_left
      was_reset e =
          rw (works.last, works.first, works.prefixed, keys_reset keys (first_unit s p i) (two_keys s i), joined_is_read keys (first_unit s p i) (two_keys s i))
          (rw e at operated)
