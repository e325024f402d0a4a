-- Real to absolute, SET PREFIX and STORE PREFIX in document 01's sentences, with words taken apart in numbers. Completion is the law of every
-- instruction; what is left is computed from the completed request.
-- Assumes nothing.
use Prim.Native.Nat.{ℕ, ◌+◌, ◌*◌, ◌/◌, ◌%◌, ◌<◌, ◌≤◌}
use mathlib.Core.Path.{◌≡◌, refl, ap, ◌∙◌}
use mathlib.Core.Logic.Iff
use mathlib.Core.Logic.{◌≢◌, ◌↔◌, and-true}
use mathlib.Core.List.{List}
use native.Mathlib.Decide.{ℕ_discrete, dec_lt, dec_le}
use native.Mathlib.Omega.{arith}
use lib.ListN.{length}
use Rattle.machine.specs.declared.Settings.{Settings}
use Rattle.machine.specs.declared.Processor.{Processor}
use Rattle.machine.specs.declared.PrefixInstruction.{PrefixInstruction}
use Rattle.machine.specs.declared.PrefixInstruction.TheVariants.{SetPrefix, StorePrefix}
use Rattle.machine.specs.declared.Request.TheVariants.{Prefix}
use Rattle.machine.specs.Bits.{bits}
use Rattle.machine.specs.Prefixing.{prefixed, prefix_of}
use Rattle.machine.specs.Step.{Outcome, completed, step}
use Rattle.machine.proofs.Prefixing.{rule_1, rule_2, rule_3}
use Rattle.machine.proofs.Requests.{completed_step}
use Rattle.machine.proofs.Sentences.{too_long, prefix_in_block, prefix_outside}
use Rattle.machine.proofs.Instructions.{Ready, inside_storage, completes_when}

-- a real address of 31 bits in block b at place c, with the prefix at block q: bits 1-19 are b, the prefix's are q, bits 20-31 are c
module _ (q b c : ℕ) (prefix_block : q < 524288) (block : b < 524288) (place : c < 4096) where
  abbrev real : ℕ
  real = b * 4096 + c

  block_number : bits 1 19 real ≡ b
  block_number = omega arith

  prefix_block_number : bits 1 19 (q * 4096) ≡ q
  prefix_block_number = omega arith

  -- bits 1-19 all zero: replaced by the prefix's, by rule 1
  pub block_0_prefixed : b ≡ 0 → prefixed (q * 4096) real ≡ record { absolute = q * 4096 + c; rule = 1 }
  block_0_prefixed z =
      rule_1 (q * 4096) real (omega (arith, block_number))
      ∙ ap (λ a. record { absolute = a; rule = 1 }) (omega (arith, prefix_block_number))

  -- equal to the prefix's: replaced by zeros, by rule 2
  pub prefix_block_prefixed : b ≢ 0 → b ≡ q → prefixed (q * 4096) real ≡ record { absolute = c; rule = 2 }
  prefix_block_prefixed n e =
      rule_2 (q * 4096) real (λ h. n (omega (arith, block_number))) (omega (arith, block_number, prefix_block_number))
      ∙ ap (λ a. record { absolute = a; rule = 2 }) (omega (arith, block_number))

  -- otherwise unchanged, by rule 3
  pub other_block_prefixed : b ≢ 0 → b ≢ q → prefixed (q * 4096) real ≡ record { absolute = real; rule = 3 }
  other_block_prefixed n e =
      rule_3 (q * 4096) real (λ h. n (omega (arith, block_number))) (λ h. e (omega (arith, block_number, prefix_block_number)))

-- a completed SET PREFIX: the record has this prefix, and nothing else is changed
pub record Installs (storage keys : List ℕ) (p : Processor) (buffer : List ℕ) (prefix : ℕ) (o : Outcome) : Type 0 where
  pub word_zero : o.answer.word ≡ 0
  pub prefix_set : o.processor.prefix ≡ prefix
  pub key_stays : o.processor.psw_key ≡ p.psw_key
  pub problem_stays : o.processor.problem ≡ p.problem
  pub low_protection_stays : o.processor.low_protection ≡ p.low_protection
  pub key_control_stays : o.processor.key_control ≡ p.key_control
  pub code_stays : o.processor.code ≡ p.code
  pub storage_stays : o.storage ≡ storage
  pub keys_stay : o.keys ≡ keys
  pub buffer_stays : o.buffer ≡ buffer

-- a completed STORE PREFIX: its word is the prefix, and nothing is changed
pub record Stores (storage keys : List ℕ) (p : Processor) (buffer : List ℕ) (o : Outcome) : Type 0 where
  pub word_given_lem : o.answer.word ≡ p.prefix
  pub record_stays : o.processor ≡ p
  pub storage_stays : o.storage ≡ storage
  pub keys_stay : o.keys ≡ keys
  pub buffer_stays : o.buffer ≡ buffer

module _ (s : Settings) (storage keys : List ℕ) (p : Processor) (buffer : List ℕ) where
  -- what an instruction leaves
  abbrev left : PrefixInstruction → Outcome
  left i = step s storage keys p (Prefix i) buffer

  abbrev Completes : PrefixInstruction → Type 0
  Completes i = (left i).answer.number ≡ 0

  abbrev Prepared : Type 0
  Prepared = Ready s (length storage) (length keys) p

  -- SET PREFIX uses bits 8-19 of its word only, here b; bits 0-7 are a and bits 20-31 are c
  module _ (a b c : ℕ) (block : b < 4096) (ignored : c < 4096) where
    abbrev word : ℕ
    word = a * 16777216 + b * 4096 + c

    -- it completes if the block is inside storage
    pub set_prefix_completes : Completes (SetPrefix word) ↔ (Prepared × (b * 4096 < length storage))
    set_prefix_completes =
        let inside = inside_storage (length storage) (word % 16777216 / 4096 * 4096) (b * 4096) (omega arith) in
        completes_when s storage keys p buffer _ Iff.rfl (λ f. f)
        (λ (x, y, z, t, l5). inside.0 l5, λ h. (λ f. f, λ f. f, λ f. f, λ f. f, inside.1 h))

    pub set_prefix_installs : Completes (SetPrefix word) → Installs storage keys p buffer (b * 4096) (left (SetPrefix word))
    unfolding completed
    set_prefix_installs done =
        rw (completed_step s storage keys p (Prefix (SetPrefix word)) buffer done)
        (record {
          word_zero = refl;
          prefix_set = omega arith;
          key_stays = refl;
          problem_stays = refl;
          low_protection_stays = refl;
          key_control_stays = refl;
          code_stays = refl;
          storage_stays = refl;
          keys_stay = refl;
          buffer_stays = refl;
        })

  pub store_prefix_completes : Completes StorePrefix ↔ Prepared
  store_prefix_completes =
      Iff.trans (completes_when s storage keys p buffer _ Iff.rfl (λ f. f) {Q = Unit {0}} (λ h. tt, λ h. (λ f. f, λ f. f, λ f. f, λ f. f, λ f. f)))
      and-true

  -- the prefix that it gives has no other bits
  prefix_alone : Prepared → prefix_of p.prefix ≡ p.prefix
  prefix_alone ready = omega (arith, in_block (ℕ_discrete (p.prefix % 4096) 0), below (dec_le (length storage) p.prefix))
    where
      in_block : Dec (p.prefix % 4096 ≡ 0) → p.prefix % 4096 ≡ 0
      in_block (yes e) = e
      in_block (no d) = absurd (ready.own_record_lem (prefix_in_block d))

      short : Dec (16777216 < length storage) → length storage ≤ 16777216
      short (yes l) = absurd (ready.configured (too_long l))
      short (no l) = omega arith

      below : Dec (length storage ≤ p.prefix) → p.prefix < 16777216
      below (yes l) = absurd (ready.own_record_lem (prefix_outside l))
      below (no l) = omega (arith, short (dec_lt 16777216 (length storage)))

  pub store_prefix_gives : Completes StorePrefix → Stores storage keys p buffer (left StorePrefix)
  unfolding completed
  store_prefix_gives done =
      rw (completed_step s storage keys p (Prefix StorePrefix) buffer done)
      (record {
        word_given_lem = prefix_alone (store_prefix_completes.0 done);
        record_stays = refl;
        storage_stays = refl;
        keys_stay = refl;
        buffer_stays = refl;
      })
