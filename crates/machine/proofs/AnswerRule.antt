-- The rule of an answer, in document 02's sentences: a completed access carries that of its first byte's real address, a completed key instruction
-- that of its block's, and every other answer 0. Addresses are numbers here: their blocks are compared by division. What a rule means comes from
-- the law of the three rules, and what is completed from the lines of the table.
-- Assumes nothing.
use Prim.Native.Nat.{ℕ, ◌/◌, ◌<◌, ◌≤◌}
use mathlib.Core.Path.{◌≡◌, refl, subst, ap, ◌∙◌}
use mathlib.Core.Logic.{◌≢◌}
use mathlib.Core.List.{List}
use native.Mathlib.Decide.{dec_le}
use native.Mathlib.Omega.{arith}
use lib.ListN.{length}
use Rattle.machine.specs.declared.Settings.{Settings}
use Rattle.machine.specs.declared.Processor.{Processor}
use Rattle.machine.specs.declared.AccessKind.{AccessKind}
use Rattle.machine.specs.declared.KeyInstruction.{KeyInstruction}
use Rattle.machine.specs.declared.KeyInstruction.TheVariants.{Isk, Ssk, Rrb, Iske, Sske, Rrbe}
use Rattle.machine.specs.declared.PrefixInstruction.{PrefixInstruction}
use Rattle.machine.specs.declared.Request.{Request}
use Rattle.machine.specs.declared.Request.TheVariants.{Access, Key, Prefix}
use Rattle.machine.specs.Numbers.{add24}
use Rattle.machine.specs.Answers.{Values}
use Rattle.machine.specs.Prefixing.{rule}
use Rattle.machine.specs.KeyInstructions.{designated}
use Rattle.machine.specs.Step.{rule_given, completed, step}
use Rattle.machine.proofs.Prefixing.{Means, first, own, other, rule_means}
use Rattle.machine.proofs.AbsoluteAddress.{configured, record_valid_lem}
use Rattle.machine.proofs.BeforeProtection.{cleared}
use Rattle.machine.proofs.Requests.{by_verdict, completed_step, completed_cleared, completed_number}
use Rattle.machine.proofs.Sentences.{over_24_bits, block_address}
use Rattle.machine.proofs.Refusals.{completes}

-- n is the rule for a real address: 1 in block 0, 2 in another block that is the prefix's, 3 in every other block
pub record RuleFor (prefix real n : ℕ) : Type 0 where
  pub in_block_0 : real < 4096 → n ≡ 1
  pub in_prefix_block : 4096 ≤ real → real / 4096 ≡ prefix / 4096 → n ≡ 2
  pub in_other_block : 4096 ≤ real → real / 4096 ≢ prefix / 4096 → n ≡ 3

rule_for : (prefix real : ℕ) → prefix < 2147483648 → real < 2147483648 → RuleFor prefix real (rule prefix real)
rule_for prefix real p r = go (rule_means prefix real)
  where
    go : {n : ℕ} → Means prefix real n → RuleFor prefix real n
    go (first z a) = record { in_block_0 = λ h. refl; in_prefix_block = λ h e. absurd (omega arith); in_other_block = λ h d. absurd (omega arith) }
    go (own z e a) = record { in_block_0 = λ h. absurd (omega arith); in_prefix_block = λ h e. refl; in_other_block = λ h d. absurd (d (omega arith)) }
    go (other z e a) = record { in_block_0 = λ h. absurd (omega arith); in_prefix_block = λ h q. absurd (e (omega arith)); in_other_block = λ h d. refl }

rule_small : {prefix real n : ℕ} → Means prefix real n → n ≤ 3
rule_small (first z a) = omega arith
rule_small (own z e a) = omega arith
rule_small (other z e a) = omega arith

block_small : (i : KeyInstruction) → block_address i < 2147483648
block_small (Isk r1 r2) = omega arith
block_small (Ssk r1 r2) = omega arith
block_small (Rrb address) = omega arith
block_small (Iske r1 r2) = omega arith
block_small (Sske r1 r2) = omega arith
block_small (Rrbe r2) = omega arith

module _ (s : Settings) (storage keys : List ℕ) (p : Processor) (buffer : List ℕ) where
  abbrev answer : Request → Values
  answer r = (step s storage keys p r buffer).answer

  -- the rule of a key instruction is that for its block
  block_rule : (i : KeyInstruction) → rule_given p (Key i) ≡ rule p.prefix (block_address i)
  block_rule (Isk r1 r2) = ap (rule p.prefix) (omega arith)
  block_rule (Ssk r1 r2) = ap (rule p.prefix) (omega arith)
  block_rule (Rrb address) = ap (rule p.prefix) (omega arith)
  block_rule (Iske r1 r2) = ap (rule p.prefix) (omega arith)
  block_rule (Sske r1 r2) = ap (rule p.prefix) (omega arith)
  block_rule (Rrbe r2) = ap (rule p.prefix) (omega arith)

  -- the rule of a completed request is the rule given
  carried : (r : Request) → (answer r).number ≡ 0 → (answer r).rule ≡ rule_given p r
  unfolding completed
  carried r done = ap (λ o. o.answer.rule) (completed_step s storage keys p r buffer done) ∙ go r
    where
      go : (r : Request) → (completed s storage keys p r buffer).answer.rule ≡ rule_given p r
      go (Access kind address count) = refl
      go (Key i) = refl
      go (Prefix i) = refl

  -- the prefix of a processor with a completed request
  prefix_small : (r : Request) → (answer r).number ≡ 0 → p.prefix < 2147483648
  prefix_small r done =
      let lines = cleared s (length storage) (length keys) p r (length buffer) (completed_cleared s storage keys p r buffer done) in
      omega (arith, (record_valid_lem (length storage) p lines.own).inside, (configured s (length storage) (length keys) lines.lengths).reached)

  -- a completed access carries the rule for the real address of its first byte
  pub access_rule : (kind : AccessKind) (address count : ℕ) → let a = answer (Access kind address count) in
      a.number ≡ 0 → RuleFor p.prefix address a.rule
  access_rule kind address count done =
      let r = Access kind address count in
      let same : address ≡ add24 address 0 = omega (arith, small) in
      rw (carried r done)
      (subst (λ x. RuleFor p.prefix address (rule p.prefix x)) same (rule_for p.prefix address (prefix_small r done) (omega (arith, small))))
    where
      below : Dec (16777216 ≤ address) → address < 16777216
      below (yes l) = absurd (((completes s storage keys p (Access kind address count) buffer).0 done).1.1.0 (over_24_bits l))
      below (no l) = omega arith

      small : address < 16777216
      small = below (dec_le 16777216 address)

  -- a completed key instruction, the rule for the real address of its block, without the bits that it ignores
  pub key_instruction_rule : (i : KeyInstruction) → (answer (Key i)).number ≡ 0 → RuleFor p.prefix (block_address i) (answer (Key i)).rule
  key_instruction_rule i done =
      rw (carried (Key i) done, block_rule i) (rule_for p.prefix (block_address i) (prefix_small (Key i) done) (block_small i))

  -- the rule of every answer is at most 3
  pub rule_at_most_3 : (r : Request) → (answer r).rule ≤ 3
  unfolding completed
  rule_at_most_3 r =
      by_verdict s storage keys p r buffer (λ o. o.answer.rule ≤ 3) (λ reason place e. omega arith) (λ e. done r)
    where
      done : (q : Request) → (completed s storage keys p q buffer).answer.rule ≤ 3
      done (Access kind address count) = rule_small (rule_means p.prefix (add24 address 0))
      done (Key i) = rule_small (rule_means p.prefix (designated i))
      done (Prefix i) = omega arith

  -- a prefix instruction carries 0
  pub prefix_instruction_rule : (i : PrefixInstruction) → (answer (Prefix i)).rule ≡ 0
  unfolding completed
  prefix_instruction_rule i = by_verdict s storage keys p (Prefix i) buffer (λ o. o.answer.rule ≡ 0) (λ reason place e. refl) (λ e. refl)

  -- and so does every request that is refused
  pub refused_rule : (r : Request) → (answer r).number ≢ 0 → (answer r).rule ≡ 0
  refused_rule r =
      by_verdict s storage keys p r buffer (λ o. o.answer.number ≢ 0 → o.answer.rule ≡ 0) (λ reason place e h. refl)
      (λ e h. absurd (h (completed_number s storage keys p r buffer r)))
