-- An answer is read back from its packed number; an operation number past the last is refused. By arithmetic. Assumes nothing.
use Prim.Native.Nat.{ℕ, ◌/◌, ◌%◌, ◌<◌, ◌≤◌}
use mathlib.Core.Path.{◌≡◌, sym}
use mathlib.Core.Logic.{◌≢◌}
use mathlib.Core.List.{List}
use native.Mathlib.Omega.{arith}
use lib.ListN.{length, get_or-eq_default}
use Rattle.machine.specs.declared.Settings.{Settings}
use Rattle.machine.specs.declared.Processor.{Processor}
use Rattle.machine.specs.declared.AccessKind.TheVariants.{Fetch}
use Rattle.machine.specs.declared.Request.{Request}
use Rattle.machine.specs.declared.Request.TheVariants.{Access}
use Rattle.machine.specs.declared.Reason.TheVariants.{Operand}
use Rattle.machine.specs.Answers.{Stop, Values, line, first_of, first_line}
use Rattle.machine.specs.Table.{configuration, own_record, before_protection, verdict}
use Rattle.machine.specs.Step.{step}
use Rattle.machine.proofs.Verdicts.{first_assoc}
use Rattle.machine.proofs.AnswerPlace.{place_below_256}
use Rattle.machine.proofs.Refusals.{refused_word}
use Rattle.machine.proofs.AnswerRule.{refused_rule, rule_at_most_3}
use Rattle.boundary.specs.Boundary.{requests, request_of, packed, number_in, place_in, word_in, rule_in}

-- number, place, word and rule, where the word has 32 bits and the rule eight; of the place, eight bits
pub answer_is_read : (v : Values) → v.word < 4294967296 → v.rule < 256
    → (number_in (packed v) ≡ v.number) × (place_in (packed v) ≡ v.place % 256) × (word_in (packed v) ≡ v.word) × (rule_in (packed v) ≡ v.rule)
answer_is_read v w r = (omega arith, omega arith, omega arith, omega arith)

-- the answer of every step is read back whole, where its word has 32 bits
module _ (s : Settings) (storage keys : List ℕ) (p : Processor) (r : Request) (buffer : List ℕ) where
  abbrev answer : Values
  answer = (step s storage keys p r buffer).answer

  pub step_answer_is_read : answer.word < 4294967296
      → (number_in (packed answer) ≡ answer.number)
      × (place_in (packed answer) ≡ answer.place)
      × (word_in (packed answer) ≡ answer.word)
      × (rule_in (packed answer) ≡ answer.rule)
  step_answer_is_read w =
      omega (arith, place_below_256 s storage keys p r buffer, rule_at_most_3 s storage keys p buffer r)

  -- a refusal has no rule, so that a reader that takes sixteen bits for its place reads the same place
  pub refusal_place_in_sixteen_bits : answer.number ≢ 0 → packed answer / 4294967296 % 65536 ≡ answer.place
  refusal_place_in_sixteen_bits d =
      let place = place_below_256 s storage keys p r buffer in
      omega (arith, place, refused_word s storage keys p r buffer d, refused_rule s storage keys p buffer r d)

-- an operation number past the last stands for an access of length 0 at the address given
pub past_last : (operation a b : ℕ) → 10 ≤ operation → Access Fetch a 0 ≡ request_of operation a b
past_last operation a b h = sym (get_or-eq_default (requests a b) (Access Fetch a 0) h)

-- so it is refused with 66 where lines 64 and 65 let it pass, whatever its operands
pub past_last_refused : (s : Settings) (storage_length : ℕ) (keys : List ℕ) (p : Processor) (operation a b buffer_length : ℕ) → 10 ≤ operation
    → verdict s storage_length keys p (request_of operation a b) buffer_length
    ≡ first_of (configuration s storage_length (length keys)) (first_of (own_record storage_length p) (Stop Operand 0))
unfolding line first_of first_line before_protection verdict
past_last_refused s storage_length keys p operation a b buffer_length h = rw (← past_last operation a b h) (simp first_assoc)
