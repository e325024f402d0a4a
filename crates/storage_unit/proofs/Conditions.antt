-- Both conditions of a call from the second, which follows from what is served to a processor or from a refusal without a record.
-- Assumes nothing.
use Prim.Native.Nat.{ℕ, ◌≤◌, ◌<◌}
use mathlib.Core.Path.{◌≡◌, sym, ap, ◌∙◌}
use mathlib.Core.List.{List}
use mathlib.Core.Option.{some}
use lib.ListN.{length, get_or, set}
use borrow.Author.Tests.{lt-ltb}
use Rattle.machine.specs.declared.Settings.{Settings}
use Rattle.machine.specs.declared.Processor.{Processor}
use Rattle.machine.specs.declared.Request.{Request}
use Rattle.machine.specs.Answers.{Answer, answer_of}
use Rattle.machine.specs.Lists.{record_of}
use Rattle.machine.specs.Step.{outcome, step}
use Rattle.machine.specs.Pair.{put_back, without_record}
use Rattle.machine.specs.Conditions.{Condition1, Condition2}
use Rattle.machine.proofs.Pairs.{lookup_get_or, own_step, other_number_refused}
use Rattle.machine.proofs.Conditions.{condition_1}

module _ (s : Settings) (storage keys : List ℕ) (ps : List Processor) (n : ℕ) (r : Request) (buffer : List ℕ) where
  -- both conditions of a call that gives and leaves this
  abbrev Both : Answer → List ℕ → List ℕ → List Processor → List ℕ → Type 0
  Both answer storage' keys' ps' buffer' =
      Condition1 answer storage keys ps buffer storage' keys' ps' buffer'
      × Condition2 s storage keys ps n r buffer answer storage' keys' ps' buffer'

  module _ (answer : Answer) (storage' keys' buffer' : List ℕ) where
    both : (ps' : List Processor) → Condition2 s storage keys ps n r buffer answer storage' keys' ps' buffer'
        → Both answer storage' keys' ps' buffer'
    both ps' e = (condition_1 s storage keys ps n r buffer answer storage' keys' ps' buffer' e, e)

    -- the processor's own step, its record put back
    pub both_of_served : (p q d : Processor) → n < 2 → n < length ps → p ≡ get_or ps n d
        → outcome answer storage' keys' q buffer' ≡ step s storage keys p r buffer → Both answer storage' keys' (set ps n q) buffer'
    both_of_served p q d small inside found e =
        both (set ps n q) (ap (put_back ps n) e ∙ sym (own_step s storage keys ps n r buffer p own))
      where
        own : record_of ps n ≡ some p
        own = rw (lt-ltb n 2 small, found) (lookup_get_or ps n d inside)

  -- and a number that isn't 0 or 1
  pub both_without_record : (answer : Answer) → answer ≡ answer_of (without_record s (length storage) (length keys)) 0 0 → 2 ≤ n
      → Both answer storage keys ps buffer
  both_without_record answer e h =
      both answer storage keys buffer ps (rw e (sym (other_number_refused s storage keys ps n r buffer h)))
