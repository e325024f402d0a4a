-- The step over the pair: a processor's own step, or a refusal that looks at no record. It leaves every other record as it was. The laws of
-- lookup in a list, by its elements one after the other, come first. Assumes nothing.
use Prim.Native.Nat.{ℕ, zero, suc, ◌≤◌, ◌<◌}
use mathlib.Core.Path.{◌≡◌, refl, sym, ap, ◌∙◌}
use mathlib.Core.Bool.{Bool, true, false, cond, not}
use mathlib.Core.Logic.{◌≢◌}
use mathlib.Core.List.{List, [], ◌∷◌}
use mathlib.Core.Option.{Option, none, some}
use native.Mathlib.Nat.{le_of_suc-le-suc}
use native.Mathlib.Decide.{ℕ_discrete}
use native.Mathlib.Omega.{arith}
use lib.Dec.{ltb}
use lib.ListN.{length, get_or, set, get_elem?}
use borrow.Author.Tests.{ltb-true, le-ltb}
use Rattle.machine.specs.declared.Settings.{Settings}
use Rattle.machine.specs.declared.Processor.{Processor}
use Rattle.machine.specs.declared.Request.{Request}
use Rattle.machine.specs.declared.Reason.TheVariants.{Configuration, Record}
use Rattle.machine.specs.Answers.{Stop, Values, values, answer_of, line, first_of}
use Rattle.machine.specs.Lists.{record_of}
use Rattle.machine.specs.Numbers.{lengths_valid}
use Rattle.machine.specs.Step.{step}
use Rattle.machine.specs.Pair.{PairOutcome, put_back, without_record, served, pair_step}
use Rattle.machine.proofs.Requests.{refused_changes_nothing}
use Rattle.machine.proofs.AnswerRule.{refused_rule}

-- Lists by lookup.
module _ {A : Type 0} where
  pub lookup_get_or : (xs : List A) (n : ℕ) (d : A) → n < length xs → get_elem? xs n ≡ some (get_or xs n d)
  lookup_get_or [] n d h = absurd (omega arith)
  lookup_get_or (x ∷ xs) zero d h = refl
  lookup_get_or (x ∷ xs) (suc n) d h = lookup_get_or xs n d (le_of_suc-le-suc h)

  pub lookup_other : (xs : List A) (n m : ℕ) (v : A) → m ≢ n → get_elem? (set xs n v) m ≡ get_elem? xs m
  lookup_other [] n m v d = refl
  lookup_other (x ∷ xs) zero zero v d = absurd (d refl)
  lookup_other (x ∷ xs) zero (suc m) v d = refl
  lookup_other (x ∷ xs) (suc n) zero v d = refl
  lookup_other (x ∷ xs) (suc n) (suc m) v d = lookup_other xs n m v (λ e. d (ap suc e))

  -- lists that are the same at m stay so where both get v at n
  pub lookup_set_agree : (xs ys : List A) (n m : ℕ) (v : A) → get_elem? xs m ≡ get_elem? ys m → get_elem? (set xs n v) m ≡ get_elem? (set ys n v) m
  lookup_set_agree xs ys n m v e = go (ℕ_discrete m n)
    where
      here : (xs ys : List A) (n : ℕ) → get_elem? xs n ≡ get_elem? ys n → get_elem? (set xs n v) n ≡ get_elem? (set ys n v) n
      here [] [] n e = refl
      here [] (y ∷ ys) zero e = let z : ◌≡◌ {A = ℕ} 0 1 = cc in absurd (omega arith)
      here [] (y ∷ ys) (suc n) e = here [] ys n e
      here (x ∷ xs) [] zero e = let z : ◌≡◌ {A = ℕ} 0 1 = cc in absurd (omega arith)
      here (x ∷ xs) [] (suc n) e = here xs [] n e
      here (x ∷ xs) (y ∷ ys) zero e = refl
      here (x ∷ xs) (y ∷ ys) (suc n) e = here xs ys n e

      go : Dec (m ≡ n) → get_elem? (set xs n v) m ≡ get_elem? (set ys n v) m
      go (yes q) = rw q (here xs ys n (rw q at e))
      go (no d) = lookup_other xs n m v d ∙ e ∙ sym (lookup_other ys n m v d)

  pub lookup_put_back : (xs : List A) (n : ℕ) (w : A) → get_elem? xs n ≡ some w → set xs n w ≡ xs
  lookup_put_back [] n w e = refl
  lookup_put_back (x ∷ xs) zero w e = let q : w ≡ x = cc in rw q
  lookup_put_back (x ∷ xs) (suc n) w e = rw (lookup_put_back xs n w e)

  -- lists with the same elements are the same
  pub lookup_ext : (xs ys : List A) → ((n : ℕ) → get_elem? xs n ≡ get_elem? ys n) → xs ≡ ys
  lookup_ext [] [] e = refl
  lookup_ext [] (y ∷ ys) e = let z : ◌≡◌ {A = ℕ} 0 1 = cc (e 0) in absurd (omega arith)
  lookup_ext (x ∷ xs) [] e = let z : ◌≡◌ {A = ℕ} 0 1 = cc (e 0) in absurd (omega arith)
  lookup_ext (x ∷ xs) (y ∷ ys) e = let q : x ≡ y = cc (e 0) in rw (q, lookup_ext xs ys (λ n. e (suc n)))

-- a number that has a record is 0 or 1
pub has_record : (ps : List Processor) (n : ℕ) (p : Processor) → record_of ps n ≡ some p → (n < 2) × (get_elem? ps n ≡ some p)
has_record ps n p e = go (ltb n 2) refl e
  where
    go : (b : Bool) → ltb n 2 ≡ b → cond b (get_elem? ps n) none ≡ some p → (n < 2) × (get_elem? ps n ≡ some p)
    go true q f = (ltb-true n 2 q, f)
    go false q f = let z : ◌≡◌ {A = ℕ} 0 1 = cc in absurd (omega arith)

-- and one that is not has none
pub no_record : (ps : List Processor) (n : ℕ) → 2 ≤ n → record_of ps n ≡ none
no_record ps n h = rw (le-ltb n 2 h)

module _ (s : Settings) (storage keys : List ℕ) (ps : List Processor) (n : ℕ) (r : Request) (buffer : List ℕ) where
  -- what the request leaves
  abbrev after : PairOutcome
  after = pair_step s storage keys ps n r buffer

  -- what is left where nothing changes
  abbrev unchanged : Values → PairOutcome
  unchanged answer = record { answer = answer; storage = storage; keys = keys; processors = ps; buffer = buffer }

  -- what holds of a refusal without a record, and of the step of a processor that has one, holds of the step over the pair
  pub by_record : (P : PairOutcome → Type 0)
      → (record_of ps n ≡ none → P (unchanged (values (answer_of (without_record s (length storage) (length keys)) 0 0))))
      → ((p : Processor) → record_of ps n ≡ some p → P (put_back ps n (step s storage keys p r buffer)))
      → P after
  unfolding pair_step served
  by_record P without with_record = go (record_of ps n) refl
    where
      go : (f : Option Processor) → record_of ps n ≡ f → P (served f s storage keys ps n r buffer)
      go none e = without e
      go (some p) e = with_record p e

  -- a processor's request is its own step, with its record put back
  pub own_step : (p : Processor) → record_of ps n ≡ some p → after ≡ put_back ps n (step s storage keys p r buffer)
  unfolding pair_step served
  own_step p e = rw e

  -- a number that isn't 0 or 1 is refused, no record is looked at and nothing changes
  pub other_number_refused : 2 ≤ n → after ≡ unchanged (values (answer_of (without_record s (length storage) (length keys)) 0 0))
  unfolding pair_step served
  other_number_refused h = rw (no_record ps n h)

  -- with any number but 0, nothing lent and neither record changes
  pub pair_refused_changes_nothing : after.answer.number ≢ 0 → after ≡ unchanged after.answer
  pair_refused_changes_nothing =
      by_record (λ o. o.answer.number ≢ 0 → o ≡ unchanged o.answer) (λ e h. refl)
      (λ p e h. rw (refused_changes_nothing s storage keys p r buffer h, lookup_put_back ps n p (has_record ps n p e).1))

  -- nor has the answer a rule
  pub pair_refused_rule : after.answer.number ≢ 0 → after.answer.rule ≡ 0
  unfolding first_of line
  pair_refused_rule =
      by_record (λ o. o.answer.number ≢ 0 → o.answer.rule ≡ 0) (λ e h. no_rule (lengths_valid s (length storage) (length keys)))
      (λ p e. refused_rule s storage keys p buffer r)
    where
      no_rule : (b : Bool) → (values (answer_of (first_of (line Configuration (not b)) (Stop Record 0)) 0 0)).rule ≡ 0
      no_rule true = refl
      no_rule false = refl

  -- no record but the processor's own changes
  pub other_record_stays : (m : ℕ) → m ≢ n → get_elem? after.processors m ≡ get_elem? ps m
  other_record_stays m d = by_record (λ o. get_elem? o.processors m ≡ get_elem? ps m) (λ e. refl) (λ p e. lookup_other ps n m _ d)
