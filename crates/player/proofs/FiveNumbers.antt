-- From the state that 02 (W1) fixes, every line of a run has one of the numbers 0, 5, 6, 65 and 66, and 65 only where there is no such processor. A state
-- is `Kept` where the lengths are those of the start and both records pass line 65 and differ from the start's in condition code and prefix only.
-- The start is such a state, and every request leaves one where it finds one. In it the sentences of lines 64, 65, 1, 2, 19 and 4 fail for
-- processors 0 and 1, so 66, 6, 5 and 0 are left; any other number gets 65. The rest is induction over the records. Assumes nothing.
use Prim.Native.Nat.{ℕ, zero, suc, ◌<◌}
use native.Mathlib.Omega.{arith}
use mathlib.Core.Path.{◌≡◌, refl, sym, ap, subst, ◌∙◌}
use mathlib.Core.Bool.{true}
use mathlib.Core.Logic.{inl, inr}
use mathlib.Core.List.{List, [], ◌∷◌}
use mathlib.Core.Option.{none, some, none-ne-some, some-injective}
use lib.ListN.{length, get_or, drop, set, get_elem?, length-set}
use borrow.Author.Tests.{lt-ltb}
use Rattle.machine.specs.declared.Processor.{Processor}
use Rattle.machine.specs.declared.AccessKind.TheVariants.{Fetch, Store}
use Rattle.machine.specs.declared.KeyInstruction.TheVariants.{Isk, Ssk, Rrb, Iske, Sske, Rrbe}
use Rattle.machine.specs.declared.Request.{Request}
use Rattle.machine.specs.declared.Request.TheVariants.{Access, Key, Prefix}
use Rattle.machine.specs.declared.Reason.{Reason}
use Rattle.machine.specs.declared.Reason.TheVariants.{Configuration, Record, Operand, Operation, Privileged, SpecialOperation, Specification}
use Rattle.machine.specs.declared.Reason.TheVariants.{Addressing, Protection}
use Rattle.machine.specs.Answers.{Clear, Values, number, answer_of, line, first_of}
use Rattle.machine.specs.Lists.{record_of}
use Rattle.machine.specs.Table.{own_record}
use Rattle.machine.specs.Step.{with_code, with_prefix, step}
use Rattle.machine.specs.Pair.{PairOutcome, pair_outcome, put_back, without_record}
use Rattle.machine.specs.Turns.{State, Turn, turn_outcome, next, given}
use Rattle.machine.specs.Conditions.{is_in}
use Rattle.machine.proofs.Verdicts.{not_both, line_clear}
use Rattle.machine.proofs.Sentences.{Line64, Line65, Line1, Line2, Line19, Line4, tells_64, tells_65}
use Rattle.machine.proofs.Refusals.{refused_64, refused_65, refused_1, refused_2, refused_19, refused_4}
use Rattle.machine.proofs.Requests.{by_verdict, completed_number, refused_by_table, controls_stay}
use Rattle.machine.proofs.OwnRecord.{record_stays_valid}
use Rattle.machine.proofs.Pairs.{by_record, has_record, lookup_get_or}
use Rattle.trace.specs.Trace.{Read, ARequest, Remark, Bad, End, read_of}
use Rattle.player.specs.Run.{start_settings, start_processor, start_state, start_progress, Progress, turn_of, after_request, after_other}
use Rattle.player.specs.Run.{Line, Run, on_read, run_from, run_of}
use Rattle.player.proofs.Sentences.{Lengths, lengths_at_start, lengths_kept}

-- P holds of each element of a list
abbrev pub Each : {A : Type 0} → (A → Type 0) → List A → Type 0
Each P [] = Unit {0}
Each P (x ∷ xs) = P x × Each P xs

each_at : {A : Type 0} (P : A → Type 0) (xs : List A) (n : ℕ) (v : A) → get_elem? xs n ≡ some v → Each P xs → P v
each_at P [] n v e h = absurd (none-ne-some v e)
each_at P (x ∷ xs) zero v e h = subst P (some-injective x v e) h.0
each_at P (x ∷ xs) (suc n) v e h = each_at P xs n v e h.1

each_set : {A : Type 0} (P : A → Type 0) (xs : List A) (n : ℕ) (w : A) → Each P xs → P w → Each P (set xs n w)
each_set P [] n w h k = tt
each_set P (x ∷ xs) zero w h k = (k, h.1)
each_set P (x ∷ xs) (suc n) w h k = (h.0, each_set P xs n w h.1 k)

-- a number is one of the five, and one of the four that are not 65
abbrev pub OneOfFive : ℕ → Type 0
OneOfFive n = is_in n (0 ∷ 5 ∷ 6 ∷ 65 ∷ 66 ∷ []) ≡ true

abbrev pub OneOfFour : ℕ → Type 0
OneOfFour n = is_in n (0 ∷ 5 ∷ 6 ∷ 66 ∷ []) ≡ true

-- a record that passes line 65 and has the start's PSW key 0, supervisor state and controls: it differs in condition code and prefix only
pub record KeptRecord (p : Processor) : Type 0 where
  pub controls : p ≡ with_prefix (with_code start_processor p.code) p.prefix
  pub valid : own_record 65536 p ≡ Clear

-- a state with the lengths of the start and two such records
pub record Kept (m : State) : Type 0 where
  pub lengths : Lengths m
  pub pair : length m.processors ≡ 2
  pub records : Each KeptRecord m.processors

-- One request of a processor whose record is such. The sentences of six lines fail.
module _ (storage keys : List ℕ) (p : Processor) (r : Request) (buffer : List ℕ)
    (bytes : length storage ≡ 65536) (units : length keys ≡ 32) (kept : KeptRecord p) where
  no_64 : Line64 start_settings (length storage) (length keys) → ⊥
  no_64 h = not_both ((tells_64 start_settings 65536 32).1 (rw (bytes, units) at h)) refl

  no_65 : Line65 (length storage) p → ⊥
  no_65 h = not_both ((tells_65 65536 p).1 (rw bytes at h)) (line_clear Record _ kept.valid)

  no_1 : (r : Request) → Line1 start_settings r → ⊥
  no_1 (Key (Iske r1 r2)) h = not_both refl h
  no_1 (Key (Sske r1 r2)) h = not_both refl h
  no_1 (Key (Rrbe r2)) h = not_both refl h
  no_1 (Key (Isk r1 r2)) h = h
  no_1 (Key (Ssk r1 r2)) h = h
  no_1 (Key (Rrb address)) h = h
  no_1 (Access kind address count) h = h
  no_1 (Prefix i) h = h

  no_2 : (r : Request) → Line2 p r → ⊥
  no_2 (Key i) h = not_both h (ap (λ q. q.problem) kept.controls)
  no_2 (Prefix i) h = not_both h (ap (λ q. q.problem) kept.controls)
  no_2 (Access kind address count) h = h

  no_19 : (r : Request) → Line19 start_settings p r → ⊥
  no_19 (Key (Isk r1 r2)) h = not_both h.0 refl
  no_19 (Key (Ssk r1 r2)) h = not_both h.0 refl
  no_19 (Key (Rrb address)) h = not_both h.0 refl
  no_19 (Key (Iske r1 r2)) h = h
  no_19 (Key (Sske r1 r2)) h = h
  no_19 (Key (Rrbe r2)) h = h
  no_19 (Access kind address count) h = h
  no_19 (Prefix i) h = h

  no_4 : (r : Request) → Line4 start_settings keys p r → ⊥
  no_4 (Access Store address count) (i, l, inl low) = not_both low.0 (ap (λ q. q.low_protection) kept.controls)
  no_4 (Access Store address count) (i, l, inr differ) = differ.0 (ap (λ q. q.psw_key) kept.controls)
  no_4 (Access Fetch address count) (i, l, differ) = differ.0.0 (ap (λ q. q.psw_key) kept.controls)
  no_4 (Key i) h = h
  no_4 (Prefix i) h = h

  -- what holds of 0, 5, 6 and 66 holds of its number
  own_number : (P : ℕ → Type 0) → P 0 → P 5 → P 6 → P 66 → P (step start_settings storage keys p r buffer).answer.number
  own_number P on_0 on_5 on_6 on_66 =
      by_verdict start_settings storage keys p r buffer (λ o. P o.answer.number)
      (λ reason place e.
      go reason (ap (λ (v : Values). v.number) ((refused_by_table start_settings storage keys p r buffer reason place).1 e)))
      (λ e. rw (completed_number start_settings storage keys p r buffer r) on_0)
    where
      go : (reason : Reason) → (step start_settings storage keys p r buffer).answer.number ≡ number reason → P (number reason)
      go Operand e = on_66
      go Specification e = on_6
      go Addressing e = on_5
      go Configuration e = absurd (no_64 ((refused_64 start_settings storage keys p r buffer).0 e))
      go Record e = absurd (no_65 ((refused_65 start_settings storage keys p r buffer).0 e).1)
      go Operation e = absurd (no_1 r ((refused_1 start_settings storage keys p r buffer).0 e).1)
      go Privileged e = absurd (no_2 r ((refused_2 start_settings storage keys p r buffer).0 e).1)
      go SpecialOperation e = absurd (no_19 r ((refused_19 start_settings storage keys p r buffer).0 e).1)
      go Protection e = absurd (no_4 r ((refused_4 start_settings storage keys p r buffer).0 e).1)

  -- and it leaves such a record
  record_kept : KeptRecord (step start_settings storage keys p r buffer).processor
  record_kept =
      let after = (step start_settings storage keys p r buffer).processor in
      record {
        controls = controls_stay start_settings storage keys p r buffer
            ∙ ap (λ (q : Processor). with_prefix (with_code q after.code) after.prefix) kept.controls;
        valid = rw bytes at (record_stays_valid start_settings storage keys p buffer r (rw bytes kept.valid));
      }

-- One request in a kept state.
module _ (m : State) (t : Turn) (kept : Kept m) where
  -- what holds of an answer without a record, and of the step of a processor that has a kept one, holds of the request
  by_kept_record : (P : PairOutcome → Type 0)
      → (record_of m.processors t.processor_number ≡ none
      → P (pair_outcome (answer_of (without_record start_settings (length m.storage) (length m.keys)) 0 0)
      m.storage m.keys m.processors t.buffer))
      → ((p : Processor) → KeptRecord p
      → P (put_back m.processors t.processor_number (step start_settings m.storage m.keys p t.request t.buffer)))
      → P (turn_outcome start_settings m t)
  by_kept_record P without with_record =
      by_record start_settings m.storage m.keys m.processors t.processor_number t.request t.buffer P without
      (λ p e. with_record p
      (each_at KeptRecord m.processors t.processor_number p (has_record m.processors t.processor_number p e).1 kept.records))

  -- it leaves a kept state
  pub kept_next : Kept (next start_settings m t)
  kept_next =
      record {
        lengths = lengths_kept start_settings m t kept.lengths;
        pair = by_kept_record (λ o. length o.processors ≡ 2) (λ e. kept.pair)
            (λ p own. length-set m.processors t.processor_number _ ∙ kept.pair);
        records = by_kept_record (λ o. Each KeptRecord o.processors) (λ e. kept.records)
            (λ p own. each_set KeptRecord m.processors t.processor_number _ kept.records
            (record_kept m.storage m.keys p t.request t.buffer kept.lengths.0 kept.lengths.1 own));
      }

  -- it gets one of the five numbers, whatever processor it is of
  pub any_processor_gets_five : OneOfFive (given start_settings m t).answer.number
  unfolding line first_of
  any_processor_gets_five =
      by_kept_record (λ o. OneOfFive o.answer.number) (λ e. rw (kept.lengths.0, kept.lengths.1) refl)
      (λ p own. own_number m.storage m.keys p t.request t.buffer kept.lengths.0 kept.lengths.1 own
      OneOfFive refl refl refl refl)

  -- of processor 0 or 1 it gets one of the four: 65 says that there is no such processor
  pub processor_0_or_1_gets_four : t.processor_number < 2 → OneOfFour (given start_settings m t).answer.number
  processor_0_or_1_gets_four h =
      by_kept_record (λ o. OneOfFour o.answer.number) (λ e. absurd (none-ne-some _ (sym e ∙ found)))
      (λ p own. own_number m.storage m.keys p t.request t.buffer kept.lengths.0 kept.lengths.1 own
      OneOfFour refl refl refl refl)
    where
      found : record_of m.processors t.processor_number ≡ some (get_or m.processors t.processor_number start_processor)
      found =
          rw (lt-ltb t.processor_number 2 h)
          (lookup_get_or m.processors t.processor_number start_processor (omega (arith, kept.pair)))

-- The run.
kept_at_start : Kept start_state
unfolding start_state line
kept_at_start = record { lengths = lengths_at_start; pair = refl; records = (own, (own, tt)) }
  where
    own : KeptRecord start_processor
    own = record { controls = refl; valid = refl }

-- every line of a run has one of the five numbers, and the state that it leaves is kept
abbrev KeptRun : Run → Type 0
KeptRun r = Each (λ (l : Line). OneOfFive l.number) r.lines × Kept r.state

on_kept : (p : Progress) (bytes : List ℕ) (rest : Progress → List ℕ → Run)
    → ((q : Progress) (b : List ℕ) → Kept q.state → KeptRun (rest q b)) → Kept p.state → (found : Read)
    → KeptRun (on_read found start_settings p bytes rest)
unfolding on_read
on_kept p bytes rest h kept (ARequest n r size) =
    let t = turn_of n r bytes size in
    let (after, left) = h (after_request start_settings p t) (drop size bytes) (kept_next p.state t kept) in
    ((any_processor_gets_five p.state t kept, after), left)
on_kept p bytes rest h kept (Remark size) = h (after_other p) (drop size bytes) kept
on_kept p bytes rest h kept Bad = (tt, kept)
on_kept p bytes rest h kept End = (tt, kept)

kept_from : (n : ℕ) (p : Progress) (bytes : List ℕ) → Kept p.state → KeptRun (run_from n start_settings p bytes)
unfolding run_from
kept_from zero p bytes kept = (tt, kept)
kept_from (suc n) p bytes kept = on_kept p bytes (run_from n start_settings) (λ q b. kept_from n q b) kept (read_of bytes)

-- after any number of records the state is kept
pub start_keeps_controls : (n : ℕ) (bytes : List ℕ) → Kept (run_from n start_settings start_progress bytes).state
start_keeps_controls n bytes = (kept_from n start_progress bytes kept_at_start).1

-- every line of a recording has one of the five numbers
pub five_numbers : (bytes : List ℕ) → Each (λ (l : Line). is_in l.number (0 ∷ 5 ∷ 6 ∷ 65 ∷ 66 ∷ []) ≡ true) (run_of bytes).lines
unfolding run_of
five_numbers bytes = (kept_from (length bytes) start_progress bytes kept_at_start).0
