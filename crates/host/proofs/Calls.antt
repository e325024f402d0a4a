-- A call by what the storage unit serves: completed, refused, without a record, or past the last operation. A completed request had a record that
-- line 65 lets pass, so its bytes are known, and what is written over them is the record that the step leaves. Assumes nothing.
use Rattle.std.specs.Prelude.{Err}
use Prim.Native.Nat.{ℕ, ◌+◌, ◌<◌, ◌≤◌}
use mathlib.Core.Path.{◌≡◌, refl, sym, ap, subst, ◌∙◌}
use mathlib.Core.Bool.{Bool, true, false, not, ◌&&◌}
use mathlib.Core.Logic.{◌≢◌}
use mathlib.Core.List.{List, []}
use native.Mathlib.Decide.{ℕ_discrete}
use lib.ListN.{length, get_or, set}
use lib.Seq.{set-get_or}
use lib.Dec.{eqb}
use borrow.Author.Tests.{eq-eqb, ne_eqb, lt-ltb, le-ltb}
use Rattle.machine.specs.declared.Settings.{Settings}
use Rattle.machine.specs.declared.Processor.{Processor}
use Rattle.machine.specs.declared.PrefixInstruction.{PrefixInstruction}
use Rattle.machine.specs.declared.PrefixInstruction.TheVariants.{SetPrefix, StorePrefix}
use Rattle.machine.specs.declared.Request.{Request}
use Rattle.machine.specs.declared.Request.TheVariants.{Prefix}
use Rattle.machine.specs.Answers.{Answer, Verdict, Clear, Stop, number_of, values, line, first_of, first_line, answer_of, stops}
use Rattle.machine.specs.declared.Reason.TheVariants.{Operand}
use Rattle.machine.specs.Lists.{written}
use Rattle.machine.specs.Numbers.{lengths_valid, record_valid}
use Rattle.machine.specs.Table.{configuration, own_record, before_protection, verdict}
use Rattle.machine.specs.Step.{with_code, with_prefix, outcome, completed, step}
use Rattle.machine.specs.Pair.{without_record}
use Rattle.machine.proofs.AbsoluteAddress.{record_tested}
use Rattle.machine.proofs.BeforeProtection.{cleared}
use Rattle.machine.proofs.Conditions.{answer_in_table}
use Rattle.machine.proofs.OwnRecord.{wrong_record}
use Rattle.machine.proofs.Verdicts.{first_assoc}
use Rattle.machine.proofs.Requests.{NoAccess, with_any_buffer, either_way, refused_request, refused_changes_nothing, completed_cleared, controls_stay}
use Rattle.boundary.specs.Boundary.{settings_of, record_at, record_bytes, request_of, packed, Packs}
use Rattle.boundary.specs.Boundary.{call_outcome, records_left, call_served, called_with, called, CallCondition1}
use Rattle.boundary.specs.Words.{word_at, state_valid}
use Rattle.boundary.proofs.Records.{Holds, valid_record_is_written}
use Rattle.boundary.proofs.Words.{state_wrong}
use Rattle.boundary.proofs.Laws.{past_last_refused}
use Rattle.host.specs.Serving.{Met, MetByInstruction}
use Rattle.host.specs.Writing.{prefix_put, record_put}
use Rattle.host.proofs.Writing.{record_put_lem, same_put}

-- condition 1 of a call that changes nothing, whatever its answer
pub nothing_changes : (answer : Answer) {result : ℕ} {storage keys bytes buffer storage' keys' bytes' buffer' : List ℕ} → Packs result answer
    → storage' ≡ storage → keys' ≡ keys → bytes' ≡ bytes → buffer' ≡ buffer
    → CallCondition1 result storage keys bytes buffer storage' keys' bytes' buffer'
nothing_changes answer given a b c d = record { answered = rw given.1 (answer_in_table answer); unchanged = λ h. (a, b, c, d) }

-- a test that was turned round
pub turned_true : (b : Bool) → not b ≡ true → b ≡ false
turned_true true e = sym e
turned_true false e = refl

pub turned_false : (b : Bool) → not b ≡ false → b ≡ true
turned_false true e = refl
turned_false false e = sym e

-- The request of a processor whose record p stands in the bytes from `at` on leaves these, and q as its record.
module _ (bytes : List ℕ) (s : Settings) (storage keys : List ℕ) (at : ℕ) {p : Processor} (r : Request) (buffer : List ℕ)
    (answer : Answer) {storage' keys' : List ℕ} {q : Processor} {buffer' : List ℕ} {result : ℕ} {bytes' : List ℕ}
    (read : p ≡ record_at bytes at) (stepped : outcome answer storage' keys' q buffer' ≡ step s storage keys p r buffer)
    (byte : (i : ℕ) → get_or bytes i 0 < 256) (put : bytes' ≡ record_put bytes at p q) (given : Packs result answer) where
  abbrev CallMet : Type 0
  CallMet = Met s r at result storage keys bytes buffer storage' keys' bytes' buffer'

  number_same : number_of answer ≡ (step s storage keys p r buffer).answer.number
  number_same = ap (λ o. o.answer.number) stepped

  by_bytes : call_served bytes at (outcome answer storage' keys' q buffer') ≡ call_served bytes at (step s storage keys (record_at bytes at) r buffer)
  by_bytes = ap (call_served bytes at) (stepped ∙ ap (λ x. step s storage keys x r buffer) read)

  -- the bytes of a completed request's record are those of p, and those that are left are those of q
  put_completed : number_of answer ≡ 0 → bytes' ≡ written bytes (λ i. at + i) (λ i. get_or (record_bytes q) i 0) 8
  put_completed zero = put ∙ record_put_lem bytes at p q (subst (Holds bytes at) (sym read) held) kept
    where
      own : record_valid (length storage) (record_at bytes at) ≡ true
      own =
          subst (λ x. record_valid (length storage) x ≡ true) read
          (record_tested (length storage) p (cleared _ _ _ _ _ _ (completed_cleared s storage keys p r buffer (sym number_same ∙ zero))).own)

      held : Holds bytes at (record_at bytes at)
      held = valid_record_is_written bytes at (length storage) byte own

      kept : q ≡ with_prefix (with_code p q.code) q.prefix
      kept =
          subst (λ o. o.processor ≡ with_prefix (with_code p o.processor.code) o.processor.prefix) (sym stepped)
          (controls_stay s storage keys p r buffer)

  completed_call : number_of answer ≡ 0 → CallMet
  unfolding records_left
  completed_call zero = (
    record { answered = rw given.1 (answer_in_table answer); unchanged = λ h. absurd (h (given.1 ∙ zero)) },
    rw (given.0, put_completed zero) (completed_bytes ∙ by_bytes),
  )
    where
      completed_bytes : call_outcome (packed (values answer)) storage' keys' (written bytes (λ i. at + i) (λ i. get_or (record_bytes q) i 0) 8) buffer'
          ≡ call_served bytes at (outcome answer storage' keys' q buffer')
      completed_bytes = rw (eq-eqb _ _ zero)

  refused_call : number_of answer ≢ 0 → CallMet
  unfolding records_left
  refused_call d =
      let u = stepped ∙ refused_changes_nothing s storage keys p r buffer (λ e. d (number_same ∙ e)) in
      let same = put ∙ ap (record_put bytes at p) (ap (λ o. o.processor) u) ∙ same_put bytes at p read in (
        nothing_changes answer given (ap (λ o. o.storage) u) (ap (λ o. o.keys) u) same (ap (λ o. o.buffer) u),
        rw (given.0, same) (kept_bytes ∙ by_bytes),
      )
    where
      kept_bytes : call_outcome (packed (values answer)) storage' keys' bytes buffer' ≡ call_served bytes at (outcome answer storage' keys' q buffer')
      kept_bytes = rw (ne_eqb _ _ d)

  -- both conditions of the call
  pub served_call : CallMet
  served_call = go (ℕ_discrete (number_of answer) 0)
    where
      go : Dec (number_of answer ≡ 0) → CallMet
      go (yes zero) = completed_call zero
      go (no d) = refused_call d

-- both conditions of a call that leaves the record as it is
pub kept_call : (bytes : List ℕ) (s : Settings) (storage keys : List ℕ) (at : ℕ) {p : Processor} (r : Request) (buffer : List ℕ)
    (answer : Answer) {storage' keys' buffer' : List ℕ} {result : ℕ}
    → p ≡ record_at bytes at → outcome answer storage' keys' p buffer' ≡ step s storage keys p r buffer
    → ((i : ℕ) → get_or bytes i 0 < 256) → Packs result answer → Met s r at result storage keys bytes buffer storage' keys' bytes buffer'
kept_call bytes s storage keys at {p} r buffer answer read stepped byte given =
    served_call bytes s storage keys at r buffer answer read stepped byte (sym (same_put bytes at p read)) given

-- the same of an instruction, which looks at no buffer: what holds with the empty one holds with any
pub served_instruction : (bytes : List ℕ) (s : Settings) (storage keys : List ℕ) (at : ℕ) {p : Processor} (r : Request) (answer : Answer) → NoAccess r
    → {storage' keys' : List ℕ} {q : Processor} {result : ℕ} {bytes' : List ℕ}
    → p ≡ record_at bytes at → outcome answer storage' keys' q [] ≡ step s storage keys p r []
    → ((i : ℕ) → get_or bytes i 0 < 256) → Packs result answer → bytes' ≡ record_put bytes at p q
    → MetByInstruction s r at result storage keys bytes storage' keys' bytes'
served_instruction bytes s storage keys at {p} r answer other read stepped byte given put =
    λ buffer. served_call bytes s storage keys at r buffer answer read (with_any_buffer s storage keys p r buffer other stepped) byte put given

pub kept_instruction : (bytes : List ℕ) (s : Settings) (storage keys : List ℕ) (at : ℕ) {p : Processor} (r : Request) (answer : Answer) → NoAccess r
    → {storage' keys' : List ℕ} {result : ℕ} → p ≡ record_at bytes at → outcome answer storage' keys' p [] ≡ step s storage keys p r []
    → ((i : ℕ) → get_or bytes i 0 < 256) → Packs result answer → MetByInstruction s r at result storage keys bytes storage' keys' bytes
kept_instruction bytes s storage keys at {p} r answer other read stepped byte given =
    served_instruction bytes s storage keys at r answer other read stepped byte given (sym (same_put bytes at p read))

-- a prefix instruction leaves the condition code
code_stays : (s : Settings) (storage keys : List ℕ) (p : Processor) (i : PrefixInstruction) (buffer : List ℕ)
    → (step s storage keys p (Prefix i) buffer).processor.code ≡ p.code
unfolding completed
code_stays s storage keys p i buffer = either_way s storage keys p (Prefix i) buffer (λ o. o.processor.code ≡ p.code) (λ answer. refl) (go i)
  where
    go : (i : PrefixInstruction) → (completed s storage keys p (Prefix i) buffer).processor.code ≡ p.code
    go (SetPrefix word) = refl
    go StorePrefix = refl

-- both conditions of a call of a prefix instruction, where the prefix is all that is written
pub prefix_call : (bytes : List ℕ) (s : Settings) (storage keys : List ℕ) (at : ℕ) {p : Processor} (i : PrefixInstruction) (answer : Answer)
    {storage' keys' : List ℕ} {q : Processor} {result : ℕ} {bytes' : List ℕ}
    → p ≡ record_at bytes at → outcome answer storage' keys' q [] ≡ step s storage keys p (Prefix i) []
    → ((i : ℕ) → get_or bytes i 0 < 256) → Packs result answer → bytes' ≡ prefix_put bytes at p.prefix q.prefix
    → MetByInstruction s (Prefix i) at result storage keys bytes storage' keys' bytes'
prefix_call bytes s storage keys at {p} i answer {q} read stepped byte given put =
    let same = ap (λ o. o.processor.code) stepped ∙ code_stays s storage keys p i [] ∙ ap (λ x. x.code) read in
    let kept = ap (set bytes (at + 2)) same ∙ set-get_or bytes (at + 2) 0 in
    served_instruction bytes s storage keys at (Prefix i) answer tt read stepped byte given
    (put ∙ ap (λ b. prefix_put b at p.prefix q.prefix) (sym kept))

-- lengths that line 64 refuses, whatever the record
wrong_lengths : (s : Settings) (storage keys : List ℕ) (p : Processor) (r : Request) (buffer : List ℕ)
    → lengths_valid s (length storage) (length keys) ≡ false
    → outcome (answer_of (without_record s (length storage) (length keys)) 0 0) storage keys p buffer ≡ step s storage keys p r buffer
unfolding first_of first_line line verdict before_protection
wrong_lengths s storage keys p r buffer wrong = refused_request s storage keys p r buffer found 0 0 stopped
  where
    found : without_record s (length storage) (length keys) ≡ verdict s (length storage) keys p r (length buffer)
    found = rw wrong refl

    stopped : stops (without_record s (length storage) (length keys)) ≡ true
    stopped = rw wrong refl

-- Both conditions of a call that is refused by line 64 or 65, by lengths or state: it is refused as one that has no record.
pub wrong_call : (bytes : List ℕ) (s : Settings) (storage keys : List ℕ) (at : ℕ) (r : Request) (buffer : List ℕ) {result : ℕ}
    → ((i : ℕ) → get_or bytes i 0 < 256) → lengths_valid s (length storage) (length keys) && state_valid (word_at bytes at) ≡ false
    → Packs result (answer_of (without_record s (length storage) (length keys)) 0 0) → Met s r at result storage keys bytes buffer storage keys bytes buffer
wrong_call bytes s storage keys at r buffer byte wrong given =
    kept_call bytes s storage keys at r buffer (answer_of (without_record s (length storage) (length keys)) 0 0) refl (go _ refl) byte given
  where
    go : (b : Bool) → lengths_valid s (length storage) (length keys) ≡ b
        → outcome (answer_of (without_record s (length storage) (length keys)) 0 0) storage keys (record_at bytes at) buffer
        ≡ step s storage keys (record_at bytes at) r buffer
    go true e = wrong_record s storage keys (record_at bytes at) r buffer (state_wrong bytes at byte (length storage) (rw e at wrong))
    go false e = wrong_lengths s storage keys (record_at bytes at) r buffer e

-- a refusal stops, whatever comes before it
stopped : (v : Verdict) → stops (first_of v (Stop Operand 0)) ≡ true
unfolding first_of
stopped Clear = refl
stopped (Err refusal) = refl

-- both conditions of a call with an operation number past the last
pub past_last_call : (bytes : List ℕ) (s : Settings) (storage keys : List ℕ) (at : ℕ) {p : Processor} (operation a b : ℕ) (buffer : List ℕ) {result : ℕ}
    → 10 ≤ operation → p ≡ record_at bytes at → ((i : ℕ) → get_or bytes i 0 < 256)
    → Packs result
    (answer_of (first_of (first_of (configuration s (length storage) (length keys)) (own_record (length storage) p)) (Stop Operand 0)) 0 0)
    → Met s (request_of operation a b) at result storage keys bytes buffer storage keys bytes buffer
past_last_call bytes s storage keys at {p} operation a b buffer h read byte given =
    let lines = first_of (configuration s (length storage) (length keys)) (own_record (length storage) p) in
    let found = first_assoc _ _ _ ∙ sym (past_last_refused s (length storage) keys p operation a b (length buffer) h) in
    kept_call bytes s storage keys at (request_of operation a b) buffer (answer_of (first_of lines (Stop Operand 0)) 0 0) read
    (refused_request s storage keys p (request_of operation a b) buffer found 0 0 (stopped lines)) byte given

and_false : (b : Bool) → b && false ≡ false
and_false true = refl
and_false false = refl

-- a call without a record: its processor's number is not 0 or 1, or its records are not sixteen bytes
module _ (settings : ℕ) (storage keys records : List ℕ) (n operation first second : ℕ) (buffer : List ℕ) {result : ℕ} (fits : settings < 4)
    (given : Packs result (answer_of (without_record (settings_of settings) (length storage) (length keys)) 0 0)) where
  abbrev CallRefused : Type 0
  CallRefused = call_outcome result storage keys records buffer ≡ called settings storage keys records n operation first second buffer

  pub no_processor : 2 ≤ n → CallRefused
  unfolding called called_with
  no_processor h = rw (given.0, lt-ltb _ _ fits, le-ltb n 2 h, and_false (eqb (length records) 16))

  pub no_records : length records ≢ 16 → CallRefused
  unfolding called called_with
  no_records d = rw (given.0, lt-ltb _ _ fits, ne_eqb _ _ d)
