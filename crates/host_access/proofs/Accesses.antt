-- A call of the short way in, by what the storage unit serves. Its record is that in the eight bytes of its number, of which the lesser half is
-- the state and the greater the prefix; a record whose state is wrong is refused as one that is not there. With the record of a processor of
-- the pair it is the call of the long way in.
-- Assumes nothing.
use Prim.Native.Nat.{ℕ, zero, suc, ◌+◌, ◌*◌, ◌/◌, ◌%◌, ◌<◌}
use mathlib.Core.Path.{◌≡◌, refl, sym, ap, ◌∙◌}
use mathlib.Core.Bool.{Bool, true, false, cond}
use mathlib.Core.List.{List}
use Rattle.std.specs.Prelude.{Ok, Err}
use Rattle.machine.specs.declared.Refusal.{Refusal}
use native.Mathlib.Decide.{ℕ_discrete}
use native.Mathlib.Omega.{arith}
use native.Mathlib.Nat.{zero-add}
use lib.ListN.{length, get_or}
use lib.Dec.{ltb}
use borrow.Author.Tests.{lt-ltb, eq-eqb, ne_eqb}
use Rattle.machine.specs.declared.Settings.{Settings}
use Rattle.machine.specs.declared.AccessKind.{AccessKind}
use Rattle.machine.specs.declared.AccessKind.TheVariants.{Fetch, Store}
use Rattle.machine.specs.declared.Reason.TheVariants.{Configuration, Record}
use Rattle.machine.specs.declared.Processor.{Processor}
use Rattle.machine.specs.declared.Request.TheVariants.{Access}
use Rattle.machine.specs.Lists.{written}
use Rattle.machine.specs.Answers.{Answer, Verdict, Stop, values, first_of, answer_of}
use Rattle.machine.specs.Step.{Outcome, outcome, completed, step}
use Rattle.machine.specs.Table.{configuration}
use Rattle.machine.proofs.Conditions.{answer_in_table}
use Rattle.machine.proofs.OwnRecord.{wrong_record}
use Rattle.machine.proofs.Requests.{either_way, refused_changes_nothing, completed_cleared}
use Rattle.machine.proofs.AbsoluteAddress.{record_tested}
use Rattle.machine.proofs.BeforeProtection.{cleared}
use Rattle.machine.proofs.Written.{written_back}
use Rattle.boundary.specs.Boundary.{settings_of, record_at, record_bytes, request_of, Packs, packed}
use Rattle.boundary.specs.Boundary.{call_outcome, records_left, call_refused, called_with, called}
use Rattle.boundary.specs.Words.{settings_in, word_at, state_valid, record_of}
use Rattle.boundary.proofs.Records.{last_word, same_record, valid_record_is_written}
use Rattle.boundary.proofs.Settings.{settings_unfit}
use Rattle.boundary.proofs.Words.{state_wrong, state_read}
use Rattle.host_access.specs.Entry.{Enters}
use Rattle.host_access.specs.ShortWay.{number_bytes, record_in, access_outcome, access_served, accessed, AccessCondition1}

-- the greater half of a number below 2^64, from its four bytes
prefix_in_lem : (x : ℕ) → x < 18446744073709551616
    → x / 4294967296 ≡ x / 4294967296 % 256 + x / 1099511627776 % 256 * 256 + x / 281474976710656 % 256 * 65536 + x / 72057594037927936 % 256 * 16777216
prefix_in_lem x h =
    let a : x / 4294967296 / 256 ≡ x / 1099511627776 = omega arith in
    let b : x / 4294967296 / 65536 ≡ x / 281474976710656 = omega arith in
    let c : x / 4294967296 / 16777216 ≡ x / 72057594037927936 = omega arith in
    let whole : x / 4294967296 ≡ x / 4294967296 % 4294967296 = omega arith in
    whole ∙ (rw (a, b, c) at (last_word (x / 4294967296)))

number_byte : (x i : ℕ) → get_or (number_bytes x) i 0 < 256
number_byte x zero = omega arith
number_byte x (suc zero) = omega arith
number_byte x (suc (suc zero)) = omega arith
number_byte x (suc (suc (suc zero))) = omega arith
number_byte x (suc (suc (suc (suc zero)))) = omega arith
number_byte x (suc (suc (suc (suc (suc zero))))) = omega arith
number_byte x (suc (suc (suc (suc (suc (suc zero)))))) = omega arith
number_byte x (suc (suc (suc (suc (suc (suc (suc zero))))))) = omega arith
number_byte x (suc (suc (suc (suc (suc (suc (suc (suc i)))))))) = omega arith

-- the record in a number, by its state and its prefix
pub record_read_lem : (x : ℕ) → x < 18446744073709551616 → state_valid (x % 4294967296) ≡ true
    → record_of (x % 4294967296) (x / 4294967296) ≡ record_in x
record_read_lem x h valid =
    ap (λ state. record_of state (x / 4294967296)) (last_word x)
    ∙ ap (record_of (word_at (number_bytes x) 0)) (prefix_in_lem x h)
    ∙ state_read (number_bytes x) 0 (number_byte x) (rw (last_word x) at valid)

-- a call that changes nothing, whatever its answer
pub nothing_changes : (answer : Answer) {result : ℕ} {storage keys bytes : List ℕ} → Packs result answer
    → AccessCondition1 result storage keys bytes storage keys bytes
nothing_changes answer given = record { answered = rw given.1 (answer_in_table answer); unchanged = λ h. (refl, refl, refl) }

module _ (s : Settings) (storage keys : List ℕ) (x : ℕ) (kind : AccessKind) (address : ℕ) (bytes : List ℕ) (answer : Answer) {result : ℕ}
    (given : Packs result answer) where
  abbrev after : Outcome
  after = step s storage keys (record_in x) (Access kind address (length bytes)) bytes

  -- both conditions of a call that leaves these
  abbrev Met : List ℕ → List ℕ → List ℕ → Type 0
  Met storage' keys' bytes' =
      AccessCondition1 result storage keys bytes storage' keys' bytes' × (access_outcome result storage' keys' bytes' ≡ access_served after)

  -- where it leaves what the step leaves
  pub served_access : {storage' keys' bytes' : List ℕ} {q : Processor} → outcome answer storage' keys' q bytes' ≡ after → Met storage' keys' bytes'
  served_access stepped = (
    record {
      answered = rw given.1 (answer_in_table answer);
      unchanged =
          λ d.
          let number_same = ap (λ o. o.answer.number) stepped in
          let u = stepped ∙ refused_changes_nothing s storage keys (record_in x) (Access kind address (length bytes)) bytes
          (λ e. d (given.1 ∙ number_same ∙ e)) in
          (ap (λ o. o.storage) u, ap (λ o. o.keys) u, ap (λ o. o.buffer) u);
    },
    rw given.0 (ap access_served stepped),
  )

-- with another bit on in the settings every access is refused
pub settings_refused : (settings : ℕ) (refusal : Refusal) (storage keys : List ℕ) (x : ℕ) → settings_in settings ≡ Err refusal
    → Enters (Err refusal) settings storage keys x
unfolding accessed
settings_refused settings refusal storage keys x found =
    λ kind address bytes. let wrong = settings_unfit settings refusal found in rw (wrong.0, wrong.1)

-- with a record whose state is wrong every access is refused, as one that has no record
pub record_refused : (settings : ℕ) (v : Verdict) (storage keys : List ℕ) (x : ℕ) → settings < 4 → state_valid (x % 4294967296) ≡ false
    → configuration (settings_of settings) (length storage) (length keys) ≡ v
    → (kind : AccessKind) (address : ℕ) (bytes : List ℕ)
    → accessed kind settings storage keys x address bytes
    ≡ access_outcome (packed (values (answer_of (first_of v (Stop Record 0)) 0 0))) storage keys bytes
unfolding accessed
record_refused settings v storage keys x fits wrong found kind address bytes =
    let s = settings_of settings in
    let refused = state_wrong (number_bytes x) 0 (number_byte x) (length storage) (rw (last_word x) at wrong) in
    rw (lt-ltb _ _ fits, ← found)
    (sym (ap access_served (wrong_record s storage keys (record_in x) (Access kind address (length bytes)) bytes refused)))

-- An access leaves the record of its processor; so it leaves the bytes of the records.
module _ (s : Settings) (storage keys records : List ℕ) (at : ℕ) (kind : AccessKind) (address count : ℕ) (buffer : List ℕ)
    (byte : (i : ℕ) → get_or records i 0 < 256) where
  abbrev own : Processor
  own = record_at records at

  abbrev left : Outcome
  left = step s storage keys own (Access kind address count) buffer

  record_stays : left.processor ≡ own
  unfolding completed
  record_stays = either_way s storage keys own (Access kind address count) buffer (λ o. o.processor ≡ own) (λ answer. refl) refl

  pub records_stay : records_left left.answer.number records at left.processor ≡ records
  unfolding records_left
  records_stay = go (ℕ_discrete left.answer.number 0)
    where
      go : Dec (left.answer.number ≡ 0) → records_left left.answer.number records at left.processor ≡ records
      go (yes number) =
          let lines = cleared _ _ _ _ _ _ (completed_cleared s storage keys own (Access kind address count) buffer number) in
          let holds = valid_record_is_written records at (length storage) byte (record_tested (length storage) own lines.own) in
          rw (eq-eqb _ _ number)
          (ap (λ (p : Processor). written records (λ i. at + i) (λ i. get_or (record_bytes p) i 0) 8) record_stays
          ∙ written_back records (λ i. at + i) (λ i. get_or (record_bytes own) i 0) 8 holds)
      go (no d) = rw (ne_eqb _ _ d)

-- the operation number of a kind of access
abbrev pub operation_of : AccessKind → ℕ
operation_of Fetch = 0
operation_of Store = 1

asked : (kind : AccessKind) (address count : ℕ) → request_of (operation_of kind) address count ≡ Access kind address count
asked Fetch address count = refl
asked Store address count = refl

-- With the bytes of a processor's record in its number, the short way in leaves what the long way in leaves, and the records stay as they are.
pub short_way_is_call : (kind : AccessKind) (settings : ℕ) (storage keys records : List ℕ) (n x address : ℕ) (bytes : List ℕ)
    → length records ≡ 16 → n < 2 → ((i : ℕ) → get_or records i 0 < 256)
    → ((i : ℕ) → i < 8 → get_or (number_bytes x) i 0 ≡ get_or records (n * 8 + i) 0)
    → let a = accessed kind settings storage keys x address bytes in
    called settings storage keys records n (operation_of kind) address (length bytes) bytes
    ≡ call_outcome a.answer a.storage a.keys records a.bytes
unfolding called called_with accessed
short_way_is_call kind settings storage keys records n x address bytes sized one byte same = go (ltb settings 4)
  where
    s : Settings
    s = settings_of settings

    o : Outcome
    o = step s storage keys (record_at records (n * 8)) (Access kind address (length bytes)) bytes

    same_own : record_in x ≡ record_at records (n * 8)
    same_own = same_record (number_bytes x) records 0 (n * 8) (λ i h. rw (zero-add i) (same i h))

    go : (b : Bool) → let a = cond b (access_served (step s storage keys (record_in x) (Access kind address (length bytes)) bytes))
        (access_outcome (packed (values (answer_of (Stop Configuration 0) 0 0))) storage keys bytes) in
        cond b (called_with s storage keys records n (request_of (operation_of kind) address (length bytes)) bytes)
        (call_refused (Stop Configuration 0) storage keys records bytes)
        ≡ call_outcome a.answer a.storage a.keys records a.bytes
    go true =
        rw (asked kind address (length bytes), eq-eqb _ _ sized, lt-ltb n 2 one, same_own)
        (ap (λ (left_records : List ℕ). call_outcome (packed o.answer) o.storage o.keys left_records o.buffer)
        (records_stay s storage keys records (n * 8) kind address (length bytes) bytes byte))
    go false = refl
