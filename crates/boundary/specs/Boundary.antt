-- The boundary for programs in other languages. A call is the step of the storage unit on what its numbers and bytes stand for.
use Rattle.std.specs.Prelude.{ℕ, ◌+◌, ◌*◌, ◌/◌, ◌%◌, ◌≡◌, ◌≢◌, Bool, true, cond, ◌&&◌, List, [], ◌∷◌, length, get_or, eqb, ltb}
use Rattle.machine.specs.declared.Settings.{Settings}
use Rattle.machine.specs.declared.Processor.{Processor}
use Rattle.machine.specs.declared.Request.{Request}
use Rattle.machine.specs.declared.Request.TheVariants.{Access, Key, Prefix}
use Rattle.machine.specs.declared.AccessKind.TheVariants.{Fetch, Store}
use Rattle.machine.specs.declared.KeyInstruction.TheVariants.{Isk, Ssk, Rrb, Iske, Sske, Rrbe}
use Rattle.machine.specs.declared.PrefixInstruction.TheVariants.{SetPrefix, StorePrefix}
use Rattle.machine.specs.Answers.{Answer, Verdict, Stop, number_of, Values, values, answer_of}
use Rattle.machine.specs.declared.Reason.TheVariants.{Configuration}
use Rattle.machine.specs.Lists.{written}
use Rattle.machine.specs.Step.{Outcome, step}
use Rattle.machine.specs.Pair.{without_record}
use Rattle.machine.specs.Conditions.{numbers, is_in}

-- the version, 0.4.0: 10000 x major + 100 x minor + patch
abbrev pub version_number : ℕ
version_number = 400

-- a bit with the value v in a number
abbrev pub bit : ℕ → ℕ → Bool
bit v n = eqb (n / v % 2) 1

-- settings: 1 the 4K facility, 2 the extensions. Every other bit must be zero
abbrev pub settings_of : ℕ → Settings
settings_of w = record { four_k = bit 1 w; extensions = bit 2 w }

-- A record in eight bytes: the PSW key; controls, 1 problem state, 2 CR0 bit 3, 4 CR0 bit 7; the condition code; a zero; the prefix in four
-- bytes, the least first. Where another control bit or the fourth byte isn't zero, the PSW key is taken for 255, which line 65 refuses.
abbrev pub reserved_zero : ℕ → ℕ → Bool
reserved_zero controls fourth = ltb controls 8 && eqb fourth 0

abbrev pub reserved_zero_at : List ℕ → ℕ → Bool
reserved_zero_at bytes at = reserved_zero (get_or bytes (at + 1) 0) (get_or bytes (at + 3) 0)

abbrev pub record_at : List ℕ → ℕ → Processor
record_at bytes at =
    record {
      psw_key = cond (reserved_zero_at bytes at) (get_or bytes at 0) 255;
      problem = bit 1 (get_or bytes (at + 1) 0);
      low_protection = bit 2 (get_or bytes (at + 1) 0);
      key_control = bit 4 (get_or bytes (at + 1) 0);
      prefix = get_or bytes (at + 4) 0 + get_or bytes (at + 5) 0 * 256 + get_or bytes (at + 6) 0 * 65536 + get_or bytes (at + 7) 0 * 16777216;
      code = get_or bytes (at + 2) 0;
    }

-- a bit as a number, v where it is on
abbrev pub value : Bool → ℕ → ℕ
value b v = cond b v 0

-- a number below 2^32 in four bytes, the least first
abbrev pub prefix_bytes : ℕ → List ℕ
prefix_bytes x = (x % 256) ∷ (x / 256 % 256) ∷ (x / 65536 % 256) ∷ (x / 16777216 % 256) ∷ []

-- the eight bytes of a record
abbrev pub record_bytes : Processor → List ℕ
record_bytes p =
    p.psw_key
    ∷ (value p.problem 1 + value p.low_protection 2 + value p.key_control 4)
    ∷ p.code
    ∷ 0
    ∷ prefix_bytes p.prefix

-- the requests with these operands, by the number of the operation
abbrev pub requests : ℕ → ℕ → List Request
requests first second =
    Access Fetch first second
    ∷ Access Store first second
    ∷ Key (Isk first second)
    ∷ Key (Ssk first second)
    ∷ Key (Rrb second)
    ∷ Key (Iske first second)
    ∷ Key (Sske first second)
    ∷ Key (Rrbe second)
    ∷ Prefix (SetPrefix first)
    ∷ Prefix StorePrefix
    ∷ []

-- any other number is taken for an access of length 0, which line 66 refuses at any address
abbrev pub request_of : ℕ → ℕ → ℕ → Request
request_of operation first second = get_or (requests first second) operation (Access Fetch first 0)

-- an answer in one number: the word, the place in eight bits from 2^32 on, the rule in eight bits from 2^40 on, the number from 2^48 on
abbrev pub packed : Values → ℕ
packed v = v.number * 281474976710656 + v.rule % 256 * 1099511627776 + v.place % 256 * 4294967296 + v.word

-- number, place, word and rule of an answer in one number
abbrev pub number_in : ℕ → ℕ
number_in answer = answer / 281474976710656

abbrev pub place_in : ℕ → ℕ
place_in answer = answer / 4294967296 % 256

abbrev pub word_in : ℕ → ℕ
word_in answer = answer % 4294967296

abbrev pub rule_in : ℕ → ℕ
rule_in answer = answer / 1099511627776 % 256

-- the result is the answer in one number, and the answer's own number can be read from it
abbrev pub Packs : ℕ → Answer → Type 0
Packs result answer = (result ≡ packed (values answer)) × (number_in result ≡ number_of answer)

-- what a call leaves: its answer, storage, key array, the bytes of the records, its buffer
pub record CallOutcome : Type 0 where
  pub answer : ℕ
  pub storage : List ℕ
  pub keys : List ℕ
  pub records : List ℕ
  pub buffer : List ℕ

abbrev pub call_outcome : ℕ → List ℕ → List ℕ → List ℕ → List ℕ → CallOutcome
call_outcome answer storage keys records buffer =
    record { answer = answer; storage = storage; keys = keys; records = records; buffer = buffer }

-- after a completed request the eight bytes from `at` on are those of the record that the step leaves; no other byte of the records changes
unfoldable pub records_left : ℕ → List ℕ → ℕ → Processor → List ℕ
records_left number records at p = cond (eqb number 0) (written records (λ i. at + i) (λ i. get_or (record_bytes p) i 0) 8) records

-- a request of the processor whose record stands from `at` on
abbrev pub call_served : List ℕ → ℕ → Outcome → CallOutcome
call_served records at o =
    call_outcome (packed o.answer) o.storage o.keys (records_left o.answer.number records at o.processor) o.buffer

-- a refusal changes nothing
abbrev pub call_refused : Verdict → List ℕ → List ℕ → List ℕ → List ℕ → CallOutcome
call_refused v storage keys records buffer = call_outcome (packed (values (answer_of v 0 0))) storage keys records buffer

-- a call with these settings: the step by the record of the processor, eight bytes for each. Where the number is not 0 or 1, or there aren't
-- sixteen bytes of records, there is no record
unfoldable pub called_with : Settings → List ℕ → List ℕ → List ℕ → ℕ → Request → List ℕ → CallOutcome
called_with s storage keys records n r buffer =
    cond (eqb (length records) 16 && ltb n 2)
    (call_served records (n * 8) (step s storage keys (record_at records (n * 8)) r buffer))
    (call_refused (without_record s (length storage) (length keys)) storage keys records buffer)

-- the call: settings with another bit on are refused by line 64
unfoldable pub called : ℕ → List ℕ → List ℕ → List ℕ → ℕ → ℕ → ℕ → ℕ → List ℕ → CallOutcome
called settings storage keys records n operation first second buffer =
    cond (ltb settings 4)
    (called_with (settings_of settings) storage keys records n (request_of operation first second) buffer)
    (call_refused (Stop Configuration 0) storage keys records buffer)

-- condition 1 of a call: it ends with one answer of the table, and one that is not completed changes nothing lent
pub record CallCondition1 (answer : ℕ) (storage keys records buffer storage' keys' records' buffer' : List ℕ) : Type 0 where
  pub answered : is_in (number_in answer) numbers ≡ true
  pub unchanged : number_in answer ≢ 0 → (storage' ≡ storage) × (keys' ≡ keys) × (records' ≡ records) × (buffer' ≡ buffer)
