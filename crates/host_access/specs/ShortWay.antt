-- The short way in for fetch and store: a call is the step of the storage unit on what its numbers and bytes stand for, as the boundary says.
-- The processor's own record is one number, and the length of the access is the number of bytes that are lent for it.
use Rattle.std.specs.Prelude.{ℕ, ◌/◌, ◌%◌, ◌≡◌, ◌≢◌, true, cond, List, [], ◌∷◌, length, ltb}
use Rattle.machine.specs.declared.Processor.{Processor}
use Rattle.machine.specs.declared.AccessKind.{AccessKind}
use Rattle.machine.specs.declared.Request.TheVariants.{Access}
use Rattle.machine.specs.declared.Reason.TheVariants.{Configuration}
use Rattle.machine.specs.Answers.{Stop, values, answer_of}
use Rattle.machine.specs.Step.{Outcome, step}
use Rattle.machine.specs.Conditions.{numbers, is_in}
use Rattle.boundary.specs.Boundary.{settings_of, record_at, packed, number_in}

-- the eight bytes of a number, the least first, and the record in them
abbrev pub number_bytes : ℕ → List ℕ
number_bytes x =
    (x % 256)
    ∷ (x / 256 % 256)
    ∷ (x / 65536 % 256)
    ∷ (x / 16777216 % 256)
    ∷ (x / 4294967296 % 256)
    ∷ (x / 1099511627776 % 256)
    ∷ (x / 281474976710656 % 256)
    ∷ (x / 72057594037927936 % 256)
    ∷ []

abbrev pub record_in : ℕ → Processor
record_in x = record_at (number_bytes x) 0

-- what a call leaves: its answer, storage, key array, its bytes. An access leaves every record as it is
pub record AccessOutcome : Type 0 where
  pub answer : ℕ
  pub storage : List ℕ
  pub keys : List ℕ
  pub bytes : List ℕ

abbrev pub access_outcome : ℕ → List ℕ → List ℕ → List ℕ → AccessOutcome
access_outcome answer storage keys bytes = record { answer = answer; storage = storage; keys = keys; bytes = bytes }

abbrev pub access_served : Outcome → AccessOutcome
access_served o = access_outcome (packed o.answer) o.storage o.keys o.buffer

-- the call: settings with another bit on are refused by line 64
unfoldable pub accessed : AccessKind → ℕ → List ℕ → List ℕ → ℕ → ℕ → List ℕ → AccessOutcome
accessed kind settings storage keys x address bytes =
    cond (ltb settings 4)
    (access_served (step (settings_of settings) storage keys (record_in x) (Access kind address (length bytes)) bytes))
    (access_outcome (packed (values (answer_of (Stop Configuration 0) 0 0))) storage keys bytes)

-- condition 1 of a call: it ends with one answer of the table, and one that is not completed changes nothing lent
pub record AccessCondition1 (answer : ℕ) (storage keys bytes storage' keys' bytes' : List ℕ) : Type 0 where
  pub answered : is_in (number_in answer) numbers ≡ true
  pub unchanged : number_in answer ≢ 0 → (storage' ≡ storage) × (keys' ≡ keys) × (bytes' ≡ bytes)
