-- The step over the pair of records: one request that carries a processor's number, and everything that it leaves.
use Rattle.std.specs.Prelude.{ℕ, List, length, set}
use Rattle.std.proofs.Math.Option.{Option, none, some}
use Rattle.machine.specs.declared.Settings.{Settings}
use Rattle.machine.specs.declared.Processor.{Processor}
use Rattle.machine.specs.declared.Request.{Request}
use Rattle.machine.specs.Answers.{Answer, Verdict, Stop, Values, values, answer_of, first_of}
use Rattle.machine.specs.declared.Reason.TheVariants.{Record}
use Rattle.machine.specs.Lists.{record_of}
use Rattle.machine.specs.Table.{configuration}
use Rattle.machine.specs.Step.{Outcome, step}

-- what a request leaves: the values of its answer, storage, key array, the pair of records, its buffer
pub record PairOutcome : Type 0 where
  pub answer : Values
  pub storage : List ℕ
  pub keys : List ℕ
  pub processors : List Processor
  pub buffer : List ℕ

-- the outcome with this answer
abbrev pub pair_outcome : Answer → List ℕ → List ℕ → List Processor → List ℕ → PairOutcome
pair_outcome answer storage keys ps buffer =
    record { answer = values answer; storage = storage; keys = keys; processors = ps; buffer = buffer }

-- the outcome of processor n's step, its record put back into the pair
abbrev pub put_back : List Processor → ℕ → Outcome → PairOutcome
put_back ps n o = record { answer = o.answer; storage = o.storage; keys = o.keys; processors = set ps n o.processor; buffer = o.buffer }

-- a number without a record: line 64, then line 65. No record is looked at
abbrev pub without_record : Settings → ℕ → ℕ → Verdict
without_record s storage_length key_length = first_of (configuration s storage_length key_length) (Stop Record 0)

-- a request of processor n, by its record if it has one
unfoldable pub served : Option Processor → Settings → List ℕ → List ℕ → List Processor → ℕ → Request → List ℕ → PairOutcome
served none s storage keys ps n r buffer =
    pair_outcome (answer_of (without_record s (length storage) (length keys)) 0 0) storage keys ps buffer
served (some p) s storage keys ps n r buffer = put_back ps n (step s storage keys p r buffer)

-- one request that carries the number n
unfoldable pub pair_step : Settings → List ℕ → List ℕ → List Processor → ℕ → Request → List ℕ → PairOutcome
pair_step s storage keys ps n r buffer = served (record_of ps n) s storage keys ps n r buffer
