-- What it means to serve a request over the bytes of the records: both conditions of a call, by the record that stands from `at` on; and that this
-- record is known.
use Rattle.std.specs.Prelude.{ℕ, ◌≡◌, List}
use Rattle.machine.specs.declared.Settings.{Settings}
use Rattle.machine.specs.declared.Request.{Request}
use Rattle.machine.specs.Step.{step}
use Rattle.boundary.specs.Boundary.{record_at, call_outcome, call_served, CallCondition1}
use Rattle.boundary.specs.Words.{record_of}
use Rattle.host.specs.declared.record.Own.{Own}

-- the two words are those of the record in the bytes
abbrev pub IsOwn : Own → List ℕ → Type 0
IsOwn own records = record_of own.words.state own.words.prefix ≡ record_at records own.at

abbrev pub Met : Settings → Request → (at result : ℕ) → (storage keys records buffer storage' keys' records' buffer' : List ℕ) → Type 0
Met s r at result storage keys records buffer storage' keys' records' buffer' =
    CallCondition1 result storage keys records buffer storage' keys' records' buffer'
    × (call_outcome result storage' keys' records' buffer' ≡ call_served records at (step s storage keys (record_at records at) r buffer))

-- the same of an instruction, whatever the buffer, which it keeps
abbrev pub MetByInstruction : Settings → Request → (at result : ℕ) → (storage keys records storage' keys' records' : List ℕ) → Type 0
MetByInstruction s r at result storage keys records storage' keys' records' =
    (buffer : List ℕ) → Met s r at result storage keys records buffer storage' keys' records' buffer
