-- How a call of the short way in begins: its settings and the record of its processor, or the refusal of every access that they make.
use Rattle.std.specs.Prelude.{ℕ, ◌/◌, ◌%◌, ◌<◌, ◌≡◌, List, Result, Ok, Err}
use Rattle.machine.specs.declared.AccessKind.{AccessKind}
use Rattle.machine.specs.declared.Refusal.{Refusal}
use Rattle.machine.specs.Answers.{values}
use Rattle.boundary.specs.declared.RecordWords.{RecordWords}
use Rattle.boundary.specs.Boundary.{settings_of, packed}
use Rattle.host_access.specs.declared.Entry.{Entry}
use Rattle.host_access.specs.ShortWay.{record_in, access_outcome, accessed}

-- the two words of the record in a number: its lesser half and its greater half
abbrev pub words_in : ℕ → RecordWords
words_in x = record { state = x % 4294967296; prefix = x / 4294967296 }

-- the settings and the record of a call are the rule's; a refusal is the answer of an access of any kind, at any address, of any bytes
abbrev pub Enters : Result Entry Refusal → (settings : ℕ) (storage keys : List ℕ) (x : ℕ) → Type 0
Enters (Ok e) settings storage keys x = (settings < 4) × (e.settings ≡ settings_of settings) × (e.p ≡ record_in x)
Enters (Err refusal) settings storage keys x =
    (kind : AccessKind) (address : ℕ) (bytes : List ℕ)
    → accessed kind settings storage keys x address bytes ≡ access_outcome (packed (values (Err refusal))) storage keys bytes
