-- The units that a processor's request names. An access that completes or ends with 4 names every unit in its range: the unit of each byte's absolute
-- address. A key instruction that completes names its one or two units. Every other request names none.
-- An access completes or ends with 4, and a key instruction completes, exactly when the lines before protection let it pass.
use Rattle.std.specs.Prelude.{ℕ, ◌+◌, Bool, true, false, cond, length, eqb, Err}
use Rattle.std.proofs.Math.Option.{Option, none, some}
use Rattle.machine.specs.declared.Settings.{Settings}
use Rattle.machine.specs.declared.Processor.{Processor}
use Rattle.machine.specs.declared.Request.{Request}
use Rattle.machine.specs.declared.Request.TheVariants.{Access, Key, Prefix}
use Rattle.machine.specs.declared.AccessKind.TheVariants.{Fetch, Store}
use Rattle.machine.specs.Answers.{Verdict, Clear}
use Rattle.machine.specs.Lists.{record_of, any_below}
use Rattle.machine.specs.Numbers.{unit_of}
use Rattle.machine.specs.KeyInstructions.{key_count, two_keys, first_unit}
use Rattle.machine.specs.Prefixing.{byte_address}
use Rattle.machine.specs.Table.{before_protection}
use Rattle.machine.specs.Turns.{State, Turn}

-- the units in the range of a request, i counting from 0: of an access one for each byte
abbrev pub unit_count : Settings → Request → ℕ
unit_count s (Access kind address count) = count
unit_count s (Key i) = key_count (two_keys s i)
unit_count s (Prefix i) = 0

abbrev pub unit_at : Settings → Processor → Request → ℕ → ℕ
unit_at s p (Access kind address count) i = unit_of s (byte_address p address i)
unit_at s p (Key instruction) i = first_unit s p instruction + i
unit_at s p (Prefix instruction) i = 0

-- unit u is named by the request r of a processor with the record p. The verdict is that of the lines before protection
unfoldable pub names : Verdict → Settings → Processor → Request → ℕ → Bool
names (Err refusal) s p r u = false
names Clear s p r u = any_below (λ i. eqb (unit_at s p r i) u) (unit_count s r)

-- a request that finds the state m names unit u, its record being this one, if it has one
abbrev pub named_by : Option Processor → Settings → ℕ → State → Turn → Bool
named_by none s u m t = false
named_by (some p) s u m t =
    names (before_protection s (length m.storage) (length m.keys) p t.request (length t.buffer)) s p t.request u

-- the record is that of the number that it carries, so the prefix is the one then in force
abbrev pub named : Settings → ℕ → State → Turn → Bool
named s u m t = named_by (record_of m.processors t.processor_number) s u m t

-- a request that names its units as a fetch: of a processor's requests only a fetch does
abbrev pub is_fetch : Request → Bool
is_fetch (Access Fetch address count) = true
is_fetch (Access Store address count) = false
is_fetch (Key i) = false
is_fetch (Prefix i) = false

-- how a unit is named: not at all, as a fetch, or otherwise
pub data Naming : Type 0 where
  unnamed : Naming
  fetching : Naming
  otherwise : Naming

abbrev pub naming : Settings → State → Turn → ℕ → Naming
naming s m t u = cond (named s u m t) (cond (is_fetch t.request) fetching otherwise) unnamed
