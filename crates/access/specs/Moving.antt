-- Completing a span: bytes that go from one list to another, and the key.
use Rattle.std.specs.Prelude.{ℕ, ◌+◌, ◌<◌, ◌≤◌, List, get_or, set}
use Rattle.machine.specs.declared.AccessKind.{AccessKind}
use Rattle.machine.specs.Lists.{written}
use Rattle.machine.specs.Numbers.{address_space}
use Rattle.machine.specs.Protection.{recorded}
use Rattle.access.specs.declared.span.Span.{Span}

-- n bytes are there from index `at` on in one list and from index `from` on in another; they are no more than the larger unit has; and from the
-- real address on they do not wrap
pub record Fits (at_length at from_length from real n : ℕ) : Type 0 where
  pub at_fits : at + n ≤ at_length
  pub from_fits : from + n ≤ from_length
  pub short : n ≤ 4096
  pub unwrapped : real + n ≤ address_space

-- the target with n bytes of the source, from index `from` on, in the place of its own from index `at` on
unfoldable pub moved : List ℕ → ℕ → List ℕ → ℕ → ℕ → List ℕ
moved target at source from n = written target (λ j. at + j) (λ j. get_or source (from + j) 0) n

-- n bytes of a span fit storage, and the buffer from index `from` on; and the key of its unit is there
abbrev pub SpanFits : Span → (from n storage_length key_length buffer_length : ℕ) → Type 0
SpanFits here from n storage_length key_length buffer_length =
    Fits storage_length here.absolute buffer_length from here.real n × (here.unit < key_length)

-- the keys with the access recorded in that of a span's unit
abbrev pub key_recorded : AccessKind → List ℕ → Span → List ℕ
key_recorded kind keys here = set keys here.unit (recorded kind here.key)
