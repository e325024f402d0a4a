-- An access by unit: how far its first unit reaches, its spans, and tests at the first byte of each span in the place of one for each byte.
use Rattle.std.specs.Prelude.{ℕ, ◌-◌, ◌%◌, Bool, cond, List, Some, None, Ok, Err, Result, leb, get_or}
use Rattle.machine.specs.declared.Refusal.{Refusal}
use Rattle.machine.specs.declared.Settings.{Settings}
use Rattle.machine.specs.declared.Processor.{Processor}
use Rattle.machine.specs.declared.AccessKind.{AccessKind}
use Rattle.machine.specs.declared.Reason.{Reason}
use Rattle.machine.specs.declared.Reason.TheVariants.{Operand, Addressing, Protection}
use Rattle.machine.specs.declared.Request.TheVariants.{Access}
use Rattle.machine.specs.Answers.{Verdict, Clear, Stop, line, first_of}
use Rattle.machine.specs.Numbers.{unit_size, unit_of, add24}
use Rattle.machine.specs.Prefixing.{rule, byte_address}
use Rattle.machine.specs.Protection.{forbidden}
use Rattle.machine.specs.Table.{configuration, own_record, operand_invalid}
use Rattle.access.specs.declared.span.Span.{Span}
use Rattle.access.specs.declared.span.Spans.{Spans}

-- how many bytes from an address to the end of its unit
abbrev pub to_unit_end : Settings → ℕ → ℕ
to_unit_end s address = unit_size s - address % unit_size s

-- the span of an access from byte i on
abbrev pub span_at : Settings → List ℕ → Processor → ℕ → ℕ → Span
span_at s keys p address i =
    record {
      real = add24 address i;
      absolute = byte_address p address i;
      rule = rule p.prefix (add24 address i);
      unit = unit_of s (byte_address p address i);
      key = get_or keys (unit_of s (byte_address p address i)) 0;
    }

-- line 5 at byte i
abbrev pub byte_outside : ℕ → ℕ → ℕ → Bool
byte_outside storage_length address i = leb storage_length (add24 address i)

-- lines 64, 65 and 66, and line 5 at the first byte
unfoldable pub first_lines : Settings → ℕ → ℕ → Processor → AccessKind → ℕ → ℕ → ℕ → Verdict
first_lines s storage_length key_length p kind address count buffer_length =
    first_of (first_of (configuration s storage_length key_length) (own_record storage_length p))
    (first_of (line Operand (operand_invalid (Access kind address count) buffer_length)) (line Addressing (byte_outside storage_length address 0)))

-- line 4 at the first byte of a span
abbrev pub span_forbidden : Processor → AccessKind → Span → Bool
span_forbidden p kind here = forbidden kind p here.real here.key

-- line 4 of an access in one unit
unfoldable pub lines_of_one : Processor → AccessKind → Span → Verdict
lines_of_one p kind here = line Protection (span_forbidden p kind here)

-- refused at byte k where the test holds
abbrev pub stop_at : Reason → ℕ → Bool → Verdict
stop_at r k test = cond test (Stop r k) Clear

-- and of an access in two units, byte k being the first in the second
unfoldable pub lines_of_two : Processor → AccessKind → Span → ℕ → Span → Verdict
lines_of_two p kind here k there = first_of (stop_at Protection 0 (span_forbidden p kind here)) (stop_at Protection k (span_forbidden p kind there))

-- the spans of an access
abbrev pub spans_of : Settings → List ℕ → Processor → (address count : ℕ) → Spans
spans_of s keys p address count =
    cond (leb count (to_unit_end s address)) (record { first = span_at s keys p address 0; first_count = count; second = None })
    (record { first = span_at s keys p address 0; first_count = to_unit_end s address; second = Some (span_at s keys p address (to_unit_end s address)) })

-- a value where the verdict is clear, else the refusal
abbrev pub passed : {A : Type 0} → Verdict → A → Result A Refusal
passed Clear x = Ok x
passed (Err refusal) x = Err refusal
