-- A completed access goes on span by span: its first f bytes and a span of n bytes after them are its first f + n bytes, in storage, keys and
-- buffer. After its last byte it leaves what the step leaves. And a span of an access that the table lets pass fits storage and buffer.
-- Assumes nothing.
use Prim.Native.Nat.{ℕ, zero, suc, ◌+◌, ◌-◌, ◌<◌, ◌≤◌}
use mathlib.Core.Path.{◌≡◌, refl, sym, ap, ◌∙◌}
use mathlib.Core.Bool.{false}
use mathlib.Core.List.{List}
use native.Mathlib.Omega.{arith}
use lib.ListN.{length, get_or, set}
use Rattle.machine.specs.declared.Settings.{Settings}
use Rattle.machine.specs.declared.Processor.{Processor}
use Rattle.machine.specs.declared.AccessKind.{AccessKind}
use Rattle.machine.specs.declared.AccessKind.TheVariants.{Fetch, Store}
use Rattle.machine.specs.declared.Request.{Request}
use Rattle.machine.specs.declared.Request.TheVariants.{Access}
use Rattle.machine.specs.Answers.{Answer, Completed, Verdict, Clear, stops}
use Rattle.machine.specs.Lists.{written}
use Rattle.machine.specs.Numbers.{unit_of}
use Rattle.machine.specs.Prefixing.{byte_address}
use Rattle.machine.specs.Protection.{recorded}
use Rattle.machine.specs.Table.{before_protection, verdict}
use Rattle.machine.specs.Step.{outcome, storage_left, buffer_left, keys_recorded, rule_given, completed, step}
use Rattle.machine.proofs.Written.{written_same, written_after, written_once}
use Rattle.machine.proofs.BeforeProtection.{table_clear, AccessCleared, access_cleared, access_keyed}
use Rattle.machine.proofs.Requests.{completed_request}
use Rattle.access.specs.declared.span.Span.{Span}
use Rattle.access.specs.ByUnit.{span_at}
use Rattle.access.specs.Moving.{SpanFits, moved, key_recorded}
use Rattle.access.proofs.Spans.{OneUnit, real_step, byte_step, unit_same}

-- byte i goes from index `from i` of the source to index `place i` of the target: n bytes after the first f, where both are consecutive
module _ (place from : ℕ → ℕ) (target source : List ℕ) where
  abbrev bytes : ℕ → List ℕ
  bytes n = written target place (λ i. get_or source (from i) 0) n

  moved_on : (f n : ℕ) → ((j : ℕ) → j < n → (place f + j ≡ place (f + j)) × (from f + j ≡ from (f + j)))
      → moved (bytes f) (place f) source (from f) n ≡ bytes (f + n)
  unfolding moved
  moved_on f n steps =
      written_same (bytes f) _ (λ j. place (f + j)) _ (λ j. get_or source (from (f + j)) 0) n
      (λ j l. ((steps j l).0, ap (λ i. get_or source i 0) (steps j l).1))
      ∙ written_after target place (λ i. get_or source (from i) 0) f n

-- the key of each byte's unit becomes `mark` of the unit: n bytes of one unit after the first f are one write
module _ (mark unit : ℕ → ℕ) (keys : List ℕ) where
  abbrev marked : ℕ → List ℕ
  marked n = written keys unit (λ i. mark (unit i)) n

  marked_on : (f n : ℕ) → 0 < n → ((j : ℕ) → j < n → unit (f + j) ≡ unit f) → set (marked f) (unit f) (mark (unit f)) ≡ marked (f + n)
  marked_on f zero positive same = absurd (omega arith)
  marked_on f (suc n) positive same =
      sym (written_once (marked f) (λ j. unit (f + j)) (λ j. mark (unit (f + j))) (unit f) (mark (unit f)) n (λ j l. (same j l, ap mark (same j l))))
      ∙ written_after keys unit (λ i. mark (unit i)) f (suc n)

-- storage and buffer after n bytes of an access, from index `at` on in storage and from index `from` on in the buffer
abbrev storage_moved : AccessKind → List ℕ → ℕ → List ℕ → ℕ → ℕ → List ℕ
storage_moved Fetch storage at buffer from n = storage
storage_moved Store storage at buffer from n = moved storage at buffer from n

abbrev buffer_moved : AccessKind → List ℕ → ℕ → List ℕ → ℕ → ℕ → List ℕ
buffer_moved Fetch storage at buffer from n = moved buffer from storage at n
buffer_moved Store storage at buffer from n = buffer

-- a span is completed: storage, keys and buffer before and after it
abbrev pub SpanCompleted : AccessKind → Span → ℕ → ℕ → List ℕ → List ℕ → List ℕ → List ℕ → List ℕ → List ℕ → Type 0
SpanCompleted kind here f n storage keys buffer storage' keys' buffer' =
    (storage' ≡ storage_moved kind storage here.absolute buffer f n)
    × (buffer' ≡ buffer_moved kind storage here.absolute buffer f n)
    × (keys' ≡ key_recorded kind keys here)

module _ (s : Settings) (storage keys : List ℕ) (p : Processor) (kind : AccessKind) (address : ℕ) (buffer : List ℕ) where
  -- storage, keys and buffer after the first f bytes of the access
  pub record After (f : ℕ) (storage' keys' buffer' : List ℕ) : Type 0 where
    pub storage_left_lem : storage' ≡ storage_left kind storage p address f buffer
    pub keys_left_lem : keys' ≡ keys_recorded s kind keys p address f
    pub buffer_left_lem : buffer' ≡ buffer_left kind storage p address f buffer

  pub at_start : After 0 storage keys buffer
  unfolding storage_left buffer_left keys_recorded written
  at_start = record { storage_left_lem = stored kind; keys_left_lem = refl; buffer_left_lem = fetched kind }
    where
      stored : (kind : AccessKind) → storage ≡ storage_left kind storage p address 0 buffer
      stored Fetch = refl
      stored Store = refl

      fetched : (kind : AccessKind) → buffer ≡ buffer_left kind storage p address 0 buffer
      fetched Fetch = refl
      fetched Store = refl

  module _ (f n : ℕ) (positive : 0 < n) (in_one_unit : OneUnit s address f n) where
    bytes_step : (j : ℕ) → j < n → byte_address p address f + j ≡ byte_address p address (f + j)
    bytes_step j l = byte_step s address f j (in_one_unit j l) p

    storage_on : (kind : AccessKind)
        → storage_moved kind (storage_left kind storage p address f buffer) (byte_address p address f) (buffer_left kind storage p address f buffer) f n
        ≡ storage_left kind storage p address (f + n) buffer
    unfolding storage_left buffer_left
    storage_on Fetch = refl
    storage_on Store = moved_on (byte_address p address) (λ i. i) storage buffer f n (λ j l. (bytes_step j l, refl))

    buffer_on : (kind : AccessKind)
        → buffer_moved kind (storage_left kind storage p address f buffer) (byte_address p address f) (buffer_left kind storage p address f buffer) f n
        ≡ buffer_left kind storage p address (f + n) buffer
    unfolding storage_left buffer_left
    buffer_on Fetch = moved_on (λ i. i) (byte_address p address) buffer storage f n (λ j l. (refl, bytes_step j l))
    buffer_on Store = refl

    keys_on : key_recorded kind (keys_recorded s kind keys p address f) (span_at s keys p address f) ≡ keys_recorded s kind keys p address (f + n)
    unfolding keys_recorded
    keys_on =
        marked_on (λ u. recorded kind (get_or keys u 0)) (λ i. unit_of s (byte_address p address i)) keys f n positive
        (λ j l. unit_same s address f j (in_one_unit j l) p)

    -- the span from byte f on, completed after the first f bytes
    pub after_span : {here : Span} {xs ks ys storage' keys' buffer' : List ℕ} → here ≡ span_at s keys p address f → After f xs ks ys
        → SpanCompleted kind here f n xs ks ys storage' keys' buffer' → After (f + n) storage' keys' buffer'
    after_span spanned so_far (storage_moved_lem, buffer_moved_lem, key_recorded_lem) =
        record {
          storage_left_lem = storage_moved_lem ∙ rw (spanned, so_far.storage_left_lem, so_far.buffer_left_lem) (storage_on kind);
          keys_left_lem = key_recorded_lem ∙ rw (spanned, so_far.keys_left_lem) keys_on;
          buffer_left_lem = buffer_moved_lem ∙ rw (spanned, so_far.storage_left_lem, so_far.buffer_left_lem) (buffer_on kind);
        }

module _ (s : Settings) (storage keys : List ℕ) (p : Processor) (kind : AccessKind) (address count : ℕ) (buffer : List ℕ) where
  abbrev request : Request
  request = Access kind address count

  -- the verdict of the table on the access
  abbrev pub table : Verdict
  table = verdict s (length storage) keys p request (length buffer)

  -- this answer, and these lists, are what the step leaves
  abbrev pub Performed : Answer → List ℕ → List ℕ → List ℕ → Type 0
  Performed answer storage' keys' buffer' = outcome answer storage' keys' p buffer' ≡ step s storage keys p request buffer

  -- after the last byte of an access that the table lets pass they are
  pub finished : {v : Verdict} {rule : ℕ} {storage' keys' buffer' : List ℕ} → v ≡ table → stops v ≡ false → rule ≡ rule_given p request
      → After s storage keys p kind address buffer count storage' keys' buffer' → Performed (Completed 0 rule) storage' keys' buffer'
  unfolding completed
  finished found clear ruled left =
      rw (ruled, left.storage_left_lem, left.keys_left_lem, left.buffer_left_lem)
      (completed_request s storage keys p request buffer found clear)

  module _ (clear : table ≡ Clear) where
    before : before_protection s (length storage) (length keys) p request (length buffer) ≡ Clear
    before = table_clear s (length storage) keys p request (length buffer) clear

    pub known : AccessCleared (length storage) p address count (length buffer)
    known = access_cleared s (length storage) (length keys) p kind address count (length buffer) before

    -- a span fits, and the key of its unit is there
    pub span_fits : {here : Span} (f n : ℕ) → 0 < n → f + n ≤ count → OneUnit s address f n → here ≡ span_at s keys p address f
        → SpanFits here f n (length storage) (length keys) (length buffer)
    span_fits f n positive inside in_one_unit spanned =
        let last : f + (n - 1) < count = omega arith in
        let same = in_one_unit (n - 1) (omega arith) in
        rw spanned (
          record {
            at_fits = omega (arith, known.byte_inside (f + (n - 1)) last, byte_step s address f (n - 1) same p);
            from_fits = omega (arith, known.buffered);
            short = omega (arith, known.short);
            unwrapped = omega (arith, real_step s address f (n - 1) same);
          },
          access_keyed s (length storage) (length keys) p kind address count (length buffer) before f (omega arith),
        )
