-- Sentences of 02 (W1) about a run: what each record does to it. Each is the first step of the run, by what was read. Assumes nothing.
use Prim.Native.Nat.{ℕ, zero, suc, ◌+◌, ◌≤◌}
use mathlib.Core.Path.{◌≡◌, refl, ap, ◌∙◌}
use mathlib.Core.List.{List}
use mathlib.Core.Option.{some}
use lib.ListN.{length, drop, length-replicate}
use Rattle.machine.specs.declared.Settings.{Settings}
use Rattle.machine.specs.declared.Request.{Request}
use Rattle.machine.specs.Answers.{line, first_of}
use Rattle.machine.specs.Pair.{PairOutcome}
use Rattle.machine.specs.Turns.{State, Turn, turn_outcome, next}
use Rattle.machine.proofs.Requests.{lengths_stay}
use Rattle.machine.proofs.Pairs.{by_record, other_number_refused}
use Rattle.trace.specs.Trace.{Read, ARequest, Remark, Bad, End, read_of}
use Rattle.player.specs.Run.{Progress, progress, start_settings, start_state, turn_of, after_request, after_other, line_of}
use Rattle.player.specs.Run.{Run, ended, line_then, on_read, run_from}
use Rattle.player.proofs.Runs.{run_begins}

module _ (s : Settings) (p : Progress) (bytes : List ℕ) where
  -- the whole run from p
  abbrev whole : Progress → List ℕ → Run
  whole q b = run_from (length b) s q b

  begins : (found : Read) → read_of bytes ≡ found → whole p bytes ≡ on_read found s p bytes whole
  begins found e = run_begins s p bytes ∙ ap (λ (x : Read). on_read x s p bytes whole) e

  -- the player acts on a request: its line comes first, and the rest goes on from the step
  pub request_is_acted_on : (n : ℕ) (r : Request) (size : ℕ) → read_of bytes ≡ ARequest n r size
      → whole p bytes
      ≡ line_then (line_of s p (turn_of n r bytes size)) (whole (after_request s p (turn_of n r bytes size)) (drop size bytes))
  unfolding on_read
  request_is_acted_on n r size e = begins (ARequest n r size) e

  -- a remark is skipped, and only counts among all records
  pub remark_is_skipped : (size : ℕ) → read_of bytes ≡ Remark size → whole p bytes ≡ whole (after_other p) (drop size bytes)
  unfolding on_read
  remark_is_skipped size e = begins (Remark size) e

  -- a bad record ends the run with its ordinal among all records, whatever follows
  pub bad_record_ends_the_run : read_of bytes ≡ Bad → whole p bytes ≡ ended (some (p.records + 1)) p.state
  unfolding on_read
  bad_record_ends_the_run e = begins Bad e

-- A processor number over 1 is a request and gets 65. Storage and keys keep the lengths that the run starts with, so line 64 never refuses.
abbrev pub Lengths : State → Type 0
Lengths m = (length m.storage ≡ 65536) × (length m.keys ≡ 32)

pub lengths_at_start : Lengths start_state
unfolding start_state
lengths_at_start = (length-replicate {A = ℕ} 65536 0, refl)

pub lengths_kept : (s : Settings) (m : State) (t : Turn) → Lengths m → Lengths (next s m t)
lengths_kept s m t h =
    by_record s m.storage m.keys m.processors t.processor_number t.request t.buffer
    (λ o. (length o.storage ≡ 65536) × (length o.keys ≡ 32)) (λ e. h)
    (λ p e. let (a, b, c) = lengths_stay s m.storage m.keys p t.request t.buffer in (a ∙ h.0, b ∙ h.1))

on_lengths : (s : Settings) (p : Progress) (bytes : List ℕ) (rest : Progress → List ℕ → Run)
    → ((q : Progress) (b : List ℕ) → Lengths q.state → Lengths (rest q b).state) → Lengths p.state → (found : Read)
    → Lengths (on_read found s p bytes rest).state
unfolding on_read
on_lengths s p bytes rest h l (ARequest n r size) =
    h (after_request s p (turn_of n r bytes size)) (drop size bytes) (lengths_kept s p.state (turn_of n r bytes size) l)
on_lengths s p bytes rest h l (Remark size) = h (after_other p) (drop size bytes) l
on_lengths s p bytes rest h l Bad = l
on_lengths s p bytes rest h l End = l

pub run_keeps_lengths : (n : ℕ) (s : Settings) (p : Progress) (bytes : List ℕ) → Lengths p.state → Lengths (run_from n s p bytes).state
unfolding run_from
run_keeps_lengths zero s p bytes l = l
run_keeps_lengths (suc n) s p bytes l = on_lengths s p bytes (run_from n s) (λ q b. run_keeps_lengths n s q b) l (read_of bytes)

refused : (m : State) (t : Turn) → Lengths m → 2 ≤ t.processor_number
    → turn_outcome start_settings m t
    ≡ record {
      answer = record { number = 65; place = 0; word = 0; rule = 0 };
      storage = m.storage;
      keys = m.keys;
      processors = m.processors;
      buffer = t.buffer;
    }
unfolding line first_of
refused m t (a, b) h =
    other_number_refused start_settings m.storage m.keys m.processors t.processor_number t.request t.buffer h
    ∙ rw (a, b) refl

-- its line has number 65 and place 0, and the state stays
pub number_over_1_gets_65 : (p : Progress) (bytes : List ℕ) (n : ℕ) (r : Request) (size : ℕ) → Lengths p.state → 2 ≤ n
    → read_of bytes ≡ ARequest n r size
    → run_from (length bytes) start_settings p bytes
    ≡ line_then (record { ordinal = p.requests + 1; number = 65; place = 0 })
    (run_from (length (drop size bytes)) start_settings (progress p.state (p.requests + 1) (p.records + 1)) (drop size bytes))
number_over_1_gets_65 p bytes n r size l h e =
    request_is_acted_on start_settings p bytes n r size e
    ∙ ap
    (λ (o : PairOutcome). line_then (record { ordinal = p.requests + 1; number = o.answer.number; place = o.answer.place })
    (run_from (length (drop size bytes)) start_settings
    (progress (record { storage = o.storage; keys = o.keys; processors = o.processors }) (p.requests + 1) (p.records + 1)) (drop size bytes)))
    (refused p.state (turn_of n r bytes size) l h)
