-- A request of a recording: the buffer that it is lent, what the unit leaves, and its line. Assumes nothing.
use Prim.Native.Nat.{ℕ, ◌+◌, ◌-◌, ◌≤◌}
use native.Mathlib.Omega.{arith}
use mathlib.Core.Path.{◌≡◌, refl, ap, ◌∙◌}
use mathlib.Core.List.{List}
use lib.ListN.{length, take, drop, replicate, length-take, length-drop}
use Rattle.machine.specs.declared.Settings.{Settings}
use Rattle.machine.specs.declared.Processor.{Processor}
use Rattle.machine.specs.declared.Request.{Request}
use Rattle.machine.specs.declared.Request.TheVariants.{Access, Key, Prefix}
use Rattle.machine.specs.declared.AccessKind.{AccessKind}
use Rattle.machine.specs.declared.AccessKind.TheVariants.{Store}
use Rattle.machine.specs.Answers.{Answer, Values, values, number_of, place_of}
use Rattle.machine.specs.Pair.{PairOutcome}
use Rattle.machine.specs.Conditions.{Condition2}
use Rattle.machine.specs.Turns.{State, Turn, next, given}
use Rattle.trace.specs.Trace.{ARequest, read_of}
use Rattle.trace.proofs.Front.{size_within, store_size}
use Rattle.player.specs.declared.Player.{Player}
use Rattle.player.specs.declared.Status.TheVariants.{Passed}
use Rattle.player.specs.Text.{over, line_text}
use Rattle.player.specs.Run.{progress, buffer_of, turn_of, line_of, text_of_line}
use Rattle.player.specs.Play.{state_of, progress_of, request_played, PlayOutcome, play_outcome, play_outcome_of}

-- what is lent: the front of a buffer
abbrev Lent : (r : ℕ) (buffer : List ℕ) (request : Request) (bytes : List ℕ) (size : ℕ) → Type 0
Lent r buffer request bytes size = (r ≤ 512) × (take r buffer ≡ buffer_of request bytes size)

-- a request that is no access
abbrev NoAccess : Request → Type 0
NoAccess request = (kind : AccessKind) (address count : ℕ) → request ≡ Access kind address count → ⊥

zeros_of : (request : Request) (bytes : List ℕ) (size : ℕ) → NoAccess request → replicate 256 0 ≡ buffer_of request bytes size
zeros_of (Access kind address count) bytes size h = absurd (h kind address count refl)
zeros_of (Key i) bytes size h = refl
zeros_of (Prefix i) bytes size h = refl

taken : (buffer : List ℕ) → buffer ≡ replicate 512 0 → take 256 buffer ≡ replicate 256 0
taken buffer e = rw e refl

pub lent_zeros : (buffer : List ℕ) (request : Request) (bytes : List ℕ) (size : ℕ) → buffer ≡ replicate 512 0
    → NoAccess request → Lent 256 buffer request bytes size
lent_zeros buffer request bytes size e h = (omega arith, taken buffer e ∙ zeros_of request bytes size h)

module _ (bytes : List ℕ) (n : ℕ) (request : Request) (size address count : ℕ) (kind : AccessKind)
    (front : read_of bytes ≡ ARequest n request size) (access : request ≡ Access kind address count) (store : kind ≡ Store) where
  pub store_sizes : (11 ≤ size) × (size ≤ length bytes) × (size ≤ 514)
  store_sizes =
      let within = size_within bytes n request size front in
      (omega (arith, store_size bytes n address count size (rw (access, store) at front)), within.1, within.2)

  pub data_length : length (take (size - 11) (drop 11 bytes)) ≤ 503
  data_length = simp (length-take, length-drop) (omega (arith, store_sizes))

-- what the unit leaves is what the turn of the request gives and leaves
pub performed : (s : Settings) (storage keys : List ℕ) (ps : List Processor) (n : ℕ) (r : Request) (bytes : List ℕ) (size : ℕ) (b : List ℕ)
    (answer : Answer) (storage' keys' : List ℕ) (ps' : List Processor) (b' : List ℕ) → b ≡ buffer_of r bytes size
    → Condition2 s storage keys ps n r b answer storage' keys' ps' b'
    → (values answer ≡ (given s (state_of ps storage keys) (turn_of n r bytes size)).answer)
    × (state_of ps' storage' keys' ≡ next s (state_of ps storage keys) (turn_of n r bytes size))
performed s storage keys ps n r bytes size b answer storage' keys' ps' b' e c =
    let d : _ = rw e at c in (
      ap (λ (o : PairOutcome). o.answer) d,
      ap (λ (o : PairOutcome). state_of o.processors o.storage o.keys) d,
    )

-- the line and the state after it
pub request_left : (s : Settings) (p : Player) (storage keys : List ℕ) (t : Turn) (size : ℕ) (a : Answer) (storage' keys' : List ℕ)
    (ps' : List Processor) (output output' : List ℕ) (written : ℕ) → values a ≡ (given s (state_of p.processors storage keys) t).answer
    → state_of ps' storage' keys' ≡ next s (state_of p.processors storage keys) t
    → (written ≡ length (line_text (p.requests + 1) (number_of a) (place_of a)))
    × (output' ≡ over (line_text (p.requests + 1) (number_of a) (place_of a)) output)
    → play_outcome
    (record {
      player = record { processors = ps'; requests = p.requests + 1; records = p.records + 1 };
      read = size;
      written = written;
      status = Passed;
    })
    storage' keys' output'
    ≡ play_outcome_of (request_played s (progress_of p storage keys) t size) output
unfolding request_played
request_left s p storage keys t size a storage' keys' ps' output output' written v m w =
    let left : State → List ℕ → PlayOutcome =
    λ m text. record {
      progress = progress m (p.requests + 1) (p.records + 1);
      read = size;
      written = length text;
      status = Passed;
      output = over text output;
    } in
    let text : line_text (p.requests + 1) (number_of a) (place_of a) ≡ text_of_line (line_of s (progress_of p storage keys) t) =
    ap (λ (x : Values). line_text (p.requests + 1) x.number x.place) v in
    rw (w.0, w.1) (ap (λ x. left x (line_text (p.requests + 1) (number_of a) (place_of a))) m ∙ ap (left _) text)
