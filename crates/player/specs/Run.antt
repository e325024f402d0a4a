-- The run of a recording, in 02's order and words (W1): the state that it starts with, what each record adds, its lines and its last line.
use Rattle.std.specs.Prelude.{ℕ, zero, suc, ◌+◌, true, false, List, [], ◌∷◌, ◌++◌, length, drop, replicate}
use Rattle.std.proofs.Math.Option.{Option, none, some}
use Rattle.machine.specs.declared.Settings.{Settings}
use Rattle.machine.specs.declared.Processor.{Processor}
use Rattle.machine.specs.declared.Request.{Request}
use Rattle.machine.specs.declared.Request.TheVariants.{Access, Key, Prefix}
use Rattle.machine.specs.declared.AccessKind.TheVariants.{Fetch, Store}
use Rattle.machine.specs.Turns.{State, Turn, next, given}
use Rattle.trace.specs.Trace.{Read, ARequest, Remark, Bad, End, read_of, data_of}
use Rattle.player.specs.Text.{line_text, bad_text}

-- how far a run is: the state, and how many requests and how many records of any kind came so far
pub record Progress : Type 0 where
  pub state : State
  pub requests : ℕ
  pub records : ℕ

abbrev pub progress : State → (requests records : ℕ) → Progress
progress m requests records = record { state = m; requests = requests; records = records }

-- Storage is 65,536 zero bytes, 2K units, zero keys, both records zero and in supervisor state, extensions present
abbrev pub start_settings : Settings
start_settings = record { four_k = false; extensions = true }

abbrev pub start_processor : Processor
start_processor =
    record { psw_key = 0; problem = false; low_protection = false; key_control = false; prefix = 0; code = 0 }

abbrev pub start_processors : List Processor
start_processors = start_processor ∷ start_processor ∷ []

unfoldable pub start_state : State
start_state = record { storage = replicate 65536 0; keys = replicate 32 0; processors = start_processors }

abbrev pub start_progress : Progress
start_progress = progress start_state 0 0

-- the buffer of a request whose record is in front of the bytes and has this size: the data bytes of a store; for any other request 256 zero
-- bytes, enough for every fetch that is not refused for its length
abbrev pub buffer_of : Request → List ℕ → ℕ → List ℕ
buffer_of (Access Store address count) bytes size = data_of bytes size
buffer_of (Access Fetch address count) bytes size = replicate 256 0
buffer_of (Key i) bytes size = replicate 256 0
buffer_of (Prefix i) bytes size = replicate 256 0

abbrev pub turn_of : ℕ → Request → List ℕ → ℕ → Turn
turn_of n r bytes size = record { processor_number = n; request = r; buffer = buffer_of r bytes size }

-- the player acts on the four request kinds: each is a step on what the one before it left
abbrev pub after_request : Settings → Progress → Turn → Progress
after_request s p t = progress (next s p.state t) (p.requests + 1) (p.records + 1)

-- a remark is skipped; it and a bad record count among all records
abbrev pub after_other : Progress → Progress
after_other p = progress p.state p.requests (p.records + 1)

-- one line per request: ordinal among requests, number, place
pub record Line : Type 0 where
  pub ordinal : ℕ
  pub number : ℕ
  pub place : ℕ

abbrev pub line_of : Settings → Progress → Turn → Line
line_of s p t =
    let a = (given s p.state t).answer in
    record { ordinal = p.requests + 1; number = a.number; place = a.place }

-- a run: the lines of its requests, the ordinal of the bad record that ended it if there was one, and the state that it leaves
pub record Run : Type 0 where
  pub lines : List Line
  pub bad : Option ℕ
  pub state : State

abbrev pub ended : Option ℕ → State → Run
ended bad m = record { lines = []; bad = bad; state = m }

abbrev pub line_then : Line → Run → Run
line_then l r = record { lines = l ∷ r.lines; bad = r.bad; state = r.state }

-- what the record in front of the bytes adds to the run of the rest
unfoldable pub on_read : Read → Settings → Progress → List ℕ → (Progress → List ℕ → Run) → Run
on_read (ARequest n r size) s p bytes rest =
    line_then (line_of s p (turn_of n r bytes size)) (rest (after_request s p (turn_of n r bytes size)) (drop size bytes))
on_read (Remark size) s p bytes rest = rest (after_other p) (drop size bytes)
on_read Bad s p bytes rest = ended (some (p.records + 1)) p.state
on_read End s p bytes rest = ended none p.state

-- the run of at most n records
unfoldable pub run_from : ℕ → Settings → Progress → List ℕ → Run
run_from zero s p bytes = ended none p.state
run_from (suc n) s p bytes = on_read (read_of bytes) s p bytes (run_from n s)

-- the run of a recording: it has no more records than bytes
unfoldable pub run_of : List ℕ → Run
run_of bytes = run_from (length bytes) start_settings start_progress bytes

-- what a run writes: its lines, then that of the bad record
abbrev pub text_of_line : Line → List ℕ
text_of_line l = line_text l.ordinal l.number l.place

unfoldable pub text_of_lines : List Line → List ℕ
text_of_lines [] = []
text_of_lines (l ∷ ls) = text_of_line l ++ text_of_lines ls

abbrev pub text_of_bad : Option ℕ → List ℕ
text_of_bad none = []
text_of_bad (some ordinal) = bad_text ordinal

unfoldable pub text_of : Run → List ℕ
text_of r = text_of_lines r.lines ++ text_of_bad r.bad
