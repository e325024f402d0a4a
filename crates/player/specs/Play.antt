-- What the player's routines leave when a recording comes in pieces: for one record, and for record after record.
use Rattle.std.specs.Prelude.{ℕ, zero, suc, ◌+◌, ◌-◌, Bool, true, false, cond, ◌&&◌, ◌||◌, List, [], ◌++◌, length, drop, eqb, leb, ltb}
use Rattle.machine.specs.declared.Settings.{Settings}
use Rattle.machine.specs.declared.Processor.{Processor}
use Rattle.machine.specs.Turns.{State, Turn}
use Rattle.house_record.specs.Little.{little}
use Rattle.trace.specs.Trace.{Read, ARequest, Remark, Bad, End, read_of}
use Rattle.player.specs.declared.Player.{Player}
use Rattle.player.specs.declared.Status.{Status}
use Rattle.player.specs.declared.Status.TheVariants.{Passed, More, Ended, Room, Limit}
use Rattle.player.specs.declared.Played.{Played}
use Rattle.player.specs.Text.{over, bad_text}
use Rattle.player.specs.Run.{Progress, progress, start_processors, turn_of, after_request, after_other, line_of, text_of_line}

-- the player at the start of a run
abbrev pub start_player : Player
start_player = record { processors = start_processors; requests = 0; records = 0 }

-- a pair of records, storage and keys as a state, and how far the run of a player is over such storage and keys
abbrev pub state_of : List Processor → (storage keys : List ℕ) → State
state_of ps storage keys = record { storage = storage; keys = keys; processors = ps }

abbrev pub progress_of : Player → (storage keys : List ℕ) → Progress
progress_of p storage keys = progress (state_of p.processors storage keys) p.requests p.records

-- what a piece of a recording leaves: the text written, how far the run then is, the count of bytes read, and how it stopped
pub record Left : Type 0 where
  pub text : List ℕ
  pub progress : Progress
  pub read : ℕ
  pub status : Status

abbrev pub left : List ℕ → Progress → ℕ → Status → Left
left text p read status = record { text = text; progress = p; read = read; status = status }

-- a request: its line, and the step
unfoldable pub request_played : Settings → Progress → Turn → ℕ → Left
request_played s p t size = left (text_of_line (line_of s p t)) (after_request s p t) size Passed

-- the record in front can be judged whatever follows: its length is over 512, or all that the length counts is there
unfoldable pub judged : List ℕ → Bool
judged bytes = leb 2 (length bytes) && (ltb 512 (little 2 bytes 0) || leb (2 + little 2 bytes 0) (length bytes))

-- a bad record. It ends the run where nothing comes behind the bytes, and where it can be judged
unfoldable pub bad_played : Bool → Progress → List ℕ → Left
bad_played last p bytes =
    cond (last || judged bytes) (left (bad_text (p.records + 1)) (after_other p) 0 Ended) (left [] p 0 More)

-- the end of the bytes, which is that of the recording where nothing comes behind them
abbrev pub end_played : Bool → Progress → Left
end_played last p = left [] p 0 (cond last Ended More)

-- the record in front of the bytes, by what was read
unfoldable pub read_played : Read → Settings → Bool → Progress → List ℕ → Left
read_played (ARequest n r size) s last p bytes = request_played s p (turn_of n r bytes size) size
read_played (Remark size) s last p bytes = left [] (after_other p) size Passed
read_played Bad s last p bytes = bad_played last p bytes
read_played End s last p bytes = end_played last p

-- what was read is a request
abbrev pub is_request : Read → Bool
is_request (ARequest n r size) = true
is_request (Remark size) = false
is_request Bad = false
is_request End = false

-- the ordinals have 64 bits
abbrev pub ordinals_used : Progress → Bool
ordinals_used p = eqb p.records 18446744073709551615 || eqb p.requests 18446744073709551615

-- one record, with room for so many bytes of text. A line has less than 64 bytes
unfoldable pub record_played : Settings → Bool → ℕ → Progress → List ℕ → Left
record_played s last room p bytes =
    cond (ltb room 64) (left [] p 0 Room)
    (cond (ordinals_used p) (left [] p 0 Limit)
    (read_played (read_of bytes) s last p bytes))

-- another record may follow
abbrev pub passes : Status → Bool
passes Passed = true
passes More = false
passes Ended = false
passes Room = false
passes Limit = false

-- what one record leaves, and then the rest
abbrev pub then : Left → Left → Left
then o rest = left (o.text ++ rest.text) rest.progress (o.read + rest.read) rest.status

-- record after record, until one does not pass; at most n
unfoldable pub played : ℕ → Settings → Bool → ℕ → Progress → List ℕ → Left
played zero s last room p bytes = left [] p 0 Passed
played (suc n) s last room p bytes =
    let o = record_played s last room p bytes in
    cond (passes o.status) (then o (played n s last (room - length o.text) o.progress (drop o.read bytes))) o

-- all that a call leaves: how far the run is, the counts and the status that it answers, and the output, with the text in front and all else kept
pub record PlayOutcome : Type 0 where
  pub progress : Progress
  pub read : ℕ
  pub written : ℕ
  pub status : Status
  pub output : List ℕ

abbrev pub play_outcome : Played → (storage keys output : List ℕ) → PlayOutcome
play_outcome r storage keys output =
    record {
      progress = progress_of r.player storage keys;
      read = r.read;
      written = r.written;
      status = r.status;
      output = output;
    }

abbrev pub play_outcome_of : Left → List ℕ → PlayOutcome
play_outcome_of o output =
    record { progress = o.progress; read = o.read; written = length o.text; status = o.status; output = over o.text output }
