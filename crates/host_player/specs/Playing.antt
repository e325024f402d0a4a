-- The player for programs in other languages: a call plays a piece of a recording on the machine that its numbers and bytes stand for. The player's
-- 48 bytes are the records of both processors, eight bytes each, as for a request, then four numbers of eight bytes: requests and records so
-- far, and the bytes read and the bytes written by the call.
use Rattle.std.specs.Prelude.{ℕ, ◌+◌, cond, not, ◌&&◌, List, [], ◌∷◌, length, get_or, eqb, ltb}
use Rattle.machine.specs.declared.Processor.{Processor}
use Rattle.boundary.specs.Boundary.{settings_of, record_at}
use Rattle.house_record.specs.Little.{little, little_bytes}
use Rattle.player.specs.declared.Player.{Player}
use Rattle.player.specs.declared.Played.{Played}
use Rattle.player.specs.declared.Status.{Status}
use Rattle.player.specs.declared.Status.TheVariants.{Passed, More, Ended, Room, Limit}
use Rattle.player.specs.Text.{pasted}
use Rattle.player.specs.Play.{progress_of, played, PlayOutcome, play_outcome_of}

-- the player in its bytes
abbrev pub player_in : List ℕ → Player
player_in bytes =
    record { processors = record_at bytes 0 ∷ record_at bytes 8 ∷ []; requests = little 8 bytes 16; records = little 8 bytes 24 }

-- bytes with a number in n of them from a place on
abbrev pub put : ℕ → ℕ → ℕ → List ℕ → List ℕ
put n at v bytes = pasted bytes at (little_bytes n v)

-- of the record whose bytes stand from a place on, the condition code and the prefix are written: a request changes nothing else of a record
abbrev pub put_record : ℕ → Processor → List ℕ → List ℕ
put_record at p bytes = put 4 (at + 4) p.prefix (put 1 (at + 2) p.code bytes)

abbrev pub put_records : List Processor → List ℕ → List ℕ
put_records ps bytes = put_record 8 (get_or ps 1 (record_at bytes 8)) (put_record 0 (get_or ps 0 (record_at bytes 0)) bytes)

-- the player's bytes as a call leaves them
unfoldable pub player_left : Played → List ℕ → List ℕ
player_left r bytes =
    put 8 40 r.written
    (put 8 32 r.read
    (put 8 24 r.player.records
    (put 8 16 r.player.requests
    (put_records r.player.processors bytes))))

-- the result: more bytes are needed, the run is ended, the output has no room, the ordinals are used up. A call never stops where a record has
-- passed; 4 is a call that is refused
abbrev pub status_number : Status → ℕ
status_number More = 0
status_number Ended = 1
status_number Room = 2
status_number Limit = 3
status_number Passed = 0

-- what a call leaves: its result, storage, key array, the player's bytes, the output
pub record PlayCall : Type 0 where
  pub result : ℕ
  pub storage : List ℕ
  pub keys : List ℕ
  pub player : List ℕ
  pub output : List ℕ

abbrev pub play_call : ℕ → List ℕ → List ℕ → List ℕ → List ℕ → PlayCall
play_call result storage keys player output =
    record { result = result; storage = storage; keys = keys; player = player; output = output }

-- what a routine that leaves this answers
abbrev pub answered : PlayOutcome → Played
answered o =
    record {
      player = record { processors = o.progress.state.processors; requests = o.progress.requests; records = o.progress.records };
      read = o.read;
      written = o.written;
      status = o.status;
    }

abbrev pub call_played : PlayOutcome → List ℕ → PlayCall
call_played o player =
    play_call (status_number o.status) o.progress.state.storage o.progress.state.keys (player_left (answered o) player) o.output

-- the call. Settings over 3 and a player that has not 48 bytes are refused, and nothing changes
unfoldable pub play_called : ℕ → List ℕ → List ℕ → List ℕ → List ℕ → ℕ → List ℕ → PlayCall
play_called settings storage keys player piece last output =
    cond (ltb settings 4 && eqb (length player) 48)
    (call_played
    (play_outcome_of
    (played (length piece + 1) (settings_of settings) (not (eqb last 0)) (length output) (progress_of (player_in player) storage keys) piece)
    output)
    player)
    (play_call 4 storage keys player output)
