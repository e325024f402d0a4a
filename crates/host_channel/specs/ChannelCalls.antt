-- The channel for programs in other languages: a call runs a whole request, or one step of it, on what its numbers and bytes stand for.
-- The progress of a request is 32 bytes, numbers the least byte first: the address of the CCW to come (4 bytes); how control comes to it (1);
-- the status (1); two zeros; how many CCWs were fetched (4); four zeros; the bytes taken from the device (8) and given to it (8).
use Rattle.std.specs.Prelude.{ℕ, ◌+◌, ◌*◌, Bool, cond, ◌&&◌, ◌||◌, List, [], ◌∷◌, length, get_or, eqb, leb, ltb}
use Rattle.std.proofs.Math.Option.{Option, none, some}
use Rattle.machine.specs.declared.Settings.{Settings}
use Rattle.machine.specs.declared.channel.ChannelRequest.{ChannelRequest}
use Rattle.machine.specs.declared.channel.Chaining.{Chaining}
use Rattle.machine.specs.declared.channel.Chaining.TheVariants.{First, Command, Transfer, Ended}
use Rattle.machine.specs.declared.channel.ChannelRecord.{ChannelRecord}
use Rattle.machine.specs.declared.channel.ChannelReason.{ChannelReason}
use Rattle.machine.specs.declared.channel.ChannelReason.TheVariants.{Configuration, ChannelKey, Grant, GrantUsed, Program, Protection, Device}
use Rattle.machine.specs.Channel.{ChannelAnswer, Completed, Refused, Standing, UnderWay, Answered, channel_values, channel, begun, channel_step}
use Rattle.machine.specs.Channel.{ChannelOutcome, outcome_in, channel_run}
use Rattle.machine.specs.declared.channel.ChannelProgress.{ChannelProgress}
use Rattle.machine.specs.Lists.{written}
use Rattle.machine.specs.Numbers.{lengths_valid}
use Rattle.machine.specs.Answers.{Values}
use Rattle.house_record.specs.Little.{little, little_bytes}
use Rattle.boundary.specs.Boundary.{settings_of, packed}

-- how control comes to the CCW to come: 0 it is the first, 1 by the chain-command flag, 2 by a transfer in channel, 3 none is to come
abbrev pub chaining_number : Chaining → ℕ
chaining_number First = 0
chaining_number Command = 1
chaining_number Transfer = 2
chaining_number Ended = 3

abbrev pub chainings : List Chaining
chainings = First ∷ Command ∷ Transfer ∷ []

abbrev pub chaining_of : ℕ → Chaining
chaining_of n = get_or chainings n Ended

-- the status: 0 not begun, 1 under way, 2 the program has ended, else the number of the refusal
abbrev pub status_of : Option Values → ℕ
status_of none = 1
status_of (some v) = cond (eqb v.number 0) 2 v.number

abbrev pub status_valid : ℕ → Bool
status_valid n = leb n 2 || (leb 64 n && leb n 66) || (leb 71 n && leb n 74)

abbrev pub refusal_of : ℕ → ChannelReason
refusal_of n =
    cond (eqb n 64) Configuration
    (cond (eqb n 65) ChannelKey
    (cond (eqb n 66) Grant
    (cond (eqb n 71) Program
    (cond (eqb n 72) Protection
    (cond (eqb n 73) Device
    GrantUsed)))))

abbrev pub standing_of : ℕ → Standing
standing_of n = cond (eqb n 1) UnderWay (cond (eqb n 2) (Answered Completed) (Answered (Refused (refusal_of n))))

-- 32 bytes are a progress: each byte holds what it may
abbrev pub progress_valid : List ℕ → Bool
progress_valid bytes =
    eqb (length bytes) 32
    && leb (little 1 bytes 4) 3
    && status_valid (little 1 bytes 5)
    && eqb (little 2 bytes 6) 0
    && eqb (little 4 bytes 12) 0

-- the progress in them: where the request is not begun, its start
abbrev pub progress_in : ChannelRequest → List ℕ → ChannelProgress
progress_in q bytes =
    cond (eqb (little 1 bytes 5) 0) (begun q)
    (record {
      state = record {
        ccw = little 4 bytes 0;
        chaining = chaining_of (little 1 bytes 4);
        taken = little 8 bytes 16;
        given = little 8 bytes 24;
      };
      fetched = little 4 bytes 8;
      standing = standing_of (little 1 bytes 5);
    })

-- the bytes with a number in n of them from a place on
abbrev pub put : (n place value : ℕ) → List ℕ → List ℕ
put n place value bytes = written bytes (λ i. place + i) (λ i. get_or (little_bytes n value) i 0) n

-- the bytes of a progress with this record, this count and this status
unfoldable pub progress_left : ChannelRecord → (count status : ℕ) → List ℕ → List ℕ
progress_left r count status bytes =
    put 8 24 r.given
    (put 8 16 r.taken
    (put 4 12 0
    (put 4 8 count
    (put 4 4 (chaining_number r.chaining + status * 256)
    (put 4 0 r.ccw bytes)))))

-- the same for bytes of any length and any status: what is no progress, or no status, is not written
abbrev pub progress_put : ChannelRecord → (count status : ℕ) → List ℕ → List ℕ
progress_put r count status bytes = cond (eqb (length bytes) 32 && ltb status 256) (progress_left r count status bytes) bytes

-- the result: the answer in one number, as of every request; while the request is under way it has the number 255
abbrev pub under_way : ℕ
under_way = 255

abbrev pub result_of : Option Values → ℕ
result_of none = packed (record { number = under_way; place = 0; word = 0; rule = 0 })
result_of (some v) = packed v

-- what a call leaves: its result, storage, key array, the room and the bytes of the progress
pub record ChannelCall : Type 0 where
  pub result : ℕ
  pub storage : List ℕ
  pub keys : List ℕ
  pub room : List ℕ
  pub progress : List ℕ

abbrev pub channel_call : ℕ → List ℕ → List ℕ → List ℕ → List ℕ → ChannelCall
channel_call result storage keys room progress =
    record { result = result; storage = storage; keys = keys; room = room; progress = progress }

abbrev pub call_left : ChannelOutcome → List ℕ → ChannelCall
call_left o progress =
    channel_call (result_of o.answer) o.storage o.keys o.room (progress_left o.state o.count (status_of o.answer) progress)

-- a call that is refused for its settings or its progress: nothing changes
abbrev pub refused_with : ChannelAnswer → List ℕ → List ℕ → List ℕ → List ℕ → ChannelCall
refused_with a storage keys room progress = channel_call (packed (channel_values a)) storage keys room progress

-- settings with another bit on are refused by line 64; then a progress that is none by 65, where line 64 lets the lengths pass
abbrev pub unfit_answer : Settings → (storage_length key_length : ℕ) → ChannelAnswer
unfit_answer s storage_length key_length = cond (lengths_valid s storage_length key_length) (Refused ChannelKey) (Refused Configuration)

unfoldable pub call_unless : (settings : ℕ) → Bool → List ℕ → List ℕ → List ℕ → List ℕ → ChannelCall → ChannelCall
call_unless settings fit storage keys room progress called =
    cond (ltb settings 4)
    (cond fit called (refused_with (unfit_answer (settings_of settings) (length storage) (length keys)) storage keys room progress))
    (refused_with (Refused Configuration) storage keys room progress)

-- the call for a whole request, from its start whatever the 32 bytes hold
unfoldable pub channel_called : ℕ → List ℕ → List ℕ → ChannelRequest → (from_device room progress : List ℕ) → ChannelCall
channel_called settings storage keys q from_device room progress =
    call_unless settings (eqb (length progress) 32) storage keys room progress
    (call_left (channel_run (settings_of settings) storage keys q from_device room) progress)

-- and for one step
unfoldable pub channel_step_called : ℕ → List ℕ → List ℕ → ChannelRequest → (from_device room progress : List ℕ) → ChannelCall
channel_step_called settings storage keys q from_device room progress =
    call_unless settings (progress_valid progress) storage keys room progress
    (call_left (outcome_in (channel_step (settings_of settings) q from_device (channel storage keys room (progress_in q progress)))) progress)
