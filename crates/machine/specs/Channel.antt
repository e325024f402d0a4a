-- The channel (document 02, W4): its CCWs, the lines of a request and of a CCW in their order, a step, which is one CCW, with everything that
-- it leaves, and the run of a request. Addresses are absolute. No prefix is applied, there is no low-address protection, and no processor's
-- record is looked at.
use Rattle.std.specs.Prelude.{ℕ, zero, suc, ◌+◌, ◌-◌, ◌*◌, ◌^◌, ◌%◌, eqb, leb, ltb, Bool, true, false, cond, not, ◌&&◌, ◌||◌}
use Rattle.std.specs.Prelude.{List, [], ◌∷◌, ◌++◌, length, get_or, Result, Ok, Err, Some, None, ⊤}
use Rattle.std.specs.Prelude.{Option as Optional}
use Rattle.std.proofs.Math.Option.{Option, none, some}
use Rattle.machine.specs.declared.Settings.{Settings}
use Rattle.machine.specs.declared.AccessKind.{AccessKind}
use Rattle.machine.specs.declared.AccessKind.TheVariants.{Fetch, Store}
use Rattle.machine.specs.declared.channel.ChannelRequest.{ChannelRequest}
use Rattle.machine.specs.declared.channel.Ccw.{Ccw}
use Rattle.machine.specs.declared.channel.ChannelOperation.{ChannelOperation}
use Rattle.machine.specs.declared.channel.ChannelOperation.TheVariants.{TransferInChannel, Data, Invalid}
use Rattle.machine.specs.declared.channel.Chaining.{Chaining}
use Rattle.machine.specs.declared.channel.Chaining.TheVariants.{First, Command, Transfer, Ended}
use Rattle.machine.specs.declared.channel.ChannelRecord.{ChannelRecord}
use Rattle.machine.specs.declared.channel.ChannelReason.{ChannelReason}
use Rattle.machine.specs.declared.channel.ChannelReason.TheVariants.{Configuration, ChannelKey, Grant, GrantUsed, Program, Protection, Device}
use Rattle.machine.specs.declared.channel.ChannelProgress.{ChannelProgress}
use Rattle.machine.specs.declared.channel.ChannelReply.{ChannelReply}
use Rattle.machine.specs.Bits.{field}
use Rattle.machine.specs.Lists.{written, any_below}
use Rattle.machine.specs.Numbers.{lengths_valid, unit_of}
use Rattle.machine.specs.Answers.{Values}
use Rattle.machine.specs.Protection.{permitted, recorded}

-- The CCW.

-- the number in the n bytes from an index on, big-endian
unfoldable pub big_endian : ℕ → List ℕ → ℕ → ℕ
big_endian zero bytes i = 0
big_endian (suc n) bytes i = get_or bytes i 0 * 256 ^ n + big_endian n bytes (i + 1)

-- command (1 byte), address (3), flags (1), an ignored byte, count (2)
unfoldable pub ccw_at : List ℕ → ℕ → Ccw
ccw_at storage a =
    record {
      command = big_endian 1 storage a;
      address = big_endian 3 storage (a + 1);
      flags = big_endian 1 storage (a + 4);
      count = big_endian 2 storage (a + 6);
    }

-- hex 40, chain command, is carried; other flags are bad
abbrev pub chain_command : ℕ
chain_command = 0x40

-- a CCW that moves data between storage and the device: with flags other than 0 and hex 40, or with count zero, it is bad
abbrev pub data_operation : AccessKind → Ccw → ChannelOperation
data_operation kind c =
    cond (not (eqb c.flags 0 || eqb c.flags chain_command) || eqb c.count 0) Invalid
    (Data kind c.address c.count (eqb c.flags chain_command))

-- low command bits 01 write to the device what is fetched from storage, 10 read from it what is stored, and xxxx1000 is a transfer in channel,
-- its flags and count ignored; others are bad
unfoldable pub operation_of : Ccw → ChannelOperation
operation_of c =
    cond (eqb (field 8 6 7 c.command) 1) (data_operation Fetch c)
    (cond (eqb (field 8 6 7 c.command) 2) (data_operation Store c)
    (cond (eqb (field 8 4 7 c.command) 8) (TransferInChannel c.address)
    Invalid))

-- Bytes by absolute addresses under the channel's key: a CCW, which is 8 bytes, and the data of a CCW. Byte i of a range has the address `start + i`.

abbrev pub outside : (storage_length start count : ℕ) → Bool
outside storage_length start count = ltb storage_length (start + count)

-- a byte of the range is in a unit whose key forbids it
unfoldable pub range_forbidden : Settings → AccessKind → (access_key : ℕ) → List ℕ → (start count : ℕ) → Bool
range_forbidden s kind access_key keys start count =
    any_below (λ i. not (permitted kind access_key (get_or keys (unit_of s (start + i)) 0))) count

-- the key of each unit of the range is written as a completed access writes it
unfoldable pub range_recorded : Settings → AccessKind → List ℕ → (start count : ℕ) → List ℕ
range_recorded s kind keys start count =
    written keys (λ i. unit_of s (start + i)) (λ i. recorded kind (get_or keys (unit_of s (start + i)) 0)) count

-- the target with count bytes of the source, from index j on, in the place of its own from index i on
unfoldable pub bytes_moved : (target : List ℕ) (i : ℕ) (source : List ℕ) (j count : ℕ) → List ℕ
bytes_moved target i source j count = written target (λ k. i + k) (λ k. get_or source (j + k) 0) count

-- Answers.

-- the reasons, in the order in which the lines first have them
abbrev pub channel_reasons : List ChannelReason
channel_reasons = Configuration ∷ ChannelKey ∷ Grant ∷ GrantUsed ∷ Program ∷ Protection ∷ Device ∷ []

abbrev pub channel_number : ChannelReason → ℕ
channel_number Configuration = 64
channel_number ChannelKey = 65
channel_number Grant = 66
channel_number GrantUsed = 74
channel_number Program = 71
channel_number Protection = 72
channel_number Device = 73

-- the answer: the program ended, or it was refused
abbrev pub ChannelAnswer : Type 0
ChannelAnswer = Result ⊤ ChannelReason

pattern abbrev pub Completed : ChannelAnswer
Completed = Ok _

pattern abbrev pub Refused : ChannelReason → ChannelAnswer
Refused reason = Err reason

-- whether a request has answered
abbrev pub Standing : Type 0
Standing = Optional ChannelAnswer

pattern abbrev pub UnderWay : Standing
UnderWay = None

pattern abbrev pub Answered : ChannelAnswer → Standing
Answered answer = Some answer

-- a program that ends answers 0
abbrev pub channel_number_of : ChannelAnswer → ℕ
channel_number_of Completed = 0
channel_number_of (Refused reason) = channel_number reason

-- place and word are always 0; no prefix is applied, so there is no rule
abbrev pub channel_values : ChannelAnswer → Values
channel_values a = record { number = channel_number_of a; place = 0; word = 0; rule = 0 }

-- What a step finds and leaves: storage, key array, the room for bytes to the device, and how far the request has come. Beside it are the
-- request and the bytes from the device, which no step changes
pub record Channel : Type 0 where
  pub storage : List ℕ
  pub keys : List ℕ
  pub room : List ℕ
  pub progress : ChannelProgress

abbrev pub channel : List ℕ → List ℕ → List ℕ → ChannelProgress → Channel
channel storage keys room progress = record { storage = storage; keys = keys; room = room; progress = progress }

-- the same with another progress; and with an answer, all else as it was
abbrev pub with_progress : Channel → ChannelProgress → Channel
with_progress c g = channel c.storage c.keys c.room g

abbrev pub standing_as : ChannelProgress → Standing → ChannelProgress
standing_as g standing = record { state = g.state; fetched = g.fetched; standing = standing }

abbrev pub refused : ChannelReason → Channel → Channel
refused r c = with_progress c (standing_as c.progress (Answered (Refused r)))

-- The lines, each with its test. For each CCW their order is: 64, 65 and 66 of the request; 74; 71 for its address; 72 for the fetching of it; 71
-- for what it is; 71 for its data range; 73; 72 for the transfer of its data (law ChannelSentences.seven_lines). They stand in two lists, each
-- without its last, 72, which alone looks at keys: condition 3 names units by whether the lines above a 72 let the step pass.
-- The reason of the first whose test holds, from top to bottom
unfoldable pub first_refusal : List (Bool × ChannelReason) → Option ChannelReason
first_refusal [] = none
first_refusal (l ∷ ls) = cond l.0 (some l.1) (first_refusal ls)

-- 64 the lengths, as for a processor; 65 a channel key over 15; 66 a grant not 1 to 256. They are tested at each step of a request under way; where
-- they let the first CCW pass, they let every later one pass, since they find the same operands and lengths (law ChannelSteps.step_lengths)
abbrev pub request_lines : Settings → (storage_length key_length : ℕ) → ChannelRequest → List (Bool × ChannelReason)
request_lines s storage_length key_length q =
    (not (lengths_valid s storage_length key_length), Configuration)
    ∷ (ltb 15 q.key, ChannelKey)
    ∷ (eqb q.grant 0 || ltb 256 q.grant, Grant)
    ∷ []

-- For each CCW, above the fetching of it: 74 the granted number of CCWs is used up; 71 its address isn't a multiple of 8 or lies outside storage
abbrev pub address_lines : (storage_length : ℕ) → ChannelRequest → ChannelProgress → List (Bool × ChannelReason)
address_lines storage_length q g =
    (leb q.grant g.fetched, GrantUsed)
    ∷ (not (eqb (g.state.ccw % 8) 0) || outside storage_length g.state.ccw 8, Program)
    ∷ []

unfoldable pub before_fetching : Settings → ChannelRequest → Channel → Option ChannelReason
before_fetching s q c =
    first_refusal (request_lines s (length c.storage) (length c.keys) q ++ address_lines (length c.storage) q c.progress)

-- 72: fetching it is forbidden
abbrev pub fetching_forbidden : Settings → ChannelRequest → Channel → Bool
fetching_forbidden s q c = range_forbidden s Fetch q.key c.keys c.progress.state.ccw 8

-- where a transfer in channel may stand: not first, and not straight after another
abbrev pub transfer_allowed : Chaining → Bool
transfer_allowed First = false
transfer_allowed Command = true
transfer_allowed Transfer = false
transfer_allowed Ended = false

-- 71: a bad command or flag, a zero count, or a misplaced transfer
abbrev pub program_check : ChannelOperation → Chaining → Bool
program_check (TransferInChannel address) chaining = not (transfer_allowed chaining)
program_check (Data kind address count chains) chaining = false
program_check Invalid chaining = true

-- 71: the data range outside storage, with no wrap
abbrev pub data_outside : ChannelOperation → (storage_length : ℕ) → Bool
data_outside (TransferInChannel address) storage_length = false
data_outside (Data kind address count chains) storage_length = outside storage_length address count
data_outside Invalid storage_length = false

-- 73: room for the bytes to the device, or bytes from it, short
abbrev pub device_short : ChannelOperation → (from_length room_length : ℕ) → ChannelRecord → Bool
device_short (TransferInChannel address) from_length room_length r = false
device_short (Data Fetch address count chains) from_length room_length r = ltb (room_length - r.given) count
device_short (Data Store address count chains) from_length room_length r = ltb (from_length - r.taken) count
device_short Invalid from_length room_length r = false

-- 72: the transfer of the data forbidden
abbrev pub data_forbidden : ChannelOperation → Settings → (access_key : ℕ) → List ℕ → Bool
data_forbidden (TransferInChannel address) s access_key keys = false
data_forbidden (Data kind address count chains) s access_key keys = range_forbidden s kind access_key keys address count
data_forbidden Invalid s access_key keys = false

-- the lines for a CCW that was fetched, above the transfer
unfoldable pub before_transfer : (from_length : ℕ) → Channel → ChannelOperation → Option ChannelReason
before_transfer from_length c o =
    first_refusal (
    (program_check o c.progress.state.chaining, Program)
    ∷ (data_outside o (length c.storage), Program)
    ∷ (device_short o from_length (length c.room) c.progress.state, Device)
    ∷ [])

-- A step.

-- the CCW is fetched: its unit's key is written as a completed fetch does, and it is counted. Its 8 bytes are in one unit, since 71 asks for a
-- multiple of 8 (law ChannelSteps.ccw_key)
unfoldable pub with_ccw_fetched : Settings → Channel → Channel
with_ccw_fetched s c =
    channel c.storage (range_recorded s Fetch c.keys c.progress.state.ccw 8) c.room
    (record { state = c.progress.state; fetched = c.progress.fetched + 1; standing = c.progress.standing })

-- a transfer in channel hands control to the CCW it names
abbrev pub transferred : ℕ → ChannelRecord → ChannelRecord
transferred address r = record { ccw = address; chaining = Transfer; taken = r.taken; given = r.given }

-- after data the next CCW follows, if this one chains; else the program ends. So many bytes were taken and given by it
abbrev pub advanced : Bool → (taken given : ℕ) → ChannelRecord → ChannelRecord
advanced chains taken given r =
    record { ccw = r.ccw + 8; chaining = cond chains Command Ended; taken = r.taken + taken; given = r.given + given }

abbrev pub after_data : Bool → (taken given : ℕ) → ChannelProgress → ChannelProgress
after_data chains taken given g =
    record { state = advanced chains taken given g.state; fetched = g.fetched; standing = cond chains UnderWay (Answered Completed) }

-- what the CCW asks for is done: c is the state with the CCW fetched
unfoldable pub carried_out : ChannelOperation → Settings → (from_device : List ℕ) → Channel → Channel
carried_out (TransferInChannel address) s from_device c =
    with_progress c (record { state = transferred address c.progress.state; fetched = c.progress.fetched; standing = UnderWay })
carried_out (Data Fetch address count chains) s from_device c =
    channel c.storage (range_recorded s Fetch c.keys address count)
    (bytes_moved c.room c.progress.state.given c.storage address count)
    (after_data chains 0 count c.progress)
carried_out (Data Store address count chains) s from_device c =
    channel (bytes_moved c.storage address from_device c.progress.state.taken count) (range_recorded s Store c.keys address count) c.room
    (after_data chains count 0 c.progress)
carried_out Invalid s from_device c = c

-- refused by the first of these lines, with all else as it was; else what follows
abbrev pub unless_refused : Option ChannelReason → Channel → Channel → Channel
unless_refused none c further = further
unless_refused (some r) c further = refused r c

abbrev pub unless_forbidden : Bool → Channel → Channel → Channel
unless_forbidden forbidden c further = cond forbidden (refused Protection c) further

-- a CCW that was fetched
unfoldable pub obeyed : Settings → ChannelRequest → (from_device : List ℕ) → ChannelOperation → Channel → Channel
obeyed s q from_device o c =
    unless_refused (before_transfer (length from_device) c o) c
    (unless_forbidden (data_forbidden o s q.key c.keys) c
    (carried_out o s from_device c))

-- the CCW to come
unfoldable pub next_ccw : Settings → ChannelRequest → (from_device : List ℕ) → Channel → Channel
next_ccw s q from_device c =
    unless_refused (before_fetching s q c) c
    (unless_forbidden (fetching_forbidden s q c) c
    (obeyed s q from_device (operation_of (ccw_at c.storage c.progress.state.ccw)) (with_ccw_fetched s c)))

-- a step of a request: its next CCW; where it has answered, nothing
abbrev pub step_by : Standing → Settings → ChannelRequest → (from_device : List ℕ) → Channel → Channel
step_by UnderWay s q from_device c = next_ccw s q from_device c
step_by (Answered answer) s q from_device c = c

unfoldable pub channel_step : Settings → ChannelRequest → (from_device : List ℕ) → Channel → Channel
channel_step s q from_device c = step_by c.progress.standing s q from_device c

-- The run of a request.

-- the start: its first CCW, and its two buffers used from their first bytes
abbrev pub begun : ChannelRequest → ChannelProgress
begun q = record { state = record { ccw = q.first; chaining = First; taken = 0; given = 0 }; fetched = 0; standing = UnderWay }

-- so many steps
unfoldable pub steps : ℕ → Settings → ChannelRequest → (from_device : List ℕ) → Channel → Channel
steps zero s q from_device c = c
steps (suc n) s q from_device c = steps n s q from_device (channel_step s q from_device c)

-- what a whole request leaves: the values of its answer if it has one, how many CCWs were fetched, the channel's record, storage, key array
-- and the room
pub record ChannelOutcome : Type 0 where
  pub answer : Option Values
  pub count : ℕ
  pub state : ChannelRecord
  pub storage : List ℕ
  pub keys : List ℕ
  pub room : List ℕ

abbrev pub answer_in : Standing → Option Values
answer_in UnderWay = none
answer_in (Answered answer) = some (channel_values answer)

abbrev pub outcome_in : Channel → ChannelOutcome
outcome_in c =
    record {
      answer = answer_in c.progress.standing;
      count = c.progress.fetched;
      state = c.progress.state;
      storage = c.storage;
      keys = c.keys;
      room = c.room;
    }

-- the outcome with what a routine replies
abbrev pub channel_outcome : ChannelReply → List ℕ → List ℕ → List ℕ → ChannelOutcome
channel_outcome r storage keys room =
    record { answer = some (channel_values r.answer); count = r.count; state = r.state; storage = storage; keys = keys; room = room }

-- a request from its start: a step for each CCW that is granted, and one more. By then it has answered, and a request that has answered stays as it is
unfoldable pub channel_run : Settings → List ℕ → List ℕ → ChannelRequest → (from_device : List ℕ) → (room : List ℕ) → ChannelOutcome
channel_run s storage keys q from_device room = outcome_in (steps (q.grant + 1) s q from_device (channel storage keys room (begun q)))

-- a step that fetches a CCW; and how many of the first n steps do
abbrev pub unrefused : Option ChannelReason → Bool
unrefused none = true
unrefused (some r) = false

abbrev pub fetches_by : Standing → Settings → ChannelRequest → Channel → Bool
fetches_by UnderWay s q c = unrefused (before_fetching s q c) && not (fetching_forbidden s q c)
fetches_by (Answered answer) s q c = false

abbrev pub fetches_ccw : Settings → ChannelRequest → Channel → Bool
fetches_ccw s q c = fetches_by c.progress.standing s q c

unfoldable pub steps_that_fetch : ℕ → Settings → ChannelRequest → (from_device : List ℕ) → Channel → ℕ
steps_that_fetch zero s q from_device c = 0
steps_that_fetch (suc n) s q from_device c =
    cond (fetches_ccw s q c) 1 0 + steps_that_fetch n s q from_device (channel_step s q from_device c)
