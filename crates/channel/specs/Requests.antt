-- A request that passed its own lines, and what the helpers of a CCW mean.
use Rattle.std.specs.Prelude.{ℕ, ◌+◌, ◌-◌, ◌<◌, ◌≤◌, ◌≡◌, Bool, true, false, cond, List}
use Rattle.std.proofs.Math.Option.{Option, none, some}
use Rattle.machine.specs.declared.Settings.{Settings}
use Rattle.machine.specs.declared.AccessKind.{AccessKind}
use Rattle.machine.specs.declared.AccessKind.TheVariants.{Fetch, Store}
use Rattle.machine.specs.declared.channel.ChannelRequest.{ChannelRequest}
use Rattle.machine.specs.declared.channel.ChannelOperation.{ChannelOperation}
use Rattle.machine.specs.declared.channel.ChannelOperation.TheVariants.{TransferInChannel, Data, Invalid}
use Rattle.machine.specs.declared.channel.Chaining.{Chaining}
use Rattle.machine.specs.declared.channel.Chaining.TheVariants.{First, Command, Transfer, Ended}
use Rattle.machine.specs.declared.channel.ChannelRecord.{ChannelRecord}
use Rattle.machine.specs.declared.channel.ChannelReason.TheVariants.{Program}
use Rattle.machine.specs.declared.channel.ChannelReason.{ChannelReason}
use Rattle.machine.specs.Channel.{ChannelAnswer, Completed, Refused, Standing, UnderWay, Answered, Channel, standing_as, transfer_allowed, transferred, steps}
use Rattle.machine.specs.Channel.{ChannelOutcome, outcome_in}
use Rattle.machine.specs.declared.channel.ChannelReply.{ChannelReply}
use Rattle.machine.specs.declared.channel.ChannelProgress.{ChannelProgress}
use Rattle.machine.specs.Numbers.{storage_maximum, lengths_valid}
use Rattle.channel.specs.Ranges.{Keyed}

-- the lines that are tested before the first CCW pass
pub record Passed (s : Settings) (storage_length key_length : ℕ) (q : ChannelRequest) : Type 0 where
  pub lengths : lengths_valid s storage_length key_length ≡ true
  pub key : q.key ≤ 15
  pub granted : 0 < q.grant
  pub limited : q.grant ≤ 256

-- the count of a CCW that moves data is not zero, and fits two bytes
abbrev pub Counted : ChannelOperation → Type 0
Counted (TransferInChannel address) = Unit {0}
Counted (Data kind address count chains) = (0 < count) × (count < 65536)
Counted Invalid = Unit {0}

-- the data of a CCW fits storage, its keys are there, and it fits the device from a position on; the CCW is inside storage itself
pub record DataFits (s : Settings) (storage_length key_length ccw address count device_length position : ℕ) : Type 0 where
  pub keyed : Keyed s key_length address count
  pub counted : count < 65536
  pub inside : address + count ≤ storage_length
  pub ccw_inside : ccw + 8 ≤ storage_maximum
  pub device : position + count ≤ device_length

-- one CCW more was fetched
abbrev pub counted : ChannelProgress → ChannelProgress
counted g = record { state = g.state; fetched = g.fetched + 1; standing = g.standing }

-- how many bytes the device has left for a kind of access
abbrev pub device_left : AccessKind → (from_length room_length : ℕ) → ChannelRecord → ℕ
device_left Fetch from_length room_length r = room_length - r.given
device_left Store from_length room_length r = from_length - r.taken

-- a transfer in channel that may be misplaced
unfoldable pub after_transfer : ℕ → ChannelProgress → ChannelProgress
after_transfer address g =
    cond (transfer_allowed g.state.chaining)
    (record { state = transferred address g.state; fetched = g.fetched; standing = UnderWay })
    (standing_as g (Answered (Refused Program)))

-- the progress of a request under way, of its parts
abbrev pub under_way : (ccw : ℕ) (chaining : Chaining) (taken given fetched : ℕ) → ChannelProgress
under_way ccw chaining taken given fetched =
    record { state = record { ccw = ccw; chaining = chaining; taken = taken; given = given }; fetched = fetched; standing = UnderWay }

-- the next CCW follows by chain command
unfoldable pub chains_on : Standing → Chaining → Bool
chains_on (Answered answer) chaining = false
chains_on UnderWay First = true
chains_on UnderWay Command = true
chains_on UnderWay Transfer = false
chains_on UnderWay Ended = true

-- control has come to a CCW that may be no transfer in channel, the first or one that a transfer named, with no more CCWs fetched than are granted
pub record Entered (q : ChannelRequest) (g : ChannelProgress) : Type 0 where
  pub under_way : g.standing ≡ UnderWay
  pub placed : transfer_allowed g.state.chaining ≡ false
  pub within : g.fetched ≤ q.grant

-- where a chain that began with so many fetched leaves the request under way, a transfer in channel and a CCW before it were fetched
pub record Later (q : ChannelRequest) (fetched : ℕ) (g : ChannelProgress) : Type 0 where
  pub more : g.standing ≡ UnderWay → fetched + 1 < g.fetched
  pub entered : g.standing ≡ UnderWay → Entered q g

-- the first refusal, if there is one, as an answer
unfoldable pub answer_by : Option ChannelReason → ChannelAnswer
answer_by none = Completed
answer_by (some r) = Refused r

-- the reply of a request that has an answer
abbrev pub reply_of : ChannelProgress → ChannelAnswer → ChannelReply
reply_of g answer = record { answer = answer; count = g.fetched; state = g.state }

-- the run of a request from some progress on: a step for each CCW of its grant that is left, and one more
unfoldable pub run_from : Settings → ChannelRequest → (from_device : List ℕ) → Channel → ChannelOutcome
run_from s q from_device c = outcome_in (steps (q.grant + 1 - c.progress.fetched) s q from_device c)
