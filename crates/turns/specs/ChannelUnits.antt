-- The units that a step of the channel names (document 02, W4). Its own reading, and data going to the device, count as fetches; a forbidden
-- reading or transfer names its range.
--
--   step                                                      its CCW's unit   units of the data
--   a line above the fetching of the CCW applies              -                -
--   72, fetching it is forbidden                              as a fetch       -
--   fetched, and a line above the transfer applies            as a fetch       -
--   fetched, a transfer in channel                            as a fetch       -
--   72, the transfer of the data is forbidden; or performed   as a fetch       to the device: as fetches; from it: otherwise
use Rattle.std.specs.Prelude.{ℕ, ◌+◌, Bool, cond, List, length, eqb}
use Rattle.std.proofs.Math.Option.{Option, none, some}
use Rattle.machine.specs.declared.Settings.{Settings}
use Rattle.machine.specs.declared.AccessKind.TheVariants.{Fetch, Store}
use Rattle.machine.specs.declared.channel.ChannelRequest.{ChannelRequest}
use Rattle.machine.specs.declared.channel.ChannelOperation.{ChannelOperation}
use Rattle.machine.specs.declared.channel.ChannelOperation.TheVariants.{TransferInChannel, Data, Invalid}
use Rattle.machine.specs.declared.channel.ChannelReason.{ChannelReason}
use Rattle.machine.specs.Channel.{Standing, UnderWay, Answered, Channel, ccw_at, operation_of, before_fetching, fetching_forbidden, before_transfer}
use Rattle.machine.specs.Channel.{with_ccw_fetched}
use Rattle.machine.specs.Lists.{any_below}
use Rattle.machine.specs.Numbers.{unit_of}
use Rattle.turns.specs.Units.{Naming, unnamed, fetching, otherwise}

-- unit u is that of a byte of the range
unfoldable pub in_range : Settings → (start count u : ℕ) → Bool
in_range s start count u = any_below (λ i. eqb (unit_of s (start + i)) u) count

-- a CCW is 8 bytes
abbrev pub ccw_named : Settings → (ccw : ℕ) → ℕ → Naming
ccw_named s ccw u = cond (in_range s ccw 8 u) fetching unnamed

-- data going to the device is fetched, data read from it is not
abbrev pub data_named : ChannelOperation → Settings → ℕ → Naming
data_named (TransferInChannel address) s u = unnamed
data_named (Data Fetch address count chains) s u = cond (in_range s address count u) fetching unnamed
data_named (Data Store address count chains) s u = cond (in_range s address count u) otherwise unnamed
data_named Invalid s u = unnamed

-- a unit that is named both as a fetch and otherwise is named otherwise
abbrev pub together : Naming → Naming → Naming
together unnamed n = n
together fetching unnamed = fetching
together fetching fetching = fetching
together fetching otherwise = otherwise
together otherwise n = otherwise

-- where a line applies, nothing
abbrev pub unless_applies : Option ChannelReason → Naming → Naming
unless_applies none n = n
unless_applies (some r) n = unnamed

-- the CCW to come, c being what the step finds
unfoldable pub next_ccw_names : Settings → ChannelRequest → (from_device : List ℕ) → Channel → ℕ → Naming
next_ccw_names s q from_device c u =
    let o = operation_of (ccw_at c.storage c.progress.state.ccw) in
    unless_applies (before_fetching s q c)
    (together (ccw_named s c.progress.state.ccw u)
    (cond (fetching_forbidden s q c) unnamed
    (unless_applies (before_transfer (length from_device) (with_ccw_fetched s c) o) (data_named o s u))))

-- a step of a request; where it has answered, it does nothing
abbrev pub step_names_by : Standing → Settings → ChannelRequest → (from_device : List ℕ) → Channel → ℕ → Naming
step_names_by UnderWay s q from_device c u = next_ccw_names s q from_device c u
step_names_by (Answered answer) s q from_device c u = unnamed

abbrev pub step_names : Settings → ChannelRequest → (from_device : List ℕ) → Channel → ℕ → Naming
step_names s q from_device c u = step_names_by c.progress.standing s q from_device c u
