-- Three lists: those of the two processors and the channel's. What a turn of each does and names, the orders of turns, and the claim that the
-- order does not matter.
use Rattle.std.specs.Prelude.{ℕ, ◌+◌, ◌≤◌, ◌≡◌, Bool, true, false, ◌⊎◌, ◌≢◌, List, [], ◌∷◌, ◌++◌, length, replicate}
use Rattle.machine.specs.declared.Settings.{Settings}
use Rattle.machine.specs.declared.channel.ChannelRequest.{ChannelRequest}
use Rattle.machine.specs.declared.channel.ChannelRecord.{ChannelRecord}
use Rattle.machine.specs.declared.channel.ChannelProgress.{ChannelProgress}
use Rattle.machine.specs.Channel.{Standing, UnderWay, Answered, Channel, channel_values, channel_step, begun}
use Rattle.machine.specs.Answers.{Values}
use Rattle.machine.specs.Turns.{State, Turn, Given, next, given}
use Rattle.turns.specs.Units.{Naming, unnamed, otherwise, naming}
use Rattle.turns.specs.ChannelUnits.{step_names}
use Rattle.turns.specs.Parties.{Joint, Parties, run, alone}

-- a request of the channel's list, with its own two buffers as they stand before every run: the bytes from the device, and the room for bytes to it
pub record ChannelTurn : Type 0 where
  pub request : ChannelRequest
  pub from_device : List ℕ
  pub room : List ℕ

-- what it gives back: the values of its answer, how many CCWs were fetched, the channel's record, and both buffers
pub record ChannelGiven : Type 0 where
  pub answer : Values
  pub count : ℕ
  pub state : ChannelRecord
  pub from_device : List ℕ
  pub room : List ℕ

-- The work of a party: the requests left, and what those that are done gave back, in their order. The channel has a request under way, with its room and
-- how far it has come, or it is between two requests
pub data Work : Type 0 where
  requests : List Turn → List Given → Work
  between : List ChannelTurn → List ChannelGiven → Work
  under_way : ChannelTurn → (room : List ℕ) → ChannelProgress → List ChannelTurn → List ChannelGiven → Work

-- the list is at its end
abbrev pub at_end : Work → Bool
at_end (requests [] gs) = true
at_end (requests (t ∷ ts) gs) = false
at_end (between [] gs) = true
at_end (between (t ∷ ts) gs) = false
at_end (under_way t room g ts gs) = false

-- A turn of the channel is one step of the request under way. If none is, it begins the next and does its first step. The step looks at no
-- processor's record and changes none
abbrev pub found : State → (room : List ℕ) → ChannelProgress → Channel
found m room g = record { storage = m.storage; keys = m.keys; room = room; progress = g }

abbrev pub stepped : Settings → State → ChannelTurn → (room : List ℕ) → ChannelProgress → Channel
stepped s m t room g = channel_step s t.request t.from_device (found m room g)

abbrev pub left : State → Channel → State
left m c = record { storage = c.storage; keys = c.keys; processors = m.processors }

-- if it has answered, the next turn of the channel is another request's
abbrev pub goes_on : Standing → ChannelTurn → (room : List ℕ) → ChannelProgress → List ChannelTurn → List ChannelGiven → Work
goes_on UnderWay t room g ts gs = under_way t room g ts gs
goes_on (Answered answer) t room g ts gs =
    between ts (gs ++ record {
      answer = channel_values answer;
      count = g.fetched;
      state = g.state;
      from_device = t.from_device;
      room = room;
    } ∷ [])

-- A turn of a party: the state that it leaves, the party's work then, and how it names a unit. A turn of a list at its end does nothing
abbrev pub state_then : Settings → State → Work → State
state_then s m (requests [] gs) = m
state_then s m (requests (t ∷ ts) gs) = next s m t
state_then s m (between [] gs) = m
state_then s m (between (t ∷ ts) gs) = left m (stepped s m t t.room (begun t.request))
state_then s m (under_way t room g ts gs) = left m (stepped s m t room g)

abbrev pub work_then : Settings → State → Work → Work
work_then s m (requests [] gs) = requests [] gs
work_then s m (requests (t ∷ ts) gs) = requests ts (gs ++ given s m t ∷ [])
work_then s m (between [] gs) = between [] gs
work_then s m (between (t ∷ ts) gs) = let c = stepped s m t t.room (begun t.request) in goes_on c.progress.standing t c.room c.progress ts gs
work_then s m (under_way t room g ts gs) = let c = stepped s m t room g in goes_on c.progress.standing t c.room c.progress ts gs

abbrev pub turn_names : Settings → State → Work → ℕ → Naming
turn_names s m (requests [] gs) u = unnamed
turn_names s m (requests (t ∷ ts) gs) u = naming s m t u
turn_names s m (between [] gs) u = unnamed
turn_names s m (between (t ∷ ts) gs) u = step_names s t.request t.from_device (found m t.room (begun t.request)) u
turn_names s m (under_way t room g ts gs) u = step_names s t.request t.from_device (found m room g) u

-- The parties, and the start: no request of the channel is under way
pub data Party : Type 0 where
  processor0 : Party
  processor1 : Party
  channel : Party
  deriving Discrete as Party-discrete

abbrev pub parties : Settings → Parties State Work Party
parties s = record { same = Party-discrete; next = state_then s; becomes = work_then s }

abbrev pub works : List Turn → List Turn → List ChannelTurn → Party → Work
works xs ys zs processor0 = requests xs []
works xs ys zs processor1 = requests ys []
works xs ys zs channel = between zs []

abbrev pub start : State → List Turn → List Turn → List ChannelTurn → Joint State Work Party
start m xs ys zs = record { shared = m; own = works xs ys zs }

-- a request of processor i's list carries i, or a number that isn't 0 or 1
abbrev pub Carry : ℕ → List Turn → Type 0
Carry i [] = Unit {0}
Carry i (t ∷ ts) = ((t.processor_number ≡ i) ⊎ (2 ≤ t.processor_number)) × Carry i ts

module _ (s : Settings) (m : Joint State Work Party) where
  -- how unit u is named by turn k of party j, where j's list runs alone from m
  abbrev pub named_at : Party → ℕ → ℕ → Naming
  named_at j k u = let n = alone (parties s) m j k in turn_names s n.shared (n.own j) u

  -- each unit is named by one list only, or by fetches only
  abbrev pub ByOneList : ℕ → Type 0
  ByOneList u = (i : Party) × ((j : Party) → i ≢ j → (k : ℕ) → named_at j k u ≡ unnamed)

  abbrev pub ByFetches : ℕ → Type 0
  ByFetches u = (j : Party) (k : ℕ) → named_at j k u ≢ otherwise

  abbrev pub Apart : Type 0
  Apart = (u : ℕ) → ByOneList u ⊎ ByFetches u

  -- an order of turns is whole if every list has come to its end after it
  abbrev pub Whole : List Party → Type 0
  Whole o = (i : Party) → at_end ((run (parties s) m o).own i) ≡ true

-- The claim. The start is any, and any list may be empty. Any two whole orders of turns end with the same storage, keys and processors' records,
-- and each request has given back the same: answer, count, the channel's record and buffers
abbrev pub AnyOrder : Type 0
AnyOrder =
    (s : Settings) (m : State) (xs ys : List Turn) (zs : List ChannelTurn)
    → Carry 0 xs
    → Carry 1 ys
    → Apart s (start m xs ys zs)
    → (o p : List Party)
    → Whole s (start m xs ys zs) o
    → Whole s (start m xs ys zs) p
    → run (parties s) (start m xs ys zs) o ≡ run (parties s) (start m xs ys zs) p

-- the lists whole one after another, the channel's last. A channel's request takes at most a turn for each CCW that is granted and one more
abbrev pub turns_at_most : List ChannelTurn → ℕ
turns_at_most [] = 0
turns_at_most (t ∷ ts) = t.request.grant + 1 + turns_at_most ts

abbrev pub one_after_another : List Turn → List Turn → List ChannelTurn → List Party
one_after_another xs ys zs = replicate (length xs) processor0 ++ replicate (length ys) processor1 ++ replicate (turns_at_most zs) channel

-- the same claim against that order, which is whole: every whole order ends as it does
abbrev pub OneAfterAnother : Type 0
OneAfterAnother =
    (s : Settings) (m : State) (xs ys : List Turn) (zs : List ChannelTurn)
    → Carry 0 xs
    → Carry 1 ys
    → Apart s (start m xs ys zs)
    → Whole s (start m xs ys zs) (one_after_another xs ys zs)
    × ((o : List Party)
    → Whole s (start m xs ys zs) o
    → run (parties s) (start m xs ys zs) o ≡ run (parties s) (start m xs ys zs) (one_after_another xs ys zs))
