-- A clean block is an untouched block (document 02, W7): over any finite sequence of turns of all parties, a unit whose change bit is zero at the end,
-- and to which no completed SSK or SSKE was applied in the sequence, holds the bytes that it held at the start. Nothing is supposed of the start,
-- nor that the parties' units are apart.
use Rattle.std.specs.Prelude.{ℕ, ◌≡◌, Bool, true, false, ◌&&◌, ◌≢◌, length, get_or, eqb}
use mathlib.Core.List.{List, [], ◌∷◌, foldl}
use Rattle.std.proofs.Math.Option.{Option, none, some}
use Rattle.machine.specs.declared.Settings.{Settings}
use Rattle.machine.specs.declared.Processor.{Processor}
use Rattle.machine.specs.declared.Request.{Request}
use Rattle.machine.specs.declared.Request.TheVariants.{Access, Key, Prefix}
use Rattle.machine.specs.declared.KeyInstruction.TheVariants.{Isk, Ssk, Rrb, Iske, Sske, Rrbe}
use Rattle.machine.specs.Answers.{Clear}
use Rattle.machine.specs.declared.channel.ChannelRequest.{ChannelRequest}
use Rattle.machine.specs.Lists.{record_of}
use Rattle.machine.specs.Numbers.{unit_of, unit_bytes}
use Rattle.machine.specs.Key.{change}
use Rattle.machine.specs.Channel.{channel_run}
use Rattle.machine.specs.Turns.{State, Turn, next, given}
use Rattle.turns.specs.Units.{names}
use Rattle.turns.specs.Parties.{Joint, turn, run}
use Rattle.turns.specs.ThreeLists.{ChannelTurn, Work, requests, between, under_way, state_then, Party, parties}
use Rattle.turns.specs.TwoLists.{Every}

-- the change bit of unit u; where the key array has no key for it, zero
abbrev pub change_bit : (keys : List ℕ) → ℕ → ℕ
change_bit keys u = change (get_or keys u 0)

-- The exception.

-- SSK and SSKE, which replace the whole key
abbrev pub sets_key : Request → Bool
sets_key (Access kind address count) = false
sets_key (Key (Isk r1 r2)) = false
sets_key (Key (Ssk r1 r2)) = true
sets_key (Key (Rrb address)) = false
sets_key (Key (Iske r1 r2)) = false
sets_key (Key (Sske r1 r2)) = true
sets_key (Key (Rrbe r2)) = false
sets_key (Prefix i) = false

-- u is a unit of the request, by the record of its processor, if there is one: so by the prefix then in force. SSK has one unit, SSKE one with the 4K
-- facility and two without it
abbrev pub has_unit : Option Processor → Settings → Request → ℕ → Bool
has_unit none s r u = false
has_unit (some p) s r u = names Clear s p r u

-- a request with this number in its answer is a completed SSK or SSKE one of whose units is u, whatever the key that it sets
abbrev pub applied_to : (number : ℕ) → Option Processor → Settings → Request → ℕ → Bool
applied_to number found s r u = sets_key r && eqb number 0 && has_unit found s r u

-- the same of a request that finds the state m
abbrev pub key_set : Settings → State → Turn → ℕ → Bool
key_set s m t u = applied_to (given s m t).answer.number (record_of m.processors t.processor_number) s t.request u

-- a turn of a party is such a request: no turn of the channel is, and none of a list at its end
abbrev pub turn_sets_key : Settings → State → Work → ℕ → Bool
turn_sets_key s m (requests [] gs) u = false
turn_sets_key s m (requests (t ∷ ts) gs) u = key_set s m t u
turn_sets_key s m (between ts gs) u = false
turn_sets_key s m (under_way t room g ts gs) u = false

-- The law of a single turn. Every turn of every party keeps it, and every request to come has to: a turn that changes a byte of a unit leaves
-- the unit's change bit on; a turn that turns a change bit off is a completed SSK or SSKE one of whose units it is; no byte comes or goes
pub record RecordsChanges (s : Settings) (storage keys storage' keys' : List ℕ) (sets : ℕ → Bool) : Type 0 where
  pub changed_on : (a : ℕ) → get_or storage' a 0 ≢ get_or storage a 0 → change_bit keys' (unit_of s a) ≡ 1
  pub off_by_set : (u : ℕ) → change_bit keys u ≡ 1 → change_bit keys' u ≡ 0 → sets u ≡ true
  pub same_length : length storage' ≡ length storage

abbrev pub EveryTurn : Type 0
EveryTurn =
    (s : Settings) (m : State) (w : Work)
    → let n = state_then s m w in RecordsChanges s m.storage m.keys n.storage n.keys (turn_sets_key s m w)

-- The claim. The start m is any: storage, keys, both records, the lists of requests, and a request of the channel that is under way or none. The
-- sequence o says whose turn is the first, whose the second, and so on

-- no turn of the sequence is a completed SSK or SSKE one of whose units is u
abbrev pub NoneApplied : Settings → Joint State Work Party → List Party → ℕ → Type 0
NoneApplied s m o u = Every (turn (parties s)) (λ n i. turn_sets_key s n.shared (n.own i) u ≡ false) m o

abbrev pub CleanIsUntouched : Type 0
CleanIsUntouched =
    (s : Settings) (m : Joint State Work Party) (o : List Party) (u : ℕ)
    → change_bit (run (parties s) m o).shared.keys u ≡ 0
    → NoneApplied s m o u
    → unit_bytes s (run (parties s) m o).shared.storage u ≡ unit_bytes s m.shared.storage u

-- The same of what a host does one after another: requests of processors, each with the number that it carries
abbrev pub CleanAfterRequests : Type 0
CleanAfterRequests =
    (s : Settings) (m : State) (ts : List Turn) (u : ℕ)
    → change_bit (foldl (next s) m ts).keys u ≡ 0
    → Every (next s) (λ n t. key_set s n t u ≡ false) m ts
    → unit_bytes s (foldl (next s) m ts).storage u ≡ unit_bytes s m.storage u

-- a whole request of the channel, which sets no key
abbrev pub CleanAfterChannel : Type 0
CleanAfterChannel =
    (s : Settings) (storage keys : List ℕ) (q : ChannelRequest) (from_device room : List ℕ) (u : ℕ)
    → change_bit (channel_run s storage keys q from_device room).keys u ≡ 0
    → unit_bytes s (channel_run s storage keys q from_device room).storage u ≡ unit_bytes s storage u

-- and of all parties, those of the channel whole
pub data AnyRequest : Type 0 where
  of_processor : Turn → AnyRequest
  of_channel : ChannelTurn → AnyRequest

abbrev pub next_any : Settings → State → AnyRequest → State
next_any s m (of_processor t) = next s m t
next_any s m (of_channel t) =
    let o = channel_run s m.storage m.keys t.request t.from_device t.room in
    record { storage = o.storage; keys = o.keys; processors = m.processors }

abbrev pub any_sets_key : Settings → State → AnyRequest → ℕ → Bool
any_sets_key s m (of_processor t) u = key_set s m t u
any_sets_key s m (of_channel t) u = false

abbrev pub CleanAfterList : Type 0
CleanAfterList =
    (s : Settings) (m : State) (rs : List AnyRequest) (u : ℕ)
    → change_bit (foldl (next_any s) m rs).keys u ≡ 0
    → Every (next_any s) (λ n r. any_sets_key s n r u ≡ false) m rs
    → unit_bytes s (foldl (next_any s) m rs).storage u ≡ unit_bytes s m.storage u

-- and calls for single turns, between which the host writes what it will but storage and keys: each finds any records of processors, and is a turn of
-- any work, such as a step of one of several programs of the channel
pub record Call : Type 0 where
  pub processors : List Processor
  pub work : Work

abbrev pub found_by : State → Call → State
found_by m c = record { storage = m.storage; keys = m.keys; processors = c.processors }

abbrev pub next_call : Settings → State → Call → State
next_call s m c = state_then s (found_by m c) c.work

abbrev pub CleanAfterCalls : Type 0
CleanAfterCalls =
    (s : Settings) (m : State) (cs : List Call) (u : ℕ)
    → change_bit (foldl (next_call s) m cs).keys u ≡ 0
    → Every (next_call s) (λ n c. turn_sets_key s (found_by n c) c.work u ≡ false) m cs
    → unit_bytes s (foldl (next_call s) m cs).storage u ≡ unit_bytes s m.storage u
