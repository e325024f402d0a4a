-- A turn is a sequence of actions: a processor's request is one action; a step of the channel looks at the lengths, reads the CCW and moves its
-- data. The sequence leaves, ends with and names what the rules say of the turn; so turns obey the laws of actions.
-- Assumes nothing.
use Prim.Native.Nat.{ℕ, ◌+◌}
use mathlib.Core.Path.{◌≡◌, refl, sym, ap, ◌∙◌}
use mathlib.Core.Bool.{Bool, true, false, cond}
use mathlib.Core.List.{List, [], ◌∷◌, ◌++◌}
use mathlib.Core.Option.{Option, none, some}
use lib.ListN.{length}
use Rattle.machine.specs.declared.Settings.{Settings}
use Rattle.machine.specs.declared.AccessKind.TheVariants.{Fetch, Store}
use Rattle.machine.specs.declared.channel.Ccw.{Ccw}
use Rattle.machine.specs.declared.channel.ChannelRequest.{ChannelRequest}
use Rattle.machine.specs.declared.channel.ChannelOperation.{ChannelOperation}
use Rattle.machine.specs.declared.channel.ChannelOperation.TheVariants.{TransferInChannel, Data, Invalid}
use Rattle.machine.specs.declared.channel.ChannelProgress.{ChannelProgress}
use Rattle.machine.specs.declared.channel.ChannelReason.{ChannelReason}
use Rattle.machine.specs.declared.channel.ChannelReason.TheVariants.{Program, Protection, Device}
use Rattle.machine.specs.Channel.{Refused, Standing, UnderWay, Answered, Channel, ccw_at, operation_of, standing_as, refused, first_refusal}
use Rattle.machine.specs.Channel.{request_lines, address_lines, before_fetching, program_check, data_outside, device_short, before_transfer}
use Rattle.machine.specs.Channel.{with_ccw_fetched, transferred, after_data, carried_out, data_forbidden, unless_refused, unless_forbidden, obeyed}
use Rattle.machine.specs.Channel.{next_ccw, step_by, channel_step, begun}
use Rattle.machine.specs.Turns.{State, Turn, Given, next, given}
use Rattle.turns.specs.Units.{Naming, unnamed, fetching, otherwise, naming}
use Rattle.turns.specs.ChannelUnits.{in_range, ccw_named, data_named, together, unless_applies, next_ccw_names, step_names_by}
use Rattle.turns.specs.ThreeLists.{ChannelTurn, ChannelGiven, Work, requests, between, under_way, found, left, goes_on, state_then, work_then, turn_names}
use Rattle.turns.proofs.Actions.{Mode, untouched, fetch, write, Leaves, AlikeTo, Laws}
use Rattle.turns.proofs.Sequences.{Sequence, end, act, through, result, modes, sequence_laws, laws_of, laws_as}
use Rattle.turns.proofs.Parts.{Part, byte, key, processor, lengths, Value, read, whole, touch, touch_twice, mode}
use Rattle.turns.proofs.Steps.{request_laws}
use Rattle.turns.proofs.Reaches.{Reach, read_ccw, give, take, Got, barred, reach_next_by, reach_gives_by, reach_next, reach_gives, fetches, reaches}
use Rattle.turns.proofs.Reaches.{reach_mode, reach_laws}

-- The actions: a processor's request; a look at the lengths; bytes under the channel's key.
pub data Action : Type 0 where
  request : Turn → Action
  look : Action
  reach : Reach → Action

abbrev pub Gave : Action → Type 0
Gave (request t) = Given
Gave look = ℕ × ℕ
Gave (reach r) = Option (Got r)

abbrev pub after : Settings → State → Action → State
after s m (request t) = next s m t
after s m look = m
after s m (reach r) = reach_next s m r

abbrev pub gives : Settings → State → (x : Action) → Gave x
gives s m (request t) = given s m t
gives s m look = (length m.storage, length m.keys)
gives s m (reach r) = reach_gives s m r

abbrev pub look_mode : Part → Mode
look_mode (byte a) = untouched
look_mode (key u) = untouched
look_mode (processor i) = untouched
look_mode lengths = fetch false

abbrev pub action_mode : Settings → State → Action → Part → Mode
action_mode s m (request t) q = mode s m t q
action_mode s m look q = look_mode q
action_mode s m (reach r) q = reach_mode s m r q

abbrev pub action_names : Settings → State → Action → ℕ → Naming
action_names s m (request t) u = naming s m t u
action_names s m look u = unnamed
action_names s m (reach r) u = cond (reaches s r u) (cond (fetches r) fetching otherwise) unnamed

abbrev pub Steps : Type 0
Steps = Sequence Action Gave Work

abbrev pub sequence_names : Settings → State → Steps → ℕ → Naming
sequence_names s m (end w) u = unnamed
sequence_names s m (act x further) u = together (action_names s m x u) (sequence_names s (after s m x) (further (gives s m x)) u)

abbrev pub sequence_mode : Settings → State → Steps → Part → Mode
sequence_mode s m p q = modes (after s) (gives s) (action_mode s) m p q

-- They obey the laws of actions.
look_leaves : (m : State) (q : Part) → Leaves (look_mode q) (touch q) (read m q) (read m q)
look_leaves m (byte a) = refl
look_leaves m (key u) = refl
look_leaves m (processor i) = refl
look_leaves m lengths = refl

look_written : (m n : State) (q : Part) → look_mode q ≡ write → read n q ≡ read m q
look_written m n (byte a) e = cc
look_written m n (key u) e = cc
look_written m n (processor i) e = cc
look_written m n lengths e = cc

module _ (s : Settings) where
  leaves : (m : State) (x : Action) (q : Part) → Leaves (action_mode s m x q) (touch q) (read m q) (read (after s m x) q)
  leaves m (request t) q = (request_laws s).leaves m t q
  leaves m look q = look_leaves m q
  leaves m (reach r) q = (reach_laws s).leaves m r q

  module _ (m n : State) where
    same_mode : (x : Action) → AlikeTo (action_mode s) read touch m n x → (q : Part) → action_mode s n x q ≡ action_mode s m x q
    same_mode (request t) alike q = (request_laws s).same_mode m n t alike q
    same_mode look alike q = refl
    same_mode (reach r) alike q = (reach_laws s).same_mode m n r alike q

    same_gives : (x : Action) → AlikeTo (action_mode s) read touch m n x → gives s n x ≡ gives s m x
    same_gives (request t) alike = (request_laws s).same_given m n t alike
    same_gives look alike = sym (alike lengths)
    same_gives (reach r) alike = (reach_laws s).same_given m n r alike

    same_written : (x : Action) → AlikeTo (action_mode s) read touch m n x → (q : Part) → action_mode s m x q ≡ write
        → read (after s n x) q ≡ read (after s m x) q
    same_written (request t) alike q e = (request_laws s).same_written m n t alike q e
    same_written look alike q e = look_written m n q e
    same_written (reach r) alike q e = (reach_laws s).same_written m n r alike q e

  action_laws : Laws State Action Gave Part Value (after s) (gives s) (action_mode s) read touch
  action_laws =
      record {
        whole = whole;
        touch_twice = touch_twice;
        leaves = leaves;
        same_mode = same_mode;
        same_given = same_gives;
        same_written = same_written;
      }

together_unnamed : (n : Naming) → together n unnamed ≡ n
together_unnamed unnamed = refl
together_unnamed fetching = refl
together_unnamed otherwise = refl

-- The step of the channel. `finish` says what the work becomes, by the room and how far the request has come.
module _ (finish : List ℕ → ChannelProgress → Work) where
  abbrev unless : Option ChannelReason → List ℕ → ChannelProgress → Steps → Steps
  unless none room g further = further
  unless (some r) room g further = end (finish room (standing_as g (Answered (Refused r))))

  module _ (s : Settings) (q : ChannelRequest) (from_device room : List ℕ) where
    -- the data has come, or it was forbidden
    abbrev given_to : Bool → (count : ℕ) → ChannelProgress → Option (List ℕ) → Steps
    given_to chains count g none = end (finish room (standing_as g (Answered (Refused Protection))))
    given_to chains count g (some filled) = end (finish filled (after_data chains 0 count g))

    abbrev taken_from : Bool → (count : ℕ) → ChannelProgress → Option (Unit {0}) → Steps
    taken_from chains count g none = end (finish room (standing_as g (Answered (Refused Protection))))
    taken_from chains count g (some done) = end (finish room (after_data chains count 0 g))

    abbrev transfer : ChannelOperation → ChannelProgress → Steps
    transfer (TransferInChannel address) g =
        end (finish room (record { state = transferred address g.state; fetched = g.fetched; standing = UnderWay }))
    transfer (Data Fetch address count chains) g = act (reach (give q.key address count room g.state.given)) (given_to chains count g)
    transfer (Data Store address count chains) g = act (reach (take q.key address count from_device g.state.taken)) (taken_from chains count g)
    transfer Invalid g = end (finish room g)

    -- a CCW that was fetched, in a storage of this length
    abbrev counted : ChannelProgress → ChannelProgress
    counted g = record { state = g.state; fetched = g.fetched + 1; standing = g.standing }

    abbrev above_transfer : (storage_length : ℕ) → ChannelProgress → ChannelOperation → Option ChannelReason
    above_transfer storage_length g o =
        first_refusal (
        (program_check o g.state.chaining, Program)
        ∷ (data_outside o storage_length, Program)
        ∷ (device_short o (length from_device) (length room) g.state, Device)
        ∷ [])

    abbrev fetched_ccw_lem : (storage_length : ℕ) → ChannelProgress → Option Ccw → Steps
    fetched_ccw_lem storage_length g none = end (finish room (standing_as g (Answered (Refused Protection))))
    fetched_ccw_lem storage_length g (some c) =
        unless (above_transfer storage_length (counted g) (operation_of c)) room (counted g) (transfer (operation_of c) (counted g))

    abbrev above_fetching : ℕ × ℕ → ChannelProgress → Option ChannelReason
    above_fetching l g = first_refusal (request_lines s l.0 l.1 q ++ address_lines l.0 q g)

    abbrev ccw_steps : ChannelProgress → Steps
    ccw_steps g =
        act look (λ l.
        unless (above_fetching l g) room g (act (reach (read_ccw q.key g.state.ccw)) (fetched_ccw_lem l.0 g)))

    abbrev pub channel_steps : Standing → ChannelProgress → Steps
    channel_steps UnderWay g = ccw_steps g
    channel_steps (Answered answer) g = end (finish room g)

    -- A sequence that finds the state n does what makes c of a channel that found m: the state, the work, the units named; and it treats no record
    module _ (m : State) where
      pub record Does (n : State) (p : Steps) (c : Channel) (names : ℕ → Naming) : Type 0 where
        pub same_state : through (after s) (gives s) n p ≡ left m c
        pub same_work : result (after s) (gives s) n p ≡ finish c.room c.progress
        pub same_names : (u : ℕ) → sequence_names s n p u ≡ names u
        pub no_record : (i : ℕ) → sequence_mode s n p (processor i) ≡ untouched

      nothing : (c : Channel) → Does (left m c) (end (finish c.room c.progress)) c (λ u. unnamed)
      nothing c = record { same_state = refl; same_work = refl; same_names = λ u. refl; no_record = λ i. refl }

      -- after a look, and after bytes were reached or forbidden
      looked : (n : State) (k : ℕ × ℕ → Steps) (c : Channel) (names : ℕ → Naming) → Does n (k (gives s n look)) c names → Does n (act look k) c names
      looked n k c names d =
          record { same_state = d.same_state; same_work = d.same_work; same_names = d.same_names; no_record = d.no_record }

      reached : (n : State) (r : Reach) (k : Option (Got r) → Steps) (c : Bool → Channel) (names : Bool → ℕ → Naming)
          → ((b : Bool) → Does (reach_next_by b s n r) (k (reach_gives_by b n r)) (c b) (names b))
          → Does n (act (reach r) k) (c (barred s n.keys r)) (λ u. together (action_names s n (reach r) u) (names (barred s n.keys r) u))
      reached n r k c names d =
          let e = d (barred s n.keys r) in
          record {
            same_state = e.same_state;
            same_work = e.same_work;
            same_names = λ u. ap (together (action_names s n (reach r) u)) (e.same_names u);
            no_record = e.no_record;
          }

      renamed : (n : State) (p : Steps) (c : Channel) (names others : ℕ → Naming) → ((u : ℕ) → names u ≡ others u) → Does n p c names → Does n p c others
      renamed n p c names others e d =
          record { same_state = d.same_state; same_work = d.same_work; same_names = λ u. d.same_names u ∙ e u; no_record = d.no_record }

      -- a CCW that was fetched, with these keys then
      module _ (keys : List ℕ) (g : ChannelProgress) where
        abbrev here : Channel
        here = record { storage = m.storage; keys = keys; room = room; progress = g }

        moved : (o : ChannelOperation)
            → Does (left m here) (transfer o g) (unless_forbidden (data_forbidden o s q.key keys) here (carried_out o s from_device here)) (data_named o s)
        unfolding carried_out
        moved (TransferInChannel address) = nothing (carried_out (TransferInChannel address) s from_device here)
        moved (Data Fetch address count chains) =
            renamed _ _ _ _ _ (λ u. together_unnamed (cond (in_range s address count u) fetching unnamed))
            (reached (left m here) (give q.key address count room g.state.given) (given_to chains count g)
            (λ b. unless_forbidden b here (carried_out (Data Fetch address count chains) s from_device here)) (λ b u. unnamed) by)
          where
            by : (b : Bool) → Does (reach_next_by b s (left m here) (give q.key address count room g.state.given))
                (given_to chains count g (reach_gives_by b (left m here) (give q.key address count room g.state.given)))
                (unless_forbidden b here (carried_out (Data Fetch address count chains) s from_device here)) (λ u. unnamed)
            by true = nothing (refused Protection here)
            by false = nothing (carried_out (Data Fetch address count chains) s from_device here)
        moved (Data Store address count chains) =
            renamed _ _ _ _ _ (λ u. together_unnamed (cond (in_range s address count u) otherwise unnamed))
            (reached (left m here) (take q.key address count from_device g.state.taken) (taken_from chains count g)
            (λ b. unless_forbidden b here (carried_out (Data Store address count chains) s from_device here)) (λ b u. unnamed) by)
          where
            by : (b : Bool) → Does (reach_next_by b s (left m here) (take q.key address count from_device g.state.taken))
                (taken_from chains count g (reach_gives_by b (left m here) (take q.key address count from_device g.state.taken)))
                (unless_forbidden b here (carried_out (Data Store address count chains) s from_device here)) (λ u. unnamed)
            by true = nothing (refused Protection here)
            by false = nothing (carried_out (Data Store address count chains) s from_device here)
        moved Invalid = nothing here

        ccw_obeyed : (o : ChannelOperation) → Does (left m here) (unless (above_transfer (length m.storage) g o) room g (transfer o g))
            (obeyed s q from_device o here) (λ u. unless_applies (before_transfer (length from_device) here o) (data_named o s u))
        unfolding obeyed before_transfer
        ccw_obeyed o = by (above_transfer (length m.storage) g o)
          where
            by : (v : Option ChannelReason) → Does (left m here) (unless v room g (transfer o g))
                (unless_refused v here (unless_forbidden (data_forbidden o s q.key keys) here (carried_out o s from_device here)))
                (λ u. unless_applies v (data_named o s u))
            by none = moved o
            by (some r) = nothing (refused r here)

      module _ (g : ChannelProgress) where
        abbrev operation : ChannelOperation
        operation = operation_of (ccw_at m.storage g.state.ccw)

        -- what follows where the CCW may be fetched
        abbrev then : Channel
        then = obeyed s q from_device operation (with_ccw_fetched s (found m room g))

        abbrev then_names : ℕ → Naming
        then_names u = unless_applies (before_transfer (length from_device) (with_ccw_fetched s (found m room g)) operation) (data_named operation s u)

        next_ccw_lem : Does m (ccw_steps g) (next_ccw s q from_device (found m room g)) (next_ccw_names s q from_device (found m room g))
        unfolding next_ccw next_ccw_names before_fetching with_ccw_fetched
        next_ccw_lem = looked m _ _ _ (by (above_fetching (gives s m look) g))
          where
            read_ccw_lem : (b : Bool) → Does (reach_next_by b s m (read_ccw q.key g.state.ccw))
                (fetched_ccw_lem (length m.storage) g (reach_gives_by b m (read_ccw q.key g.state.ccw)))
                (unless_forbidden b (found m room g) then) (λ u. cond b unnamed (then_names u))
            read_ccw_lem true = nothing (refused Protection (found m room g))
            read_ccw_lem false = ccw_obeyed (with_ccw_fetched s (found m room g)).keys (counted g) operation

            by : (v : Option ChannelReason)
                → Does m (unless v room g (act (reach (read_ccw q.key g.state.ccw)) (fetched_ccw_lem (length m.storage) g)))
                (unless_refused v (found m room g)
                (unless_forbidden (barred s m.keys (read_ccw q.key g.state.ccw)) (found m room g) then))
                (λ u. unless_applies v
                (together (ccw_named s g.state.ccw u) (cond (barred s m.keys (read_ccw q.key g.state.ccw)) unnamed (then_names u))))
            by (some r) = nothing (refused r (found m room g))
            by none =
                reached m (read_ccw q.key g.state.ccw) (fetched_ccw_lem (length m.storage) g)
                (λ b. unless_forbidden b (found m room g) then) (λ b u. cond b unnamed (then_names u)) read_ccw_lem

        pub channel_does : (st : Standing)
            → Does m (channel_steps st g) (step_by st s q from_device (found m room g)) (step_names_by st s q from_device (found m room g))
        channel_does UnderWay = next_ccw_lem
        channel_does (Answered answer) = nothing (found m room g)

-- A turn.
abbrev pub steps_of : Settings → Work → Steps
steps_of s (requests [] gs) = end (requests [] gs)
steps_of s (requests (t ∷ ts) gs) = act (request t) (λ g. end (requests ts (gs ++ g ∷ [])))
steps_of s (between [] gs) = end (between [] gs)
steps_of s (between (t ∷ ts) gs) =
    channel_steps (λ room g. goes_on g.standing t room g ts gs) s t.request t.from_device t.room UnderWay (begun t.request)
steps_of s (under_way t room g ts gs) =
    channel_steps (λ room g. goes_on g.standing t room g ts gs) s t.request t.from_device room g.standing g

module _ (s : Settings) (m : State) where
  abbrev does_step : (t : ChannelTurn) (room : List ℕ) (g : ChannelProgress) (st : Standing) (ts : List ChannelTurn) (gs : List ChannelGiven)
      → Does (λ room g. goes_on g.standing t room g ts gs) s t.request t.from_device room m m
      (channel_steps (λ room g. goes_on g.standing t room g ts gs) s t.request t.from_device room st g)
      (step_by st s t.request t.from_device (found m room g)) (step_names_by st s t.request t.from_device (found m room g))
  does_step t room g st ts gs = channel_does (λ room g. goes_on g.standing t room g ts gs) s t.request t.from_device room m g st

  pub turn_state : (w : Work) → through (after s) (gives s) m (steps_of s w) ≡ state_then s m w
  unfolding channel_step
  turn_state (requests [] gs) = refl
  turn_state (requests (t ∷ ts) gs) = refl
  turn_state (between [] gs) = refl
  turn_state (between (t ∷ ts) gs) = (does_step t t.room (begun t.request) UnderWay ts gs).same_state
  turn_state (under_way t room g ts gs) = (does_step t room g g.standing ts gs).same_state

  pub turn_work : (w : Work) → result (after s) (gives s) m (steps_of s w) ≡ work_then s m w
  unfolding channel_step
  turn_work (requests [] gs) = refl
  turn_work (requests (t ∷ ts) gs) = refl
  turn_work (between [] gs) = refl
  turn_work (between (t ∷ ts) gs) = (does_step t t.room (begun t.request) UnderWay ts gs).same_work
  turn_work (under_way t room g ts gs) = (does_step t room g g.standing ts gs).same_work

  pub turn_names_lem : (w : Work) (u : ℕ) → sequence_names s m (steps_of s w) u ≡ turn_names s m w u
  turn_names_lem (requests [] gs) u = refl
  turn_names_lem (requests (t ∷ ts) gs) u = together_unnamed (naming s m t u)
  turn_names_lem (between [] gs) u = refl
  turn_names_lem (between (t ∷ ts) gs) u = (does_step t t.room (begun t.request) UnderWay ts gs).same_names u
  turn_names_lem (under_way t room g ts gs) u = (does_step t room g g.standing ts gs).same_names u

  -- a turn of the channel treats no record
  pub channel_no_record : (t : ChannelTurn) (room : List ℕ) (g : ChannelProgress) (st : Standing) (ts : List ChannelTurn) (gs : List ChannelGiven) (i : ℕ)
      → sequence_mode s m (channel_steps (λ room g. goes_on g.standing t room g ts gs) s t.request t.from_device room st g) (processor i) ≡ untouched
  channel_no_record t room g st ts gs i = (does_step t room g st ts gs).no_record i

abbrev pub work_mode : Settings → State → Work → Part → Mode
work_mode s m w q = sequence_mode s m (steps_of s w) q

pub turn_laws : (s : Settings) → Laws State Work (λ w. Work) Part Value (state_then s) (work_then s) (work_mode s) read touch
turn_laws s = laws_as (turn_state s) (turn_work s) (laws_of (steps_of s) (sequence_laws (action_laws s)))
