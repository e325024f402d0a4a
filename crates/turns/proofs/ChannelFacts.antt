-- Facts about the channel's list beside the processors'. On every storage of 65,536 bytes that holds the CCW: a channel that reads into a unit of
-- its own is apart, and all orders agree; where one reads what a processor stores, the order matters, so the lists are not apart. From any
-- start: fetches of both processors and a program that gives data to the device, all at any addresses, are apart, and all orders agree. A turn of
-- the channel is one CCW. The steps are computed.
-- Assumes nothing.
use Prim.Native.Nat.{ℕ, ◌+◌, ◌<◌}
use mathlib.Core.Path.{◌≡◌, refl, sym, ap, ◌∙◌}
use mathlib.Core.Bool.{Bool, true, false, cond}
use mathlib.Core.Logic.{◌≢◌, inl, inr}
use mathlib.Core.List.{List, [], ◌∷◌}
use native.Mathlib.Decide.{ℕ_discrete}
use native.Mathlib.Omega.{arith}
use lib.ListN.{length, get_or, set, length-set}
use lib.Seq.{get_or-set_same, get_or-set_other, set-set}
use borrow.Author.Tests.{ne_eqb}
use Rattle.machine.specs.declared.Settings.{Settings}
use Rattle.machine.specs.declared.Request.TheVariants.{Access}
use Rattle.machine.specs.declared.AccessKind.TheVariants.{Fetch}
use Rattle.machine.specs.declared.channel.Ccw.{Ccw}
use Rattle.machine.specs.declared.channel.ChannelOperation.TheVariants.{Data}
use Rattle.machine.specs.declared.channel.Chaining.TheVariants.{Command, Ended}
use Rattle.machine.specs.Channel.{UnderWay, Channel, big_endian, ccw_at, operation_of, first_refusal, before_fetching, range_forbidden}
use Rattle.machine.specs.Channel.{range_recorded, bytes_moved, before_transfer, with_ccw_fetched, carried_out, obeyed, next_ccw, channel_step, begun}
use Rattle.machine.specs.declared.channel.ChannelProgress.{ChannelProgress}
use Rattle.machine.specs.Lists.{written, any_below}
use Rattle.machine.specs.Key.{after_store}
use Rattle.machine.specs.Answers.{line, first_of, first_byte, first_line}
use Rattle.machine.specs.Prefixing.{prefixed}
use Rattle.machine.specs.Protection.{permitted, low_protected}
use Rattle.machine.specs.Table.{addressing, protection, before_protection, verdict}
use Rattle.machine.specs.Step.{storage_left, buffer_left, keys_recorded, completed, performed, step}
use Rattle.machine.specs.Pair.{served, pair_step}
use Rattle.machine.specs.Turns.{State, Turn}
use Rattle.machine.proofs.Verdicts.{not_both}
use Rattle.machine.proofs.Written.{length-written, written_there}
use Rattle.turns.specs.Units.{Naming, unnamed, fetching, otherwise, names, named}
use Rattle.turns.specs.ChannelUnits.{in_range, together, next_ccw_names}
use Rattle.turns.specs.Parties.{Joint, run, turn}
use Rattle.turns.specs.ThreeLists.{ChannelTurn, ChannelGiven, Work, requests, between, under_way, at_end, found, goes_on, work_then, turn_names, Party}
use Rattle.turns.specs.ThreeLists.{processor0, processor1, channel}
use Rattle.turns.specs.ThreeLists.{parties, start, named_at, Apart, Whole}
use Rattle.turns.proofs.Starts.{settings, memory, store, reading, read_one}
use Rattle.turns.proofs.Wholes.{own_work, each_step, at_end_lem, rested}
use Rattle.turns.proofs.Reaches.{ccw_same}
use Rattle.turns.proofs.NamedModes.{unnamed_not_otherwise, fetching_not_otherwise}
use Rattle.turns.proofs.ChannelNaming.{by_lines}
use Rattle.turns.proofs.Endings.{ending}
use Rattle.turns.proofs.ThreeLists.{any_order}

-- A list that comes to its end at its first turn: what that turn names, and nothing then
ended_names_nothing : (s : Settings) (m : State) (w : Work) (u : ℕ) → at_end w ≡ true → turn_names s m w u ≡ unnamed
ended_names_nothing s m (requests [] gs) u e = refl
ended_names_nothing s m (requests (t ∷ ts) gs) u e = absurd (not_both e refl)
ended_names_nothing s m (between [] gs) u e = refl
ended_names_nothing s m (between (t ∷ ts) gs) u e = absurd (not_both e refl)
ended_names_nothing s m (under_way t room g ts gs) u e = absurd (not_both e refl)

named_once : (P : Naming → Type 0) (s : Settings) (n : Joint State Work Party) (j : Party) (u : ℕ)
    → at_end (work_then s n.shared (n.own j)) ≡ true → P unnamed → P (turn_names s n.shared (n.own j) u) → (k : ℕ) → P (named_at s n j k u)
named_once P s n j u end none now =
    each_step (parties s) (λ n. P (turn_names s n.shared (n.own j) u)) n j now
    (at_end_lem (parties s) (λ n. P (turn_names s n.shared (n.own j) u)) (turn (parties s) n j) j (rested (parties s) (ending s) (turn (parties s) n j) j ended)
    (rw (ended_names_nothing s (turn (parties s) n j).shared ((turn (parties s) n j).own j) u ended) none))
  where
    ended : at_end ((turn (parties s) n j).own j) ≡ true
    ended = rw (own_work (parties s) n j) end

module _ (storage : List ℕ) (h : length storage ≡ 65536) (holds : ccw_at storage 8192 ≡ reading) where
  -- the channel's list comes to its end at its first turn
  read_ends : (c : ℕ) → at_end (work_then settings (memory storage) (between (read_one c ∷ []) [])) ≡ true
  unfolding channel_step next_ccw before_fetching first_refusal range_forbidden any_below permitted obeyed operation_of before_transfer
      with_ccw_fetched carried_out
  read_ends c = rw (h, holds)

  -- Processor 0 stores at real 0 and names unit 0 only, processor 1 stores at real 0 and names unit 2 only, and the channel names units 4 and 6
  module _ (a b c : ℕ) where
    abbrev apart_start : Joint State Work Party
    apart_start = start (memory storage) (store 0 0 a ∷ []) (store 1 0 b ∷ []) (read_one c ∷ [])

    of_processor0 : (u : ℕ) → 0 ≢ u → (k : ℕ) → named_at settings apart_start processor0 k u ≡ unnamed
    unfolding first_of line first_line addressing before_protection first_byte prefixed any_below names
    of_processor0 u d = named_once (λ n. n ≡ unnamed) settings apart_start processor0 u refl refl (rw (h, ne_eqb 0 u d))

    of_processor1 : (u : ℕ) → 2 ≢ u → (k : ℕ) → named_at settings apart_start processor1 k u ≡ unnamed
    unfolding first_of line first_line addressing before_protection first_byte prefixed any_below names
    of_processor1 u d = named_once (λ n. n ≡ unnamed) settings apart_start processor1 u refl refl (rw (h, ne_eqb 2 u d))

    of_channel_lem : (u : ℕ) → 4 ≢ u → 6 ≢ u → (k : ℕ) → named_at settings apart_start channel k u ≡ unnamed
    unfolding next_ccw_names before_fetching first_refusal range_forbidden any_below permitted operation_of before_transfer with_ccw_fetched in_range
    of_channel_lem u d e = named_once (λ n. n ≡ unnamed) settings apart_start channel u (read_ends c) refl (rw (h, holds, ne_eqb 4 u d, ne_eqb 6 u e))

    pub channel_apart : Apart settings apart_start
    channel_apart u = inl (go (ℕ_discrete 0 u) (ℕ_discrete 2 u))
      where
        go : Dec (0 ≡ u) → Dec (2 ≡ u) → (i : Party) × ((j : Party) → i ≢ j → (k : ℕ) → named_at settings apart_start j k u ≡ unnamed)
        go (yes e) d = (processor0, only)
          where
            only : (j : Party) → processor0 ≢ j → (k : ℕ) → named_at settings apart_start j k u ≡ unnamed
            only processor0 n k = absurd (n refl)
            only processor1 n k = of_processor1 u (omega arith) k
            only channel n k = of_channel_lem u (omega arith) (omega arith) k
        go (no d) (yes e) = (processor1, only)
          where
            only : (j : Party) → processor1 ≢ j → (k : ℕ) → named_at settings apart_start j k u ≡ unnamed
            only processor0 n k = of_processor0 u d k
            only processor1 n k = absurd (n refl)
            only channel n k = of_channel_lem u (omega arith) (omega arith) k
        go (no d) (no e) = (channel, only)
          where
            only : (j : Party) → channel ≢ j → (k : ℕ) → named_at settings apart_start j k u ≡ unnamed
            only processor0 n k = of_processor0 u d k
            only processor1 n k = of_processor1 u e k
            only channel n k = absurd (n refl)

    pub channel_agrees : (o p : List Party) → Whole settings apart_start o → Whole settings apart_start p
        → run (parties settings) apart_start o ≡ run (parties settings) apart_start p
    channel_agrees =
        any_order settings (memory storage) (store 0 0 a ∷ []) (store 1 0 b ∷ []) (read_one c ∷ []) (inl refl, tt) (inl refl, tt) channel_apart

  -- Processor 0 stores a byte at absolute 12288, where the channel reads another: the order matters
  module _ (a c : ℕ) (different : a ≢ c) where
    abbrev shared_start : Joint State Work Party
    shared_start = start (memory storage) (store 0 12288 a ∷ []) [] (read_one c ∷ [])

    abbrev channel_last : List Party
    channel_last = processor0 ∷ channel ∷ []

    abbrev channel_first : List Party
    channel_first = channel ∷ processor0 ∷ []

    -- the store leaves the CCW
    still_holds : ccw_at (set storage 12288 a) 8192 ≡ reading
    still_holds = ccw_same (set storage 12288 a) storage 8192 (λ i l. get_or-set_other storage 12288 (8192 + i) a 0 (omega arith)) ∙ holds

    bytes_left : (get_or (run (parties settings) shared_start channel_last).shared.storage 12288 0 ≡ c)
        × (get_or (run (parties settings) shared_start channel_first).shared.storage 12288 0 ≡ a)
    unfolding written after_store line first_of first_byte first_line prefixed permitted low_protected addressing protection
        before_protection verdict storage_left buffer_left keys_recorded completed performed step served pair_step any_below
        channel_step next_ccw before_fetching first_refusal range_forbidden obeyed operation_of before_transfer with_ccw_fetched carried_out
        range_recorded bytes_moved
    bytes_left = (
      rw (h, length-set storage 12288 a, h, still_holds, set-set storage 12288 a c) (get_or-set_same storage 12288 c 0 (omega arith)),
      rw (h, holds, length-set storage 12288 c, h, set-set storage 12288 c a) (get_or-set_same storage 12288 a 0 (omega arith)),
    )

    pub channel_order_matters : (run (parties settings) shared_start channel_last).shared.storage
        ≢ (run (parties settings) shared_start channel_first).shared.storage
    channel_order_matters e = different (sym bytes_left.1 ∙ ap (λ l. get_or l 12288 0) (sym e) ∙ bytes_left.0)

    last_whole : Whole settings shared_start channel_last
    unfolding written after_store line first_of first_byte first_line prefixed permitted low_protected addressing protection
        before_protection verdict storage_left buffer_left keys_recorded completed performed step served pair_step any_below
        channel_step next_ccw before_fetching first_refusal range_forbidden obeyed operation_of before_transfer with_ccw_fetched carried_out
    last_whole processor0 = refl
    last_whole processor1 = refl
    last_whole channel = rw (h, length-set storage 12288 a, h, still_holds)

    first_whole : Whole settings shared_start channel_first
    unfolding channel_step next_ccw before_fetching first_refusal range_forbidden any_below permitted obeyed operation_of before_transfer
        with_ccw_fetched carried_out
    first_whole processor0 = refl
    first_whole processor1 = refl
    first_whole channel = rw (h, holds)

    pub channel_not_apart : ¬ Apart settings shared_start
    channel_not_apart apart =
        channel_order_matters (ap (λ n. n.shared.storage)
        (any_order settings (memory storage) (store 0 12288 a ∷ []) [] (read_one c ∷ []) (inl refl, tt) tt apart channel_last channel_first
        last_whole first_whole))

-- there is such a storage: the CCW's bytes are put into any
pub storage_holds : (storage : List ℕ) → length storage ≡ 65536
    → let held = bytes_moved storage 8192 (2 ∷ 0 ∷ 48 ∷ 0 ∷ 0 ∷ 0 ∷ 0 ∷ 1 ∷ []) 0 8 in (length held ≡ 65536) × (ccw_at held 8192 ≡ reading)
unfolding bytes_moved ccw_at big_endian
storage_holds storage h = (
  rw (length-written storage (λ k. 8192 + k) byte 8) h,
  rw (at 0 (omega arith), at 1 (omega arith), at 2 (omega arith), at 3 (omega arith), at 4 (omega arith), at 6 (omega arith), at 7 (omega arith)),
)
  where
    byte : ℕ → ℕ
    byte k = get_or (2 ∷ 0 ∷ 48 ∷ 0 ∷ 0 ∷ 0 ∷ 0 ∷ 1 ∷ []) (0 + k) 0

    at : (i : ℕ) → i < 8 → get_or (written storage (λ k. 8192 + k) byte 8) (8192 + i) 0 ≡ byte i
    at i l = written_there storage (λ k. 8192 + k) byte 8 i l (omega arith) (λ j k e. let q : j ≡ i = omega arith in ap byte q)

-- Fetches only, from any start: each processor fetches at any addresses, and the channel has a program of one CCW, which gives data to the device.
-- They may share their units, and all orders agree
module _ (s : Settings) (m : State) (real real' count count' : ℕ) (buffer buffer' : List ℕ) (t : ChannelTurn) (address length' : ℕ)
    (gives : operation_of (ccw_at m.storage t.request.first) ≡ Data Fetch address length' false) where
  abbrev fetch : ℕ → ℕ → ℕ → List ℕ → Turn
  fetch n a k bytes = record { processor_number = n; request = Access Fetch a k; buffer = bytes }

  abbrev fetches_start : Joint State Work Party
  fetches_start = start m (fetch 0 real count buffer ∷ []) (fetch 1 real' count' buffer' ∷ []) (t ∷ [])

  not_otherwise : (b : Bool) → cond b fetching unnamed ≢ otherwise
  not_otherwise true = fetching_not_otherwise
  not_otherwise false = unnamed_not_otherwise

  two_fetches : (b d : Bool) → together (cond b fetching unnamed) (cond d fetching unnamed) ≢ otherwise
  two_fetches true true = fetching_not_otherwise
  two_fetches true false = fetching_not_otherwise
  two_fetches false d = not_otherwise d

  abbrev begins : Channel
  begins = found m t.room (begun t.request)

  -- its one step answers, and names by fetches only
  answers : (at_end (work_then s m (between (t ∷ []) [])) ≡ true) × ((u : ℕ) → turn_names s m (between (t ∷ []) []) u ≢ otherwise)
  unfolding channel_step carried_out with_ccw_fetched
  answers =
      by_lines s t.request t.from_device begins
      (λ d n. (at_end (goes_on d.progress.standing t d.room d.progress [] []) ≡ true) × ((u : ℕ) → n u ≢ otherwise))
      (λ r e. (refl, λ u. unnamed_not_otherwise))
      (λ e f. (refl, λ u. two_fetches (in_range s t.request.first 8 u) false))
      (λ r e. (refl, λ u. two_fetches (in_range s t.request.first 8 u) false))
      (λ e. (refl, λ u. rw gives (two_fetches (in_range s t.request.first 8 u) (in_range s address length' u))))
      (λ e. (rw gives, λ u. rw gives (two_fetches (in_range s t.request.first 8 u) (in_range s address length' u))))

  pub fetches_apart : Apart s fetches_start
  fetches_apart u = inr only
    where
      only : (j : Party) (k : ℕ) → named_at s fetches_start j k u ≢ otherwise
      only processor0 =
          named_once (λ n. n ≢ otherwise) s fetches_start processor0 u refl unnamed_not_otherwise (not_otherwise (named s u m (fetch 0 real count buffer)))
      only processor1 =
          named_once (λ n. n ≢ otherwise) s fetches_start processor1 u refl unnamed_not_otherwise (not_otherwise (named s u m (fetch 1 real' count' buffer')))
      only channel = named_once (λ n. n ≢ otherwise) s fetches_start channel u answers.0 unnamed_not_otherwise (answers.1 u)

  pub fetches_agree : (o p : List Party) → Whole s fetches_start o → Whole s fetches_start p
      → run (parties s) fetches_start o ≡ run (parties s) fetches_start p
  fetches_agree =
      any_order s m (fetch 0 real count buffer ∷ []) (fetch 1 real' count' buffer' ∷ []) (t ∷ []) (inl refl, tt) (inl refl, tt) fetches_apart

-- A turn of the channel is one CCW: a program gives the byte at 12288 to the device twice, and a processor may store there between. From any state
-- with a storage of 65,536 bytes that holds the two CCWs, and 32 keys: after one turn the first byte is given and the request is under way
abbrev giving : ℕ → Ccw
giving flags = record { command = 1; address = 12288; flags = flags; count = 1 }

abbrev give_twice : ChannelTurn
give_twice = record { request = record { key = 0; first = 8192; grant = 2 }; from_device = []; room = 0 ∷ 0 ∷ [] }

abbrev one_given : ChannelProgress
one_given = record { state = record { ccw = 8200; chaining = Command; taken = 0; given = 1 }; fetched = 1; standing = UnderWay }

abbrev both_given : ℕ → ℕ → ChannelGiven
both_given x y =
    record {
      answer = record { number = 0; place = 0; word = 0; rule = 0 };
      count = 2;
      state = record { ccw = 8208; chaining = Ended; taken = 0; given = 2 };
      from_device = [];
      room = x ∷ y ∷ [];
    }

module _ (m : State) (h : length m.storage ≡ 65536) (l : length m.keys ≡ 32) where
  pub first_given : ccw_at m.storage 8192 ≡ giving 64
      → work_then settings m (between (give_twice ∷ []) []) ≡ under_way give_twice (get_or m.storage 12288 0 ∷ 0 ∷ []) one_given [] []
  unfolding written permitted any_below channel_step next_ccw before_fetching first_refusal range_forbidden obeyed operation_of before_transfer
      with_ccw_fetched carried_out bytes_moved
  first_given one = rw (h, l, one)

  pub second_given : (x : ℕ) → ccw_at m.storage 8200 ≡ giving 0
      → work_then settings m (under_way give_twice (x ∷ 0 ∷ []) one_given [] []) ≡ between [] (both_given x (get_or m.storage 12288 0) ∷ [])
  unfolding written permitted any_below channel_step next_ccw before_fetching first_refusal range_forbidden obeyed operation_of before_transfer
      with_ccw_fetched carried_out bytes_moved
  second_given x two = rw (h, l, two)
