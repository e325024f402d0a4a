-- A clean block is an untouched block. Over steps of any kind that keep the law of a single turn: a change bit that is on stays on where no step sets
-- the key. So a byte that some step changes has its change bit on from then on, to the end; where the bit is zero at the end, no step changed it.
-- The claim is this law (`untouched`) of turns; of requests and calls one after another it is the same law, where a request of the channel is a
-- sequence of steps itself.
-- Assumes nothing.
use Prim.Native.Nat.{ℕ, zero, suc, ◌+◌}
use mathlib.Core.Path.{◌≡◌, refl, sym, ◌∙◌}
use mathlib.Core.Bool.{Bool, true, false, cond}
use mathlib.Core.Logic.{◌≢◌}
use mathlib.Core.List.{List, [], ◌∷◌, foldl}
use native.Mathlib.Decide.{ℕ_discrete}
use native.Mathlib.Omega.{arith}
use lib.ListN.{length, get_or, replicate}
use Rattle.machine.specs.declared.Settings.{Settings}
use Rattle.machine.specs.declared.channel.ChannelRequest.{ChannelRequest}
use Rattle.machine.specs.Numbers.{unit_of, unit_bytes}
use Rattle.machine.specs.Channel.{Channel, channel, channel_step, begun, steps, channel_run}
use Rattle.machine.specs.Turns.{State, next}
use Rattle.machine.proofs.Verdicts.{not_both}
use Rattle.machine.proofs.UnitBytes.{same_unit_bytes}
use Rattle.turns.specs.Parties.{Joint, turn, run}
use Rattle.turns.specs.ThreeLists.{ChannelTurn, Work, Party, parties}
use Rattle.turns.specs.TwoLists.{Every}
use Rattle.turns.specs.CleanUnits.{change_bit, key_set, turn_sets_key, RecordsChanges, NoneApplied, CleanIsUntouched}
use Rattle.turns.specs.CleanUnits.{CleanAfterRequests, CleanAfterChannel, AnyRequest, of_processor, of_channel, next_any, any_sets_key}
use Rattle.turns.specs.CleanUnits.{CleanAfterList, Call, found_by, next_call, CleanAfterCalls}
use Rattle.turns.proofs.ChangeBits.{request_records, channel_step_records, every_turn}

module _ {S A : Type 0} (s : Settings) (after : S → A → S) (storage_of keys_of : S → List ℕ) (sets : S → A → ℕ → Bool)
    (law : (m : S) (x : A) → RecordsChanges s (storage_of m) (keys_of m) (storage_of (after m x)) (keys_of (after m x)) (sets m x)) where
  -- no step sets the key of unit u
  abbrev NoneSets : ℕ → S → List A → Type 0
  NoneSets u m xs = Every after (λ n x. sets n x u ≡ false) m xs

  -- a change bit that is on stays on; it is zero or one
  stays_on : (m : S) (xs : List A) (u : ℕ) → change_bit (keys_of m) u ≡ 1 → NoneSets u m xs → change_bit (keys_of (foldl after m xs)) u ≡ 1
  stays_on m [] u on none = on
  stays_on m (x ∷ xs) u on (here, further) = stays_on (after m x) xs u (still (ℕ_discrete (change_bit (keys_of (after m x)) u) 0)) further
    where
      still : Dec (change_bit (keys_of (after m x)) u ≡ 0) → change_bit (keys_of (after m x)) u ≡ 1
      still (yes off) = absurd (not_both ((law m x).off_by_set u on off) here)
      still (no n) = omega arith

  same_byte : (m : S) (xs : List A) (a : ℕ) → change_bit (keys_of (foldl after m xs)) (unit_of s a) ≡ 0 → NoneSets (unit_of s a) m xs
      → get_or (storage_of (foldl after m xs)) a 0 ≡ get_or (storage_of m) a 0
  same_byte m [] a clean none = refl
  same_byte m (x ∷ xs) a clean (here, further) =
      same_byte (after m x) xs a clean further ∙ first (ℕ_discrete (get_or (storage_of (after m x)) a 0) (get_or (storage_of m) a 0))
    where
      first : Dec (get_or (storage_of (after m x)) a 0 ≡ get_or (storage_of m) a 0) → get_or (storage_of (after m x)) a 0 ≡ get_or (storage_of m) a 0
      first (yes e) = e
      first (no changed) = absurd (omega (arith, stays_on (after m x) xs (unit_of s a) ((law m x).changed_on a changed) further))

  lengths : (m : S) (xs : List A) → length (storage_of (foldl after m xs)) ≡ length (storage_of m)
  lengths m [] = refl
  lengths m (x ∷ xs) = lengths (after m x) xs ∙ (law m x).same_length

  pub untouched : (m : S) (xs : List A) (u : ℕ) → change_bit (keys_of (foldl after m xs)) u ≡ 0 → NoneSets u m xs
      → unit_bytes s (storage_of (foldl after m xs)) u ≡ unit_bytes s (storage_of m) u
  untouched m xs u clean none =
      same_unit_bytes s (storage_of (foldl after m xs)) (storage_of m) u (lengths m xs) (λ a e. same_byte m xs a (rw e clean) (rw e none))

  -- where no step sets a key, the law holds of the whole
  all_record : (m : S) (xs : List A) → ((u : ℕ) → NoneSets u m xs)
      → RecordsChanges s (storage_of m) (keys_of m) (storage_of (foldl after m xs)) (keys_of (foldl after m xs)) (λ u. false)
  all_record m xs none =
      record {
        changed_on = λ a changed. on a changed (ℕ_discrete (change_bit (keys_of (foldl after m xs)) (unit_of s a)) 0);
        off_by_set = λ u on off. absurd (omega (arith, stays_on m xs u on (none u)));
        same_length = lengths m xs;
      }
    where
      on : (a : ℕ) → get_or (storage_of (foldl after m xs)) a 0 ≢ get_or (storage_of m) a 0
          → Dec (change_bit (keys_of (foldl after m xs)) (unit_of s a) ≡ 0) → change_bit (keys_of (foldl after m xs)) (unit_of s a) ≡ 1
      on a changed (yes clean) = absurd (changed (same_byte m xs a clean (none (unit_of s a))))
      on a changed (no n) = omega arith

-- turns of all parties
run_after : (s : Settings) (m : Joint State Work Party) (o : List Party) → run (parties s) m o ≡ foldl (turn (parties s)) m o
run_after s m [] = refl
run_after s m (i ∷ o) = run_after s (turn (parties s) m i) o

abbrev storage_in : Joint State Work Party → List ℕ
storage_in n = n.shared.storage

abbrev keys_in : Joint State Work Party → List ℕ
keys_in n = n.shared.keys

module _ (s : Settings) where
  abbrev sets_in : Joint State Work Party → Party → ℕ → Bool
  sets_in n i = turn_sets_key s n.shared (n.own i)

  turn_records : (n : Joint State Work Party) (i : Party) → let k = turn (parties s) n i in
      RecordsChanges s (storage_in n) (keys_in n) (storage_in k) (keys_in k) (sets_in n i)
  turn_records n i = every_turn s n.shared (n.own i)

  -- a change bit that is on stays on
  pub change_bit_stays : (m : Joint State Work Party) (o : List Party) (u : ℕ) → NoneApplied s m o u → change_bit m.shared.keys u ≡ 1
      → change_bit (run (parties s) m o).shared.keys u ≡ 1
  change_bit_stays m o u none on = rw (run_after s m o) (stays_on s (turn (parties s)) storage_in keys_in sets_in turn_records m o u on none)

pub clean_is_untouched : CleanIsUntouched
clean_is_untouched s m o u clean none =
    let same = run_after s m o in
    rw same (untouched s (turn (parties s)) storage_in keys_in (sets_in s) (turn_records s) m o u (rw same at clean) none)

-- requests of a processor
pub clean_after_requests : CleanAfterRequests
clean_after_requests s = untouched s (next s) (λ n. n.storage) (λ n. n.keys) (key_set s) (request_records s)

-- the steps of a request of the channel
module _ (s : Settings) (q : ChannelRequest) (from_device : List ℕ) where
  abbrev step_of : Channel → Unit {0} → Channel
  step_of c x = channel_step s q from_device c

  steps_after : (n : ℕ) (c : Channel) → steps n s q from_device c ≡ foldl step_of c (replicate n tt)
  unfolding steps
  steps_after zero c = refl
  steps_after (suc n) c = steps_after n (channel_step s q from_device c)

  none_sets : (n : ℕ) (c : Channel) → Every step_of (λ d x. ◌≡◌ {A = Bool} false false) c (replicate n tt)
  none_sets zero c = tt
  none_sets (suc n) c = (refl, none_sets n (channel_step s q from_device c))

  pub channel_request_records : (storage keys room : List ℕ) → let o = channel_run s storage keys q from_device room in
      RecordsChanges s storage keys o.storage o.keys (λ u. false)
  unfolding channel_run
  channel_request_records storage keys room =
      let n = q.grant + 1 in
      let c = channel storage keys room (begun q) in
      rw (steps_after n c) (all_record s step_of (λ d. d.storage) (λ d. d.keys) (λ d x v. false) (λ d x. channel_step_records s q from_device d)
      c (replicate n tt) (λ u. none_sets n c))

-- whole requests of all parties
any_records : (s : Settings) (m : State) (r : AnyRequest) → let n = next_any s m r in
    RecordsChanges s m.storage m.keys n.storage n.keys (any_sets_key s m r)
any_records s m (of_processor t) = request_records s m t
any_records s m (of_channel t) = channel_request_records s t.request t.from_device m.storage m.keys t.room

pub clean_after_list : CleanAfterList
clean_after_list s = untouched s (next_any s) (λ n. n.storage) (λ n. n.keys) (any_sets_key s) (any_records s)

-- one of the channel's: a list of one, with any records of processors
pub clean_after_channel : CleanAfterChannel
clean_after_channel s storage keys q from_device room u clean =
    let m : State = record { storage = storage; keys = keys; processors = [] } in
    let t : ChannelTurn = record { request = q; from_device = from_device; room = room } in
    clean_after_list s m (of_channel t ∷ []) u clean (refl, tt)

-- calls, whatever the records and works that they find
call_records : (s : Settings) (m : State) (c : Call) → let n = next_call s m c in
    RecordsChanges s m.storage m.keys n.storage n.keys (turn_sets_key s (found_by m c) c.work)
call_records s m c = every_turn s (found_by m c) c.work

pub clean_after_calls : CleanAfterCalls
clean_after_calls s = untouched s (next_call s) (λ n. n.storage) (λ n. n.keys) (λ n c. turn_sets_key s (found_by n c) c.work) (call_records s)

-- the turns of a run as calls
abbrev calls_of : Settings → Joint State Work Party → List Party → List Call
calls_of s m [] = []
calls_of s m (i ∷ o) = record { processors = m.shared.processors; work = m.own i } ∷ calls_of s (turn (parties s) m i) o

pub turns_are_calls : (s : Settings) (m : Joint State Work Party) (o : List Party)
    → foldl (next_call s) m.shared (calls_of s m o) ≡ (run (parties s) m o).shared
turns_are_calls s m [] = refl
turns_are_calls s m (i ∷ o) = turns_are_calls s (turn (parties s) m i) o

-- A dump of the changed units is enough, where it has those as well to which an SSK or SSKE was applied: with each unit that it holds put in the
-- place of the start's, every unit is that of the end
pub dump_is_enough : (s : Settings) (m : Joint State Work Party) (o : List Party) (dumped : ℕ → Bool)
    → let n = run (parties s) m o in
    ((u : ℕ) → dumped u ≡ false → (change_bit n.shared.keys u ≡ 0) × NoneApplied s m o u)
    → (u : ℕ) → cond (dumped u) (unit_bytes s n.shared.storage u) (unit_bytes s m.shared.storage u) ≡ unit_bytes s n.shared.storage u
dump_is_enough s m o dumped others u = go (dumped u) (others u)
  where
    n : State
    n = (run (parties s) m o).shared

    go : (b : Bool) → (b ≡ false → (change_bit n.keys u ≡ 0) × NoneApplied s m o u)
        → cond b (unit_bytes s n.storage u) (unit_bytes s m.shared.storage u) ≡ unit_bytes s n.storage u
    go true other = refl
    go false other = let (clean, none) = other refl in sym (clean_is_untouched s m o u clean none)
