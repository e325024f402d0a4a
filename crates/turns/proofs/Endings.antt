-- Every list comes to its end. A processor's turn takes a request from its list. A turn of the channel answers, or fetches one more of the CCWs that
-- are granted: so a request takes at most a turn for each of them and one more. A turn of a list at its end does nothing.
-- Assumes nothing.
use Prim.Native.Nat.{ℕ, ◌+◌, ◌-◌, ◌≤◌, ◌<◌, suc}
use mathlib.Core.Path.{◌≡◌, refl}
use mathlib.Core.Bool.{Bool, true, false, cond}
use mathlib.Core.List.{List, [], ◌∷◌}
use mathlib.Core.Option.{Option, none, some}
use native.Mathlib.Omega.{arith}
use lib.ListN.{length}
use borrow.Author.Tests.{leb-false}
use Rattle.machine.specs.declared.Settings.{Settings}
use Rattle.machine.specs.declared.AccessKind.TheVariants.{Fetch, Store}
use Rattle.machine.specs.declared.channel.ChannelRequest.{ChannelRequest}
use Rattle.machine.specs.declared.channel.ChannelOperation.{ChannelOperation}
use Rattle.machine.specs.declared.channel.ChannelOperation.TheVariants.{TransferInChannel, Data, Invalid}
use Rattle.machine.specs.declared.channel.ChannelProgress.{ChannelProgress}
use Rattle.machine.specs.declared.channel.ChannelReason.{ChannelReason}
use Rattle.machine.specs.Channel.{Completed, Standing, UnderWay, Answered, Channel, ccw_at, operation_of, first_refusal, before_fetching}
use Rattle.machine.specs.Channel.{fetching_forbidden, before_transfer, data_forbidden, with_ccw_fetched, carried_out, unless_refused}
use Rattle.machine.specs.Channel.{unless_forbidden, obeyed, next_ccw, step_by, channel_step, begun}
use Rattle.machine.specs.Turns.{State}
use Rattle.machine.proofs.Verdicts.{not_both}
use Rattle.turns.specs.ThreeLists.{ChannelTurn, ChannelGiven, Work, requests, between, under_way, at_end, found, stepped, goes_on, work_then, parties}
use Rattle.turns.specs.ThreeLists.{turns_at_most}
use Rattle.turns.proofs.Wholes.{Ending}

-- the turns left, at the most; of a request under way by its grant
abbrev left_by : Standing → (grant fetched : ℕ) → ℕ
left_by UnderWay grant fetched = suc (grant - fetched)
left_by (Answered answer) grant fetched = 0

abbrev pub turns_left : Work → ℕ
turns_left (requests ts gs) = length ts
turns_left (between ts gs) = turns_at_most ts
turns_left (under_way t room g ts gs) = turns_at_most ts + suc (t.request.grant - g.fetched)

left_at_most : (st : Standing) (grant fetched : ℕ) → left_by st grant fetched ≤ suc (grant - fetched)
left_at_most UnderWay grant fetched = omega arith
left_at_most (Answered answer) grant fetched = omega arith

-- a line that is passed
passed : (l : Bool × ChannelReason) (ls : List (Bool × ChannelReason)) → first_refusal (l ∷ ls) ≡ none → (l.0 ≡ false) × (first_refusal ls ≡ none)
unfolding first_refusal
passed l ls e = go l.0 e
  where
    go : (b : Bool) → cond b (some l.1) (first_refusal ls) ≡ none → (b ≡ false) × (first_refusal ls ≡ none)
    go true e = (cc, cc)
    go false e = (refl, e)

module _ (s : Settings) (q : ChannelRequest) (from_device : List ℕ) where
  abbrev left_in : Channel → ℕ
  left_in c = left_by c.progress.standing q.grant c.progress.fetched

  -- a CCW above which no line applies is within the grant
  granted : (c : Channel) → before_fetching s q c ≡ none → c.progress.fetched < q.grant
  unfolding before_fetching
  granted c e =
      let lines = passed _ _ (passed _ _ (passed _ _ (passed _ _ e).1).1).1 in
      omega (arith, leb-false q.grant c.progress.fetched lines.0)

  carried_out_lem : (o : ChannelOperation) (c : Channel) → left_in (carried_out o s from_device c) ≤ suc (q.grant - c.progress.fetched)
  unfolding carried_out
  carried_out_lem (TransferInChannel address) c = omega arith
  carried_out_lem (Data Fetch address count chains) c = left_at_most (cond chains UnderWay (Answered Completed)) q.grant c.progress.fetched
  carried_out_lem (Data Store address count chains) c = left_at_most (cond chains UnderWay (Answered Completed)) q.grant c.progress.fetched
  carried_out_lem Invalid c = left_at_most c.progress.standing q.grant c.progress.fetched

  is_obeyed : (o : ChannelOperation) (c : Channel) → left_in (obeyed s q from_device o c) ≤ suc (q.grant - c.progress.fetched)
  unfolding obeyed
  is_obeyed o c = by (before_transfer (length from_device) c o) (data_forbidden o s q.key c.keys)
    where
      by : (v : Option ChannelReason) (b : Bool)
          → left_in (unless_refused v c (unless_forbidden b c (carried_out o s from_device c))) ≤ suc (q.grant - c.progress.fetched)
      by (some r) b = omega arith
      by none true = omega arith
      by none false = carried_out_lem o c

  next_ccw_falls : (c : Channel) → left_in (next_ccw s q from_device c) ≤ q.grant - c.progress.fetched
  unfolding next_ccw with_ccw_fetched
  next_ccw_falls c = by (before_fetching s q c) refl (fetching_forbidden s q c)
    where
      by : (v : Option ChannelReason) → before_fetching s q c ≡ v → (b : Bool)
          → left_in (unless_refused v c
          (unless_forbidden b c (obeyed s q from_device (operation_of (ccw_at c.storage c.progress.state.ccw)) (with_ccw_fetched s c))))
          ≤ q.grant - c.progress.fetched
      by (some r) e b = omega arith
      by none e true = omega arith
      by none e false =
          omega (arith, granted c e, is_obeyed (operation_of (ccw_at c.storage c.progress.state.ccw)) (with_ccw_fetched s c))

  step_falls : (st : Standing) (c : Channel) → c.progress.standing ≡ st → left_in (step_by st s q from_device c) ≤ q.grant - c.progress.fetched
  step_falls UnderWay c e = next_ccw_falls c
  step_falls (Answered answer) c e = rw e (omega arith)

-- the work that a step of the channel leaves
left_then : (st : Standing) (t : ChannelTurn) (room : List ℕ) (g : ChannelProgress) (ts : List ChannelTurn) (gs : List ChannelGiven)
    → turns_left (goes_on st t room g ts gs) ≡ turns_at_most ts + left_by st t.request.grant g.fetched
left_then UnderWay t room g ts gs = refl
left_then (Answered answer) t room g ts gs = omega arith

module _ (s : Settings) where
  channel_falls : (m : State) (t : ChannelTurn) (room : List ℕ) (g : ChannelProgress) (ts : List ChannelTurn) (gs : List ChannelGiven)
      → let c = stepped s m t room g in
      turns_left (goes_on c.progress.standing t c.room c.progress ts gs) ≤ turns_at_most ts + (t.request.grant - g.fetched)
  unfolding channel_step
  channel_falls m t room g ts gs =
      let c = stepped s m t room g in
      omega (
        arith,
        left_then c.progress.standing t c.room c.progress ts gs,
        step_falls s t.request t.from_device g.standing (found m room g) refl,
      )

  falls : (m : State) (w : Work) → turns_left (work_then s m w) ≤ turns_left w - 1
  falls m (requests [] gs) = omega arith
  falls m (requests (t ∷ ts) gs) = omega arith
  falls m (between [] gs) = omega arith
  falls m (between (t ∷ ts) gs) = omega (arith, channel_falls m t t.room (begun t.request) ts gs)
  falls m (under_way t room g ts gs) = omega (arith, channel_falls m t room g ts gs)

  ends : (w : Work) → turns_left w ≡ 0 → at_end w ≡ true
  ends (requests [] gs) e = refl
  ends (requests (t ∷ ts) gs) e = absurd (omega arith)
  ends (between [] gs) e = refl
  ends (between (t ∷ ts) gs) e = absurd (omega arith)
  ends (under_way t room g ts gs) e = absurd (omega arith)

  rests : (m : State) (w : Work) → at_end w ≡ true → ((parties s).next m w ≡ m) × ((parties s).becomes m w ≡ w)
  rests m (requests [] gs) e = (refl, refl)
  rests m (requests (t ∷ ts) gs) e = absurd (not_both e refl)
  rests m (between [] gs) e = (refl, refl)
  rests m (between (t ∷ ts) gs) e = absurd (not_both e refl)
  rests m (under_way t room g ts gs) e = absurd (not_both e refl)

  pub ending : Ending (parties s) at_end turns_left
  ending = record { falls = falls; ends = ends; rests = rests }
