-- The rules alone: what a step does with the count of CCWs fetched, and the run of a request. A request that has answered stays as it is; a step
-- that leaves the request under way fetched a CCW, which was granted; so a step counts one exactly where it fetches, and no more are counted
-- than are granted, and every request answers. A transfer in channel that was followed stood where one may stand.
-- Assumes nothing.
use Prim.Native.Nat.{ℕ, zero, suc, ◌+◌, ◌<◌, ◌≤◌}
use mathlib.Core.Path.{◌≡◌, refl, sym, ap, ◌∙◌}
use mathlib.Core.Bool.{Bool, true, false, cond, not, ◌&&◌}
use mathlib.Core.List.{List, [], ◌∷◌, ◌++◌}
use mathlib.Core.Option.{Option, none, some}
use native.Mathlib.Omega.{arith}
use lib.ListN.{length}
use borrow.Author.Tests.{not-false}
use Rattle.machine.specs.declared.Settings.{Settings}
use Rattle.machine.specs.declared.AccessKind.TheVariants.{Fetch, Store}
use Rattle.machine.specs.declared.channel.ChannelRequest.{ChannelRequest}
use Rattle.machine.specs.declared.channel.ChannelReason.{ChannelReason}
use Rattle.machine.specs.Channel.{ChannelAnswer, Standing, UnderWay, Answered, Channel, refused, operation_of, ccw_at, first_refusal, before_fetching}
use Rattle.machine.specs.Channel.{fetching_forbidden, transfer_allowed, before_transfer, data_forbidden, with_ccw_fetched, carried_out}
use Rattle.machine.specs.Channel.{unless_refused, unless_forbidden, obeyed, next_ccw, step_by, channel_step, steps, unrefused, fetches_by}
use Rattle.machine.specs.Channel.{fetches_ccw, steps_that_fetch, channel, channel_values, begun, answer_in, channel_run}
use Rattle.machine.specs.declared.channel.ChannelOperation.{ChannelOperation}
use Rattle.machine.specs.declared.channel.ChannelOperation.TheVariants.{TransferInChannel, Data, Invalid}
use Rattle.machine.specs.declared.channel.Chaining.TheVariants.{Command, Transfer, Ended}
use Rattle.machine.specs.Answers.{Values}
use Rattle.machine.proofs.Verdicts.{not_both}
use Rattle.machine.proofs.ChannelSteps.{operation_found, CcwOutcome, unfetched, unread, unobeyed, untransferred, obeyed_whole, ccw_outcome}
use Rattle.machine.proofs.ChannelSteps.{no_line, fetchable, step_under_way, step_answered}

-- a standing is not both
pub not_under_way : {standing : Standing} {answer : ChannelAnswer} → standing ≡ Answered answer → standing ≡ UnderWay → ⊥
not_under_way p q = let z : ◌≡◌ {A = ℕ} 0 1 = cc in omega arith

not_refused : {found : Option ChannelReason} {r : ChannelReason} → found ≡ some r → found ≡ none → ⊥
not_refused p q = let z : ◌≡◌ {A = ℕ} 0 1 = cc in omega arith

-- data leaves control to a CCW by chain command, or to none
by_data : (chains : Bool) → cond chains Command Ended ≡ Transfer → ⊥
by_data true e = let z : ◌≡◌ {A = ℕ} 0 1 = cc in omega arith
by_data false e = let z : ◌≡◌ {A = ℕ} 0 1 = cc in omega arith

-- a refusal by the first lines is that of all
pub refused_before : (first rest : List (Bool × ChannelReason)) (r : ChannelReason) → first_refusal first ≡ some r → first_refusal (first ++ rest) ≡ some r
unfolding first_refusal
refused_before [] rest r e = absurd (not_refused e refl)
refused_before (l ∷ ls) rest r e = go l.0 (refused_before ls rest r) e
  where
    go : (b : Bool) → (first_refusal ls ≡ some r → first_refusal (ls ++ rest) ≡ some r)
        → cond b (some l.1) (first_refusal ls) ≡ some r → cond b (some l.1) (first_refusal (ls ++ rest)) ≡ some r
    go true behind e = e
    go false behind e = behind e

module _ (s : Settings) (q : ChannelRequest) (from_device : List ℕ) where
  -- what a CCW asks for leaves the count
  carried_count : (o : ChannelOperation) (c : Channel) → (carried_out o s from_device c).progress.fetched ≡ c.progress.fetched
  unfolding carried_out
  carried_count (TransferInChannel address) c = refl
  carried_count (Data Fetch address count chains) c = refl
  carried_count (Data Store address count chains) c = refl
  carried_count Invalid c = refl

  obeyed_count : (o : ChannelOperation) (c : Channel) → (obeyed s q from_device o c).progress.fetched ≡ c.progress.fetched
  unfolding obeyed
  obeyed_count o c = go (before_transfer (length from_device) c o) (data_forbidden o s q.key c.keys)
    where
      go : (line : Option ChannelReason) (forbidden : Bool)
          → (unless_refused line c (unless_forbidden forbidden c (carried_out o s from_device c))).progress.fetched ≡ c.progress.fetched
      go (some r) forbidden = refl
      go none true = refl
      go none false = carried_count o c

  -- the CCW to come, by what is found before it is fetched
  module _ (c : Channel) where
    abbrev fetched_then : Channel
    fetched_then = obeyed s q from_device (operation_of (ccw_at c.storage c.progress.state.ccw)) (with_ccw_fetched s c)

    abbrev by : Option ChannelReason → Bool → Channel
    by line forbidden = unless_refused line c (unless_forbidden forbidden c fetched_then)

    fetched_count : fetched_then.progress.fetched ≡ 1 + c.progress.fetched
    unfolding with_ccw_fetched
    fetched_count = obeyed_count (operation_of (ccw_at c.storage c.progress.state.ccw)) (with_ccw_fetched s c) ∙ omega arith

    next_count : (next_ccw s q from_device c).progress.fetched ≡ cond (fetches_by UnderWay s q c) 1 0 + c.progress.fetched
    unfolding next_ccw
    next_count = go (before_fetching s q c) (fetching_forbidden s q c)
      where
        go : (line : Option ChannelReason) (forbidden : Bool)
            → (by line forbidden).progress.fetched ≡ cond (unrefused line && not forbidden) 1 0 + c.progress.fetched
        go (some r) forbidden = omega arith
        go none true = omega arith
        go none false = fetched_count

    -- if the request is still under way, a CCW was fetched, and it was granted
    pub still_under_way : (next_ccw s q from_device c).progress.standing ≡ UnderWay
        → ((next_ccw s q from_device c).progress.fetched ≡ 1 + c.progress.fetched) × (c.progress.fetched < q.grant)
    unfolding next_ccw
    still_under_way = go (before_fetching s q c) (fetching_forbidden s q c) refl
      where
        go : (line : Option ChannelReason) (forbidden : Bool) → before_fetching s q c ≡ line → (by line forbidden).progress.standing ≡ UnderWay
            → ((by line forbidden).progress.fetched ≡ 1 + c.progress.fetched) × (c.progress.fetched < q.grant)
        go (some r) forbidden e stands = absurd (not_under_way refl stands)
        go none true e stands = absurd (not_under_way refl stands)
        go none false e stands = (fetched_count, (fetchable s q c e).granted)

    -- if it is still under way by a transfer in channel, that was not the first CCW, and stood not straight after another
    pub transfer_placed : (next_ccw s q from_device c).progress.standing ≡ UnderWay → (next_ccw s q from_device c).progress.state.chaining ≡ Transfer
        → transfer_allowed c.progress.state.chaining ≡ true
    unfolding with_ccw_fetched before_transfer carried_out
    transfer_placed stands by_transfer_lem = go (ccw_outcome s q from_device c)
      where
        obeyed_by : (o : ChannelOperation) → before_transfer (length from_device) (with_ccw_fetched s c) o ≡ none
            → (carried_out o s from_device (with_ccw_fetched s c)).progress.state.chaining ≡ Transfer → transfer_allowed c.progress.state.chaining ≡ true
        obeyed_by (TransferInChannel address) passed e = not-false _ (no_line _ _ passed).0
        obeyed_by (Data Fetch address count chains) passed e = absurd (by_data chains e)
        obeyed_by (Data Store address count chains) passed e = absurd (by_data chains e)
        obeyed_by Invalid passed e = absurd (not_both refl (no_line _ _ passed).0)

        go : CcwOutcome s q from_device c (next_ccw s q from_device c) → transfer_allowed c.progress.state.chaining ≡ true
        go (unfetched r h f) = absurd (not_under_way (ap (λ d. d.progress.standing) f) stands)
        go (unread h k f) = absurd (not_under_way (ap (λ d. d.progress.standing) f) stands)
        go (unobeyed r h k l f) = absurd (not_under_way (ap (λ d. d.progress.standing) f) stands)
        go (untransferred h k l m f) = absurd (not_under_way (ap (λ d. d.progress.standing) f) stands)
        go (obeyed_whole h k l m f) = obeyed_by (operation_found c) l (ap (λ d. d.progress.state.chaining) (sym f) ∙ by_transfer_lem)

    pub refused_unfetched : (r : ChannelReason) → before_fetching s q c ≡ some r → next_ccw s q from_device c ≡ refused r c
    unfolding next_ccw
    refused_unfetched r e = rw e refl

    -- a step counts one exactly where it fetches
    pub step_count : (channel_step s q from_device c).progress.fetched ≡ cond (fetches_ccw s q c) 1 0 + c.progress.fetched
    unfolding channel_step
    step_count = go c.progress.standing
      where
        go : (standing : Standing)
            → (step_by standing s q from_device c).progress.fetched ≡ cond (fetches_by standing s q c) 1 0 + c.progress.fetched
        go UnderWay = next_count
        go (Answered answer) = omega arith

    step_within : c.progress.fetched ≤ q.grant → (channel_step s q from_device c).progress.fetched ≤ q.grant
    unfolding channel_step next_ccw
    step_within h = go c.progress.standing
      where
        by_line : (line : Option ChannelReason) (forbidden : Bool) → before_fetching s q c ≡ line → (by line forbidden).progress.fetched ≤ q.grant
        by_line (some r) forbidden e = h
        by_line none true e = h
        by_line none false e = omega (arith, fetched_count, (fetchable s q c e).granted)

        under_way_lem : (next_ccw s q from_device c).progress.fetched ≤ q.grant
        under_way_lem = by_line (before_fetching s q c) (fetching_forbidden s q c) refl

        go : (standing : Standing) → (step_by standing s q from_device c).progress.fetched ≤ q.grant
        go UnderWay = under_way_lem
        go (Answered answer) = h

  -- so many steps: the first, and then the others
  pub first_of_steps : (n : ℕ) (c : Channel) → steps (suc n) s q from_device c ≡ steps n s q from_device (channel_step s q from_device c)
  unfolding steps
  first_of_steps n c = refl

  pub answered_stays : (n : ℕ) (c : Channel) {answer : ChannelAnswer} → c.progress.standing ≡ Answered answer → steps n s q from_device c ≡ c
  unfolding steps
  answered_stays zero c stands = refl
  answered_stays (suc n) c stands = rw (step_answered s q from_device c _ stands) (answered_stays n c stands)

  pub steps_count : (n : ℕ) (c : Channel) → (steps n s q from_device c).progress.fetched ≡ steps_that_fetch n s q from_device c + c.progress.fetched
  unfolding steps steps_that_fetch
  steps_count zero c = omega arith
  steps_count (suc n) c = omega (arith, steps_count n (channel_step s q from_device c), step_count c)

  pub steps_within : (n : ℕ) (c : Channel) → c.progress.fetched ≤ q.grant → (steps n s q from_device c).progress.fetched ≤ q.grant
  unfolding steps
  steps_within zero c h = h
  steps_within (suc n) c h = steps_within n (channel_step s q from_device c) (step_within c h)

  -- if a request is still under way after so many steps, each of them fetched a CCW
  under_way_counts : (n : ℕ) (c : Channel) → (steps n s q from_device c).progress.standing ≡ UnderWay
      → n + c.progress.fetched ≤ (steps n s q from_device c).progress.fetched
  unfolding steps
  under_way_counts zero c stands = omega arith
  under_way_counts (suc n) c stands = go c.progress.standing refl next.progress.standing refl (under_way_counts n next stands)
    where
      next : Channel
      next = channel_step s q from_device c

      end : Channel
      end = steps n s q from_device next

      not_answered : {answer : ChannelAnswer} → next.progress.standing ≡ Answered answer → ⊥
      not_answered f = not_under_way (ap (λ d. d.progress.standing) (answered_stays n next f) ∙ f) stands

      go : (standing : Standing) → c.progress.standing ≡ standing → (then : Standing) → next.progress.standing ≡ then
          → n + next.progress.fetched ≤ end.progress.fetched → suc n + c.progress.fetched ≤ end.progress.fetched
      go (Answered answer) e then f counts = absurd (not_answered (ap (λ d. d.progress.standing) (step_answered s q from_device c _ e) ∙ e))
      go UnderWay e (Answered answer) f counts = absurd (not_answered f)
      go UnderWay e UnderWay f counts =
          let step = step_under_way s q from_device c e in
          let one = (still_under_way c (ap (λ d. d.progress.standing) (sym step) ∙ f)).0 in
          omega (arith, counts, ap (λ d. d.progress.fetched) step, one)

  -- so a request answers: a step for each CCW that is granted, and one more, are enough
  pub request_answers : (storage keys room : List ℕ) → (v : Values) × ((channel_run s storage keys q from_device room).answer ≡ some v)
  unfolding channel_run
  request_answers storage keys room = go end.progress.standing refl
    where
      start : Channel
      start = channel storage keys room (begun q)

      end : Channel
      end = steps (q.grant + 1) s q from_device start

      go : (standing : Standing) → end.progress.standing ≡ standing → (v : Values) × (answer_in standing ≡ some v)
      go (Answered answer) e = (channel_values answer, refl)
      go UnderWay e =
          let counts = under_way_counts (q.grant + 1) start e in
          let within = steps_within (q.grant + 1) start (omega arith) in
          absurd (omega (arith, counts, within))
