-- What the code does with the lines of a request, with a step and with a run, in the terms of the rules: a request that is refused by its own
-- lines is refused at its first step; else a step is the CCW to come, and a run that goes on is the run from what the CCW left. The counts
-- follow from the run.
-- Assumes nothing.
use Prim.Native.Nat.{ℕ, suc, ◌+◌, ◌-◌, ◌<◌, ◌≤◌}
use mathlib.Core.Path.{◌≡◌, refl, sym, ap, subst, ◌∙◌}
use mathlib.Core.Bool.{Bool, true, false, cond}
use mathlib.Core.List.{List}
use mathlib.Core.Option.{Option, none, some}
use native.Mathlib.Omega.{arith}
use native.Mathlib.Nat.{sub-zero}
use native.Mathlib.Numerals.{add-one}
use lib.ListN.{length}
use Rattle.std.proofs.Common.{Ok, rules}
use Rattle.std.specs.Bool.{⊤}
use Rattle.std.specs.Option.{is_some}
use borrow.Author.Tests.{ltb-false, eqb-false, not-false}
use Rattle.machine.specs.declared.Settings.{Settings}
use Rattle.machine.specs.declared.channel.ChannelRequest.{ChannelRequest}
use Rattle.machine.specs.declared.channel.ChannelReason.{ChannelReason}
use Rattle.machine.specs.Channel.{ChannelAnswer, Refused, Standing, UnderWay, Answered, Channel, channel, standing_as, transfer_allowed}
use Rattle.machine.specs.Channel.{first_refusal, request_lines, before_fetching, next_ccw, channel_step, begun, steps, ChannelOutcome, outcome_in}
use Rattle.machine.specs.Channel.{channel_outcome, channel_run, steps_that_fetch}
use Rattle.machine.specs.declared.channel.ChannelReply.{ChannelReply}
use Rattle.machine.specs.declared.channel.Chaining.{Chaining}
use Rattle.machine.specs.declared.channel.Chaining.TheVariants.{First, Command, Transfer, Ended}
use Rattle.machine.specs.declared.channel.ChannelProgress.{ChannelProgress}
use Rattle.machine.specs.Conditions.{ChannelCondition1}
use Rattle.machine.proofs.Verdicts.{neither, not_both}
use Rattle.machine.proofs.ChannelSteps.{channel_condition_1}
use Rattle.channel.specs.Requests.{Passed, Entered, Later, chains_on, under_way, answer_by, reply_of, run_from}
use Rattle.machine.proofs.ChannelSteps.{no_line, step_under_way, step_answered}
use Rattle.machine.proofs.ChannelRuns.{not_under_way, refused_before, refused_unfetched, still_under_way, transfer_placed}
use Rattle.machine.proofs.ChannelRuns.{first_of_steps, answered_stays, steps_count, steps_within}

-- A request has answered, or is under way.
pub answered_by : (standing : Standing) → is_some standing ≡ true → (answer : ChannelAnswer) × (standing ≡ Answered answer)
answered_by (Answered answer) e = (answer, refl)
answered_by UnderWay e = absurd (not_both e refl)

pub under_way_by : (standing : Standing) → is_some standing ≡ false → standing ≡ UnderWay
under_way_by (Answered answer) e = absurd (not_both refl e)
under_way_by UnderWay e = refl

-- The lines of a request, by what they answer.
module _ (s : Settings) (storage_length key_length : ℕ) (q : ChannelRequest) {answer : ChannelAnswer}
    (lines : answer ≡ answer_by (first_refusal (request_lines s storage_length key_length q))) where
  pub lines_pass : {t : ⊤} → answer ≡ Ok t → Passed s storage_length key_length q
  unfolding answer_by
  lines_pass {t} passes = go (first_refusal (request_lines s storage_length key_length q)) refl (sym lines ∙ passes)
    where
      passed : first_refusal (request_lines s storage_length key_length q) ≡ none → Passed s storage_length key_length q
      passed e =
          let line_64 = no_line _ _ e in
          let line_65 = no_line _ _ line_64.1 in
          let line_66 = neither _ _ (no_line _ _ line_65.1).0 in
          let some_granted : q.grant ≡ 0 → ⊥ = eqb-false _ _ line_66.0 in
          record {
            lengths = not-false _ line_64.0;
            key = ltb-false _ _ line_65.0;
            granted = omega arith;
            limited = ltb-false _ _ line_66.1;
          }

      go : (found : Option ChannelReason) → first_refusal (request_lines s storage_length key_length q) ≡ found → answer_by found ≡ Ok t
          → Passed s storage_length key_length q
      go none e f = passed e
      go (some r) e f = search rules

  pub lines_refuse : {r : ChannelReason} → answer ≡ Refused r → first_refusal (request_lines s storage_length key_length q) ≡ some r
  unfolding answer_by
  lines_refuse {r} refuses = go (first_refusal (request_lines s storage_length key_length q)) refl (sym lines ∙ refuses)
    where
      go : (found : Option ChannelReason) → first_refusal (request_lines s storage_length key_length q) ≡ found → answer_by found ≡ Refused r
          → first_refusal (request_lines s storage_length key_length q) ≡ some r
      go none e f = search rules
      go (some r') e f = search rules

module _ (s : Settings) (q : ChannelRequest) (from_device storage keys room : List ℕ) (g : ChannelProgress) where
  abbrev found : Channel
  found = channel storage keys room g

  -- A step.
  pub step_stays : {answer : ChannelAnswer} → g.standing ≡ Answered answer → found ≡ channel_step s q from_device found
  step_stays stands = sym (step_answered s q from_device found _ stands)

  module _ (stands : g.standing ≡ UnderWay) where
    refused_by_lines : {line : ChannelAnswer} {r : ChannelReason}
        → line ≡ answer_by (first_refusal (request_lines s (length storage) (length keys) q)) → line ≡ Refused r
        → channel storage keys room (standing_as g (Answered (Refused r))) ≡ channel_step s q from_device found
    unfolding before_fetching
    refused_by_lines {line} {r} lines refuses =
        let e = lines_refuse s (length storage) (length keys) q lines refuses in
        let first : before_fetching s q found ≡ some r = refused_before (request_lines s (length storage) (length keys) q) _ r e in
        sym (refused_unfetched s q from_device found r first) ∙ sym (step_under_way s q from_device found stands)

    pub step_refused : {line : ChannelAnswer} {r : ChannelReason} {after : ChannelProgress}
        → line ≡ answer_by (first_refusal (request_lines s (length storage) (length keys) q)) → line ≡ Refused r
        → after ≡ standing_as g (Answered (Refused r)) → channel storage keys room after ≡ channel_step s q from_device found
    step_refused lines refuses is = rw is (refused_by_lines lines refuses)

    pub step_on : {storage' keys' room' : List ℕ} {r : ChannelProgress} → channel storage' keys' room' r ≡ next_ccw s q from_device found
        → channel storage' keys' room' r ≡ channel_step s q from_device found
    step_on did = did ∙ sym (step_under_way s q from_device found stands)

  -- A run: the CCW to come is its first step.
  module _ (stands : g.standing ≡ UnderWay) (within : g.fetched ≤ q.grant) {storage' keys' room' : List ℕ} {next : ChannelProgress}
      (did : channel storage' keys' room' next ≡ next_ccw s q from_device found) where
    abbrev left : Channel
    left = channel storage' keys' room' next

    first_step : steps (q.grant + 1 - g.fetched) s q from_device found ≡ steps (q.grant - g.fetched) s q from_device left
    first_step =
        let one_more : q.grant + 1 - g.fetched ≡ suc (q.grant - g.fetched) = omega arith in
        ap (λ n. steps n s q from_device found) one_more ∙ first_of_steps s q from_device (q.grant - g.fetched) found
        ∙ ap (steps (q.grant - g.fetched) s q from_device) (step_under_way s q from_device found stands ∙ sym did)

    -- a CCW that leaves the request under way was granted, and is counted
    pub next_fetched : next.standing ≡ UnderWay → (next.fetched ≡ 1 + g.fetched) × (g.fetched < q.grant)
    next_fetched on =
        let (count, below) = still_under_way s q from_device found (rw (← did) on) in
        (rw (← did) at count, below)

    -- the run from what it left is the same
    pub run_same : run_from s q from_device left ≡ run_from s q from_device found
    unfolding run_from
    run_same = go next.standing refl
      where
        go : (standing : Standing) → next.standing ≡ standing
            → outcome_in (steps (q.grant + 1 - next.fetched) s q from_device left) ≡ outcome_in (steps (q.grant + 1 - g.fetched) s q from_device found)
        go UnderWay on =
            let (count, below) = next_fetched on in
            let less : q.grant + 1 - next.fetched ≡ q.grant - g.fetched = omega arith in
            rw (less, first_step) refl
        go (Answered answer) done =
            rw (
              first_step,
              answered_stays s q from_device (q.grant + 1 - next.fetched) left done,
              answered_stays s q from_device (q.grant - g.fetched) left done,
            )
            refl

-- the progress of a request under way, copied part by part, is that progress
pub copied : (q : ChannelRequest) (g : ChannelProgress) {copy : ChannelProgress} → Entered q g
    → copy ≡ under_way g.state.ccw g.state.chaining g.state.taken g.state.given g.fetched → copy ≡ g
copied q g entered made = made ∙ rw (← entered.under_way) refl

-- A chain of CCWs that began with so many fetched: the run from what it left is the same, and it goes on, or has ended later. A CCW was
-- fetched where a transfer in channel may stand.
pub record Chain (s : Settings) (q : ChannelRequest) (from_device : List ℕ) (fetched : ℕ) (start c : Channel) (more : Bool) : Type 0 where
  pub same : run_from s q from_device c ≡ run_from s q from_device start
  pub stands : more ≡ true → c.progress.standing ≡ UnderWay
  pub within : more ≡ true → c.progress.fetched ≤ q.grant
  pub later : more ≡ true → fetched ≤ c.progress.fetched
  pub followed : more ≡ true → transfer_allowed c.progress.state.chaining ≡ true → fetched < c.progress.fetched
  pub ended : more ≡ false → Later q fetched c.progress

-- the chain goes on under way, and one that ends under way does so by a transfer in channel
chains_under_way : (standing : Standing) (chaining : Chaining) → chains_on standing chaining ≡ true → standing ≡ UnderWay
unfolding chains_on
chains_under_way UnderWay chaining e = refl
chains_under_way (Answered answer) chaining e = absurd (not_both e refl)

ends_by_transfer : (standing : Standing) (chaining : Chaining) → chains_on standing chaining ≡ false → standing ≡ UnderWay → chaining ≡ Transfer
unfolding chains_on
ends_by_transfer UnderWay First e stands = absurd (not_both refl e)
ends_by_transfer UnderWay Command e stands = absurd (not_both refl e)
ends_by_transfer UnderWay Transfer e stands = refl
ends_by_transfer UnderWay Ended e stands = absurd (not_both refl e)
ends_by_transfer (Answered answer) chaining e stands = absurd (not_under_way refl stands)

module _ (s : Settings) (q : ChannelRequest) (from_device : List ℕ) where
  pub chain_begins : (c : Channel) → Entered q c.progress → Chain s q from_device c.progress.fetched c c true
  chain_begins c entered =
      record {
        same = refl;
        stands = λ e. entered.under_way;
        within = λ e. entered.within;
        later = λ e. omega arith;
        followed = λ e allowed. absurd (not_both allowed entered.placed);
        ended = λ e. absurd (not_both refl e);
      }

  module _ (fetched : ℕ) (start : Channel) (storage keys room : List ℕ) (g : ChannelProgress) {more : Bool}
      (chain : Chain s q from_device fetched start (channel storage keys room g) more) (on : more ≡ true)
      {storage' keys' room' : List ℕ} {next : ChannelProgress}
      (did : channel storage' keys' room' next ≡ next_ccw s q from_device (channel storage keys room g))
      {more' : Bool} (more_is : more' ≡ chains_on next.standing next.state.chaining) where
    counted_on : next.standing ≡ UnderWay → (next.fetched ≡ 1 + g.fetched) × (g.fetched < q.grant)
    counted_on stands = next_fetched s q from_device storage keys room g (chain.stands on) (chain.within on) did stands

    under_way_lem : more' ≡ true → next.standing ≡ UnderWay
    under_way_lem e = chains_under_way next.standing next.state.chaining (sym more_is ∙ e)

    -- the chain has ended under way: with a transfer in channel, and a CCW was fetched before it
    by_transfer_lem : more' ≡ false → next.standing ≡ UnderWay → next.state.chaining ≡ Transfer
    by_transfer_lem e stands = ends_by_transfer next.standing next.state.chaining (sym more_is ∙ e) stands

    before_transfer_lem : more' ≡ false → next.standing ≡ UnderWay → fetched < g.fetched
    before_transfer_lem e stands =
        let found = channel storage keys room g in
        chain.followed on (transfer_placed s q from_device found (rw (← did) stands) (rw (← did) (by_transfer_lem e stands)))

    pub chain_goes_on : Chain s q from_device fetched start (channel storage' keys' room' next) more'
    chain_goes_on =
        let before : fetched ≤ g.fetched = chain.later on in
        record {
          same = run_same s q from_device storage keys room g (chain.stands on) (chain.within on) did ∙ chain.same;
          stands = under_way_lem;
          within = λ e. omega (arith, (counted_on (under_way_lem e)).0, (counted_on (under_way_lem e)).1);
          later = λ e. omega (arith, (counted_on (under_way_lem e)).0);
          followed = λ e allowed. omega (arith, (counted_on (under_way_lem e)).0);
          ended = λ e.
              record {
                more = λ stands. omega (arith, (counted_on stands).0, before_transfer_lem e stands);
                entered = λ stands.
                    record {
                      under_way = stands;
                      placed = ap transfer_allowed (by_transfer_lem e stands);
                      within = omega (arith, (counted_on stands).0, (counted_on stands).1);
                    };
              };
        }

    pub chain_falls : cond more' (q.grant + 1 - next.fetched) 0 < cond more (q.grant + 1 - g.fetched) 0
    chain_falls = rw on (go more' refl)
      where
        go : (b : Bool) → more' ≡ b → cond b (q.grant + 1 - next.fetched) 0 < q.grant + 1 - g.fetched
        go true e =
            let (count, below) = counted_on (under_way_lem e) in
            omega arith
        go false e =
            let within : g.fetched ≤ q.grant = chain.within on in
            omega arith

-- The run from what a chain left, where it has answered, and where it goes on.
module _ (s : Settings) (q : ChannelRequest) (from_device storage keys room : List ℕ) (g : ChannelProgress) {end : ChannelOutcome}
    (same : run_from s q from_device (channel storage keys room g) ≡ end) where
  pub run_ends : {answer : ChannelAnswer} {reply : ChannelReply} → g.standing ≡ Answered answer → reply ≡ reply_of g answer
      → channel_outcome reply storage keys room ≡ end
  unfolding run_from
  run_ends done replied =
      let stays = answered_stays s q from_device (q.grant + 1 - g.fetched) (channel storage keys room g) done in
      rw replied (rw (stays, done) at same)

  pub run_goes_on : {further : ChannelOutcome} → further ≡ run_from s q from_device (channel storage keys room g) → further ≡ end
  run_goes_on goes = goes ∙ same

-- A request begins under way, with no CCW fetched, and its first CCW may be no transfer in channel.
pub begun_entered : (q : ChannelRequest) {g : ChannelProgress} → g ≡ begun q → Entered q g
begun_entered q begins = rw begins (record { under_way = refl; placed = refl; within = omega arith })

-- A whole request: its outcome, and what follows of its count.
module _ (s : Settings) (q : ChannelRequest) (from_device storage keys room : List ℕ) where
  abbrev start : Channel
  start = channel storage keys room (begun q)

  -- all that is promised of a reply and what is left with it
  abbrev Promised : ChannelReply → (storage' keys' room' : List ℕ) → Type 0
  Promised reply storage' keys' room' =
      (channel_outcome reply storage' keys' room' ≡ channel_run s storage keys q from_device room)
      × ((reply.count ≤ q.grant) × (reply.count ≡ steps_that_fetch (q.grant + 1) s q from_device start))

  promised : (reply : ChannelReply) {storage' keys' room' : List ℕ}
      → channel_outcome reply storage' keys' room' ≡ channel_run s storage keys q from_device room → Promised reply storage' keys' room'
  unfolding channel_run
  promised reply outcome =
      let count : reply.count ≡ (steps (q.grant + 1) s q from_device start).progress.fetched = ap (λ (o : ChannelOutcome). o.count) outcome in
      let within = steps_within s q from_device (q.grant + 1) start (omega arith) in
      let counted = steps_count s q from_device (q.grant + 1) start in
      (outcome, (omega arith, omega arith))

  pub request_refused : {line : ChannelAnswer} {r : ChannelReason} {g : ChannelProgress} {reply : ChannelReply}
      → line ≡ answer_by (first_refusal (request_lines s (length storage) (length keys) q)) → line ≡ Refused r → g ≡ begun q
      → reply ≡ reply_of g (Refused r) → Promised reply storage keys room
  unfolding channel_run
  request_refused {r = r} {reply = reply} lines refuses begins replied =
      let after = channel storage keys room (standing_as (begun q) (Answered (Refused r))) in
      let first : after ≡ channel_step s q from_device start =
      refused_by_lines s q from_device storage keys room (begun q) refl lines refuses in
      let stays = answered_stays s q from_device q.grant after refl in
      let run : steps (q.grant + 1) s q from_device start ≡ after =
      ap (λ n. steps n s q from_device start) (add-one q.grant) ∙ first_of_steps s q from_device q.grant start
      ∙ ap (steps q.grant s q from_device) (sym first) ∙ stays in
      promised reply (rw (replied, begins, run) refl)

  pub request_executed : (reply : ChannelReply) {g : ChannelProgress} {storage' keys' room' : List ℕ} → g ≡ begun q
      → channel_outcome reply storage' keys' room' ≡ run_from s q from_device (channel storage keys room g) → Promised reply storage' keys' room'
  unfolding channel_run run_from
  request_executed reply begins outcome = promised reply (rw begins at outcome ∙ rw (sub-zero) refl)

-- what is left by the rule meets condition 1
pub conditions_met : (s : Settings) (q : ChannelRequest) (from_device : List ℕ) (before : Channel) {after : Channel}
    → after ≡ channel_step s q from_device before → ChannelCondition1 s before after × (after ≡ channel_step s q from_device before)
conditions_met s q from_device before e = (subst (ChannelCondition1 s before) (sym e) (channel_condition_1 s q from_device before), e)
