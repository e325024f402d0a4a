-- A list of one request that runs alone, the channel's: it ends with what the rules say of the whole request, and gives back its answer, its count, the
-- channel's record and both buffers. The turns of the party are the steps of the request, and one that has answered stays as it is. And two requests,
-- one after the other. Assumes nothing.
use Prim.Native.Nat.{ℕ, zero, suc, ◌+◌}
use mathlib.Core.Path.{◌≡◌, refl, subst, ◌∙◌}
use mathlib.Core.Bool.{true}
use mathlib.Core.List.{List, [], ◌∷◌}
use mathlib.Core.Option.{some}
use native.Mathlib.Numerals.{add-one}
use native.Mathlib.Omega.{arith}
use lib.ListN.{replicate}
use Rattle.machine.specs.declared.Settings.{Settings}
use Rattle.machine.specs.declared.Processor.{Processor}
use Rattle.machine.specs.declared.channel.ChannelReason.TheVariants.{Configuration}
use Rattle.machine.specs.Channel.{Refused, Standing, UnderWay, Answered, Channel, channel_values, first_refusal, before_fetching, next_ccw}
use Rattle.machine.specs.Channel.{channel_step, begun, steps, ChannelOutcome, channel_run}
use Rattle.machine.specs.Turns.{State}
use Rattle.machine.proofs.Verdicts.{not_both}
use Rattle.turns.specs.Parties.{Joint, turn, alone}
use Rattle.turns.specs.ThreeLists.{ChannelTurn, ChannelGiven, Work, between, at_end, found, left, goes_on, state_then, work_then, Party, channel}
use Rattle.turns.specs.ThreeLists.{parties, start}
use Rattle.turns.proofs.Parties.{own_pass}
use Rattle.turns.proofs.Wholes.{own_work, run_alone, turns_replicate, enough_turns}
use Rattle.turns.proofs.Endings.{ending}

module _ (s : Settings) (m : State) (t : ChannelTurn) where
  -- the work of a list whose one request has come to c
  abbrev work_at : Channel → Work
  work_at c = goes_on c.progress.standing t c.room c.progress [] []

  abbrev step_from : Channel → Channel
  step_from c = channel_step s t.request t.from_device c

  state_after_lem : (c : Channel) → state_then s (left m c) (work_at c) ≡ left m (step_from c)
  unfolding channel_step
  state_after_lem c = by c.progress.standing refl
    where
      by : (st : Standing) → c.progress.standing ≡ st → state_then s (left m c) (goes_on st t c.room c.progress [] []) ≡ left m (step_from c)
      by UnderWay e = refl
      by (Answered answer) e = rw e

  work_after : (c : Channel) → work_then s (left m c) (work_at c) ≡ work_at (step_from c)
  unfolding channel_step
  work_after c = by c.progress.standing refl
    where
      by : (st : Standing) → c.progress.standing ≡ st → work_then s (left m c) (goes_on st t c.room c.progress [] []) ≡ work_at (step_from c)
      by UnderWay e = refl
      by (Answered answer) e = rw e

  abbrev Came : Channel → Joint State Work Party → Type 0
  Came c n = (n.shared ≡ left m c) × (n.own channel ≡ work_at c)

  turns_are_steps : (k : ℕ) (n : Joint State Work Party) (c : Channel) → Came c n
      → Came (steps k s t.request t.from_device c) (alone (parties s) n channel k)
  unfolding steps
  turns_are_steps zero n c came = came
  turns_are_steps (suc k) n c (e, f) =
      subst (Came (steps (suc k) s t.request t.from_device c)) (own_pass (parties s) n channel k)
      (turns_are_steps k (turn (parties s) n channel) (step_from c)
      (rw (e, f) (state_after_lem c), own_work (parties s) n channel ∙ rw (e, f) (work_after c)))

  -- what the request gives back, and the outcome of its run
  abbrev outcome_of : ChannelGiven → State → ChannelOutcome
  outcome_of g n =
      record { answer = some g.answer; count = g.count; state = g.state; storage = n.storage; keys = n.keys; room = g.room }

  abbrev ended : Joint State Work Party
  ended = alone (parties s) (start m [] [] (t ∷ [])) channel (t.request.grant + 1)

  pub request_runs : (g : ChannelGiven) × (ended.own channel ≡ between [] (g ∷ [])) × (g.from_device ≡ t.from_device)
      × (outcome_of g ended.shared ≡ channel_run s m.storage m.keys t.request t.from_device t.room)
  unfolding channel_run steps
  request_runs = by last.progress.standing refl
    where
      begins : Channel
      begins = found m t.room (begun t.request)

      last : Channel
      last = steps t.request.grant s t.request t.from_device (step_from begins)

      came : Came last ended
      came =
          rw (add-one t.request.grant)
          (subst (Came last) (own_pass (parties s) (start m [] [] (t ∷ [])) channel t.request.grant)
          (turns_are_steps t.request.grant (turn (parties s) (start m [] [] (t ∷ [])) channel) (step_from begins)
          (refl, own_work (parties s) (start m [] [] (t ∷ [])) channel)))

      at_its_end : at_end (ended.own channel) ≡ true
      at_its_end =
          rw (← run_alone (parties s) (start m [] [] (t ∷ [])) channel (t.request.grant + 1))
          (enough_turns (parties s) (ending s) (start m [] [] (t ∷ [])) channel (replicate (t.request.grant + 1) channel)
          (omega (arith, turns_replicate (parties s) channel channel (t.request.grant + 1))))

      by : (st : Standing) → last.progress.standing ≡ st
          → (g : ChannelGiven) × (ended.own channel ≡ between [] (g ∷ [])) × (g.from_device ≡ t.from_device)
          × (outcome_of g ended.shared ≡ channel_run s m.storage m.keys t.request t.from_device t.room)
      by UnderWay e = absurd (not_both at_its_end (rw (came.1, e)))
      by (Answered answer) e = (
        record {
          answer = channel_values answer;
          count = last.progress.fetched;
          state = last.progress.state;
          from_device = t.from_device;
          room = last.room;
        },
        came.1 ∙ rw e,
        refl,
        rw (came.0, add-one t.request.grant, e),
      )

-- two requests, where line 64 refuses each: one in each turn, and what they give back stands in their order
module _ (s : Settings) (ps : List Processor) (t u : ChannelTurn) where
  abbrev empty : State
  empty = record { storage = []; keys = []; processors = ps }

  abbrev refused_given : ChannelTurn → ChannelGiven
  refused_given r =
      record {
        answer = channel_values (Refused Configuration);
        count = 0;
        state = (begun r.request).state;
        from_device = r.from_device;
        room = r.room;
      }

  pub two_requests : ((alone (parties s) (start empty [] [] (t ∷ u ∷ [])) channel 1).own channel ≡ between (u ∷ []) (refused_given t ∷ []))
      × ((alone (parties s) (start empty [] [] (t ∷ u ∷ [])) channel 2).own channel ≡ between [] (refused_given t ∷ refused_given u ∷ []))
  unfolding channel_step next_ccw before_fetching first_refusal
  two_requests = (refl, refl)
