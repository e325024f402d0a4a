-- One CCW of the channel, by the lines that stop it: what is left in each case, that a refused CCW changes nothing but the key of the unit from
-- which it was fetched, that a CCW lies in one unit, and that lengths stay. The proofs go by the verdicts of the lines. Assumes nothing.
use Prim.Native.Nat.{ℕ, ◌+◌, ◌/◌, ◌%◌, ◌<◌, ◌≤◌}
use mathlib.Core.Path.{◌≡◌, refl, sym, ap, subst, ◌∙◌}
use mathlib.Core.Bool.{Bool, true, false, cond, not, ◌||◌}
use mathlib.Core.Logic.{inl, inr, ⊎_elim}
use mathlib.Core.List.{List, [], ◌∷◌}
use mathlib.Core.Option.{Option, none, some}
use native.Mathlib.Omega.{arith}
use lib.ListN.{length, get_or}
use lib.Dec.{eqb, leb, ltb}
use borrow.Author.Tests.{eqb-true, eqb-false, ltb-false, leb-false, not-false}
use Rattle.machine.specs.declared.Settings.{Settings}
use Rattle.machine.specs.declared.AccessKind.TheVariants.{Fetch, Store}
use Rattle.machine.specs.declared.channel.ChannelRequest.{ChannelRequest}
use Rattle.machine.specs.declared.channel.ChannelOperation.{ChannelOperation}
use Rattle.machine.specs.declared.channel.ChannelOperation.TheVariants.{TransferInChannel, Data, Invalid}
use Rattle.machine.specs.declared.channel.ChannelReason.{ChannelReason}
use Rattle.machine.specs.declared.channel.ChannelReason.TheVariants.{Configuration, ChannelKey, Grant, GrantUsed, Program, Protection, Device}
use Rattle.machine.specs.Channel.{Standing, UnderWay, Answered, ChannelAnswer, Completed, Refused, ccw_at, operation_of, outside, range_recorded}
use Rattle.machine.specs.Channel.{bytes_moved, Channel, refused, first_refusal, before_fetching, fetching_forbidden, data_forbidden, before_transfer}
use Rattle.machine.specs.Channel.{with_ccw_fetched, carried_out, obeyed, next_ccw, step_by, channel_step, channel_number_of}
use Rattle.machine.specs.Numbers.{lengths_valid, unit_of}
use Rattle.machine.specs.Key.{after_fetch}
use Rattle.machine.specs.Conditions.{is_in, channel_numbers, with_key_fetched, CcwRefused, ChannelCondition1}
use Rattle.machine.proofs.Verdicts.{neither}
use Rattle.machine.proofs.Written.{length-written, written_once}

-- what the CCW to come asks for
abbrev pub operation_found : Channel → ChannelOperation
operation_found c = operation_of (ccw_at c.storage c.progress.state.ccw)

-- the outcomes of one CCW, each with the verdicts of the lines that lead to it
module _ (s : Settings) (q : ChannelRequest) (from_device : List ℕ) (c : Channel) where
  pub data CcwOutcome (d : Channel) : Type 0 where
    unfetched : (r : ChannelReason) → before_fetching s q c ≡ some r → d ≡ refused r c → CcwOutcome d
    unread : before_fetching s q c ≡ none → fetching_forbidden s q c ≡ true → d ≡ refused Protection c → CcwOutcome d
    unobeyed : (r : ChannelReason) → before_fetching s q c ≡ none → fetching_forbidden s q c ≡ false
        → before_transfer (length from_device) (with_ccw_fetched s c) (operation_found c) ≡ some r
        → d ≡ refused r (with_ccw_fetched s c) → CcwOutcome d
    untransferred : before_fetching s q c ≡ none → fetching_forbidden s q c ≡ false
        → before_transfer (length from_device) (with_ccw_fetched s c) (operation_found c) ≡ none
        → data_forbidden (operation_found c) s q.key (with_ccw_fetched s c).keys ≡ true
        → d ≡ refused Protection (with_ccw_fetched s c) → CcwOutcome d
    obeyed_whole : before_fetching s q c ≡ none → fetching_forbidden s q c ≡ false
        → before_transfer (length from_device) (with_ccw_fetched s c) (operation_found c) ≡ none
        → data_forbidden (operation_found c) s q.key (with_ccw_fetched s c).keys ≡ false
        → d ≡ carried_out (operation_found c) s from_device (with_ccw_fetched s c) → CcwOutcome d

  pub ccw_outcome : CcwOutcome (next_ccw s q from_device c)
  unfolding next_ccw obeyed
  ccw_outcome = first (before_fetching s q c) refl (fetching_forbidden s q c) refl
    where
      second : (v : Option ChannelReason) → before_transfer (length from_device) (with_ccw_fetched s c) (operation_found c) ≡ v
          → (b : Bool) → data_forbidden (operation_found c) s q.key (with_ccw_fetched s c).keys ≡ b
          → before_fetching s q c ≡ none → fetching_forbidden s q c ≡ false → CcwOutcome (obeyed s q from_device (operation_found c) (with_ccw_fetched s c))
      second (some r) e b g h k = unobeyed r h k e (rw e)
      second none e true g h k = untransferred h k e g (rw (e, g))
      second none e false g h k = obeyed_whole h k e g (rw (e, g))

      first : (v : Option ChannelReason) → before_fetching s q c ≡ v → (b : Bool) → fetching_forbidden s q c ≡ b → CcwOutcome (next_ccw s q from_device c)
      first (some r) e b g = unfetched r e (rw e)
      first none e true g = unread e g (rw (e, g))
      first none e false g =
          rw (e, g) (second (before_transfer (length from_device) (with_ccw_fetched s c) (operation_found c)) refl
          (data_forbidden (operation_found c) s q.key (with_ccw_fetched s c).keys) refl e g)

-- where no line refuses, the first does not, and none behind it
pub no_line : (l : Bool × ChannelReason) (ls : List (Bool × ChannelReason)) → first_refusal (l ∷ ls) ≡ none
    → (l.0 ≡ false) × (first_refusal ls ≡ none)
unfolding first_refusal
no_line (false, r) ls e = (refl, e)
no_line (true, r) ls e = (cc, cc)

-- the CCW to come where no line above the fetching stops it: lengths, key and grant are good, it is granted, and it is a multiple of 8 and inside
pub record Fetchable (s : Settings) (q : ChannelRequest) (c : Channel) : Type 0 where
  pub lengths_valid_lem : lengths_valid s (length c.storage) (length c.keys) ≡ true
  pub key_valid : q.key ≤ 15
  pub grant_valid : (1 ≤ q.grant) × (q.grant ≤ 256)
  pub granted : c.progress.fetched < q.grant
  pub aligned : c.progress.state.ccw % 8 ≡ 0
  pub inside : c.progress.state.ccw + 8 ≤ length c.storage

pub fetchable : (s : Settings) (q : ChannelRequest) (c : Channel) → before_fetching s q c ≡ none → Fetchable s q c
unfolding before_fetching
fetchable s q c e =
    let (a, e1) = no_line (not (lengths_valid s (length c.storage) (length c.keys)), _) _ e in
    let (b, e2) = no_line (ltb 15 q.key, _) _ e1 in
    let (d, e3) = no_line (eqb q.grant 0 || ltb 256 q.grant, _) _ e2 in
    let (f, e4) = no_line (leb q.grant c.progress.fetched, _) _ e3 in
    let (g, e5) = no_line (not (eqb (c.progress.state.ccw % 8) 0) || outside (length c.storage) c.progress.state.ccw 8, _) _ e4 in
    let (d1, d2) = neither (eqb q.grant 0) _ d in
    let (g1, g2) = neither (not (eqb (c.progress.state.ccw % 8) 0)) _ g in
    record {
      lengths_valid_lem = not-false _ a;
      key_valid = ltb-false 15 q.key b;
      grant_valid = (omega (arith, eqb-false q.grant 0 d1), ltb-false 256 q.grant d2);
      granted = leb-false q.grant c.progress.fetched f;
      aligned = eqb-true (c.progress.state.ccw % 8) 0 (not-false _ g1);
      inside = ltb-false (length c.storage) (c.progress.state.ccw + 8) g2;
    }

-- the bytes of a CCW at a multiple of 8 are in one unit
pub ccw_in_one_unit : (s : Settings) (a i : ℕ) → a % 8 ≡ 0 → i < 8 → unit_of s (a + i) ≡ unit_of s a
ccw_in_one_unit s a i h k = go s.four_k
  where
    go : (b : Bool) → (a + i) / cond b 4096 2048 ≡ a / cond b 4096 2048
    go true = omega arith
    go false = omega arith

-- so one key is written where it is fetched
pub ccw_key : (s : Settings) (keys : List ℕ) (a : ℕ) → a % 8 ≡ 0
    → range_recorded s Fetch keys a 8 ≡ with_key_fetched keys (unit_of s a)
unfolding range_recorded
ccw_key s keys a h =
    written_once keys _ _ (unit_of s a) _ 7 (λ i l.
    (ccw_in_one_unit s a i h l, ap (λ u. after_fetch (get_or keys u 0)) (ccw_in_one_unit s a i h l)))

-- Condition 1, for each CCW.

-- a standing is one
not_refused : {r : ChannelReason} → UnderWay ≡ Answered (Refused r) → ⊥
not_refused e = let z : ◌≡◌ {A = ℕ} 0 1 = cc in omega arith

module _ (s : Settings) (q : ChannelRequest) (from_device : List ℕ) (c : Channel) where
  -- a CCW that was not fetched, and one that was
  kept : (r : ChannelReason) (d : Channel) → d ≡ refused r c → CcwRefused s c d
  kept r d e = rw e (record { storage = refl; room = refl; state = refl; keys = inl (refl, refl) })

  key_written : (r : ChannelReason) (d : Channel) → before_fetching s q c ≡ none → d ≡ refused r (with_ccw_fetched s c) → CcwRefused s c d
  unfolding with_ccw_fetched
  key_written r d h e =
      rw e (record { storage = refl; room = refl; state = refl; keys = inr (ccw_key s c.keys c.progress.state.ccw (fetchable s q c h).aligned, refl) })

  carried_not_refused : (o : ChannelOperation) (r : ChannelReason) → c.progress.standing ≡ UnderWay
      → (carried_out o s from_device (with_ccw_fetched s c)).progress.standing ≡ Answered (Refused r) → ⊥
  unfolding carried_out with_ccw_fetched
  carried_not_refused (TransferInChannel address) r u e = not_refused e
  carried_not_refused (Data Fetch address count chains) r u e = go chains e
    where
      go : (b : Bool) → cond b UnderWay (Answered Completed) ≡ Answered (Refused r) → ⊥
      go true e = not_refused e
      go false e = let z : ◌≡◌ {A = ℕ} 0 1 = cc in omega arith
  carried_not_refused (Data Store address count chains) r u e = go chains e
    where
      go : (b : Bool) → cond b UnderWay (Answered Completed) ≡ Answered (Refused r) → ⊥
      go true e = not_refused e
      go false e = let z : ◌≡◌ {A = ℕ} 0 1 = cc in omega arith
  carried_not_refused Invalid r u e = not_refused (sym u ∙ e)

  pub refused_ccw_keeps : (r : ChannelReason) → c.progress.standing ≡ UnderWay
      → (next_ccw s q from_device c).progress.standing ≡ Answered (Refused r) → CcwRefused s c (next_ccw s q from_device c)
  refused_ccw_keeps r u e = go (ccw_outcome s q from_device c)
    where
      go : CcwOutcome s q from_device c (next_ccw s q from_device c) → CcwRefused s c (next_ccw s q from_device c)
      go (unfetched r' h f) = kept r' _ f
      go (unread h k f) = kept Protection _ f
      go (unobeyed r' h k l f) = key_written r' _ h f
      go (untransferred h k l m f) = key_written Protection _ h f
      go (obeyed_whole h k l m f) = absurd (carried_not_refused (operation_found c) r u (ap (λ d. d.progress.standing) (sym f) ∙ e))

  -- a step of a request under way is its next CCW; of one that has answered, nothing
  pub step_under_way : c.progress.standing ≡ UnderWay → channel_step s q from_device c ≡ next_ccw s q from_device c
  unfolding channel_step
  step_under_way u = ap (λ x. step_by x s q from_device c) u

  pub step_answered : (a : ChannelAnswer) → c.progress.standing ≡ Answered a → channel_step s q from_device c ≡ c
  unfolding channel_step
  step_answered a e = ap (λ x. step_by x s q from_device c) e

  pub channel_condition_1 : ChannelCondition1 s c (channel_step s q from_device c)
  channel_condition_1 = record { answered = λ a e. in_table a; unchanged = unchanged }
    where
      in_table : (a : ChannelAnswer) → is_in (channel_number_of a) channel_numbers ≡ true
      in_table Completed = refl
      in_table (Refused Configuration) = refl
      in_table (Refused ChannelKey) = refl
      in_table (Refused Grant) = refl
      in_table (Refused GrantUsed) = refl
      in_table (Refused Program) = refl
      in_table (Refused Protection) = refl
      in_table (Refused Device) = refl

      unchanged : (r : ChannelReason) → c.progress.standing ≡ UnderWay
          → (channel_step s q from_device c).progress.standing ≡ Answered (Refused r) → CcwRefused s c (channel_step s q from_device c)
      unchanged r u e =
          let step = step_under_way u in
          subst (CcwRefused s c) (sym step) (refused_ccw_keeps r u (ap (λ d. d.progress.standing) (sym step) ∙ e))

-- the numbers of document 02
pub channel_numbers_lem : channel_numbers ≡ 0 ∷ 64 ∷ 65 ∷ 66 ∷ 74 ∷ 71 ∷ 72 ∷ 73 ∷ []
channel_numbers_lem = refl

-- what condition 1 says of a CCW that is refused: where it was not fetched, nothing at all is changed; where it was, the key of its unit
module _ (s : Settings) (before after : Channel) (left : CcwRefused s before after) where
  pub unfetched_changes_nothing : after.progress.fetched ≡ before.progress.fetched
      → (after.storage ≡ before.storage) × (after.keys ≡ before.keys) × (after.room ≡ before.room)
      × (after.progress.state ≡ before.progress.state)
  unfetched_changes_nothing h =
      (left.storage, ⊎_elim (λ e. e.0) (λ e. absurd (omega (arith, h, e.1))) left.keys, left.room, left.state)

  pub fetched_changes_one_key : after.progress.fetched ≡ before.progress.fetched + 1
      → after.keys ≡ with_key_fetched before.keys (unit_of s before.progress.state.ccw)
  fetched_changes_one_key h = ⊎_elim (λ e. absurd (omega (arith, h, e.1))) (λ e. e.0) left.keys

-- A step keeps the lengths, so the lines that look at them let every step pass or none.
module _ (s : Settings) (q : ChannelRequest) (from_device : List ℕ) (c : Channel) where
  abbrev SameLengths : Channel → Type 0
  SameLengths d =
      (length d.storage ≡ length c.storage) × (length d.keys ≡ length c.keys) × (length d.room ≡ length c.room)

  fetched_lengths : SameLengths (with_ccw_fetched s c)
  unfolding with_ccw_fetched range_recorded
  fetched_lengths = (refl, length-written c.keys _ _ 8, refl)

  carried_lengths : (o : ChannelOperation) → SameLengths (carried_out o s from_device (with_ccw_fetched s c))
  unfolding carried_out range_recorded bytes_moved
  carried_lengths (TransferInChannel address) = fetched_lengths
  carried_lengths (Data Fetch address count chains) =
      let (storage, keys, room) = fetched_lengths in
      (storage, length-written (with_ccw_fetched s c).keys _ _ count ∙ keys, length-written (with_ccw_fetched s c).room _ _ count ∙ room)
  carried_lengths (Data Store address count chains) =
      let (storage, keys, room) = fetched_lengths in
      (length-written (with_ccw_fetched s c).storage _ _ count ∙ storage, length-written (with_ccw_fetched s c).keys _ _ count ∙ keys, room)
  carried_lengths Invalid = fetched_lengths

  next_lengths : SameLengths (next_ccw s q from_device c)
  next_lengths = go (ccw_outcome s q from_device c)
    where
      go : CcwOutcome s q from_device c (next_ccw s q from_device c) → SameLengths (next_ccw s q from_device c)
      go (unfetched r h f) = rw f (refl, refl, refl)
      go (unread h k f) = rw f (refl, refl, refl)
      go (unobeyed r h k l f) = rw f fetched_lengths
      go (untransferred h k l m f) = rw f fetched_lengths
      go (obeyed_whole h k l m f) = rw f (carried_lengths (operation_found c))

  pub step_lengths : SameLengths (channel_step s q from_device c)
  unfolding channel_step
  step_lengths = go c.progress.standing
    where
      go : (standing : Standing) → SameLengths (step_by standing s q from_device c)
      go UnderWay = next_lengths
      go (Answered answer) = (refl, refl, refl)
