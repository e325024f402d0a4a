-- What a step of the channel names, by what it answers and whether it fetched a CCW: each row of the table at the head of
-- specs/ChannelUnits.antt, as a law. The steps are told apart by their lines (by-lines). Assumes nothing.
use Prim.Native.Nat.{ℕ, ◌+◌, ◌%◌, ◌/◌, ◌<◌}
use mathlib.Core.Path.{◌≡◌, refl, ap, ◌∙◌}
use mathlib.Core.Bool.{Bool, true, false, cond}
use mathlib.Core.Logic.{◌≢◌, ◌⊎◌, inl, inr, ⊎_elim}
use mathlib.Core.List.{List, [], ◌∷◌}
use mathlib.Core.Option.{Option, none, some}
use native.Mathlib.Omega.{arith}
use lib.ListN.{length}
use lib.Dec.{eqb}
use Rattle.machine.specs.declared.Settings.{Settings}
use Rattle.machine.specs.declared.AccessKind.{AccessKind}
use Rattle.machine.specs.declared.AccessKind.TheVariants.{Fetch, Store}
use Rattle.machine.specs.declared.channel.ChannelRequest.{ChannelRequest}
use Rattle.machine.specs.declared.channel.ChannelOperation.{ChannelOperation}
use Rattle.machine.specs.declared.channel.ChannelOperation.TheVariants.{TransferInChannel, Data, Invalid}
use Rattle.machine.specs.declared.channel.ChannelReason.{ChannelReason}
use Rattle.machine.specs.declared.channel.ChannelReason.TheVariants.{Program, Protection, Device}
use Rattle.machine.specs.Channel.{Completed, Refused, UnderWay, Answered, Channel, channel_number, ccw_at, operation_of, refused, first_refusal}
use Rattle.machine.specs.Channel.{before_fetching, fetching_forbidden, before_transfer, data_forbidden, with_ccw_fetched, carried_out, unless_refused}
use Rattle.machine.specs.Channel.{unless_forbidden, obeyed, next_ccw}
use Rattle.machine.specs.Lists.{any_below}
use Rattle.machine.specs.Numbers.{unit_of}
use Rattle.turns.specs.Units.{Naming, unnamed, fetching, otherwise}
use Rattle.turns.specs.ChannelUnits.{in_range, ccw_named, data_named, together, unless_applies, next_ccw_names}
use Rattle.turns.proofs.Reaches.{any_same}

-- what holds of the reason of each line holds of the reason that is given
abbrev EachReason : (ChannelReason → Type 0) → List (Bool × ChannelReason) → Type 0
EachReason P [] = Unit {0}
EachReason P (l ∷ ls) = P l.1 × EachReason P ls

reason_given : (P : ChannelReason → Type 0) (ls : List (Bool × ChannelReason)) → EachReason P ls → (r : ChannelReason) → first_refusal ls ≡ some r → P r
unfolding first_refusal
reason_given P [] h r e = absurd (let z : ◌≡◌ {A = ℕ} 0 1 = cc in omega arith)
reason_given P (l ∷ ls) h r e = go l.0 e (reason_given P ls h.1 r)
  where
    go : (b : Bool) → cond b (some l.1) (first_refusal ls) ≡ some r → (first_refusal ls ≡ some r → P r) → P r
    go true e rest = let q : l.1 ≡ r = cc in rw (← q) h.0
    go false e rest = rest e

together_nothing : (n : Naming) → together n unnamed ≡ n
together_nothing unnamed = refl
together_nothing fetching = refl
together_nothing otherwise = refl

module _ (s : Settings) (q : ChannelRequest) (from_device : List ℕ) (c : Channel) where
  abbrev operation : ChannelOperation
  operation = operation_of (ccw_at c.storage c.progress.state.ccw)

  abbrev fetched_ccw : Channel
  fetched_ccw = with_ccw_fetched s c

  -- the CCW's unit as a fetch, and no other
  abbrev ccw : ℕ → Naming
  ccw u = cond (in_range s c.progress.state.ccw 8 u) fetching unnamed

  -- a line above the fetching applies; fetching is forbidden; a line above the transfer applies; the transfer is forbidden; it is carried out
  pub by_lines : (P : Channel → (ℕ → Naming) → Type 0)
      → ((r : ChannelReason) → before_fetching s q c ≡ some r → P (refused r c) (λ u. unnamed))
      → (before_fetching s q c ≡ none → fetching_forbidden s q c ≡ true → P (refused Protection c) (λ u. together (ccw u) unnamed))
      → ((r : ChannelReason) → before_transfer (length from_device) fetched_ccw operation ≡ some r
      → P (refused r fetched_ccw) (λ u. together (ccw u) unnamed))
      → (before_transfer (length from_device) fetched_ccw operation ≡ none
      → P (refused Protection fetched_ccw) (λ u. together (ccw u) (data_named operation s u)))
      → (before_transfer (length from_device) fetched_ccw operation ≡ none
      → P (carried_out operation s from_device fetched_ccw) (λ u. together (ccw u) (data_named operation s u)))
      → P (next_ccw s q from_device c) (next_ccw_names s q from_device c)
  unfolding next_ccw next_ccw_names obeyed
  by_lines P stopped unread stopped_later barred done =
      first (before_fetching s q c) refl (fetching_forbidden s q c) refl (before_transfer (length from_device) fetched_ccw operation) refl
      (data_forbidden operation s q.key fetched_ccw.keys)
    where
      first : (v : Option ChannelReason) → before_fetching s q c ≡ v → (b : Bool) → fetching_forbidden s q c ≡ b
          → (w : Option ChannelReason) → before_transfer (length from_device) fetched_ccw operation ≡ w → (d : Bool)
          → P (unless_refused v c (unless_forbidden b c (unless_refused w fetched_ccw
          (unless_forbidden d fetched_ccw (carried_out operation s from_device fetched_ccw)))))
          (λ u. unless_applies v (together (ccw u) (cond b unnamed (unless_applies w (data_named operation s u)))))
      first (some r) e b f w g d = stopped r e
      first none e true f w g d = unread e f
      first none e false f (some r) g d = stopped_later r g
      first none e false f none g true = barred g
      first none e false f none g false = done g

  abbrev then : Channel
  then = next_ccw s q from_device c

  abbrev names : ℕ → Naming
  names u = next_ccw_names s q from_device c u

  -- fetching the CCW counts it; what it asks for counts nothing and refuses nothing
  ccw_counted : fetched_ccw.progress.fetched ≡ c.progress.fetched + 1
  unfolding with_ccw_fetched
  ccw_counted = refl

  carried_counted : (o : ChannelOperation) → (carried_out o s from_device fetched_ccw).progress.fetched ≡ c.progress.fetched + 1
  unfolding carried_out with_ccw_fetched
  carried_counted (TransferInChannel address) = refl
  carried_counted (Data Fetch address count chains) = refl
  carried_counted (Data Store address count chains) = refl
  carried_counted Invalid = refl

  module _ (running : c.progress.standing ≡ UnderWay) where
    carried_unrefused : (r : ChannelReason) (o : ChannelOperation) → (carried_out o s from_device fetched_ccw).progress.standing ≢ Answered (Refused r)
    unfolding carried_out with_ccw_fetched
    carried_unrefused r (TransferInChannel address) e = let z : ◌≡◌ {A = ℕ} 0 1 = cc in omega arith
    carried_unrefused r (Data Fetch address count chains) e = ended chains e
      where
        ended : (b : Bool) → cond b UnderWay (Answered Completed) ≢ Answered (Refused r)
        ended true e = let z : ◌≡◌ {A = ℕ} 0 1 = cc in omega arith
        ended false e = let z : ◌≡◌ {A = ℕ} 0 1 = cc in omega arith
    carried_unrefused r (Data Store address count chains) e = ended chains e
      where
        ended : (b : Bool) → cond b UnderWay (Answered Completed) ≢ Answered (Refused r)
        ended true e = let z : ◌≡◌ {A = ℕ} 0 1 = cc in omega arith
        ended false e = let z : ◌≡◌ {A = ℕ} 0 1 = cc in omega arith
    carried_unrefused r Invalid e = let z : ◌≡◌ {A = ℕ} 0 1 = cc in omega arith

    -- the reasons of the lines above the fetching, and of those above the transfer
    told : {a b : ChannelReason} → Answered (Refused a) ≡ Answered (Refused b) → channel_number a ≡ channel_number b
    told {a} {b} e = let q : a ≡ b = cc in ap channel_number q

    above_fetching : (r : ChannelReason) → before_fetching s q c ≡ some r → (channel_number r ≢ 72) × (channel_number r ≢ 73)
    unfolding before_fetching
    above_fetching r e =
        reason_given (λ r. (channel_number r ≢ 72) × (channel_number r ≢ 73)) _ (
          (omega arith, omega arith),
          (
            (omega arith, omega arith),
            (
              (omega arith, omega arith),
              (
                (omega arith, omega arith),
                ((omega arith, omega arith), tt),
              ),
            ),
          ),
        ) r e

    above_transfer : (r : ChannelReason) → before_transfer (length from_device) fetched_ccw operation ≡ some r → (r ≡ Program) ⊎ (r ≡ Device)
    unfolding before_transfer
    above_transfer r e = reason_given (λ r. (r ≡ Program) ⊎ (r ≡ Device)) _ (inl refl, (inl refl, (inr refl, tt))) r e

    -- 64, 65, 66, 74, and 71 for the address: no CCW was fetched and it isn't 72
    pub unfetched_names_nothing : then.progress.fetched ≡ c.progress.fetched → then.progress.standing ≢ Answered (Refused Protection)
        → (u : ℕ) → names u ≡ unnamed
    unfetched_names_nothing =
        by_lines (λ d n. d.progress.fetched ≡ c.progress.fetched → d.progress.standing ≢ Answered (Refused Protection) → (u : ℕ) → n u ≡ unnamed)
        (λ r e f h u. refl)
        (λ e g f h u. absurd (h refl))
        (λ r e f h u. absurd (omega (arith, ccw_counted)))
        (λ e f h u. absurd (omega (arith, ccw_counted)))
        (λ e f h u. absurd (omega (arith, carried_counted operation)))

    -- 72 for the reading: the CCW's unit, as a fetch
    pub forbidden_reading_names_ccw : then.progress.fetched ≡ c.progress.fetched → then.progress.standing ≡ Answered (Refused Protection)
        → (u : ℕ) → names u ≡ ccw u
    forbidden_reading_names_ccw =
        by_lines (λ d n. d.progress.fetched ≡ c.progress.fetched → d.progress.standing ≡ Answered (Refused Protection) → (u : ℕ) → n u ≡ ccw u)
        (λ r e f h u. absurd ((above_fetching r e).0 (told h)))
        (λ e g f h u. together_nothing (ccw u))
        (λ r e f h u. absurd (omega (arith, ccw_counted)))
        (λ e f h u. absurd (omega (arith, ccw_counted)))
        (λ e f h u. absurd (omega (arith, carried_counted operation)))

    -- 73: the CCW's unit, as a fetch, and no unit of the data
    pub short_device_names_ccw : then.progress.standing ≡ Answered (Refused Device) → (u : ℕ) → names u ≡ ccw u
    short_device_names_ccw =
        by_lines (λ d n. d.progress.standing ≡ Answered (Refused Device) → (u : ℕ) → n u ≡ ccw u)
        (λ r e h u. absurd ((above_fetching r e).1 (told h)))
        (λ e g h u. together_nothing (ccw u))
        (λ r e h u. together_nothing (ccw u))
        (λ e h u. absurd (omega (arith, told h)))
        (λ e h u. absurd (carried_unrefused Device operation h))

    -- 71 after the fetch: the same
    pub program_check_names_ccw : then.progress.fetched ≡ c.progress.fetched + 1 → then.progress.standing ≡ Answered (Refused Program)
        → (u : ℕ) → names u ≡ ccw u
    program_check_names_ccw =
        by_lines (λ d n. d.progress.fetched ≡ c.progress.fetched + 1 → d.progress.standing ≡ Answered (Refused Program) → (u : ℕ) → n u ≡ ccw u)
        (λ r e f h u. absurd (omega arith))
        (λ e g f h u. together_nothing (ccw u))
        (λ r e f h u. together_nothing (ccw u))
        (λ e f h u. absurd (omega (arith, told h)))
        (λ e f h u. absurd (carried_unrefused Program operation h))

    -- a transfer in channel that was fetched: the same
    pub transfer_in_channel_names_ccw : (address : ℕ) → operation ≡ TransferInChannel address → then.progress.fetched ≡ c.progress.fetched + 1
        → (u : ℕ) → names u ≡ ccw u
    transfer_in_channel_names_ccw address o =
        by_lines (λ d n. d.progress.fetched ≡ c.progress.fetched + 1 → (u : ℕ) → n u ≡ ccw u)
        (λ r e f u. absurd (omega arith))
        (λ e g f u. together_nothing (ccw u))
        (λ r e f u. together_nothing (ccw u))
        (λ e f u. rw o (together_nothing (ccw u)))
        (λ e f u. rw o (together_nothing (ccw u)))

    -- fetched, and neither 71 nor 73: 72 for the transfer, or performed. The CCW's unit as a fetch, and every unit of the data
    pub data_names : (kind : AccessKind) (address count : ℕ) (chains : Bool) → operation ≡ Data kind address count chains
        → then.progress.fetched ≡ c.progress.fetched + 1
        → then.progress.standing ≢ Answered (Refused Program) → then.progress.standing ≢ Answered (Refused Device)
        → (u : ℕ) → names u ≡ together (ccw u) (data_named (Data kind address count chains) s u)
    data_names kind address count chains o =
        by_lines (λ d n. d.progress.fetched ≡ c.progress.fetched + 1 → d.progress.standing ≢ Answered (Refused Program)
        → d.progress.standing ≢ Answered (Refused Device) → (u : ℕ) → n u ≡ together (ccw u) (data_named (Data kind address count chains) s u))
        (λ r e f h k u. absurd (omega arith))
        (λ e g f h k u. absurd (omega arith))
        (λ r e f h k u. absurd (⊎_elim (λ p. h (ap (λ x. Answered (Refused x)) p)) (λ p. k (ap (λ x. Answered (Refused x)) p)) (above_transfer r e)))
        (λ e f h k u. rw o)
        (λ e f h k u. rw o)

    module _ (address count : ℕ) (chains : Bool) (counts : then.progress.fetched ≡ c.progress.fetched + 1)
        (no_check : then.progress.standing ≢ Answered (Refused Program)) (not_short : then.progress.standing ≢ Answered (Refused Device)) (u : ℕ) where
      -- data to the device: as a fetch
      pub data_to_device : operation ≡ Data Fetch address count chains
          → (in_range s address count u ≡ true → names u ≡ fetching) × (in_range s address count u ≡ false → names u ≡ ccw u)
      data_to_device o =
          let e = data_names Fetch address count chains o counts no_check not_short u in
          ((λ h. e ∙ rw h (fetched (in_range s c.progress.state.ccw 8 u))), λ h. e ∙ rw h (together_nothing (ccw u)))
        where
          fetched : (b : Bool) → together (cond b fetching unnamed) fetching ≡ fetching
          fetched true = refl
          fetched false = refl

      -- data from the device: otherwise
      pub data_from_device : operation ≡ Data Store address count chains
          → (in_range s address count u ≡ true → names u ≡ otherwise) × (in_range s address count u ≡ false → names u ≡ ccw u)
      data_from_device o =
          let e = data_names Store address count chains o counts no_check not_short u in
          ((λ h. e ∙ rw h (stored (in_range s c.progress.state.ccw 8 u))), λ h. e ∙ rw h (together_nothing (ccw u)))
        where
          stored : (b : Bool) → together (cond b fetching unnamed) otherwise ≡ otherwise
          stored true = refl
          stored false = refl

-- a CCW at a multiple of 8 lies in one unit
pub ccw_in_one_unit : (s : Settings) (a u : ℕ) → a % 8 ≡ 0 → ccw_named s a u ≡ cond (eqb (unit_of s a) u) fetching unnamed
unfolding in_range any_below
ccw_in_one_unit s a u h = rw (any_same _ (λ i. eqb (unit_of s a) u) 8 (λ i l. ap (λ x. eqb x u) (same s.four_k i l))) (one (eqb (unit_of s a) u))
  where
    same : (b : Bool) (i : ℕ) → i < 8 → (a + i) / cond b 4096 2048 ≡ a / cond b 4096 2048
    same true i l = omega arith
    same false i l = omega arith

    one : (b : Bool) → cond (any_below (λ i. b) 8) fetching unnamed ≡ cond b fetching unnamed
    one true = refl
    one false = refl
