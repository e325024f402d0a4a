-- Condition 3, over three lists: any two whole orders of turns end alike. Turns obey the laws of actions. The numbers that the processors' lists
-- carry and the units that the lists name keep their turns apart at every part of the state, and the law of parties does the rest.
-- Assumes nothing.
use Prim.Native.Nat.{ℕ, ◌+◌, ◌≤◌}
use mathlib.Core.Path.{◌≡◌, refl, ◌∙◌}
use mathlib.Core.Bool.{true, false, ◌&&◌, and-false}
use mathlib.Core.Logic.{◌≢◌, ◌⊎◌, ⊎_elim, inl, inr}
use mathlib.Core.List.{List, [], ◌∷◌, ◌++◌}
use native.Mathlib.Decide.{ℕ_discrete}
use native.Mathlib.Omega.{arith}
use lib.ListN.{length, replicate}
use lib.Dec.{eqb, ltb}
use borrow.Author.Tests.{eqb-true, le-ltb}
use Rattle.machine.specs.declared.Settings.{Settings}
use Rattle.machine.specs.declared.channel.ChannelProgress.{ChannelProgress}
use Rattle.machine.specs.Channel.{Standing, UnderWay, Answered, begun}
use Rattle.machine.specs.Numbers.{unit_of}
use Rattle.machine.specs.Turns.{State, Turn}
use Rattle.machine.proofs.Verdicts.{tested}
use Rattle.turns.specs.Parties.{Joint, alone, run}
use Rattle.turns.specs.ThreeLists.{ChannelTurn, ChannelGiven, Work, requests, between, under_way, stepped, goes_on, work_then, Party, processor0}
use Rattle.turns.specs.ThreeLists.{processor1, channel}
use Rattle.turns.specs.ThreeLists.{turn_names, parties, start, Carry, named_at, Apart, Whole, AnyOrder, turns_at_most, one_after_another, OneAfterAnother}
use Rattle.turns.proofs.Actions.{untouched}
use Rattle.turns.proofs.Parties as Law
use Rattle.turns.proofs.Wholes.{each_work, turns_of, turns_append, turns_replicate, enough_turns, whole_orders}
use Rattle.turns.proofs.Parts.{Part, byte, key, processor, lengths}
use Rattle.turns.proofs.ChannelSteps.{work_mode, channel_no_record, turn_laws}
use Rattle.turns.proofs.NamedModes.{same_names, unnamed_unit, fetched_unit, byte_of_unit, lengths_read}
use Rattle.turns.proofs.Endings.{turns_left, ending}

-- a request of processor j's list does not treat another processor's record
pub other_record : (i j : ℕ) (t : Turn) → (t.processor_number ≡ j) ⊎ (2 ≤ t.processor_number) → i ≢ j
    → eqb i t.processor_number && ltb i 2 ≡ false
other_record i j t c h = ⊎_elim (λ e. rw (none_such e, and-false)) (λ e. rw e) (tested (eqb i t.processor_number))
  where
    none_such : eqb i t.processor_number ≡ true → ltb i 2 ≡ false
    none_such e = let q = eqb-true _ _ e in ⊎_elim (λ n. absurd (h (q ∙ n))) (λ n. le-ltb i 2 (omega arith)) c

-- the work of processor j's list, and that of the channel
abbrev Carries : ℕ → Work → Type 0
Carries j (requests ts gs) = Carry j ts
Carries j (between ts gs) = ⊥
Carries j (under_way t room g ts gs) = ⊥

abbrev IsChannel : Work → Type 0
IsChannel (requests ts gs) = ⊥
IsChannel (between ts gs) = Unit {0}
IsChannel (under_way t room g ts gs) = Unit {0}

goes : (st : Standing) (t : ChannelTurn) (room : List ℕ) (g : ChannelProgress) (ts : List ChannelTurn) (gs : List ChannelGiven)
    → IsChannel (goes_on st t room g ts gs)
goes UnderWay t room g ts gs = tt
goes (Answered answer) t room g ts gs = tt

module _ (s : Settings) where
  carries_on : (j : ℕ) (m : State) (w : Work) → Carries j w → Carries j (work_then s m w)
  carries_on j m (requests [] gs) c = c
  carries_on j m (requests (t ∷ ts) gs) c = c.1
  carries_on j m (between ts gs) c = absurd c
  carries_on j m (under_way t room g ts gs) c = absurd c

  channel_goes_on : (m : State) (w : Work) → IsChannel w → IsChannel (work_then s m w)
  channel_goes_on m (requests ts gs) c = absurd c
  channel_goes_on m (between [] gs) c = tt
  channel_goes_on m (between (t ∷ ts) gs) c =
      let c = stepped s m t t.room (begun t.request) in
      goes c.progress.standing t c.room c.progress ts gs
  channel_goes_on m (under_way t room g ts gs) c =
      let c = stepped s m t room g in
      goes c.progress.standing t c.room c.progress ts gs

  record_untouched : (i j : ℕ) → i ≢ j → (m : State) (w : Work) → Carries j w → work_mode s m w (processor i) ≡ untouched
  record_untouched i j n m (requests [] gs) c = refl
  record_untouched i j n m (requests (t ∷ ts) gs) c = rw (other_record i j t c.0 n)
  record_untouched i j n m (between ts gs) c = absurd c
  record_untouched i j n m (under_way t room g ts gs) c = absurd c

  no_record : (i : ℕ) (m : State) (w : Work) → IsChannel w → work_mode s m w (processor i) ≡ untouched
  no_record i m (requests ts gs) c = absurd c
  no_record i m (between [] gs) c = refl
  no_record i m (between (t ∷ ts) gs) c = channel_no_record s m t t.room (begun t.request) UnderWay ts gs i
  no_record i m (under_way t room g ts gs) c = channel_no_record s m t room g g.standing ts gs i

  module _ (m : State) (xs ys : List Turn) (zs : List ChannelTurn) (firsts : Carry 0 xs) (seconds : Carry 1 ys) (apart : Apart s (start m xs ys zs)) where
    abbrev at : Party → ℕ → Joint State Work Party
    at j k = alone (parties s) (start m xs ys zs) j k

    abbrev OnlyBy : Party → Part → Type 0
    OnlyBy i q = Law.OnlyBy (parties s) (work_mode s) (start m xs ys zs) i q

    abbrev OnlyFetched : Part → Type 0
    OnlyFetched q = Law.OnlyFetched (parties s) (work_mode s) (start m xs ys zs) q

    units : (u : ℕ) → ((i : Party) × OnlyBy i (key u)) ⊎ OnlyFetched (key u)
    units u =
        ⊎_elim (λ h. inl (h.0, λ j n k. unnamed_unit s (at j k).shared ((at j k).own j) u (h.1 j n k)))
        (λ h. inr (λ j k. fetched_unit s (at j k).shared ((at j k).own j) u (h j k)))
        (apart u)

    -- processor 0's record is treated by its list only, and every other by processor 1's only
    of_first : (i : ℕ) → i ≢ 0 → (k : ℕ) → work_mode s (at processor0 k).shared ((at processor0 k).own processor0) (processor i) ≡ untouched
    of_first i d k =
        record_untouched i 0 d _ ((at processor0 k).own processor0)
        (each_work (parties s) (Carries 0) (carries_on 0) (start m xs ys zs) processor0 firsts k)

    of_second : (i : ℕ) → i ≢ 1 → (k : ℕ) → work_mode s (at processor1 k).shared ((at processor1 k).own processor1) (processor i) ≡ untouched
    of_second i d k =
        record_untouched i 1 d _ ((at processor1 k).own processor1)
        (each_work (parties s) (Carries 1) (carries_on 1) (start m xs ys zs) processor1 seconds k)

    of_channel_lem : (i k : ℕ) → work_mode s (at channel k).shared ((at channel k).own channel) (processor i) ≡ untouched
    of_channel_lem i k =
        no_record i _ ((at channel k).own channel) (each_work (parties s) IsChannel channel_goes_on (start m xs ys zs) channel tt k)

    first_only : (i : ℕ) → i ≢ 1 → OnlyBy processor0 (processor i)
    first_only i d processor0 n k = absurd (n refl)
    first_only i d processor1 n k = of_second i d k
    first_only i d channel n k = of_channel_lem i k

    second_only : (i : ℕ) → i ≢ 0 → OnlyBy processor1 (processor i)
    second_only i d processor0 n k = of_first i d k
    second_only i d processor1 n k = absurd (n refl)
    second_only i d channel n k = of_channel_lem i k

    records : (i : ℕ) → Dec (i ≡ 0) → (j : Party) × OnlyBy j (processor i)
    records i (yes e) = (processor0, first_only i (omega arith))
    records i (no d) = (processor1, second_only i d)

    pub parts_apart : Law.Apart (parties s) (work_mode s) (start m xs ys zs)
    parts_apart (byte a) =
        ⊎_elim (λ h. inl (h.0, λ j n k. byte_of_unit s (at j k).shared ((at j k).own j) a ∙ h.1 j n k))
        (λ h. inr (λ j k. rw (byte_of_unit s (at j k).shared ((at j k).own j) a) (h j k)))
        (units (unit_of s a))
    parts_apart (key u) = units u
    parts_apart (processor i) = inl (records i (ℕ_discrete i 0))
    parts_apart lengths = inr (λ j k. lengths_read s (at j k).shared ((at j k).own j))

pub any_order : AnyOrder
any_order s m xs ys zs firsts seconds apart =
    whole_orders (parties s) (ending s) (turn_laws s) (start m xs ys zs) (parts_apart s m xs ys zs firsts seconds apart)

-- where the lists are apart, a turn names in any run what some turn of its list names where the list runs alone
pub names_as_alone : (s : Settings) (m : State) (xs ys : List Turn) (zs : List ChannelTurn) → Carry 0 xs → Carry 1 ys → Apart s (start m xs ys zs)
    → (o : List Party) (j : Party) → let n = run (parties s) (start m xs ys zs) o in
    (k : ℕ) × ((u : ℕ) → turn_names s n.shared (n.own j) u ≡ named_at s (start m xs ys zs) j k u)
names_as_alone s m xs ys zs firsts seconds apart o j =
    let (k, e) = Law.modes_as_alone (parties s) (turn_laws s) (start m xs ys zs) (parts_apart s m xs ys zs firsts seconds apart) o j in
    (k, λ u. same_names s _ _ ((run (parties s) (start m xs ys zs) o).own j) ((alone (parties s) (start m xs ys zs) j k).own j) u (e (key u)))

-- the lists run whole one after another, from any start
pub one_after_another_is_whole : (s : Settings) (m : State) (xs ys : List Turn) (zs : List ChannelTurn)
    → Whole s (start m xs ys zs) (one_after_another xs ys zs)
one_after_another_is_whole s m xs ys zs j =
    enough_turns (parties s) (ending s) (start m xs ys zs) j (one_after_another xs ys zs) (enough j)
  where
    has : (j : Party) → turns_of (parties s) j (one_after_another xs ys zs)
        ≡ turns_of (parties s) j (replicate (length xs) processor0) + turns_of (parties s) j (replicate (length ys) processor1)
        + turns_of (parties s) j (replicate (turns_at_most zs) channel)
    has j =
        turns_append (parties s) j (replicate (length xs) processor0 ++ replicate (length ys) processor1) (replicate (turns_at_most zs) channel)
        ∙ rw (turns_append (parties s) j (replicate (length xs) processor0) (replicate (length ys) processor1))

    enough : (j : Party) → turns_left ((start m xs ys zs).own j) ≤ turns_of (parties s) j (one_after_another xs ys zs)
    enough processor0 = omega (arith, has processor0, turns_replicate (parties s) processor0 processor0 (length xs))
    enough processor1 = omega (arith, has processor1, turns_replicate (parties s) processor1 processor1 (length ys))
    enough channel = omega (arith, has channel, turns_replicate (parties s) channel channel (turns_at_most zs))

pub one_after_another_lem : OneAfterAnother
one_after_another_lem s m xs ys zs firsts seconds apart = (
  one_after_another_is_whole s m xs ys zs,
  λ o whole. any_order s m xs ys zs firsts seconds apart o (one_after_another xs ys zs) whole (one_after_another_is_whole s m xs ys zs),
)
