-- The claim over the processors' two lists follows from that over three, the channel's being empty: an order of turns of the two lists is an order of
-- turns of the parties, and what holds of each request of a list that runs alone holds of each turn of the party.
-- Assumes nothing.
use Prim.Native.Nat.{ℕ}
use mathlib.Core.Path.{◌≡◌, refl, sym, ap, ◌∙◌}
use mathlib.Core.Bool.{Bool, true, false, cond}
use mathlib.Core.Logic.{◌≢◌, ⊎_elim, inl, inr}
use mathlib.Core.List.{List, [], ◌∷◌, ◌++◌, append_assoc, append-nil}
use Rattle.machine.specs.declared.Settings.{Settings}
use Rattle.machine.specs.Turns.{State, Turn, Given, next, given}
use Rattle.machine.proofs.Verdicts.{not_both}
use Rattle.turns.specs.Units.{unnamed, fetching, otherwise, named, is_fetch}
use Rattle.turns.specs.Parties.{Joint, turn, alone}
use Rattle.turns.specs.Parties as Turns
use Rattle.turns.specs.ThreeLists.{Work, requests, between, under_way, turn_names, Party, processor0, processor1, channel, parties, start, Carry}
use Rattle.turns.specs.ThreeLists.{Whole}
use Rattle.turns.specs.ThreeLists as Three
use Rattle.turns.specs.TwoLists.{Order, done, first, second, first_then_second, End, run, Every, Carries, Unnamed, FetchesOnly, Apart, AnyOrder}
use Rattle.turns.specs.TwoLists.{AsFirstThenSecond}
use Rattle.turns.proofs.Wholes.{own_work, each_step, at_end_lem, at_rest}
use Rattle.turns.proofs.NamedModes.{unnamed_not_otherwise, fetching_not_otherwise}
use Rattle.turns.proofs.ThreeLists as Claim

-- whose turn is the first, whose the second, and so on
abbrev parts : {A : Type 0} {xs ys : List A} → Order xs ys → List Party
parts done = []
parts (first o) = processor0 ∷ parts o
parts (second o) = processor1 ∷ parts o

-- the requests left of the two lists, and what those that are done gave back
abbrev works : List Turn → List Given → List Turn → List Given → Party → Work
works xs gs ys hs processor0 = requests xs gs
works xs gs ys hs processor1 = requests ys hs
works xs gs ys hs channel = between [] []

abbrev joint : State → List Turn → List Given → List Turn → List Given → Joint State Work Party
joint m xs gs ys hs = record { shared = m; own = works xs gs ys hs }

abbrev given_back : Work → List Given
given_back (requests ts gs) = gs
given_back (between ts gs) = []
given_back (under_way t room g ts gs) = []

module _ (s : Settings) where
  -- the run in such an order
  turn_first : (m : State) (t : Turn) (xs ys : List Turn) (gs hs : List Given)
      → turn (parties s) (joint m (t ∷ xs) gs ys hs) processor0 ≡ joint (next s m t) xs (gs ++ given s m t ∷ []) ys hs
  turn_first m t xs ys gs hs = λ k. record { shared = next s m t; own = λ j. at j k }
    where
      at : (j : Party) → (turn (parties s) (joint m (t ∷ xs) gs ys hs) processor0).own j ≡ works xs (gs ++ given s m t ∷ []) ys hs j
      at processor0 = refl
      at processor1 = refl
      at channel = refl

  turn_second : (m : State) (t : Turn) (xs ys : List Turn) (gs hs : List Given)
      → turn (parties s) (joint m xs gs (t ∷ ys) hs) processor1 ≡ joint (next s m t) xs gs ys (hs ++ given s m t ∷ [])
  turn_second m t xs ys gs hs = λ k. record { shared = next s m t; own = λ j. at j k }
    where
      at : (j : Party) → (turn (parties s) (joint m xs gs (t ∷ ys) hs) processor1).own j ≡ works xs gs ys (hs ++ given s m t ∷ []) j
      at processor0 = refl
      at processor1 = refl
      at channel = refl

  abbrev ending : State → {xs ys : List Turn} → Order xs ys → End State Given
  ending m o = run (next s) (given s) m o

  run_parts : (m : State) {xs ys : List Turn} (o : Order xs ys) (gs hs : List Given)
      → Turns.run (parties s) (joint m xs gs ys hs) (parts o) ≡ joint (ending m o).state [] (gs ++ (ending m o).first) [] (hs ++ (ending m o).second)
  unfolding run
  run_parts m done gs hs = rw (append-nil gs, append-nil hs)
  run_parts m (first {x = t} {xs = xs} {ys = ys} o) gs hs =
      ap (λ n. Turns.run (parties s) n (parts o)) (turn_first m t xs ys gs hs) ∙ run_parts (next s m t) o (gs ++ given s m t ∷ []) hs
      ∙ rw (append_assoc gs)
  run_parts m (second {y = t} {xs = xs} {ys = ys} o) gs hs =
      ap (λ n. Turns.run (parties s) n (parts o)) (turn_second m t xs ys gs hs) ∙ run_parts (next s m t) o gs (hs ++ given s m t ∷ [])
      ∙ rw (append_assoc hs)

  run_start : (m : State) {xs ys : List Turn} (o : Order xs ys)
      → Turns.run (parties s) (start m xs ys []) (parts o) ≡ joint (ending m o).state [] ([] ++ (ending m o).first) [] ([] ++ (ending m o).second)
  run_start m {xs} {ys} o = ap (λ n. Turns.run (parties s) n (parts o)) begun ∙ run_parts m o [] []
    where
      at : (j : Party) → (start m xs ys []).own j ≡ works xs [] ys [] j
      at processor0 = refl
      at processor1 = refl
      at channel = refl

      begun : start m xs ys [] ≡ joint m xs [] ys []
      begun = λ k. record { shared = m; own = λ j. at j k }

  -- what holds of every request of a list that runs alone holds of each next request of the party
  abbrev Next : (State → Turn → Type 0) → State → Work → Type 0
  Next p m (requests [] gs) = Unit {0}
  Next p m (requests (t ∷ ts) gs) = p m t
  Next p m (between ts gs) = ⊥
  Next p m (under_way t room g ts gs) = ⊥

  each_next : (p : State → Turn → Type 0) (i : Party) (xs : List Turn) (gs : List Given) (n : Joint State Work Party) → n.own i ≡ requests xs gs
      → Every (next s) p n.shared xs → (k : ℕ) → Next p (alone (parties s) n i k).shared ((alone (parties s) n i k).own i)
  each_next p i [] gs n e h =
      at_end_lem (parties s) (λ n. Next p n.shared (n.own i)) n i (at_rest (parties s) n i (rw e) (rw e)) (rw e tt)
  each_next p i (t ∷ xs) gs n e h =
      each_step (parties s) (λ n. Next p n.shared (n.own i)) n i (rw e h.0)
      (each_next p i xs (gs ++ given s n.shared t ∷ []) (turn (parties s) n i) (own_work (parties s) n i ∙ rw e) (rw e h.1))

  next_unnamed : (u : ℕ) (m : State) (w : Work) → Next (Unnamed s u) m w → turn_names s m w u ≡ unnamed
  next_unnamed u m (requests [] gs) h = refl
  next_unnamed u m (requests (t ∷ ts) gs) h = rw h
  next_unnamed u m (between ts gs) h = absurd h
  next_unnamed u m (under_way t room g ts gs) h = absurd h

  next_fetches : (u : ℕ) (m : State) (w : Work) → Next (FetchesOnly s u) m w → turn_names s m w u ≢ otherwise
  next_fetches u m (requests [] gs) h = unnamed_not_otherwise
  next_fetches u m (requests (t ∷ ts) gs) h = by (named s u m t) (is_fetch t.request) h
    where
      by : (is_named is_fetched : Bool) → (is_named ≡ true → is_fetched ≡ true) → cond is_named (cond is_fetched fetching otherwise) unnamed ≢ otherwise
      by false f h = unnamed_not_otherwise
      by true true h = fetching_not_otherwise
      by true false h = absurd (not_both (h refl) refl)
  next_fetches u m (between ts gs) h = absurd h
  next_fetches u m (under_way t room g ts gs) h = absurd h

  module _ (m : State) (xs ys : List Turn) where
    abbrev of_first : (p : State → Turn → Type 0) → Every (next s) p m xs → (k : ℕ)
        → Next p (alone (parties s) (start m xs ys []) processor0 k).shared ((alone (parties s) (start m xs ys []) processor0 k).own processor0)
    of_first p h = each_next p processor0 xs [] (start m xs ys []) refl h

    abbrev of_second : (p : State → Turn → Type 0) → Every (next s) p m ys → (k : ℕ)
        → Next p (alone (parties s) (start m xs ys []) processor1 k).shared ((alone (parties s) (start m xs ys []) processor1 k).own processor1)
    of_second p h = each_next p processor1 ys [] (start m xs ys []) refl h

    -- the channel names nothing
    of_channel_lem : (u k : ℕ) → Three.named_at s (start m xs ys []) channel k u ≡ unnamed
    of_channel_lem u =
        at_end_lem (parties s) (λ n. turn_names s n.shared (n.own channel) u ≡ unnamed) (start m xs ys []) channel
        (at_rest (parties s) (start m xs ys []) channel refl refl) refl

    apart : ((u : ℕ) → Apart s m xs ys u) → Three.Apart s (start m xs ys [])
    apart h u =
        ⊎_elim (λ f. inl (processor1, second_only f)) (⊎_elim (λ f. inl (processor0, first_only f)) (λ f. inr (fetches_only f.0 f.1))) (h u)
      where
        second_only : Every (next s) (Unnamed s u) m xs → (j : Party) → processor1 ≢ j → (k : ℕ) → Three.named_at s (start m xs ys []) j k u ≡ unnamed
        second_only f processor0 n k = next_unnamed u _ ((alone (parties s) (start m xs ys []) processor0 k).own processor0) (of_first (Unnamed s u) f k)
        second_only f processor1 n k = absurd (n refl)
        second_only f channel n k = of_channel_lem u k

        first_only : Every (next s) (Unnamed s u) m ys → (j : Party) → processor0 ≢ j → (k : ℕ) → Three.named_at s (start m xs ys []) j k u ≡ unnamed
        first_only f processor0 n k = absurd (n refl)
        first_only f processor1 n k = next_unnamed u _ ((alone (parties s) (start m xs ys []) processor1 k).own processor1) (of_second (Unnamed s u) f k)
        first_only f channel n k = of_channel_lem u k

        fetches_only : Every (next s) (FetchesOnly s u) m xs → Every (next s) (FetchesOnly s u) m ys → (j : Party) (k : ℕ)
            → Three.named_at s (start m xs ys []) j k u ≢ otherwise
        fetches_only f g processor0 k =
            next_fetches u _ ((alone (parties s) (start m xs ys []) processor0 k).own processor0) (of_first (FetchesOnly s u) f k)
        fetches_only f g processor1 k =
            next_fetches u _ ((alone (parties s) (start m xs ys []) processor1 k).own processor1) (of_second (FetchesOnly s u) g k)
        fetches_only f g channel k = rw (of_channel_lem u k) unnamed_not_otherwise

    whole : (o : Order xs ys) → Whole s (start m xs ys []) (parts o)
    whole o i = rw (run_start m o) (at i)
      where
        at : (i : Party) → Three.at_end (works [] ([] ++ (ending m o).first) [] ([] ++ (ending m o).second) i) ≡ true
        at processor0 = refl
        at processor1 = refl
        at channel = refl

  carry : (i : ℕ) (m : State) (xs : List Turn) → Every (next s) (Carries i) m xs → Carry i xs
  carry i m [] h = tt
  carry i m (t ∷ xs) h = (h.0, carry i (next s m t) xs h.1)

pub any_order : AnyOrder
any_order s m xs ys firsts seconds h o p =
    λ k. record { state = (same k).shared; first = given_back ((same k).own processor0); second = given_back ((same k).own processor1) }
  where
    same : joint (ending s m o).state [] ([] ++ (ending s m o).first) [] ([] ++ (ending s m o).second)
        ≡ joint (ending s m p).state [] ([] ++ (ending s m p).first) [] ([] ++ (ending s m p).second)
    same =
        sym (run_start s m o)
        ∙ Claim.any_order s m xs ys [] (carry s 0 m xs firsts) (carry s 1 m ys seconds) (apart s m xs ys h) (parts o) (parts p)
        (whole s m xs ys o) (whole s m xs ys p)
        ∙ run_start s m p

-- in particular, each order ends as the first list run whole and then the second
pub as_first_then_second : AsFirstThenSecond
as_first_then_second s m xs ys firsts seconds apart o = any_order s m xs ys firsts seconds apart o (first_then_second xs ys)

-- a list that runs alone: the state at its end, and what its elements give back
abbrev through : {S A : Type 0} → (S → A → S) → S → List A → S
through next m [] = m
through next m (x ∷ xs) = through next (next m x) xs

abbrev gives : {S A R : Type 0} → (S → A → S) → (S → A → R) → S → List A → List R
gives next give m [] = []
gives next give m (x ∷ xs) = give m x ∷ gives next give (next m x) xs

-- which is what that order is: it ends where the second list ends that runs alone from the end of the first
pub first_then_second_lem : {S A R : Type 0} (next : S → A → S) (give : S → A → R) (m : S) (xs ys : List A)
    → run next give m (first_then_second xs ys) ≡ record {
      state = through next (through next m xs) ys;
      first = gives next give m xs;
      second = gives next give (through next m xs) ys;
    }
unfolding run first_then_second
first_then_second_lem next give m [] [] = refl
first_then_second_lem next give m [] (y ∷ ys) = rw (first_then_second_lem next give (next m y) [] ys)
first_then_second_lem next give m (x ∷ xs) ys = rw (first_then_second_lem next give (next m x) xs ys)
