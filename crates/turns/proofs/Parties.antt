-- Parties that take turns, in any order. A step of a party's work is an action on what they share. The hypothesis, Apart, is about each party
-- alone: each part is treated by one party only, or by fetches only. Assumes nothing.
--
-- 0. So a step of one party and a step of another, each running alone from the start, are free of each other at every part (Pairwise).
-- 1. Two turns whose steps are free of each other commute (commuting).
-- 2. So a turn of i goes past j's run alone, and j's steps treat the parts as they did without it: Pairwise outlasts a turn (stays).
-- 3. So any two turns commute in every state of a run; a turn goes past an order of turns (delay), and a whole order past another (exchange).
-- 4. Let every party be at its end after the order p, and after q. Then p and then q ends as p does, q and then p as q does; and by 3 these two
--    are the same (any-order).
use Prim.Native.Nat.{ℕ, zero, suc}
use mathlib.Core.Path.{◌≡◌, refl, sym, ap, ◌∙◌}
use mathlib.Core.Logic.{◌≢◌, ◌⊎◌, ⊎_elim}
use mathlib.Core.List.{List, [], ◌∷◌}
use Rattle.turns.specs.Parties.{Joint, Parties, if_same, turn, run, alone}
use Rattle.turns.proofs.Actions.{Mode, untouched, Free, only_first, only_second, Reads, reads_free, Laws, swap, later_mode, later_given, commute}

-- the work x in place of i's: at another party, and where it is what i has
pub put_other : {A W : Type 0} (x y : W) (c : Dec A) → ¬ A → if_same c x y ≡ y
put_other x y (yes e) n = absurd (n e)
put_other x y (no e) n = refl

pub put_same : {I W : Type 0} (own : I → W) (i j : I) (x : W) → x ≡ own i → (c : Dec (i ≡ j)) → if_same c x (own j) ≡ own j
put_same own i j x f (yes e) = f ∙ ap own e
put_same own i j x f (no n) = refl

-- x in place of i's, and y in place of j's
put_both : {I W : Type 0} {i j l : I} → i ≢ j → (x y z : W) (c : Dec (i ≡ l)) (d : Dec (j ≡ l))
    → if_same d y (if_same c x z) ≡ if_same c x (if_same d y z)
put_both n x y z (yes e) (yes f) = absurd (n (e ∙ sym f))
put_both n x y z (yes e) (no f) = refl
put_both n x y z (no e) (yes f) = refl
put_both n x y z (no e) (no f) = refl

-- every party is at its end: a further turn changes nothing
abbrev pub Ended : {S W I : Type 0} → Parties S W I → Joint S W I → Type 0
Ended {I = I} r m = (i : I) → turn r m i ≡ m

-- how the next step of party i treats a part
abbrev pub mode_of : {S W I U : Type 0} → (S → W → U → Mode) → Joint S W I → I → U → Mode
mode_of mode m i u = mode m.shared (m.own i) u

module _ {S W I U : Type 0} (r : Parties S W I) (mode : S → W → U → Mode) (m : Joint S W I) where
  -- each party running alone from m: no party but i treats the part u; every party that treats it fetches it
  abbrev pub OnlyBy : I → U → Type 0
  OnlyBy i u = (j : I) → i ≢ j → (k : ℕ) → mode_of mode (alone r m j k) j u ≡ untouched

  abbrev pub OnlyFetched : U → Type 0
  OnlyFetched u = (j : I) (k : ℕ) → Reads (mode_of mode (alone r m j k) j u)

  -- the hypothesis, and the same of two parties and a step of each
  abbrev pub Apart : Type 0
  Apart = (u : U) → ((i : I) × OnlyBy i u) ⊎ OnlyFetched u

  abbrev pub Pairwise : Type 0
  Pairwise = (i j : I) → i ≢ j → (k l : ℕ) (u : U) → Free (mode_of mode (alone r m i k) i u) (mode_of mode (alone r m j l) j u)

  pairwise : Apart → Pairwise
  pairwise apart i j n k l u = ⊎_elim (λ o. one o.0 o.1 (r.same o.0 i)) (λ h. reads_free (h i k) (h j l)) (apart u)
    where
      one : (o : I) → OnlyBy o u → Dec (o ≡ i) → Free (mode_of mode (alone r m i k) i u) (mode_of mode (alone r m j l) j u)
      one o h (yes e) = rw (h j (λ f. n (sym e ∙ f)) l) only_first
      one o h (no d) = rw (h i d k) only_second

-- a turn of a party before others of its own
pub own_pass : {S W I : Type 0} (r : Parties S W I) (m : Joint S W I) (i : I) (k : ℕ) → alone r (turn r m i) i k ≡ alone r m i (suc k)
own_pass r m i zero = refl
own_pass r m i (suc k) = rw (own_pass r m i k)

module _ {S W I U : Type 0} {P : U → Type 0} (r : Parties S W I) {mode : S → W → U → Mode}
    {read : S → (u : U) → P u} {touch : (u : U) → P u → P u} (laws : Laws S W (λ x. W) U P r.next r.becomes mode read touch) where
  -- a turn of i leaves j's work, and what j's step does, as they are
  module _ (m : Joint S W I) (i j : I) (n : i ≢ j) (free : (u : U) → Free (mode_of mode m i u) (mode_of mode m j u)) where
    same_work : (turn r m i).own j ≡ m.own j
    same_work = put_other _ _ (r.same i j) n

    same_mode : (u : U) → mode_of mode (turn r m i) j u ≡ mode_of mode m j u
    same_mode u = rw same_work (later_mode laws m.shared (m.own i) (m.own j) free u)

    same_becomes : r.becomes (turn r m i).shared (m.own j) ≡ r.becomes m.shared (m.own j)
    same_becomes = later_given laws m.shared (m.own i) (m.own j) free

  commuting : (m : Joint S W I) (i j : I) → i ≢ j → ((u : U) → Free (mode_of mode m i u) (mode_of mode m j u))
      → turn r (turn r m i) j ≡ turn r (turn r m j) i
  commuting m i j n free =
      let n' : j ≢ i = λ e. n (sym e) in
      let free' : (u : U) → Free (mode_of mode m j u) (mode_of mode m i u) = λ u. swap (free u) in
      rw (same_work m i j n free, same_work m j i n' free', same_becomes m i j n free, same_becomes m j i n' free')
      (λ k. record {
        shared = commute laws m.shared (m.own i) (m.own j) free k;
        own = λ l. put_both n (r.becomes m.shared (m.own i)) (r.becomes m.shared (m.own j)) (m.own l) (r.same i l) (r.same j l) k;
      })

  -- a turn of i, and k turns of j alone. i's step treats the parts after them as before them
  module _ (m : Joint S W I) (i j : I) (n : i ≢ j) (free : (k : ℕ) (u : U) → Free (mode_of mode m i u) (mode_of mode (alone r m j k) j u)) where
    same_modes : (k : ℕ) (u : U) → mode_of mode (alone r m j k) i u ≡ mode_of mode m i u
    same_modes zero u = refl
    same_modes (suc k) u = same_mode (alone r m j k) j i (λ e. n (sym e)) (λ v. rw (same_modes k v) (swap (free k v))) u ∙ same_modes k u

    free_here : (k : ℕ) (u : U) → Free (mode_of mode (alone r m j k) i u) (mode_of mode (alone r m j k) j u)
    free_here k u = rw (same_modes k u) (free k u)

    -- i's turn before them ends as i's turn after them
    pass : (k : ℕ) → alone r (turn r m i) j k ≡ turn r (alone r m j k) i
    pass zero = refl
    pass (suc k) = rw (pass k) (commuting (alone r m j k) i j n (free_here k))

  module _ (m : Joint S W I) (apart : Pairwise r mode m) where
    -- after a turn of i, each step of j alone treats the parts as some step of j alone from m does
    as_before : (i j : I) (k : ℕ) → (l : ℕ) × ((u : U) → mode_of mode (alone r (turn r m i) j k) j u ≡ mode_of mode (alone r m j l) j u)
    as_before i j k = go (r.same i j)
      where
        go : Dec (i ≡ j) → (l : ℕ) × ((u : U) → mode_of mode (alone r (turn r m i) j k) j u ≡ mode_of mode (alone r m j l) j u)
        go (yes e) = (suc k, λ u. rw (e, own_pass r m j k))
        go (no n) =
            let free = apart i j n 0 in
            (k, λ u. rw (pass m i j n free k) (same_mode (alone r m j k) i j n (free_here m i j n free k) u))

    stays : (i : I) → Pairwise r mode (turn r m i)
    stays i a b n k l u =
        let (k', e) = as_before i a k in
        let (l', f) = as_before i b l in
        rw (e u, f u) (apart a b n k' l' u)

    any_two : (i j : I) → turn r (turn r m i) j ≡ turn r (turn r m j) i
    any_two i j = go (r.same i j)
      where
        go : Dec (i ≡ j) → turn r (turn r m i) j ≡ turn r (turn r m j) i
        go (yes e) = rw e
        go (no n) = commuting m i j n (apart i j n 0 0)

  -- so after any order of turns a step of j treats the parts as some step of j alone from m does
  as_alone : (m : Joint S W I) → Pairwise r mode m → (o : List I) (j : I)
      → (k : ℕ) × ((u : U) → mode_of mode (run r m o) j u ≡ mode_of mode (alone r m j k) j u)
  as_alone m apart [] j = (0, λ u. refl)
  as_alone m apart (i ∷ o) j =
      let (k, e) = as_alone (turn r m i) (stays m apart i) o j in
      let (l, f) = as_before m apart i j k in
      (l, λ u. e u ∙ f u)

  pub modes_as_alone : (m : Joint S W I) → Apart r mode m → (o : List I) (j : I)
      → (k : ℕ) × ((u : U) → mode_of mode (run r m o) j u ≡ mode_of mode (alone r m j k) j u)
  modes_as_alone m apart = as_alone m (pairwise r mode m apart)

  -- a turn before an order of turns, or after it
  delay : (m : Joint S W I) → Pairwise r mode m → (i : I) (o : List I) → run r (turn r m i) o ≡ turn r (run r m o) i
  delay m apart i [] = refl
  delay m apart i (j ∷ o) = rw (any_two m apart i j) (delay (turn r m j) (stays m apart j) i o)

  -- two orders, one after the other
  exchange : (m : Joint S W I) → Pairwise r mode m → (p q : List I) → run r (run r m p) q ≡ run r (run r m q) p
  exchange m apart [] q = refl
  exchange m apart (i ∷ p) q = exchange (turn r m i) (stays m apart i) p q ∙ ap (λ n. run r n p) (delay m apart i q)

  idle : (m : Joint S W I) → Ended r m → (o : List I) → run r m o ≡ m
  idle m end [] = refl
  idle m end (i ∷ o) = rw (end i) (idle m end o)

  pub any_order : (m : Joint S W I) → Apart r mode m → (p q : List I) → Ended r (run r m p) → Ended r (run r m q) → run r m p ≡ run r m q
  any_order m apart p q end end' = sym (idle _ end q) ∙ exchange m (pairwise r mode m apart) p q ∙ idle _ end' p
