-- Parties whose work comes to an end. Each turn takes something from what is left of the work, and a turn of a party at its end does nothing. So
-- all orders in which every party's work comes to its end are alike, and an order that has enough turns of each party is one. Assumes nothing.
use Prim.Native.Nat.{ℕ, zero, suc, ◌+◌, ◌-◌, ◌≤◌}
use mathlib.Core.Path.{◌≡◌, refl, ap, ◌∙◌}
use mathlib.Core.Bool.{Bool, true}
use mathlib.Core.List.{List, [], ◌∷◌, ◌++◌}
use native.Mathlib.Omega.{arith}
use lib.ListN.{replicate}
use Rattle.turns.specs.Parties.{Joint, Parties, if_same, turn, run, alone}
use Rattle.turns.proofs.Actions.{Mode, Laws}
use Rattle.turns.proofs.Parties.{put_same, own_pass, Apart, any_order}

put_own : {A W : Type 0} (x y : W) (c : Dec A) → A → if_same c x y ≡ x
put_own x y (yes e) a = refl
put_own x y (no n) a = absurd (n a)

module _ {S W I : Type 0} (r : Parties S W I) where
  -- a turn changes nothing where the step leaves what is shared, and the work, as they are
  pub at_rest : (m : Joint S W I) (i : I) → r.next m.shared (m.own i) ≡ m.shared → r.becomes m.shared (m.own i) ≡ m.own i
      → turn r m i ≡ m
  at_rest m i e f = λ k. record { shared = e k; own = λ j. put_same m.own i j _ f (r.same i j) k }

  pub own_work : (m : Joint S W I) (i : I) → (turn r m i).own i ≡ r.becomes m.shared (m.own i)
  own_work m i = put_own _ _ (r.same i i) refl

  -- what every step keeps of a work holds at each step of a party that runs alone
  pub each_work : (p : W → Type 0) → ((s : S) (w : W) → p w → p (r.becomes s w)) → (m : Joint S W I) (i : I) → p (m.own i) → (k : ℕ)
      → p ((alone r m i k).own i)
  each_work p keeps m i h zero = h
  each_work p keeps m i h (suc k) = rw (own_work (alone r m i k) i) (keeps _ _ (each_work p keeps m i h k))

  -- what holds at each step of a party that runs alone: now, and at each step after its turn; or now, where its turn changes nothing
  pub each_step : (p : Joint S W I → Type 0) (m : Joint S W I) (i : I) → p m → ((k : ℕ) → p (alone r (turn r m i) i k))
      → (k : ℕ) → p (alone r m i k)
  each_step p m i now later zero = now
  each_step p m i now later (suc k) = rw (← own_pass r m i k) (later k)

  pub at_end_lem : (p : Joint S W I → Type 0) (m : Joint S W I) (i : I) → turn r m i ≡ m → p m → (k : ℕ) → p (alone r m i k)
  at_end_lem p m i e now zero = now
  at_end_lem p m i e now (suc k) = rw (← own_pass r m i k, e) (at_end_lem p m i e now k)

  pub run_alone : (m : Joint S W I) (i : I) (k : ℕ) → run r m (replicate k i) ≡ alone r m i k
  run_alone m i zero = refl
  run_alone m i (suc k) = run_alone (turn r m i) i k ∙ own_pass r m i k

  -- how many turns of party j an order has
  abbrev pub turns_of : I → List I → ℕ
  turns_of j [] = 0
  turns_of j (i ∷ o) = if_same (r.same i j) (suc (turns_of j o)) (turns_of j o)

  pub turns_append : (j : I) (o p : List I) → turns_of j (o ++ p) ≡ turns_of j o + turns_of j p
  turns_append j [] p = omega arith
  turns_append j (i ∷ o) p = rw (turns_append j o p) (by (r.same i j) (turns_of j o) (turns_of j p))
    where
      by : {A : Type 0} (c : Dec A) (k l : ℕ) → if_same c (suc (k + l)) (k + l) ≡ if_same c (suc k) k + l
      by (yes e) k l = omega arith
      by (no n) k l = refl

  pub turns_replicate : (j i : I) (k : ℕ) → turns_of j (replicate k i) ≡ if_same (r.same i j) k 0
  turns_replicate j i zero = by (r.same i j)
    where
      by : {A : Type 0} (c : Dec A) → ◌≡◌ {A = ℕ} 0 (if_same c 0 0)
      by (yes e) = refl
      by (no n) = refl
  turns_replicate j i (suc k) = rw (turns_replicate j i k) (by (r.same i j))
    where
      by : {A : Type 0} (c : Dec A) → if_same c (suc (if_same c k 0)) (if_same c k 0) ≡ if_same c (suc k) 0
      by (yes e) = refl
      by (no n) = refl

-- what is asked of `left`, how many turns a work takes at the most, and of `at_end`, whether a work is at its end
pub record Ending {S W I : Type 0} (r : Parties S W I) (at_end : W → Bool) (left : W → ℕ) : Type 0 where
  pub falls : (s : S) (w : W) → left (r.becomes s w) ≤ left w - 1
  pub ends : (w : W) → left w ≡ 0 → at_end w ≡ true
  pub rests : (s : S) (w : W) → at_end w ≡ true → (r.next s w ≡ s) × (r.becomes s w ≡ w)

module _ {S W I : Type 0} (r : Parties S W I) {at_end : W → Bool} {left : W → ℕ} (ending : Ending r at_end left) where
  pub rested : (m : Joint S W I) (i : I) → at_end (m.own i) ≡ true → turn r m i ≡ m
  rested m i e =
      let (f, g) = ending.rests m.shared (m.own i) e in
      at_rest r m i f g

  -- each turn of j takes something from what is left of j's work, and no other turn changes it
  run_falls : (m : Joint S W I) (j : I) (o : List I) → left ((run r m o).own j) ≤ left (m.own j) - turns_of r j o
  run_falls m j [] = omega arith
  run_falls m j (i ∷ o) = go (r.same i j) refl (run_falls (turn r m i) j o)
    where
      go : (c : Dec (i ≡ j)) → r.same i j ≡ c
          → left ((run r (turn r m i) o).own j) ≤ left ((turn r m i).own j) - turns_of r j o
          → left ((run r (turn r m i) o).own j) ≤ left (m.own j) - if_same c (suc (turns_of r j o)) (turns_of r j o)
      go (yes e) q h =
          let now : (turn r m i).own j ≡ r.becomes m.shared (m.own j) = rw (q, e) in
          omega (arith, ap left now, ending.falls m.shared (m.own j))
      go (no n) q h = let now : (turn r m i).own j ≡ m.own j = rw q in omega (arith, ap left now)

  pub enough_turns : (m : Joint S W I) (j : I) (o : List I) → left (m.own j) ≤ turns_of r j o → at_end ((run r m o).own j) ≡ true
  enough_turns m j o h = ending.ends _ (omega (arith, run_falls m j o))

  pub whole_orders : {U : Type 0} {P : U → Type 0} {mode : S → W → U → Mode} {read : S → (u : U) → P u} {touch : (u : U) → P u → P u}
      (laws : Laws S W (λ w. W) U P r.next r.becomes mode read touch) (m : Joint S W I) → Apart r mode m → (p q : List I)
      → ((i : I) → at_end ((run r m p).own i) ≡ true) → ((i : I) → at_end ((run r m q).own i) ≡ true) → run r m p ≡ run r m q
  whole_orders laws m apart p q end end' = any_order r laws m apart p q (λ i. rested _ i (end i)) (λ i. rested _ i (end' i))
