-- Parties that take turns. They share a state, and each has work of its own: the requests left to it, how far the one under way has come, and
-- what those that are done gave back. How many turns a work takes may depend on what it finds.
use Rattle.std.specs.Prelude.{ℕ, zero, suc, ◌≡◌, List, [], ◌∷◌}

-- the joint state: what the parties share, and the work of each
pub record Joint (S W I : Type 0) : Type 0 where
  pub shared : S
  pub own : I → W

-- a party with the work w that takes a turn and finds the shared state m leaves the state `next m w` to all, and its work is `becomes m w` then.
-- Two parties can be told apart
pub record Parties (S W I : Type 0) : Type 0 where
  pub same : (i j : I) → Dec (i ≡ j)
  pub next : S → W → S
  pub becomes : S → W → W

abbrev pub if_same : {A W : Type 0} → Dec A → W → W → W
if_same (yes e) x y = x
if_same (no n) x y = y

module _ {S W I : Type 0} (r : Parties S W I) where
  -- a turn of party i: the work of every other party stays
  abbrev pub turn : Joint S W I → I → Joint S W I
  turn m i =
      let w = r.becomes m.shared (m.own i) in
      record { shared = r.next m.shared (m.own i); own = λ j. if_same (r.same i j) w (m.own j) }

  -- the run in an order of turns: the list says whose turn is the first, whose the second, and so on
  abbrev pub run : Joint S W I → List I → Joint S W I
  run m [] = m
  run m (i ∷ o) = run (turn m i) o

  -- k turns of party i alone
  abbrev pub alone : Joint S W I → I → ℕ → Joint S W I
  alone m i zero = m
  alone m i (suc k) = turn (alone m i k) i
