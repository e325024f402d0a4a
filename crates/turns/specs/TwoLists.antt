-- Two lists, those of the processors: the orders of turns, the run in such an order, and the claim that the order does not matter. It follows from
-- the claim over three lists, the channel's being empty.
use Rattle.std.specs.Prelude.{ℕ, ◌≤◌, ◌≡◌, true, false, ◌⊎◌, List, [], ◌∷◌}
use Rattle.machine.specs.declared.Settings.{Settings}
use Rattle.machine.specs.Turns.{State, Turn, next, given}
use Rattle.turns.specs.Units.{named, is_fetch}

-- First, two lists of anything.

-- an order of turns of two lists: each list's own order is kept
pub data Order {A : Type 0} : List A → List A → Type 0 where
  done : Order [] []
  first : {x : A} {xs ys : List A} → Order xs ys → Order (x ∷ xs) ys
  second : {y : A} {xs ys : List A} → Order xs ys → Order xs (y ∷ ys)

-- the first list whole, and then the second
unfoldable pub first_then_second : {A : Type 0} (xs ys : List A) → Order xs ys
first_then_second [] [] = done
first_then_second [] (y ∷ ys) = second (first_then_second [] ys)
first_then_second (x ∷ xs) ys = first (first_then_second xs ys)

-- the end of a run: the state, and what each element of the first list and each of the second gave back
pub record End (S R : Type 0) : Type 0 where
  pub state : S
  pub first : List R
  pub second : List R

-- the run in an order of turns. An element x that finds the state m leaves the state `next m x` and gives back `give m x`
unfoldable pub run : {S A R : Type 0} (next : S → A → S) (give : S → A → R) (m : S) {xs ys : List A} → Order xs ys → End S R
run next give m done = record { state = m; first = []; second = [] }
run next give m (first {x = x} o) =
    let e = run next give (next m x) o in
    record { state = e.state; first = give m x ∷ e.first; second = e.second }
run next give m (second {y = y} o) =
    let e = run next give (next m y) o in
    record { state = e.state; first = e.first; second = give m y ∷ e.second }

-- every element of a list that runs alone from m has the property p, with the state that it finds
abbrev pub Every : {S A : Type 0} → (S → A → S) → (S → A → Type 0) → S → List A → Type 0
Every next p m [] = Unit {0}
Every next p m (x ∷ xs) = p m x × Every next p (next m x) xs

-- Now the lists of the two processors.

-- a request of processor i's list carries i, or a number that isn't 0 or 1
abbrev pub Carries : ℕ → State → Turn → Type 0
Carries i m t = (t.processor_number ≡ i) ⊎ (2 ≤ t.processor_number)

-- a request that finds the state m does not name unit u
abbrev pub Unnamed : Settings → ℕ → State → Turn → Type 0
Unnamed s u m t = named s u m t ≡ false

-- a request that finds the state m and names unit u is a fetch
abbrev pub FetchesOnly : Settings → ℕ → State → Turn → Type 0
FetchesOnly s u m t = named s u m t ≡ true → is_fetch t.request ≡ true

-- unit u is named by one list only, or by fetches only; each list runs alone from m
abbrev pub Apart : Settings → State → List Turn → List Turn → ℕ → Type 0
Apart s m xs ys u =
    Every (next s) (Unnamed s u) m xs
    ⊎ (Every (next s) (Unnamed s u) m ys
    ⊎ (Every (next s) (FetchesOnly s u) m xs × Every (next s) (FetchesOnly s u) m ys))

-- the claim. The first list is processor 0's, the second processor 1's, and either may be empty; the start is any. Any two orders of turns
-- end with the same storage, keys and records, and give back the same answers and buffers, request by request
abbrev pub AnyOrder : Type 0
AnyOrder =
    (s : Settings) (m : State) (xs ys : List Turn)
    → Every (next s) (Carries 0) m xs
    → Every (next s) (Carries 1) m ys
    → ((u : ℕ) → Apart s m xs ys u)
    → (o p : Order xs ys) → run (next s) (given s) m o ≡ run (next s) (given s) m p

-- the same claim against one order: whatever the order of turns, the run is that of the first list whole and then the second
abbrev pub AsFirstThenSecond : Type 0
AsFirstThenSecond =
    (s : Settings) (m : State) (xs ys : List Turn)
    → Every (next s) (Carries 0) m xs
    → Every (next s) (Carries 1) m ys
    → ((u : ℕ) → Apart s m xs ys u)
    → (o : Order xs ys) → run (next s) (given s) m o ≡ run (next s) (given s) m (first_then_second xs ys)
