-- Rows 19 and 20 of the table of small facts, on every storage of 65,536 bytes and whatever the bytes stored. Row 19 follows from the claim
-- about any order, and row 20 shows that the claim needs its hypothesis. The steps are computed. Beside them, lists of
-- requests of all kinds, and fetches of any addresses, which may share their units. Assumes nothing.
use mathlib.Core.Path.{◌≡◌, refl, sym, ap, subst, ◌∙◌}
use mathlib.Core.Logic.{◌≢◌, inl, inr}
use mathlib.Core.List.{List, [], ◌∷◌}
use Prim.Native.Nat.{ℕ}
use native.Mathlib.Decide.{ℕ_discrete}
use native.Mathlib.Omega.{arith}
use lib.ListN.{length, get_or, set, replicate, length-set}
use lib.Seq.{get_or-set_same, set-set}
use borrow.Author.Tests.{ne_eqb}
use Rattle.machine.specs.declared.Settings.{Settings}
use Rattle.machine.specs.declared.Request.TheVariants.{Access, Key, Prefix}
use Rattle.machine.specs.declared.KeyInstruction.TheVariants.{Ssk, Iske}
use Rattle.machine.specs.declared.PrefixInstruction.TheVariants.{SetPrefix}
use Rattle.machine.specs.declared.AccessKind.TheVariants.{Fetch}
use Rattle.machine.specs.Lists.{written}
use Rattle.machine.specs.Key.{key_of, after_store, joined}
use Rattle.machine.specs.Answers.{line, first_of, first_byte, first_line}
use Rattle.machine.specs.Prefixing.{prefixed}
use Rattle.machine.specs.Protection.{permitted, low_protected}
use Rattle.machine.specs.KeyInstructions.{word_given, keys_left, code_left}
use Rattle.machine.specs.Table.{addressing, protection, before_protection, verdict}
use Rattle.machine.specs.Step.{storage_left, buffer_left, keys_recorded, completed, performed, step}
use Rattle.machine.specs.Pair.{served, pair_step}
use Rattle.machine.specs.Lists.{any_below}
use Rattle.turns.specs.Units.{names}
use Rattle.machine.specs.Turns.{State, Turn, Given, next, given}
use Rattle.turns.specs.TwoLists.{Order, done, first, second, End, run, Every, Unnamed, Apart}
use Rattle.turns.proofs.Starts.{settings, processor, memory, store, asked}
use Rattle.turns.proofs.TwoLists.{any_order}

abbrev ending : List ℕ → {xs ys : List Turn} → Order xs ys → End State Given
ending storage o = run (next settings) (given settings) (memory storage) o

module _ (storage : List ℕ) (h : length storage ≡ 65536) where
  -- 19: both store at real 0, twice each. Processor 0 names unit 0 only and processor 1 unit 2 only, and all orders agree
  module _ (a b c d : ℕ) where
    abbrev firsts : List Turn
    firsts = store 0 0 a ∷ store 0 0 b ∷ []

    abbrev seconds : List Turn
    seconds = store 1 0 c ∷ store 1 0 d ∷ []

    pub disjoint_units : (u : ℕ) → Apart settings (memory storage) firsts seconds u
    unfolding written after_store line first_of first_byte first_line prefixed permitted low_protected addressing protection
        before_protection verdict storage_left buffer_left keys_recorded completed performed step served pair_step any_below names
    disjoint_units u = go (ℕ_discrete 0 u)
      where
        go : Dec (0 ≡ u) → Apart settings (memory storage) firsts seconds u
        go (yes e) = inr (inl (rw (h, ← e), (rw (h, length-set storage 4096 c, h, ← e), tt)))
        go (no e) = inl (rw (h, ne_eqb 0 u e), (rw (h, length-set storage 0 a, h, ne_eqb 0 u e), tt))

    pub orders_agree : (o p : Order firsts seconds) → ending storage o ≡ ending storage p
    orders_agree = any_order settings (memory storage) firsts seconds (inl refl, (inl refl, tt)) (inl refl, (inl refl, tt)) disjoint_units

  -- Lists of requests of all kinds: processor 0 sets its prefix to 8192 and then stores at real 0, which is absolute 8192; it sets a key; an
  -- access of length 0 is refused; and a request carries the number 2. Processor 1 stores at real 0, absolute 4096; it inserts a key of a block;
  -- and a request carries the number 2. They name units 4 and 6, and units 2, 8 and 9
  module _ (a b : ℕ) where
    abbrev last : List Turn
    last = asked 0 (Key (Ssk 0x36 0x3000)) ∷ asked 0 (Access Fetch 0 0) ∷ store 2 0 a ∷ []

    abbrev mixed : List Turn
    mixed = asked 0 (Prefix (SetPrefix 8192)) ∷ store 0 0 a ∷ last

    abbrev others : List Turn
    others = store 1 0 b ∷ asked 1 (Key (Iske 0 0x4000)) ∷ store 2 0 b ∷ []

    -- what processor 0's first two requests leave
    abbrev with_prefix8192 : State
    with_prefix8192 = record { storage = storage; keys = replicate 32 0; processors = processor 8192 ∷ processor 4096 ∷ [] }

    abbrev stored : State
    stored = record { storage = set storage 8192 a; keys = set (replicate 32 0) 4 6; processors = processor 8192 ∷ processor 4096 ∷ [] }

    prefix_set : next settings (memory storage) (asked 0 (Prefix (SetPrefix 8192))) ≡ with_prefix8192
    unfolding line first_of first_line addressing protection before_protection verdict completed performed step served pair_step
    prefix_set = rw h

    byte_stored : next settings with_prefix8192 (store 0 0 a) ≡ stored
    unfolding written after_store line first_of first_byte first_line prefixed permitted low_protected addressing
        protection before_protection verdict storage_left buffer_left keys_recorded completed performed step served pair_step
    byte_stored = rw h

    pub mixed_apart : (u : ℕ) → Apart settings (memory storage) mixed others u
    unfolding written key_of after_store line first_of first_byte first_line prefixed permitted low_protected word_given keys_left code_left
        addressing protection before_protection verdict storage_left buffer_left keys_recorded completed performed step
        served pair_step any_below names joined
    mixed_apart u = go (ℕ_discrete 4 u) (ℕ_discrete 6 u)
      where
        go : Dec (4 ≡ u) → Dec (6 ≡ u) → Apart settings (memory storage) mixed others u
        go (yes e) d = inr (inl (rw (h, ← e), (rw (h, length-set storage 4096 b, h, ← e), (refl, tt))))
        go (no d) (yes e) = inr (inl (rw (h, ← e), (rw (h, length-set storage 4096 b, h, ← e), (refl, tt))))
        go (no d) (no e) = inl (
          rw h,
          from (store 0 0 a ∷ last) (sym prefix_set) (
            rw (h, ne_eqb 4 u d),
            from last (sym byte_stored)
                (rw (length-set storage 8192 a, h, ne_eqb 6 u e), (rw (length-set storage 8192 a, h, length-set storage 8192 a, h), (refl, tt))),
          ),
        )
          where
            from : {m n : State} (xs : List Turn) → m ≡ n
                → Every (next settings) (Unnamed settings u) m xs → Every (next settings) (Unnamed settings u) n xs
            from xs q = subst (λ k. Every (next settings) (Unnamed settings u) k xs) q

    pub mixed_agree : (o p : Order mixed others) → ending storage o ≡ ending storage p
    mixed_agree =
        any_order settings (memory storage) mixed others (inl refl, (inl refl, (inl refl, (inl refl, (inr (omega arith), tt)))))
        (inl refl, (inl refl, (inr (omega arith), tt))) mixed_apart

  -- 20: different bytes stored at real 0 by the first and at real 4096 by the second. Both are absolute 0, and the order matters
  module _ (a b : ℕ) (different : a ≢ b) where
    abbrev second_last : Order (store 0 0 a ∷ []) (store 1 4096 b ∷ [])
    second_last = first (second done)

    abbrev first_last : Order (store 0 0 a ∷ []) (store 1 4096 b ∷ [])
    first_last = second (first done)

    bytes_left : (get_or (ending storage second_last).state.storage 0 0 ≡ b) × (get_or (ending storage first_last).state.storage 0 0 ≡ a)
    unfolding run written after_store line first_of first_byte first_line prefixed permitted low_protected addressing
        protection before_protection verdict storage_left buffer_left keys_recorded completed performed step served pair_step
    bytes_left = (
      rw (h, length-set storage 0 a, h, set-set storage 0 a b) (get_or-set_same storage 0 b 0 (omega arith)),
      rw (h, length-set storage 0 b, h, set-set storage 0 b a) (get_or-set_same storage 0 a 0 (omega arith)),
    )

    pub order_matters : (ending storage second_last).state.storage ≢ (ending storage first_last).state.storage
    order_matters e = different (sym bytes_left.1 ∙ ap (λ l. get_or l 0 0) (sym e) ∙ bytes_left.0)

    pub shared_unit : ¬ ((u : ℕ) → Apart settings (memory storage) (store 0 0 a ∷ []) (store 1 4096 b ∷ []) u)
    shared_unit apart =
        order_matters (ap (λ e. e.state.storage) (any_order settings (memory storage) _ _ (inl refl, tt) (inl refl, tt) apart second_last first_last))

-- a fetch of each processor, from any start and at any addresses: what they name, they name by fetches only, and both orders agree
module _ (s : Settings) (m : State) (real real' count count' : ℕ) (buffer buffer' : List ℕ) where
  abbrev fetch : ℕ → ℕ → ℕ → List ℕ → Turn
  fetch n a k bytes = record { processor_number = n; request = Access Fetch a k; buffer = bytes }

  pub fetches_agree : (o p : Order (fetch 0 real count buffer ∷ []) (fetch 1 real' count' buffer' ∷ []))
      → run (next s) (given s) m o ≡ run (next s) (given s) m p
  fetches_agree = any_order s m _ _ (inl refl, tt) (inl refl, tt) (λ u. inr (inr (((λ _. refl), tt), ((λ _. refl), tt))))
