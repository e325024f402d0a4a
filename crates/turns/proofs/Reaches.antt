-- Bytes by absolute addresses under the channel's key, all or nothing, as one action: a CCW is read, data is given to the device, or taken from
-- it. It treats a byte and a key as it treats their unit, no record, and the lengths it looks at and leaves. It obeys the laws of actions: what
-- it leaves of each part follows from the laws of runs of writes, and in two states that are alike to it the same is forbidden.
-- Assumes nothing.
use Prim.Native.Nat.{ℕ, zero, suc, ◌+◌, ◌<◌, ◌≤◌}
use mathlib.Core.Path.{◌≡◌, refl, sym, ap, ◌∙◌}
use mathlib.Core.Bool.{Bool, true, false, cond, not, ◌&&◌}
use mathlib.Core.Logic.{◌≢◌}
use mathlib.Core.List.{List}
use mathlib.Core.Option.{Option, none, some}
use native.Mathlib.Nat.{add-zero}
use native.Mathlib.Omega.{arith}
use lib.ListN.{length, get_or, get_or-eq_default}
use lib.Dec.{eqb, ltb}
use borrow.Author.Tests.{eqb-true, eqb-false, eq-eqb, ltb-true, ltb-false}
use Rattle.machine.specs.declared.Settings.{Settings}
use Rattle.machine.specs.declared.AccessKind.{AccessKind}
use Rattle.machine.specs.declared.AccessKind.TheVariants.{Fetch, Store}
use Rattle.machine.specs.declared.channel.Ccw.{Ccw}
use Rattle.machine.specs.Lists.{any_below}
use Rattle.machine.specs.Numbers.{unit_of}
use Rattle.machine.specs.Key.{after_fetch}
use Rattle.machine.specs.Protection.{permitted, recorded}
use Rattle.machine.specs.Channel.{big_endian, ccw_at, range_forbidden, range_recorded, bytes_moved}
use Rattle.machine.specs.Turns.{State}
use Rattle.machine.proofs.Verdicts.{not_both, any_at, any_none, any_found}
use Rattle.machine.proofs.Written.{length-written, written_elsewhere, written_there, written_same, written_agree, marked_agree}
use Rattle.turns.specs.ChannelUnits.{in_range}
use Rattle.turns.proofs.Actions.{Mode, untouched, fetch, write, Leaves, AlikeTo, Laws}
use Rattle.turns.proofs.Fetches.{same_control, same_fetch_protection}
use Rattle.turns.proofs.Parts.{Part, byte, key, processor, lengths, Value, read, whole, touch, touch_twice}
use Rattle.turns.proofs.Steps.{left_of, same_either, as_fetched}

-- a CCW is read at an address; bytes are given to the device, into the room from an index on; bytes are taken from the device, from an index on
pub data Reach : Type 0 where
  read_ccw : (access_key ccw : ℕ) → Reach
  give : (access_key address count : ℕ) (room : List ℕ) (at : ℕ) → Reach
  take : (access_key address count : ℕ) (from_device : List ℕ) (at : ℕ) → Reach

abbrev kind_of : Reach → AccessKind
kind_of (read_ccw access_key ccw) = Fetch
kind_of (give access_key address count room at) = Fetch
kind_of (take access_key address count from_device at) = Store

abbrev key_of : Reach → ℕ
key_of (read_ccw access_key ccw) = access_key
key_of (give access_key address count room at) = access_key
key_of (take access_key address count from_device at) = access_key

abbrev start_of : Reach → ℕ
start_of (read_ccw access_key ccw) = ccw
start_of (give access_key address count room at) = address
start_of (take access_key address count from_device at) = address

abbrev count_of : Reach → ℕ
count_of (read_ccw access_key ccw) = 8
count_of (give access_key address count room at) = count
count_of (take access_key address count from_device at) = count

-- what comes back: the CCW; the room with the bytes; nothing
abbrev pub Got : Reach → Type 0
Got (read_ccw access_key ccw) = Ccw
Got (give access_key address count room at) = List ℕ
Got (take access_key address count from_device at) = Unit {0}

abbrev got : (r : Reach) → List ℕ → Got r
got (read_ccw access_key ccw) storage = ccw_at storage ccw
got (give access_key address count room at) storage = bytes_moved room at storage address count
got (take access_key address count from_device at) storage = tt

abbrev storage_after : Reach → List ℕ → List ℕ
storage_after (read_ccw access_key ccw) storage = storage
storage_after (give access_key address count room at) storage = storage
storage_after (take access_key address count from_device at) storage = bytes_moved storage address from_device at count

abbrev pub barred : Settings → List ℕ → Reach → Bool
barred s keys r = range_forbidden s (kind_of r) (key_of r) keys (start_of r) (count_of r)

abbrev keys_after : Settings → List ℕ → Reach → List ℕ
keys_after s keys r = range_recorded s (kind_of r) keys (start_of r) (count_of r)

-- by whether it is forbidden
abbrev pub reach_next_by : Bool → Settings → State → Reach → State
reach_next_by true s m r = m
reach_next_by false s m r = record { storage = storage_after r m.storage; keys = keys_after s m.keys r; processors = m.processors }

abbrev pub reach_gives_by : Bool → State → (r : Reach) → Option (Got r)
reach_gives_by true m r = none
reach_gives_by false m r = some (got r m.storage)

abbrev pub reach_next : Settings → State → Reach → State
reach_next s m r = reach_next_by (barred s m.keys r) s m r

abbrev pub reach_gives : Settings → State → (r : Reach) → Option (Got r)
reach_gives s m r = reach_gives_by (barred s m.keys r) m r

-- the units of the range are fetched or written. A unit without a key is fetched and nothing is completed
abbrev pub fetches : Reach → Bool
fetches (read_ccw access_key ccw) = true
fetches (give access_key address count room at) = true
fetches (take access_key address count from_device at) = false

abbrev pub reaches : Settings → Reach → ℕ → Bool
reaches s r u = in_range s (start_of r) (count_of r) u

abbrev unit_mode : Settings → State → Reach → ℕ → Mode
unit_mode s m r u = cond (reaches s r u) (cond (fetches r) (fetch (not (barred s m.keys r) && ltb u (length m.keys))) write) untouched

abbrev pub reach_mode : Settings → State → Reach → Part → Mode
reach_mode s m r (byte a) = unit_mode s m r (unit_of s a)
reach_mode s m r (key u) = unit_mode s m r u
reach_mode s m r (processor i) = untouched
reach_mode s m r lengths = fetch false

-- tests that agree on the numbers below n
pub any_same : (f g : ℕ → Bool) (n : ℕ) → ((i : ℕ) → i < n → f i ≡ g i) → any_below f n ≡ any_below g n
unfolding any_below
any_same f g zero e = refl
any_same f g (suc n) e = rw (any_same f g n (λ i h. e i (omega arith)), e n (omega arith))

-- storages that agree on the bytes of a CCW
number_same : (n : ℕ) (xs ys : List ℕ) (a : ℕ) → ((i : ℕ) → i < n → get_or xs (a + i) 0 ≡ get_or ys (a + i) 0) → big_endian n xs a ≡ big_endian n ys a
unfolding big_endian
number_same zero xs ys a e = refl
number_same (suc n) xs ys a e =
    let here : get_or xs a 0 ≡ get_or ys a 0 = rw add-zero at (e 0 (omega arith)) in
    rw (here, number_same n xs ys (a + 1) (λ i h. rw (after i) (e (suc i) (omega arith))))
  where
    after : (i : ℕ) → a + 1 + i ≡ a + suc i
    after i = omega arith

pub ccw_same : (xs ys : List ℕ) (a : ℕ) → ((i : ℕ) → i < 8 → get_or xs (a + i) 0 ≡ get_or ys (a + i) 0) → ccw_at xs a ≡ ccw_at ys a
unfolding ccw_at
ccw_same xs ys a e =
    rw (number_same 1 xs ys a (λ i h. e i (omega arith)), part 3 1 (omega arith), part 1 4 (omega arith), part 2 6 (omega arith))
  where
    part : (n k : ℕ) → k + n ≤ 8 → big_endian n xs (a + k) ≡ big_endian n ys (a + k)
    part n k h = number_same n xs ys (a + k) (λ i l. rw (after i) (e (k + i) (omega arith)))
      where
        after : (i : ℕ) → a + k + i ≡ a + (k + i)
        after i = omega arith

same_permitted : (kind : AccessKind) (access_key k l : ℕ) → after_fetch k ≡ after_fetch l → permitted kind access_key k ≡ permitted kind access_key l
unfolding permitted
same_permitted Fetch access_key k l e = rw (same_control k l e, same_fetch_protection k l e)
same_permitted Store access_key k l e = rw (same_control k l e)

as_recorded : (r : Reach) → fetches r ≡ true → (k : ℕ) → recorded (kind_of r) k ≡ after_fetch k
as_recorded (read_ccw access_key ccw) f k = refl
as_recorded (give access_key address count room at) f k = refl
as_recorded (take access_key address count from_device at) f k = absurd (not_both f refl)

module _ (s : Settings) where
  -- the units of a range
  pub in_range_at : (start count i : ℕ) → i < count → in_range s start count (unit_of s (start + i)) ≡ true
  unfolding in_range
  in_range_at start count i h = any_at _ count i h (eq-eqb (unit_of s (start + i)) _ refl)

  out_of_range_at : (start count u : ℕ) → in_range s start count u ≡ false → (i : ℕ) → i < count → unit_of s (start + i) ≢ u
  unfolding in_range
  out_of_range_at start count u e i h = eqb-false _ _ (any_none (λ j. eqb (unit_of s (start + j)) u) count e i h)

  pub in_range_by : (start count u : ℕ) → in_range s start count u ≡ true → (i : ℕ) × (i < count) × (unit_of s (start + i) ≡ u)
  unfolding in_range
  in_range_by start count u e =
      let (i, h, q) = any_found (λ j. eqb (unit_of s (start + j)) u) count e in
      (i, h, eqb-true _ _ q)

  -- what is not reached stays
  storage_kept : (r : Reach) (storage : List ℕ) (a : ℕ) → reaches s r (unit_of s a) ≡ false → get_or (storage_after r storage) a 0 ≡ get_or storage a 0
  unfolding bytes_moved
  storage_kept (read_ccw access_key ccw) storage a e = refl
  storage_kept (give access_key address count room at) storage a e = refl
  storage_kept (take access_key address count from_device at) storage a e =
      written_elsewhere storage _ _ count a (λ i h q. out_of_range_at address count _ e i h (ap (unit_of s) q))

  storage_length_lem : (r : Reach) (storage : List ℕ) → length (storage_after r storage) ≡ length storage
  unfolding bytes_moved
  storage_length_lem (read_ccw access_key ccw) storage = refl
  storage_length_lem (give access_key address count room at) storage = refl
  storage_length_lem (take access_key address count from_device at) storage = length-written storage _ _ count

  storage_fetched : (r : Reach) (storage : List ℕ) → fetches r ≡ true → storage_after r storage ≡ storage
  storage_fetched (read_ccw access_key ccw) storage f = refl
  storage_fetched (give access_key address count room at) storage f = refl
  storage_fetched (take access_key address count from_device at) storage f = absurd (not_both f refl)

  keys_length : (r : Reach) (keys : List ℕ) → length (keys_after s keys r) ≡ length keys
  unfolding range_recorded
  keys_length r keys = length-written keys _ _ (count_of r)

  key_kept : (r : Reach) (keys : List ℕ) (u : ℕ) → reaches s r u ≡ false → get_or (keys_after s keys r) u 0 ≡ get_or keys u 0
  unfolding range_recorded
  key_kept r keys u e = written_elsewhere keys _ _ (count_of r) u (out_of_range_at (start_of r) (count_of r) u e)

  key_fetched : (r : Reach) (keys : List ℕ) (u : ℕ) → reaches s r u ≡ true → fetches r ≡ true
      → get_or (keys_after s keys r) u 0 ≡ cond (ltb u (length keys)) (after_fetch (get_or keys u 0)) (get_or keys u 0)
  unfolding range_recorded
  key_fetched r keys u e f = go (ltb u (length keys)) refl
    where
      there : u < length keys → get_or (keys_after s keys r) u 0 ≡ after_fetch (get_or keys u 0)
      there h =
          let (i, l, q) = in_range_by (start_of r) (count_of r) u e in
          rw (← q)
          (written_there keys (λ j. unit_of s (start_of r + j)) _ (count_of r) i l (rw q h) (λ j k n. rw n) ∙ as_recorded r f _)

      go : (b : Bool) → ltb u (length keys) ≡ b → get_or (keys_after s keys r) u 0 ≡ cond b (after_fetch (get_or keys u 0)) (get_or keys u 0)
      go true h = there (ltb-true _ _ h)
      go false h =
          let out : length keys ≤ u = omega (arith, ltb-false u (length keys) h) in
          get_or-eq_default (keys_after s keys r) 0 (rw (keys_length r keys) out) ∙ sym (get_or-eq_default keys 0 out)

  module _ (r : Reach) (m : State) where
    byte_left : (b : Bool) (a : ℕ)
        → Leaves (cond (reaches s r (unit_of s a)) (cond (fetches r) (fetch (not b && ltb (unit_of s a) (length m.keys))) write) untouched)
        (λ v. v) (get_or m.storage a 0) (get_or (reach_next_by b s m r).storage a 0)
    byte_left b a = left_of _ _ _ (reaches s r (unit_of s a)) (fetches r) _ (kept b) (λ n f. fetched b f)
      where
        kept : (b : Bool) → reaches s r (unit_of s a) ≡ false → get_or (reach_next_by b s m r).storage a 0 ≡ get_or m.storage a 0
        kept true e = refl
        kept false e = storage_kept r m.storage a e

        fetched : (b : Bool) → fetches r ≡ true → get_or (reach_next_by b s m r).storage a 0
            ≡ cond (not b && ltb (unit_of s a) (length m.keys)) (get_or m.storage a 0) (get_or m.storage a 0)
        fetched true f = refl
        fetched false f = rw (storage_fetched r m.storage f) (same_either (ltb (unit_of s a) (length m.keys)) _)

    key_left : (b : Bool) (u : ℕ) → Leaves (cond (reaches s r u) (cond (fetches r) (fetch (not b && ltb u (length m.keys))) write) untouched)
        after_fetch (get_or m.keys u 0) (get_or (reach_next_by b s m r).keys u 0)
    key_left b u = left_of _ _ _ (reaches s r u) (fetches r) _ (kept b) (fetched b)
      where
        kept : (b : Bool) → reaches s r u ≡ false → get_or (reach_next_by b s m r).keys u 0 ≡ get_or m.keys u 0
        kept true e = refl
        kept false e = key_kept r m.keys u e

        fetched : (b : Bool) → reaches s r u ≡ true → fetches r ≡ true → get_or (reach_next_by b s m r).keys u 0
            ≡ cond (not b && ltb u (length m.keys)) (after_fetch (get_or m.keys u 0)) (get_or m.keys u 0)
        fetched true e f = refl
        fetched false e f = key_fetched r m.keys u e f

    lengths_kept : (b : Bool) → read (reach_next_by b s m r) lengths ≡ read m lengths
    lengths_kept true = refl
    lengths_kept false = rw (storage_length_lem r m.storage, keys_length r m.keys)

    record_kept : (b : Bool) (i : ℕ) → read (reach_next_by b s m r) (processor i) ≡ read m (processor i)
    record_kept true i = refl
    record_kept false i = refl

    leaves : (q : Part) → Leaves (reach_mode s m r q) (touch q) (read m q) (read (reach_next s m r) q)
    leaves (byte a) = byte_left (barred s m.keys r) a
    leaves (key u) = key_left (barred s m.keys r) u
    leaves (processor i) = record_kept (barred s m.keys r) i
    leaves lengths = lengths_kept (barred s m.keys r)

  module _ (r : Reach) (m o : State) (alike : AlikeTo (reach_mode s) read touch m o r) where
    key_alike : (u : ℕ) → reaches s r u ≡ true → after_fetch (read m (key u)) ≡ after_fetch (read o (key u))
    key_alike u e = as_fetched after_fetch _ _ (fetches r) _ (rw e at (alike (key u)))

    byte_alike : (a : ℕ) → reaches s r (unit_of s a) ≡ true → read m (byte a) ≡ read o (byte a)
    byte_alike a e = as_fetched (λ v. v) _ _ (fetches r) _ (rw e at (alike (byte a)))

    at_alike : (i : ℕ) → i < count_of r → get_or m.storage (start_of r + i) 0 ≡ get_or o.storage (start_of r + i) 0
    at_alike i h = byte_alike (start_of r + i) (in_range_at (start_of r) (count_of r) i h)

    same_barred : barred s o.keys r ≡ barred s m.keys r
    unfolding range_forbidden
    same_barred =
        sym (any_same _ _ (count_of r) (λ i h.
        ap not (same_permitted (kind_of r) (key_of r) _ _ (key_alike _ (in_range_at (start_of r) (count_of r) i h)))))

    same_unit : (u : ℕ) → unit_mode s o r u ≡ unit_mode s m r u
    same_unit u = rw (same_barred, ← ap (λ l. l.1) (alike lengths))

    same_mode : (q : Part) → reach_mode s o r q ≡ reach_mode s m r q
    same_mode (byte a) = same_unit (unit_of s a)
    same_mode (key u) = same_unit u
    same_mode (processor i) = refl
    same_mode lengths = refl

  got_same : (r : Reach) (xs ys : List ℕ) → ((i : ℕ) → i < count_of r → get_or xs (start_of r + i) 0 ≡ get_or ys (start_of r + i) 0) → got r ys ≡ got r xs
  unfolding bytes_moved
  got_same (read_ccw access_key ccw) xs ys e = sym (ccw_same xs ys ccw e)
  got_same (give access_key address count room at) xs ys e = sym (written_same room _ _ _ _ count (λ i h. (refl, e i h)))
  got_same (take access_key address count from_device at) xs ys e = refl

  storage_agree : (r : Reach) (xs ys : List ℕ) (a : ℕ) → length xs ≡ length ys → get_or xs a 0 ≡ get_or ys a 0
      → get_or (storage_after r xs) a 0 ≡ get_or (storage_after r ys) a 0
  unfolding bytes_moved
  storage_agree (read_ccw access_key ccw) xs ys a l e = e
  storage_agree (give access_key address count room at) xs ys a l e = e
  storage_agree (take access_key address count from_device at) xs ys a l e = written_agree xs ys _ _ _ count a l e (λ i q. refl)

  keys_agree : (r : Reach) (xs ys : List ℕ) (u : ℕ) → length xs ≡ length ys → get_or xs u 0 ≡ get_or ys u 0
      → get_or (keys_after s xs r) u 0 ≡ get_or (keys_after s ys r) u 0
  unfolding range_recorded
  keys_agree r xs ys u l e = marked_agree xs ys (λ i. unit_of s (start_of r + i)) (recorded (kind_of r)) (count_of r) u l e

  module _ (r : Reach) (m o : State) (alike : AlikeTo (reach_mode s) read touch m o r) where
    same_given : reach_gives s o r ≡ reach_gives s m r
    same_given = rw (same_barred r m o alike) (at (barred s m.keys r))
      where
        at : (b : Bool) → reach_gives_by b o r ≡ reach_gives_by b m r
        at true = refl
        at false = ap some (got_same r m.storage o.storage (at_alike r m o alike))

    same_left : (b : Bool) (q : Part) → read m q ≡ read o q → read (reach_next_by b s o r) q ≡ read (reach_next_by b s m r) q
    same_left true q w = sym w
    same_left false (byte a) w = sym (storage_agree r m.storage o.storage a (ap (λ l. l.0) (alike lengths)) w)
    same_left false (key u) w = sym (keys_agree r m.keys o.keys u (ap (λ l. l.1) (alike lengths)) w)
    same_left false (processor i) w = sym w
    same_left false lengths w = lengths_kept r o false ∙ sym w ∙ sym (lengths_kept r m false)

    same_written : (q : Part) → read m q ≡ read o q → read (reach_next s o r) q ≡ read (reach_next s m r) q
    same_written q w = rw (same_barred r m o alike) (same_left (barred s m.keys r) q w)

pub reach_laws : (s : Settings) → Laws State Reach (λ r. Option (Got r)) Part Value (reach_next s) (reach_gives s) (reach_mode s) read touch
reach_laws s =
    record {
      whole = whole;
      touch_twice = touch_twice;
      leaves = λ m r. leaves s r m;
      same_mode = λ m o r. same_mode s r m o;
      same_given = λ m o r. same_given s r m o;
      same_written = λ m o r alike q w. same_written s r m o alike q (rw w at (alike q));
    }
