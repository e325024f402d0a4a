-- What stands in front of a list of bytes. A record that fits (its stated length is 2 to 512, and all that it counts is there) is read by its
-- kind and its body; where none fits, the list is at its end or bad. So a record is read from its own bytes, which lie within the list and are
-- 514 at most, and what follows them does not matter. The sentences of 02 about bad records, and its case. Assumes nothing.
use Prim.Native.Nat.{ℕ, zero, suc, ◌+◌, ◌-◌, ◌≤◌, ◌<◌}
use native.Mathlib.Decide.{dec_le, ℕ_discrete}
use native.Mathlib.Omega.{arith}
use mathlib.Core.Path.{◌≡◌, refl, sym, ap, ◌∙◌}
use mathlib.Core.Bool.{Bool, true, false, cond, ◌&&◌}
use mathlib.Core.Logic.{◌≢◌}
use mathlib.Core.List.{List, [], ◌∷◌, ◌++◌}
use mathlib.Core.Option.{Option, none, some}
use lib.ListN.{length, get_elem?, take, drop, length-take, length-drop, length-append, take-append-drop}
use lib.Seq.{take_all, take-append-le, drop-append-le}
use lib.Dec.{eqb, leb}
use borrow.Author.Tests.{le-leb, lt-leb, leb-true, eqb-true}
use Rattle.machine.specs.declared.Request.{Request}
use Rattle.machine.specs.declared.Request.TheVariants.{Access, Key, Prefix}
use Rattle.machine.specs.declared.AccessKind.TheVariants.{Fetch, Store}
use Rattle.house_record.specs.Little.{little}
use Rattle.house_record.specs.Records.{Whole, Short, found, there}
use Rattle.house_record.proofs.LittleBytes.{little-append, little-take, little-drop}
use Rattle.trace.proofs.Bodies.{kind_1, kind_2, kind_3, kind_4, kind_255}
use Rattle.trace.proofs.Bodies.{other_kind, other_fetch, other_store, other_key, other_prefix, long_remark, no_key_case, no_prefix_case}
use Rattle.trace.specs.Trace.{Read, ARequest, Remark, Bad, End, request_in, fetch_in, store_in, one_of, key_requests, key_in, prefix_requests}
use Rattle.trace.specs.Trace.{prefix_in, remark_in, kind_read, record_read, read_of}
use Rattle.trace.specs.Written.{request_size}

-- the stated length is 2 to 512, and all that it counts is there
abbrev pub Fits : List ℕ → Type 0
Fits s = (2 ≤ little 2 s 0) × (little 2 s 0 ≤ 512) × (2 + little 2 s 0 ≤ length s)

-- the body of the record in front
abbrev pub body_in : List ℕ → List ℕ
body_in s = take (little 2 s 0 - 2) (drop 4 s)

-- The sentences of 02 about lengths.
pub nothing_is_end : read_of [] ≡ End
unfolding read_of record_read found
nothing_is_end = refl

pub whole_is_read : (s : List ℕ) → Fits s → read_of s ≡ kind_read (little 2 s 2) (body_in s)
unfolding read_of record_read found
whole_is_read s (least, most, inside) =
    rw (lt-leb (length s) 0 (omega arith), le-leb 2 (little 2 s 0) least, le-leb (2 + little 2 s 0) (length s) inside, le-leb (little 2 s 0) 512 most)

module _ (s : List ℕ) (some_bytes : length s ≢ 0) where
  not_end : leb (length s) 0 ≡ false
  not_end = lt-leb (length s) 0 (omega arith)

  -- a length of 0 or 1
  pub under_two_is_bad : little 2 s 0 < 2 → read_of s ≡ Bad
  unfolding read_of record_read found
  under_two_is_bad h = rw (not_end, lt-leb 2 (little 2 s 0) h)

  pub over_512_is_bad : 512 < little 2 s 0 → read_of s ≡ Bad
  unfolding read_of record_read found
  over_512_is_bad h = rw not_end (go (there s 0 (little 2 s 0)))
    where
      go : (b : Bool) → record_read (cond b (Whole (little 2 s 0) (little 2 s 2)) Short) s ≡ Bad
      go true = rw (lt-leb (little 2 s 0) 512 h)
      go false = refl

  pub cut_short_is_bad : length s < 2 + little 2 s 0 → read_of s ≡ Bad
  unfolding read_of record_read found
  cut_short_is_bad h = rw (not_end, lt-leb (2 + little 2 s 0) (length s) h) (go (leb 2 (little 2 s 0)))
    where
      go : (b : Bool) → record_read (cond (b && false) (Whole (little 2 s 0) (little 2 s 2)) Short) s ≡ Bad
      go true = refl
      go false = refl

-- what holds at the end, of a bad record where none fits, and of the reading of a record that fits, holds of what is read
pub by_front : (P : Read → Type 0) (s : List ℕ) → (s ≡ [] → P End) → ((Fits s → ⊥) → P Bad)
    → (Fits s → P (kind_read (little 2 s 2) (body_in s))) → P (read_of s)
by_front P [] at_end_lem bad whole = rw nothing_is_end (at_end_lem refl)
by_front P (b ∷ bs) at_end_lem bad whole = go (dec_le 2 n) (dec_le n 512) (dec_le (2 + n) (length s))
  where
    s : List ℕ
    s = b ∷ bs

    n : ℕ
    n = little 2 s 0

    go : Dec (2 ≤ n) → Dec (n ≤ 512) → Dec (2 + n ≤ length s) → P (read_of s)
    go (yes least) (yes most) (yes inside) = rw (whole_is_read s (least, most, inside)) (whole (least, most, inside))
    go (no h) most inside = rw (under_two_is_bad s (λ e. omega arith) (omega arith)) (bad (λ f. h f.0))
    go (yes least) (no h) inside = rw (over_512_is_bad s (λ e. omega arith) (omega arith)) (bad (λ f. h f.1))
    go (yes least) (yes most) (no h) = rw (cut_short_is_bad s (λ e. omega arith) (omega arith)) (bad (λ f. h f.2))

-- What follows does not matter. A record is a request or a remark.
abbrev pub ARecord : Read → Type 0
ARecord (ARequest p r size) = Unit
ARecord (Remark size) = Unit
ARecord Bad = ⊥
ARecord End = ⊥

module _ (s t : List ℕ) where
  body_stays : Fits s → body_in (s ++ t) ≡ body_in s
  body_stays (least, most, inside) =
      let within : little 2 s 0 - 2 ≤ length (drop 4 s) = rw length-drop (omega arith) in
      rw (little-append 2 s t 0 (omega arith), drop-append-le 4 s t (omega arith), take-append-le (little 2 s 0 - 2) (drop 4 s) t within)

  pub fits_still : Fits s → Fits (s ++ t)
  fits_still (least, most, inside) = rw (little-append 2 s t 0 (omega arith), length-append s t) (least, most, omega arith)

  pub same_record : Fits s → read_of (s ++ t) ≡ kind_read (little 2 s 2) (body_in s)
  same_record f = rw (whole_is_read (s ++ t) (fits_still f), body_stays f, little-append 2 s t 2 (omega (arith, f)))

  fitted : 514 ≤ length s → Fits (s ++ t) → Fits s
  fitted h (least, most, inside) =
      let e : little 2 (s ++ t) 0 ≡ little 2 s 0 = little-append 2 s t 0 (omega arith) in (omega arith, omega arith, omega arith)

  -- with 514 bytes, what follows does not matter
  pub decided : 514 ≤ length s → read_of (s ++ t) ≡ read_of s
  decided h =
      by_front (λ x. read_of (s ++ t) ≡ x) s (λ e. absurd (omega (arith, ap length e)))
      (λ f. by_front (λ x. x ≡ Bad) (s ++ t) (λ e. absurd (omega (arith, ap length e, length-append s t))) (λ g. refl) (λ g. absurd (f (fitted h g))))
      same_record

  -- nor does it where a record was read
  pub stable : ARecord (read_of s) → read_of (s ++ t) ≡ read_of s
  stable = by_front (λ x. ARecord x → read_of (s ++ t) ≡ x) s (λ e a. absurd a) (λ f a. absurd a) (λ f a. same_record f)

  pub stable_request : (p : ℕ) (r : Request) (size : ℕ) → read_of s ≡ ARequest p r size → read_of (s ++ t) ≡ ARequest p r size
  stable_request p r size e = stable (rw e tt) ∙ e

  pub stable_remark : (size : ℕ) → read_of s ≡ Remark size → read_of (s ++ t) ≡ Remark size
  stable_remark size e = stable (rw e tt) ∙ e

-- so 514 bytes are enough
pub window : (s : List ℕ) (k : ℕ) → 514 ≤ k → read_of (take k s) ≡ read_of s
window s k h = go (dec_le k (length s))
  where
    go : Dec (k ≤ length s) → read_of (take k s) ≡ read_of s
    go (yes l) = sym (decided (take k s) (drop k s) (rw length-take (omega arith))) ∙ ap read_of (take-append-drop k s)
    go (no l) = ap read_of (take_all k s (omega arith))

-- The record in front by its kind. What holds of each element of a list and its place holds of one that is looked up.
abbrev pub EveryAt : {A : Type 0} → (ℕ → A → Type 0) → List A → Type 0
EveryAt Q [] = Unit
EveryAt Q (x ∷ xs) = Q 0 x × EveryAt (λ n. Q (suc n)) xs

pub looked_up : {A : Type 0} (Q : ℕ → A → Type 0) (xs : List A) → EveryAt Q xs → (i : ℕ) (x : A) → get_elem? xs i ≡ some x → Q i x
looked_up Q [] every i x e = cc
looked_up Q (y ∷ ys) every zero x e = let q : y ≡ x = cc in rw (← q) every.0
looked_up Q (y ∷ ys) every (suc i) x e = looked_up (λ n. Q (suc n)) ys every.1 i x e

-- what holds of a bad record, and of each kind of record with the length that its kind wants, holds of what is read from a kind and a body
module _ (P : Read → Type 0) (kind : ℕ) (body : List ℕ) (bad : P Bad) where
  pick : (b : Bool) (x : Read) → (b ≡ true → P x) → P (cond b x Bad)
  pick true x f = f refl
  pick false x f = bad

  found_one : (f : Option Request) → ((r : Request) → f ≡ some r → P (request_in body r)) → P (one_of body f)
  found_one none h = bad
  found_one (some r) h = h r refl

  abbrev keys : List Request
  keys = key_requests (little 4 body 2) (little 4 body 6)

  abbrev prefixes : List Request
  prefixes = prefix_requests (little 4 body 2)

  pub by_kind
      : (kind ≡ 1 → length body ≡ 7 → P (request_in body (Access Fetch (little 4 body 1) (little 2 body 5))))
      → (kind ≡ 2 → length body ≡ 7 + little 2 body 5 → P (request_in body (Access Store (little 4 body 1) (little 2 body 5))))
      → (kind ≡ 3 → length body ≡ 10 → (r : Request) → get_elem? keys (little 1 body 1) ≡ some r → P (request_in body r))
      → (kind ≡ 4 → length body ≡ 6 → (r : Request) → get_elem? prefixes (little 1 body 1) ≡ some r → P (request_in body r))
      → (kind ≡ 255 → length body ≤ 256 → P (Remark (4 + length body)))
      → P (kind_read kind body)
  unfolding kind_read fetch_in store_in key_in prefix_in remark_in
  by_kind fetch store key prefix remark = go (eqb kind 1) (eqb kind 2) (eqb kind 3) (eqb kind 4) (eqb kind 255) refl refl refl refl refl
    where
      go : (b1 b2 b3 b4 b5 : Bool) → eqb kind 1 ≡ b1 → eqb kind 2 ≡ b2 → eqb kind 3 ≡ b3 → eqb kind 4 ≡ b4 → eqb kind 255 ≡ b5
          → P (cond b1 (fetch_in body) (cond b2 (store_in body) (cond b3 (key_in body) (cond b4 (prefix_in body) (cond b5 (remark_in body) Bad)))))
      go true b2 b3 b4 b5 e1 e2 e3 e4 e5 = pick (eqb (length body) 7) _ (λ e. fetch (eqb-true kind 1 e1) (eqb-true _ _ e))
      go false true b3 b4 b5 e1 e2 e3 e4 e5 = pick (eqb (length body) (7 + little 2 body 5)) _ (λ e. store (eqb-true kind 2 e2) (eqb-true _ _ e))
      go false false true b4 b5 e1 e2 e3 e4 e5 =
          pick (eqb (length body) 10) _ (λ e. found_one (get_elem? keys (little 1 body 1)) (key (eqb-true kind 3 e3) (eqb-true _ _ e)))
      go false false false true b5 e1 e2 e3 e4 e5 =
          pick (eqb (length body) 6) _ (λ e. found_one (get_elem? prefixes (little 1 body 1)) (prefix (eqb-true kind 4 e4) (eqb-true _ _ e)))
      go false false false false true e1 e2 e3 e4 e5 = pick (leb (length body) 256) _ (λ e. remark (eqb-true kind 255 e5) (leb-true _ _ e))
      go false false false false false e1 e2 e3 e4 e5 = bad

-- the stated length counts the kind and the body
pub stated_length : (s : List ℕ) → Fits s → 2 + length (body_in s) ≡ little 2 s 0
stated_length s (least, most, inside) = rw (length-take (little 2 s 0 - 2) (drop 4 s), length-drop 4 s) (omega arith)

-- The size of what is read: that of its record, which lies within the list.
abbrev Within : ℕ → Read → Type 0
Within n (ARequest p r size) = (size ≡ request_size r) × (size ≤ n) × (size ≤ 514)
Within n (Remark size) = (4 ≤ size) × (size ≤ n) × (size ≤ 260)
Within n Bad = Unit
Within n End = Unit

key_size : (r1 r2 i : ℕ) (r : Request) → get_elem? (key_requests r1 r2) i ≡ some r → request_size r ≡ 14
key_size r1 r2 = looked_up (λ i r. request_size r ≡ 14) (key_requests r1 r2) (refl, (refl, (refl, (refl, (refl, (refl, tt))))))

prefix_size : (word i : ℕ) (r : Request) → get_elem? (prefix_requests word) i ≡ some r → request_size r ≡ 10
prefix_size word = looked_up (λ i r. request_size r ≡ 10) (prefix_requests word) (refl, (refl, tt))

read_within : (s : List ℕ) → Within (length s) (read_of s)
read_within s = by_front (Within (length s)) s (λ e. tt) (λ f. tt) whole
  where
    whole : Fits s → Within (length s) (kind_read (little 2 s 2) (body_in s))
    whole f =
        let b : List ℕ = body_in s in
        let inside : 4 + length b ≤ length s = omega (arith, f, stated_length s f) in
        let most : 4 + length b ≤ 514 = omega (arith, f, stated_length s f) in
        by_kind (Within (length s)) (little 2 s 2) b tt
        (λ k e. (omega arith, inside, most))
        (λ k e. (omega arith, inside, most))
        (λ k e r q. (omega (arith, key_size (little 4 b 2) (little 4 b 6) (little 1 b 1) r q), inside, most))
        (λ k e r q. (omega (arith, prefix_size (little 4 b 2) (little 1 b 1) r q), inside, most))
        (λ k e. (omega arith, inside, omega arith))

least_size : (r : Request) → 10 ≤ request_size r
least_size (Access Fetch address count) = omega arith
least_size (Access Store address count) = omega arith
least_size (Key k) = omega arith
least_size (Prefix p) = omega arith

module _ (s : List ℕ) (p : ℕ) where
  pub size_of_request : (r : Request) (size : ℕ) → read_of s ≡ ARequest p r size → size ≡ request_size r
  size_of_request r size e = (rw e at (read_within s)).0

  pub size_within : (r : Request) (size : ℕ) → read_of s ≡ ARequest p r size → (4 < size) × (size ≤ length s) × (size ≤ 514)
  size_within r size e = let w : Within (length s) (ARequest p r size) = rw e at (read_within s) in (omega (arith, w, least_size r), w.1, w.2)

  -- a store has its data bytes behind the first eleven
  pub store_size : (address count size : ℕ) → read_of s ≡ ARequest p (Access Store address count) size → size ≡ 11 + count
  store_size address count = size_of_request (Access Store address count)

pub remark_within : (s : List ℕ) (size : ℕ) → read_of s ≡ Remark size → (4 ≤ size) × (size ≤ length s) × (size ≤ 260)
remark_within s size e = rw e at (read_within s)

-- The sentences of 02 about kinds, instructions and operations, and about the length that each kind wants.
-- a field of the body has its offset in the list
pub field_in_front : (s : List ℕ) → Fits s → (n at : ℕ) → at + n ≤ length (body_in s) → little n (body_in s) at ≡ little n s (4 + at)
field_in_front s f n at h = little-take n (little 2 s 0 - 2) (drop 4 s) at (omega (arith, stated_length s f)) ∙ little-drop n 4 s at

module _ (s : List ℕ) (some_bytes : length s ≢ 0) where
  bad_unless : (Fits s → Bad ≡ kind_read (little 2 s 2) (body_in s)) → read_of s ≡ Bad
  bad_unless bad = by_front (λ x. x ≡ Bad) s (λ e. absurd (some_bytes (ap length e))) (λ n. refl) (λ f. sym (bad f))

  pub other_kind_is_bad : little 2 s 2 ≢ 1 → little 2 s 2 ≢ 2 → little 2 s 2 ≢ 3 → little 2 s 2 ≢ 4 → little 2 s 2 ≢ 255 → read_of s ≡ Bad
  other_kind_is_bad a b c d e = bad_unless (λ f. other_kind (body_in s) (little 2 s 2) a b c d e)

  pub wrong_fetch_length : little 2 s 2 ≡ 1 → little 2 s 0 ≢ 9 → read_of s ≡ Bad
  wrong_fetch_length k n = bad_unless (λ f. other_fetch (body_in s) (λ e. n (omega (arith, stated_length s f))) ∙ kind_1 (body_in s) _ k)

  pub wrong_store_length : little 2 s 2 ≡ 2 → little 2 s 0 ≢ 9 + little 2 s 9 → read_of s ≡ Bad
  wrong_store_length k n = bad_unless (λ f. other_store (body_in s) (little 2 (body_in s) 5) refl (λ e. n (sized f e)) ∙ kind_2 (body_in s) _ k)
    where
      sized : Fits s → length (body_in s) ≡ 7 + little 2 (body_in s) 5 → little 2 s 0 ≡ 9 + little 2 s 9
      sized f e = omega (arith, stated_length s f, field_in_front s f 2 5 (omega arith))

  pub wrong_key_length : little 2 s 2 ≡ 3 → little 2 s 0 ≢ 12 → read_of s ≡ Bad
  wrong_key_length k n = bad_unless (λ f. other_key (body_in s) (λ e. n (omega (arith, stated_length s f))) ∙ kind_3 (body_in s) _ k)

  pub wrong_prefix_length : little 2 s 2 ≡ 4 → little 2 s 0 ≢ 8 → read_of s ≡ Bad
  wrong_prefix_length k n = bad_unless (λ f. other_prefix (body_in s) (λ e. n (omega (arith, stated_length s f))) ∙ kind_4 (body_in s) _ k)

  pub wrong_remark_length : little 2 s 2 ≡ 255 → 258 < little 2 s 0 → read_of s ≡ Bad
  wrong_remark_length k n = bad_unless (λ f. long_remark (body_in s) (omega (arith, stated_length s f)) ∙ kind_255 (body_in s) _ k)

  pub other_instruction_is_bad : little 2 s 2 ≡ 3 → 5 < little 1 s 5 → read_of s ≡ Bad
  other_instruction_is_bad k i = go (ℕ_discrete (little 2 s 0) 12)
    where
      go : Dec (little 2 s 0 ≡ 12) → read_of s ≡ Bad
      go (yes e) = bad_unless (λ f. no_key_case (body_in s) (over f) (omega (arith, stated_length s f)) ∙ kind_3 (body_in s) _ k)
        where
          over : Fits s → 6 ≤ little 1 (body_in s) 1
          over f = omega (arith, field_in_front s f 1 1 (omega (arith, stated_length s f)))
      go (no n) = wrong_key_length k n

  pub other_operation_is_bad : little 2 s 2 ≡ 4 → 1 < little 1 s 5 → read_of s ≡ Bad
  other_operation_is_bad k i = go (ℕ_discrete (little 2 s 0) 8)
    where
      go : Dec (little 2 s 0 ≡ 8) → read_of s ≡ Bad
      go (yes e) = bad_unless (λ f. no_prefix_case (body_in s) (over f) (omega (arith, stated_length s f)) ∙ kind_4 (body_in s) _ k)
        where
          over : Fits s → 2 ≤ little 1 (body_in s) 1
          over f = omega (arith, field_in_front s f 1 1 (omega (arith, stated_length s f)))
      go (no n) = wrong_prefix_length k n

-- 02's case
pub given_case : read_of (9 ∷ 0 ∷ 1 ∷ 0 ∷ 0 ∷ 0 ∷ 0 ∷ 0 ∷ 0 ∷ 1 ∷ 0 ∷ []) ≡ ARequest 0 (Access Fetch 0 1) 11
unfolding read_of record_read kind_read fetch_in found little
given_case = refl
