-- What a record is by its body and kind, by the tests that lead there. Assumes nothing.
use Prim.Native.Nat.{ℕ, zero, suc, ◌+◌, ◌-◌, ◌≤◌, ◌<◌}
use native.Mathlib.Omega.{arith}
use mathlib.Core.Path.{◌≡◌, refl, sym, ap, ◌∙◌}
use Rattle.std.specs.Prelude.{Ok}
use mathlib.Core.List.{List, [], ◌∷◌}
use mathlib.Core.Option.{none, some}
use lib.ListN.{length, get_elem?, take, drop}
use borrow.Author.Tests.{le-leb, lt-leb, eq-eqb, ne_eqb}
use Rattle.machine.specs.declared.Request.{Request}
use Rattle.machine.specs.declared.Request.TheVariants.{Access}
use Rattle.machine.specs.declared.AccessKind.TheVariants.{Fetch, Store}
use Rattle.house_record.specs.declared.Header.{Header}
use Rattle.house_record.specs.Little.{little}
use Rattle.house_record.specs.Records.{Short, End as AtEnd, found}
use Rattle.house_record.proofs.Finding.{whole_inside}
use Rattle.trace.specs.Trace.{Remark, Bad, End, request_in, fetch_in, store_in, key_requests, key_in, prefix_requests, prefix_in, remark_in}
use Rattle.trace.specs.Trace.{kind_read, record_read, read_of}

none_past : (xs : List Request) (i : ℕ) → length xs ≤ i → get_elem? xs i ≡ none
none_past [] i h = refl
none_past (x ∷ xs) zero h = absurd (omega arith)
none_past (x ∷ xs) (suc i) h = none_past xs i (omega arith)

module _ (body : List ℕ) where
  pub other_fetch : (length body ≡ 7 → ⊥) → Bad ≡ fetch_in body
  unfolding fetch_in
  other_fetch h = simp (ne_eqb _ _ h)

  pub fetched : (a n : ℕ) → a ≡ little 4 body 1 → n ≡ little 2 body 5 → length body ≡ 7 → request_in body (Access Fetch a n) ≡ fetch_in body
  unfolding fetch_in
  fetched a n ea en e = rw (ea, en) (simp (eq-eqb _ _ e))

  module _ (n : ℕ) (count : n ≡ little 2 body 5) where
    pub other_store : (length body ≡ 7 + n → ⊥) → Bad ≡ store_in body
    unfolding store_in
    other_store h = rw (← count) (simp (ne_eqb _ _ h))

    pub stored : (a : ℕ) → a ≡ little 4 body 1 → length body ≡ 7 + n → request_in body (Access Store a n) ≡ store_in body
    unfolding store_in
    stored a ea e = rw (ea, ← count) (simp (eq-eqb _ _ e))

  pub other_key : (length body ≡ 10 → ⊥) → Bad ≡ key_in body
  unfolding key_in
  other_key h = simp (ne_eqb _ _ h)

  -- the instruction is told by its number
  pub key_case : (k : ℕ) (r : Request) → get_elem? (key_requests (little 4 body 2) (little 4 body 6)) k ≡ some r → little 1 body 1 ≡ k
      → length body ≡ 10 → request_in body r ≡ key_in body
  unfolding key_in
  key_case k r e h long = rw (h, e) (simp (eq-eqb _ _ long))

  -- with operands that were read
  module _ (r1 r2 : ℕ) (e1 : r1 ≡ little 4 body 2) (e2 : r2 ≡ little 4 body 6) where
    pub key_told : (n k : ℕ) (r : Request) → get_elem? (key_requests r1 r2) k ≡ some r → n ≡ little 1 body 1 → n ≡ k → length body ≡ 10
        → request_in body r ≡ key_in body
    key_told n k r e f g long =
        let same : get_elem? (key_requests (little 4 body 2) (little 4 body 6)) k ≡ get_elem? (key_requests r1 r2) k =
        ap (λ (x : ℕ). get_elem? (key_requests x (little 4 body 6)) k) (sym e1) ∙ ap (λ (x : ℕ). get_elem? (key_requests r1 x) k) (sym e2)
        in
        key_case k r (same ∙ e) (sym f ∙ g) long

  pub no_key_case : 6 ≤ little 1 body 1 → length body ≡ 10 → Bad ≡ key_in body
  unfolding key_in
  no_key_case h long = rw (none_past (key_requests (little 4 body 2) (little 4 body 6)) (little 1 body 1) h) (simp (eq-eqb _ _ long))

  pub other_prefix : (length body ≡ 6 → ⊥) → Bad ≡ prefix_in body
  unfolding prefix_in
  other_prefix h = simp (ne_eqb _ _ h)

  pub prefix_case : (k : ℕ) (r : Request) → get_elem? (prefix_requests (little 4 body 2)) k ≡ some r → little 1 body 1 ≡ k → length body ≡ 6
      → request_in body r ≡ prefix_in body
  unfolding prefix_in
  prefix_case k r e h long = rw (h, e) (simp (eq-eqb _ _ long))

  pub no_prefix_case : 2 ≤ little 1 body 1 → length body ≡ 6 → Bad ≡ prefix_in body
  unfolding prefix_in
  no_prefix_case h long = rw (none_past (prefix_requests (little 4 body 2)) (little 1 body 1) h) (simp (eq-eqb _ _ long))

  pub remarked : length body ≤ 256 → Remark (4 + length body) ≡ remark_in body
  unfolding remark_in
  remarked h = simp (le-leb _ _ h)

  pub long_remark : 256 < length body → Bad ≡ remark_in body
  unfolding remark_in
  long_remark h = simp (lt-leb _ _ h)

  -- by kind
  pub kind_1 : (k : ℕ) → k ≡ 1 → fetch_in body ≡ kind_read k body
  unfolding kind_read
  kind_1 k e = simp e

  pub kind_2 : (k : ℕ) → k ≡ 2 → store_in body ≡ kind_read k body
  unfolding kind_read
  kind_2 k e = simp e

  pub kind_3 : (k : ℕ) → k ≡ 3 → key_in body ≡ kind_read k body
  unfolding kind_read
  kind_3 k e = simp e

  pub kind_4 : (k : ℕ) → k ≡ 4 → prefix_in body ≡ kind_read k body
  unfolding kind_read
  kind_4 k e = simp e

  pub kind_255 : (k : ℕ) → k ≡ 255 → remark_in body ≡ kind_read k body
  unfolding kind_read
  kind_255 k e = simp e

  pub other_kind : (k : ℕ) → (k ≡ 1 → ⊥) → (k ≡ 2 → ⊥) → (k ≡ 3 → ⊥) → (k ≡ 4 → ⊥) → (k ≡ 255 → ⊥) → Bad ≡ kind_read k body
  unfolding kind_read
  other_kind k a b c d e = simp (ne_eqb _ _ a, ne_eqb _ _ b, ne_eqb _ _ c, ne_eqb _ _ d, ne_eqb _ _ e)

pub ruleset accesses = (other_fetch, fetched, other_store, stored)

pub ruleset keys = (other_key, key_case, no_key_case)

pub ruleset prefixes = (other_prefix, prefix_case, no_prefix_case)

pub ruleset remarks = (remarked, long_remark)

pub ruleset by_number = (kind_1, kind_2, kind_3, kind_4, kind_255, other_kind)

-- by what stands in front
module _ (s : List ℕ) where
  pub front_end : found s 0 ≡ AtEnd → End ≡ read_of s
  unfolding read_of record_read
  front_end e = rw e refl

  pub front_short : found s 0 ≡ Short → Bad ≡ read_of s
  unfolding read_of record_read
  front_short e = rw e refl

  -- a record that is there whole, by the length that it states
  module _ (header : Header) (e : found s 0 ≡ Ok header) where
    pub front_inside : (2 ≤ header.length) × (2 + header.length ≤ length s)
    front_inside = let known = whole_inside s 0 header.length header.kind e in (known.0, omega (arith, known.1))

    pub too_long : 512 < header.length → Bad ≡ read_of s
    unfolding read_of record_read
    too_long h = rw e (simp (lt-leb _ _ h))

    pub read_as : header.length ≤ 512 → kind_read header.kind (take (2 + header.length - 4) (drop 4 s)) ≡ read_of s
    unfolding read_of record_read
    read_as h =
        let same : 2 + header.length - 4 ≡ header.length - 2 = omega arith in
        rw (same, e) (simp (le-leb _ _ h))

pub ruleset fronts = (front_end, front_short, front_inside, too_long, read_as)
