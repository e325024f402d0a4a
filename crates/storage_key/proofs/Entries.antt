-- The permissions of an access key say of a storage key what the rule says. A word of bits has its bit i at its place; the rule looks at nothing
-- but the access key and the five leading key bits, by which the bits are numbered; and the rule is the manual's summary. That the words of a
-- table are these permissions is one test, to be computed, of all 512 entries. Assumes nothing.
use Prim.Native.Nat.{ℕ, zero, suc, ◌+◌, ◌*◌, ◌/◌, ◌%◌, ◌^◌, ◌<◌, ◌≤◌}
use mathlib.Core.Path.{◌≡◌, ◌∙◌, refl, sym}
use mathlib.Core.Bool.{Bool, true, false, cond, ◌&&◌}
use mathlib.Core.List.{List, []}
use native.Mathlib.Omega.{arith}
use native.Mathlib.Nat.{add-zero, pow-succ', div-one, div-div-eq-div-mul}
use lib.ListN.{get_or}
use lib.Dec.{eqb}
use borrow.Author.Tests.{ne_eqb, eqb-true}
use Rattle.machine.specs.declared.AccessKind.{AccessKind}
use Rattle.machine.specs.declared.AccessKind.TheVariants.{Fetch, Store}
use Rattle.machine.specs.Key.{access_control, fetch_protection}
use Rattle.machine.specs.Protection.{matches, permitted, summarized}
use Rattle.machine.proofs.Verdicts.{both}
use Rattle.machine.proofs.Summary.{permitted_as_summarized}
use Rattle.storage_key.specs.Entries.{word_of, permissions, permits}

-- bit i of a word of n bits
bit_of : (bit : ℕ → Bool) (n i : ℕ) → i < n → word_of bit n / 2 ^ i % 2 ≡ cond (bit i) 1 0
unfolding word_of
bit_of bit zero i h = absurd (omega arith)
bit_of bit (suc n) zero h = rw (div-one (rest * 2 + cond (bit 0) 1 0)) (value (bit 0))
  where
    rest : ℕ
    rest = word_of (λ i. bit (suc i)) n

    -- the first bit is the remainder by 2
    value : (b : Bool) → (rest * 2 + cond b 1 0) % 2 ≡ cond b 1 0
    value true = omega arith
    value false = omega arith
bit_of bit (suc n) (suc i) h =
    let halved = div-div-eq-div-mul (rest * 2 + cond (bit 0) 1 0) 2 (2 ^ i) in
    rw (pow-succ' 2 i, ← halved, half (bit 0)) (bit_of (λ j. bit (suc j)) n i (omega arith))
  where
    rest : ℕ
    rest = word_of (λ i. bit (suc i)) n

    -- each bit after it is a bit of the quotient by 2
    half : (b : Bool) → (rest * 2 + cond b 1 0) / 2 ≡ rest
    half true = omega arith
    half false = omega arith

-- the test that a bit is one is the bit
bit_on : (b : Bool) → eqb (cond b 1 0) 1 ≡ b
bit_on true = refl
bit_on false = refl

-- the rule looks at the access key and the five leading key bits
by_leading : (kind : AccessKind) (a k : ℕ) → permitted kind a (k / 8 * 8) ≡ permitted kind a k
unfolding permitted
by_leading kind a k = of kind
  where
    control : access_control (k / 8 * 8) ≡ access_control k
    control = omega arith

    bit : fetch_protection (k / 8 * 8) ≡ fetch_protection k
    bit = omega arith

    of : (kind : AccessKind) → permitted kind a (k / 8 * 8) ≡ permitted kind a k
    of Fetch = rw (control, bit)
    of Store = rw control

-- the permissions of an access key say of a storage key what the rule says
pub permits_permitted : (kind : AccessKind) (a k : ℕ) → k < 256 → permits (permissions kind a) k ≡ permitted kind a k
unfolding permissions
permits_permitted kind a k byte =
    rw (bit_of (λ leading. summarized kind a (leading * 8)) 32 (k / 8) (omega arith))
    (bit_on (summarized kind a (k / 8 * 8)) ∙ (sym (permitted_as_summarized kind a (k / 8 * 8)) ∙ by_leading kind a k))

-- words with the same bits are the same
word_same : (f g : ℕ → Bool) (n : ℕ) → ((i : ℕ) → i < n → f i ≡ g i) → word_of f n ≡ word_of g n
unfolding word_of
word_same f g zero same = refl
word_same f g (suc n) same = rw (word_same (λ i. f (suc i)) (λ i. g (suc i)) n (λ i h. same (suc i) (omega arith)), same 0 (omega arith))

-- The permissions of an access key over 15: it matches no storage key, whose access-control bits are below 16.
abbrev pub unmatched : AccessKind → ℕ
unmatched Fetch = 1431655765
unmatched Store = 0

pub over_15 : (kind : AccessKind) (a : ℕ) → 16 ≤ a → permissions kind a ≡ unmatched kind
unfolding permissions permitted word_of
over_15 kind a over = of kind
  where
    none_matches : (k : ℕ) → k < 256 → matches a k ≡ false
    none_matches k h =
        let not_zero : eqb a 0 ≡ false = ne_eqb a 0 (λ e. omega arith) in
        let not_equal : eqb a (access_control k) ≡ false = ne_eqb a (access_control k) (λ e. omega arith) in
        rw (not_zero, not_equal) refl

    of : (kind : AccessKind) → word_of (λ leading. summarized kind a (leading * 8)) 32 ≡ unmatched kind
    of Fetch =
        word_same (λ leading. summarized Fetch a (leading * 8)) (λ leading. eqb (leading % 2) 0) 32
        (λ i h. let bit : fetch_protection (i * 8) ≡ i % 2 = omega arith in
        sym (permitted_as_summarized Fetch a (i * 8)) ∙ rw (none_matches (i * 8) (omega arith), bit))
    of Store =
        word_same (λ leading. summarized Store a (leading * 8)) (λ leading. false) 32
        (λ i h. sym (permitted_as_summarized Store a (i * 8)) ∙ none_matches (i * 8) (omega arith))

-- the words of a table: for fetch, then for store
abbrev row_of : AccessKind → ℕ
row_of Fetch = 0
row_of Store = 1

abbrev word_at : List (List ℕ) → (row a : ℕ) → ℕ
word_at table row a = get_or (get_or table row []) a 0

-- a test passes at n numbers, the first of which is `from`
abbrev every : (ℕ → Bool) → (n from : ℕ) → Bool
every test zero from = true
every test (suc n) from = test from && every test n (suc from)

every_at : (test : ℕ → Bool) (n from : ℕ) → every test n from ≡ true → (i : ℕ) → i < n → test (from + i) ≡ true
every_at test zero from e i h = absurd (omega arith)
every_at test (suc n) from e zero h = rw (add-zero from) (both (test from) _ e).0
every_at test (suc n) from e (suc i) h =
    let next : from + suc i ≡ suc from + i = omega arith in
    rw next (every_at test n (suc from) (both (test from) _ e).1 i (omega arith))

-- the test of a table over all its entries, and the words that it has then
abbrev right : List (List ℕ) → AccessKind → ℕ → Bool
right table kind a = eqb (word_at table (row_of kind) a) (permissions kind a)

abbrev pub follows : List (List ℕ) → Bool
follows table = every (λ a. right table Fetch a && right table Store a) 16 0

pub word_follows : (table : List (List ℕ)) → follows table ≡ true → (kind : AccessKind) (a : ℕ) → a < 16
    → word_at table (row_of kind) a ≡ permissions kind a
word_follows table passed kind a h = eqb-true _ _ (of kind)
  where
    here : right table Fetch a && right table Store a ≡ true
    here =
        let same : a ≡ 0 + a = omega arith in
        rw same (every_at (λ i. right table Fetch i && right table Store i) 16 0 passed a h)

    of : (kind : AccessKind) → right table kind a ≡ true
    of Fetch = (both (right table Fetch a) _ here).0
    of Store = (both (right table Fetch a) _ here).1
