-- A range by unit: what is found of its units one after another is what the rules say of its bytes, since both reach the same units.
-- Assumes nothing.
use Prim.Native.Nat.{ℕ, zero, suc, ◌+◌, ◌-◌, ◌%◌, ◌<◌, ◌≤◌}
use mathlib.Core.Path.{◌≡◌, refl, sym, ap, ◌∙◌}
use mathlib.Core.Bool.{Bool, true, false, not}
use mathlib.Core.List.{List}
use native.Mathlib.Omega.{arith}
use native.Mathlib.Numerals.{add-one}
use lib.ListN.{get_or, set}
use Rattle.machine.specs.declared.Settings.{Settings}
use Rattle.machine.specs.declared.AccessKind.{AccessKind}
use Rattle.machine.specs.Lists.{written, any_below}
use Rattle.machine.specs.Numbers.{unit_of}
use Rattle.machine.specs.Protection.{permitted, recorded}
use Rattle.machine.specs.Channel.{range_forbidden, range_recorded}
use Rattle.machine.proofs.Verdicts.{any_at}
use Rattle.machine.proofs.Written.{written_elsewhere, one_more}
use Rattle.storage_key.specs.Entries.{permissions, permits}
use Rattle.storage_key.proofs.Entries.{permits_permitted}
use Rattle.channel.proofs.Places.{any_same_places, marked, marked_same_places, first_to_last, units_of_bytes, unit_of_ccw}

-- the last unit of a range is not before the first
pub units_in_order : (s : Settings) (start count first last : ℕ) → 0 < count → first ≡ unit_of s start → last ≡ unit_of s (start + (count - 1))
    → first ≤ last
units_in_order s start count first last positive first_is last_is = rw (first_is, last_is) (first_to_last s start count positive)

-- tests that agree on the numbers below n
any_same : (f g : ℕ → Bool) (n : ℕ) → ((i : ℕ) → f i ≡ g i) → any_below f n ≡ any_below g n
unfolding any_below
any_same f g zero same = refl
any_same f g (suc n) same = rw (any_same f g n same, same n)

-- the units from one on, of which the first n forbid none
unfoldable pub units_forbid : ℕ → List ℕ → ℕ → ℕ → Bool
units_forbid allowed keys first n = any_below (λ k. not (permits allowed (get_or keys (first + k) 0))) n

module _ (s : Settings) (kind : AccessKind) (access_key : ℕ) (keys : List ℕ) (bytes : (u : ℕ) → get_or keys u 0 < 256) (allowed : ℕ)
    (asked : allowed ≡ permissions kind access_key) where
  permits_as_ruled : (u : ℕ) → permits allowed (get_or keys u 0) ≡ permitted kind access_key (get_or keys u 0)
  permits_as_ruled u = rw asked (permits_permitted kind access_key (get_or keys u 0) (bytes u))

  module _ (start count : ℕ) (positive : 0 < count) (first last : ℕ) (first_is : first ≡ unit_of s start)
      (last_is : last ≡ unit_of s (start + (count - 1))) where
    by_unit : units_forbid allowed keys first (last + 1 - first) ≡ range_forbidden s kind access_key keys start count
    unfolding range_forbidden units_forbid
    by_unit =
        rw (first_is, last_is)
        (any_same _ _ (unit_of s (start + (count - 1)) + 1 - unit_of s start) (λ k. ap not (permits_as_ruled (unit_of s start + k)))
        ∙ any_same_places (λ u. not (permitted kind access_key (get_or keys u 0))) (units_of_bytes s start count positive))

    pub unit_forbids : (i : ℕ) {answer : Bool} → first + i ≤ last → answer ≡ permits allowed (get_or keys (first + i) 0) → answer ≡ false
        → true ≡ range_forbidden s kind access_key keys start count
    unfolding units_forbid
    unit_forbids i h said denied =
        sym (any_at (λ k. not (permits allowed (get_or keys (first + k) 0))) (last + 1 - first) i (omega arith) (ap not (sym said ∙ denied))) ∙ by_unit

    pub no_unit_forbids : (i : ℕ) → first + i ≤ last + 1 → last < first + i → units_forbid allowed keys first i ≡ false
        → false ≡ range_forbidden s kind access_key keys start count
    no_unit_forbids i h over none =
        let all : i ≡ last + 1 - first = omega arith in
        sym (rw all at none) ∙ by_unit

    -- a range in one unit
    pub one_unit_forbids : first ≡ last → {answer : Bool} → answer ≡ permits allowed (get_or keys first 0)
        → not answer ≡ range_forbidden s kind access_key keys start count
    unfolding units_forbid any_below
    one_unit_forbids one said =
        let single : last + 1 - first ≡ 1 = omega arith in
        let here : first + 0 ≡ first = omega arith in
        ap not said ∙ rw (single, here) at by_unit

-- one unit more that permits
pub permits_more : (allowed : ℕ) (keys : List ℕ) (first i : ℕ) {answer : Bool} → units_forbid allowed keys first i ≡ false
    → answer ≡ permits allowed (get_or keys (first + i) 0) → answer ≡ true → units_forbid allowed keys first (i + 1) ≡ false
unfolding any_below units_forbid
permits_more allowed keys first i none said granted = rw (add-one i, none, ← said, granted) refl

-- one key more that is written: its place was not reached before
pub recorded_more : (kind : AccessKind) (keys₀ keys : List ℕ) (first i : ℕ) {key : ℕ} → keys ≡ marked keys₀ (recorded kind) (λ k. first + k) i
    → key ≡ recorded kind (get_or keys (first + i) 0) → set keys (first + i) key ≡ marked keys₀ (recorded kind) (λ k. first + k) (i + 1)
recorded_more kind keys₀ keys first i so_far key_is =
    let before : get_or keys (first + i) 0 ≡ get_or keys₀ (first + i) 0 =
    rw so_far (written_elsewhere keys₀ (λ k. first + k) _ i (first + i) (λ k h e. omega arith)) in
    rw (key_is, before) (one_more keys keys₀ (λ k. first + k) (λ k. recorded kind (get_or keys₀ (first + k) 0)) i so_far)

-- the marked units of a range
pub range_recorded_lem : (s : Settings) (kind : AccessKind) (keys keys' : List ℕ) (start count first last i : ℕ) → 0 < count
    → first ≡ unit_of s start → last ≡ unit_of s (start + (count - 1)) → first + i ≤ last + 1 → last < first + i
    → keys' ≡ marked keys (recorded kind) (λ k. first + k) i
    → keys' ≡ range_recorded s kind keys start count
unfolding range_recorded
range_recorded_lem s kind keys keys' start count first last i positive first_is last_is h over so_far =
    let all : i ≡ unit_of s (start + (count - 1)) + 1 - unit_of s start = omega arith in
    rw (all, first_is) at so_far ∙ marked_same_places keys (recorded kind) (units_of_bytes s start count positive)

pub one_unit_recorded : (s : Settings) (kind : AccessKind) (keys : List ℕ) (start count first last : ℕ) → 0 < count
    → first ≡ unit_of s start → last ≡ unit_of s (start + (count - 1)) → first ≡ last → {key : ℕ} → key ≡ recorded kind (get_or keys first 0)
    → set keys first key ≡ range_recorded s kind keys start count
unfolding written
one_unit_recorded s kind keys start count first last positive first_is last_is one {key} key_is =
    let here : first + 0 ≡ first = omega arith in
    range_recorded_lem s kind keys (set keys first key) start count first last 1 positive first_is last_is (omega arith) (omega arith)
    (rw (here, key_is) refl)

-- the unit of a CCW
module _ (s : Settings) (keys : List ℕ) (a unit : ℕ) (whole : a % 8 ≡ 0) (unit_is : unit ≡ unit_of s a) where
  pub ccw_forbidden : (kind : AccessKind) (access_key : ℕ) → not (permitted kind access_key (get_or keys unit 0)) ≡ range_forbidden s kind access_key keys a 8
  unfolding range_forbidden any_below
  ccw_forbidden kind access_key = rw unit_is (any_same_places (λ u. not (permitted kind access_key (get_or keys u 0))) (unit_of_ccw s a whole))

  pub ccw_recorded : (kind : AccessKind) → set keys unit (recorded kind (get_or keys unit 0)) ≡ range_recorded s kind keys a 8
  unfolding range_recorded written
  ccw_recorded kind = rw unit_is (marked_same_places keys (recorded kind) (unit_of_ccw s a whole))
