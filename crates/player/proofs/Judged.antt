-- A record that can be judged: its length is there, and where that is not over 512, so is all that it counts. So what follows does not matter, and
-- one that cannot be judged has under 514 bytes. Assumes nothing.
use Prim.Native.Nat.{ℕ, ◌+◌, ◌≤◌, ◌<◌}
use native.Mathlib.Omega.{arith}
use mathlib.Core.Path.{◌≡◌, refl, ap}
use mathlib.Core.Bool.{Bool, true, false, ◌&&◌, ◌||◌}
use mathlib.Core.List.{List, ◌++◌}
use lib.ListN.{length, length-append}
use lib.Dec.{leb, ltb}
use borrow.Author.Tests.{leb-true, leb-false, ltb-true, ltb-false, le-leb, lt-leb, lt-ltb, le-ltb}
use Rattle.machine.proofs.Verdicts.{not_both}
use Rattle.house_record.specs.Little.{little}
use Rattle.house_record.proofs.LittleBytes.{little-append}
use Rattle.trace.specs.Trace.{Bad, read_of}
use Rattle.trace.proofs.Front.{Fits, by_front, same_record}
use Rattle.player.specs.Play.{judged}

-- by the tests that lead there
module _ (s : List ℕ) where
  pub no_length : length s < 2 → false ≡ judged s
  unfolding judged
  no_length h = simp (lt-leb _ _ h)

  module _ (length_there : 2 ≤ length s) (stated : ℕ) (field : stated ≡ little 2 s 0) where
    pub over_512 : 512 < stated → true ≡ judged s
    unfolding judged
    over_512 h = rw (← field) (simp (le-leb _ _ length_there, lt-ltb _ _ h))

    pub all_there : stated ≤ 512 → leb (2 + stated) (length s) ≡ judged s
    unfolding judged
    all_there h = rw (← field) (simp (le-leb _ _ length_there, le-ltb _ _ h))

judged_by : (held stated : ℕ) (a b c : Bool) → leb 2 held ≡ a → ltb 512 stated ≡ b → leb (2 + stated) held ≡ c → (a && (b || c)) ≡ true
    → (2 ≤ held) × (stated ≤ 512 → 2 + stated ≤ held)
judged_by held stated true true c ea eb ec e = (leb-true 2 held ea, λ h. absurd (omega (arith, ltb-true 512 stated eb)))
judged_by held stated true false true ea eb ec e = (leb-true 2 held ea, λ h. leb-true (2 + stated) held ec)
judged_by held stated true false false ea eb ec e = absurd (not_both e refl)
judged_by held stated false b c ea eb ec e = absurd (not_both e refl)

unjudged_by : (held stated : ℕ) (a b c : Bool) → leb 2 held ≡ a → ltb 512 stated ≡ b → leb (2 + stated) held ≡ c → (a && (b || c)) ≡ false
    → held < 514
unjudged_by held stated true true c ea eb ec e = absurd (not_both refl e)
unjudged_by held stated true false true ea eb ec e = absurd (not_both refl e)
unjudged_by held stated true false false ea eb ec e = omega (arith, ltb-false 512 stated eb, leb-false (2 + stated) held ec)
unjudged_by held stated false b c ea eb ec e = omega (arith, leb-false 2 held ea)

pub unjudged_short : (s : List ℕ) → judged s ≡ false → length s < 514
unfolding judged
unjudged_short s e =
    unjudged_by (length s) (little 2 s 0) (leb 2 (length s)) (ltb 512 (little 2 s 0)) (leb (2 + little 2 s 0) (length s)) refl refl refl e

module _ (s t : List ℕ) (e : judged s ≡ true) where
  known : (2 ≤ length s) × (little 2 s 0 ≤ 512 → 2 + little 2 s 0 ≤ length s)
  unfolding judged
  known = judged_by (length s) (little 2 s 0) (leb 2 (length s)) (ltb 512 (little 2 s 0)) (leb (2 + little 2 s 0) (length s)) refl refl refl e

  -- a record that fits with what follows fits without it
  fitted : Fits (s ++ t) → Fits s
  fitted (least, most, inside) =
      let same : little 2 (s ++ t) 0 ≡ little 2 s 0 = little-append 2 s t 0 known.0 in
      let small : little 2 s 0 ≤ 512 = omega (arith, most, same) in
      (omega (arith, least, same), small, known.1 small)

  pub judged_stays : read_of (s ++ t) ≡ read_of s
  judged_stays =
      by_front (λ x. read_of (s ++ t) ≡ x) s (λ none. absurd (omega (arith, known.0, ap length none)))
      (λ f. by_front (λ x. x ≡ Bad) (s ++ t) (λ none. absurd (omega (arith, known.0, ap length none, length-append s t))) (λ g. refl)
      (λ g. absurd (f (fitted g))))
      (same_record s t)
