-- Two actions on one state. A state has parts, and an action treats each part in a mode. Two actions whose modes are free of each other at every
-- part commute, and each gives back and treats what it would without the other. Assumes nothing.
use mathlib.Core.Path.{◌≡◌, refl, sym, ap, ◌∙◌}
use mathlib.Core.Bool.{Bool, true, false, cond}

-- how an action treats a part: not at all; it fetches it, and completes that or not; or it does anything else with it
pub data Mode : Type 0 where
  untouched : Mode
  fetch : Bool → Mode
  write : Mode

-- t is what a completed fetch makes of a part. To an action in this mode v and w are alike
abbrev pub Alike : {P : Type 0} → Mode → (P → P) → P → P → Type 0
Alike untouched t v w = Unit {0}
Alike (fetch completed) t v w = t v ≡ t w
Alike write t v w = v ≡ w

-- an action in this mode that finds v leaves w
abbrev pub Leaves : {P : Type 0} → Mode → (P → P) → P → P → Type 0
Leaves untouched t v w = w ≡ v
Leaves (fetch completed) t v w = w ≡ cond completed (t v) v
Leaves write t v w = Unit {0}

-- two actions that treat a part in these modes are free of each other there
pub data Free : Mode → Mode → Type 0 where
  only_first : {a : Mode} → Free a untouched
  only_second : {b : Mode} → Free untouched b
  fetches : {c d : Bool} → Free (fetch c) (fetch d)

-- to an action that finds the state m, the state n is alike in every part
abbrev pub AlikeTo : {S A U : Type 0} {P : U → Type 0}
    → (S → A → U → Mode) → (S → (u : U) → P u) → ((u : U) → P u → P u) → S → S → A → Type 0
AlikeTo {U = U} mode read touch m n x = (u : U) → Alike (mode m x u) (touch u) (read m u) (read n u)

-- what is asked of actions: the parts are the whole state; an action leaves each part as its mode says; and in a state that is alike to it,
-- an action has the same modes, gives back the same and leaves the same where it writes. What x gives back is of the type `R x`
pub record Laws (S A : Type 0) (R : A → Type 0) (U : Type 0) (P : U → Type 0) (next : S → A → S) (give : S → (x : A) → R x)
    (mode : S → A → U → Mode) (read : S → (u : U) → P u) (touch : (u : U) → P u → P u) : Type 0 where
  pub whole : (m n : S) → ((u : U) → read m u ≡ read n u) → m ≡ n
  pub touch_twice : (u : U) (v : P u) → touch u (touch u v) ≡ touch u v
  pub leaves : (m : S) (x : A) (u : U) → Leaves (mode m x u) (touch u) (read m u) (read (next m x) u)
  pub same_mode : (m n : S) (x : A) → AlikeTo mode read touch m n x → (u : U) → mode n x u ≡ mode m x u
  pub same_given : (m n : S) (x : A) → AlikeTo mode read touch m n x → give n x ≡ give m x
  pub same_written : (m n : S) (x : A)
      → AlikeTo mode read touch m n x → (u : U) → mode m x u ≡ write → read (next n x) u ≡ read (next m x) u

pub swap : {a b : Mode} → Free a b → Free b a
swap only_first = only_second
swap only_second = only_first
swap fetches = fetches

-- a part is not treated, or fetched
pub data Reads : Mode → Type 0 where
  untreated : Reads untouched
  fetched : {c : Bool} → Reads (fetch c)

pub reads_free : {a b : Mode} → Reads a → Reads b → Free a b
reads_free untreated h = only_second
reads_free fetched untreated = only_first
reads_free fetched fetched = fetches

-- one part, that holds v
module _ {P : Type 0} (t : P → P) (twice : (v : P) → t (t v) ≡ t v) (v : P) where
  same_alike : (b : Mode) (w : P) → w ≡ v → Alike b t v w
  same_alike untouched w e = tt
  same_alike (fetch c) w e = ap t (sym e)
  same_alike write w e = sym e

  fetched_alike : (c : Bool) (w : P) → w ≡ cond c (t v) v → t v ≡ t w
  fetched_alike true w e = sym (ap t e ∙ twice v)
  fetched_alike false w e = ap t (sym e)

  -- what an action leaves of v is alike to an action that is free of it
  free_alike : {a b : Mode} (w : P) → Free a b → Leaves a t v w → Alike b t v w
  free_alike w only_first e = tt
  free_alike w (only_second {b = b}) e = same_alike b w e
  free_alike w (fetches {c = c}) e = fetched_alike c w e

  -- one action makes x of v, and q of y; the other makes y of v, and p of x
  only_meet : (b : Mode) (x y p q : P) → x ≡ v → q ≡ y → Leaves b t v y → Leaves b t x p → (b ≡ write → p ≡ y) → p ≡ q
  only_meet untouched x y p q e f g h w = cc
  only_meet (fetch true) x y p q e f g h w = cc
  only_meet (fetch false) x y p q e f g h w = cc
  only_meet write x y p q e f g h w = w refl ∙ sym f

  fetches_meet : (c d : Bool) (x y p q : P)
      → x ≡ cond c (t v) v → q ≡ cond c (t y) y → y ≡ cond d (t v) v → p ≡ cond d (t x) x → p ≡ q
  fetches_meet true true x y p q e f g h = cc
  fetches_meet true false x y p q e f g h = cc
  fetches_meet false true x y p q e f g h = cc
  fetches_meet false false x y p q e f g h = cc

  free_meet : {a b : Mode} (x y p q : P) → Free a b
      → Leaves a t v x → Leaves a t y q → (a ≡ write → q ≡ x)
      → Leaves b t v y → Leaves b t x p → (b ≡ write → p ≡ y) → p ≡ q
  free_meet x y p q (only_first {a = a}) e f k g h l = sym (only_meet a y x q p g h e f k)
  free_meet x y p q (only_second {b = b}) e f k g h l = only_meet b x y p q e f g h l
  free_meet x y p q (fetches {c = c} {d = d}) e f k g h l = fetches_meet c d x y p q e f g h

module _ {S A : Type 0} {R : A → Type 0} {U : Type 0} {P : U → Type 0} {next : S → A → S} {give : S → (x : A) → R x} {mode : S → A → U → Mode}
    {read : S → (u : U) → P u} {touch : (u : U) → P u → P u} (laws : Laws S A R U P next give mode read touch) where
  -- y after x is as y without it
  module _ (m : S) (x y : A) (free : (u : U) → Free (mode m x u) (mode m y u)) where
    alike : AlikeTo mode read touch m (next m x) y
    alike u = free_alike (touch u) (laws.touch_twice u) _ _ (free u) (laws.leaves m x u)

    pub later_mode : (u : U) → mode (next m x) y u ≡ mode m y u
    later_mode = laws.same_mode m (next m x) y alike

    pub later_given : give (next m x) y ≡ give m y
    later_given = laws.same_given m (next m x) y alike

    later_written : (u : U) → mode m y u ≡ write → read (next (next m x) y) u ≡ read (next m y) u
    later_written = laws.same_written m (next m x) y alike

    later_leaves : (u : U) → Leaves (mode m y u) (touch u) (read (next m x) u) (read (next (next m x) y) u)
    later_leaves u = rw (later_mode u) at (laws.leaves (next m x) y u)

  pub commute : (m : S) (x y : A) → ((u : U) → Free (mode m x u) (mode m y u)) → next (next m x) y ≡ next (next m y) x
  commute m x y free =
      laws.whole _ _ (λ u.
      free_meet (touch u) (laws.touch_twice u) _ _ _ _ _ (free u)
      (laws.leaves m x u) (later_leaves m y x back u) (later_written m y x back u)
      (laws.leaves m y u) (later_leaves m x y free u) (later_written m x y free u))
    where
      back : (u : U) → Free (mode m y u) (mode m x u)
      back u = swap (free u)
