-- A step that is several actions, one after another: which comes next depends on what the others gave back. A step of the channel is one: it
-- fetches a CCW and then does what that says. A sequence of actions that obey the laws of actions obeys them as one action. It treats a part in
-- the modes of its actions taken together: a part that is only fetched by them is fetched, and completed where one of them is. Assumes nothing.
use mathlib.Core.Path.{◌≡◌, refl, sym, ap, ◌∙◌}
use mathlib.Core.Bool.{Bool, true, false, cond, ◌||◌}
use Rattle.turns.proofs.Actions.{Mode, untouched, fetch, write, Alike, Leaves, AlikeTo, Laws}

pub data Sequence (A : Type 0) (R : A → Type 0) (Z : Type 0) : Type 0 where
  end : Z → Sequence A R Z
  act : (x : A) → (R x → Sequence A R Z) → Sequence A R Z

module _ {S A : Type 0} {R : A → Type 0} {Z : Type 0} (next : S → A → S) (give : S → (x : A) → R x) where
  -- the state that it leaves, and what it ends with
  abbrev pub through : S → Sequence A R Z → S
  through m (end z) = m
  through m (act x further) = through (next m x) (further (give m x))

  abbrev pub result : S → Sequence A R Z → Z
  result m (end z) = z
  result m (act x further) = result (next m x) (further (give m x))

abbrev pub both : Mode → Mode → Mode
both untouched b = b
both (fetch c) untouched = fetch c
both (fetch c) (fetch d) = fetch (c || d)
both (fetch c) write = write
both write b = write

-- one part. The first action leaves v' of v and w' of w, and the second v'' of v' and w'' of w'
module _ {P : Type 0} (t : P → P) (twice : (v : P) → t (t v) ≡ t v) where
  fetched_same : (c : Bool) (v w : P) → t v ≡ t w → t (cond c (t v) v) ≡ t (cond c (t w) w)
  fetched_same true v w e = ap t e
  fetched_same false v w e = e

  alike_first : (a b : Mode) (v w : P) → Alike (both a b) t v w → Alike a t v w
  alike_first untouched b v w h = tt
  alike_first (fetch c) untouched v w h = h
  alike_first (fetch c) (fetch d) v w h = h
  alike_first (fetch c) write v w h = ap t h
  alike_first write b v w h = h

  same_alike : (b : Mode) (v w : P) → v ≡ w → Alike b t v w
  same_alike untouched v w e = tt
  same_alike (fetch c) v w e = ap t e
  same_alike write v w e = e

  alike_second : (a b : Mode) (v w v' w' : P) → Alike (both a b) t v w → Leaves a t v v' → Leaves a t w w' → (a ≡ write → w' ≡ v')
      → Alike b t v' w'
  alike_second untouched b v w v' w' h e f g = rw (e, f) h
  alike_second (fetch c) untouched v w v' w' h e f g = tt
  alike_second (fetch c) (fetch d) v w v' w' h e f g = rw (e, f) (fetched_same c v w h)
  alike_second (fetch c) write v w v' w' h e f g = rw (e, f) (ap (λ x. cond c (t x) x) h)
  alike_second write b v w v' w' h e f g = same_alike b v' w' (sym (g refl))

  leaves_both : (a b : Mode) (v v' v'' : P) → Leaves a t v v' → Leaves b t v' v'' → Leaves (both a b) t v v''
  leaves_both untouched b v v' v'' e f = rw e at f
  leaves_both (fetch c) untouched v v' v'' e f = f ∙ e
  leaves_both (fetch true) (fetch true) v v' v'' e f = f ∙ ap t e ∙ twice v
  leaves_both (fetch true) (fetch false) v v' v'' e f = f ∙ e
  leaves_both (fetch false) (fetch d) v v' v'' e f = rw e at f
  leaves_both (fetch c) write v v' v'' e f = tt
  leaves_both write b v v' v'' e f = tt

  left_same : (b : Mode) (v w v' w' : P) → v ≡ w → Leaves b t v v' → Leaves b t w w' → (b ≡ write → w' ≡ v') → w' ≡ v'
  left_same untouched v w v' w' e f g h = g ∙ sym e ∙ sym f
  left_same (fetch c) v w v' w' e f g h = g ∙ ap (λ x. cond c (t x) x) (sym e) ∙ sym f
  left_same write v w v' w' e f g h = h refl

  written_both : (a b : Mode) (v' w' v'' w'' : P) → (a ≡ write → w' ≡ v') → Leaves b t v' v'' → Leaves b t w' w''
      → (b ≡ write → w'' ≡ v'') → both a b ≡ write → w'' ≡ v''
  written_both untouched b v' w' v'' w'' g e f h i = h i
  written_both (fetch c) untouched v' w' v'' w'' g e f h i = cc
  written_both (fetch c) (fetch d) v' w' v'' w'' g e f h i = cc
  written_both (fetch c) write v' w' v'' w'' g e f h i = h refl
  written_both write b v' w' v'' w'' g e f h i = left_same b v' w' v'' w'' (sym (g refl)) e f h

abbrev pub modes : {S A : Type 0} {R : A → Type 0} {Z U : Type 0} → (S → A → S) → (S → (x : A) → R x) → (S → A → U → Mode)
    → S → Sequence A R Z → U → Mode
modes next give mode m (end z) u = untouched
modes next give mode m (act x further) u = both (mode m x u) (modes next give mode (next m x) (further (give m x)) u)

module _ {S A : Type 0} {R : A → Type 0} {Z U : Type 0} {P : U → Type 0} {next : S → A → S} {give : S → (x : A) → R x}
    {mode : S → A → U → Mode} {read : S → (u : U) → P u} {touch : (u : U) → P u → P u} (laws : Laws S A R U P next give mode read touch) where
  leaves : (m : S) (p : Sequence A R Z) (u : U) → Leaves (modes next give mode m p u) (touch u) (read m u) (read (through next give m p) u)
  leaves m (end z) u = refl
  leaves m (act x further) u = leaves_both (touch u) (laws.touch_twice u) (mode m x u) _ _ _ _ (laws.leaves m x u) (leaves (next m x) (further (give m x)) u)

  -- in a state that is alike to it, a sequence does the same
  record Same (m n : S) (p : Sequence A R Z) : Type 0 where
    same_modes : (u : U) → modes next give mode n p u ≡ modes next give mode m p u
    same_result : result next give n p ≡ result next give m p
    same_written : (u : U) → modes next give mode m p u ≡ write → read (through next give n p) u ≡ read (through next give m p) u

  same : (m n : S) (p : Sequence A R Z) → AlikeTo (modes next give mode) read touch m n p → Same m n p
  same m n (end z) alike = record { same_modes = λ u. refl; same_result = refl; same_written = λ u e. cc }
  same m n (act x further) alike =
      let here : AlikeTo mode read touch m n x = λ u. alike_first (touch u) (laws.touch_twice u) (mode m x u) _ _ _ (alike u) in
      let given : give n x ≡ give m x = laws.same_given m n x here in
      let left : (u : U) → Leaves (mode m x u) (touch u) (read n u) (read (next n x) u) = λ u. rw (laws.same_mode m n x here u) at (laws.leaves n x u) in
      let there : AlikeTo (modes next give mode) read touch (next m x) (next n x) (further (give m x)) =
      λ u. alike_second (touch u) (laws.touch_twice u) (mode m x u) _ _ _ _ _ (alike u) (laws.leaves m x u) (left u) (laws.same_written m n x here u) in
      let rest = same (next m x) (next n x) (further (give m x)) there in
      record {
        same_modes = λ u. rw (given, laws.same_mode m n x here u, rest.same_modes u);
        same_result = rw given rest.same_result;
        same_written = λ u e.
            rw given
            (written_both (touch u) (laws.touch_twice u) (mode m x u) (modes next give mode (next m x) (further (give m x)) u) _ _ _ _
            (laws.same_written m n x here u) (leaves (next m x) (further (give m x)) u)
            (rw (rest.same_modes u) at (leaves (next n x) (further (give m x)) u)) (rest.same_written u) e);
      }

  pub sequence_laws : Laws S (Sequence A R Z) (λ p. Z) U P (through next give) (result next give) (modes next give mode) read touch
  sequence_laws =
      record {
        whole = laws.whole;
        touch_twice = laws.touch_twice;
        leaves = leaves;
        same_mode = λ m n p alike. (same m n p alike).same_modes;
        same_given = λ m n p alike. (same m n p alike).same_result;
        same_written = λ m n p alike. (same m n p alike).same_written;
      }

-- laws of actions are laws of whatever says which action it stands for
pub laws_of : {S A B : Type 0} {R : A → Type 0} {U : Type 0} {P : U → Type 0} {next : S → A → S} {give : S → (x : A) → R x}
    {mode : S → A → U → Mode} {read : S → (u : U) → P u} {touch : (u : U) → P u → P u} (f : B → A) → Laws S A R U P next give mode read touch
    → Laws S B (λ x. R (f x)) U P (λ m x. next m (f x)) (λ m x. give m (f x)) (λ m x. mode m (f x)) read touch
laws_of f laws =
    record {
      whole = laws.whole;
      touch_twice = laws.touch_twice;
      leaves = λ m x. laws.leaves m (f x);
      same_mode = λ m n x. laws.same_mode m n (f x);
      same_given = λ m n x. laws.same_given m n (f x);
      same_written = λ m n x. laws.same_written m n (f x);
    }

-- and of what leaves and gives back the same
pub laws_as : {S A R U : Type 0} {P : U → Type 0} {next next' : S → A → S} {give give' : S → A → R} {mode : S → A → U → Mode}
    {read : S → (u : U) → P u} {touch : (u : U) → P u → P u} → ((m : S) (x : A) → next m x ≡ next' m x) → ((m : S) (x : A) → give m x ≡ give' m x)
    → Laws S A (λ x. R) U P next give mode read touch → Laws S A (λ x. R) U P next' give' mode read touch
laws_as e f laws =
    record {
      whole = laws.whole;
      touch_twice = laws.touch_twice;
      leaves = λ m x u. rw (← e m x) (laws.leaves m x u);
      same_mode = laws.same_mode;
      same_given = λ m n x alike. rw (← f n x, ← f m x) (laws.same_given m n x alike);
      same_written = λ m n x alike u w. rw (← e n x, ← e m x) (laws.same_written m n x alike u w);
    }
