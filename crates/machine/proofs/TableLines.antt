-- A table of lines, each with its number, its verdict and the sentence that says when it applies. The table gives the number of a line exactly
-- when no earlier line applies and this one does: `line_answers`. The proofs go by the lines from the top.
-- Assumes nothing.
use Rattle.std.specs.Prelude.{Err}
use Prim.Native.Nat.{ℕ, ◌<◌}
use mathlib.Core.Path.{◌≡◌, refl, sym, ap, ◌∙◌}
use mathlib.Core.Bool.{Bool, true, false}
use mathlib.Core.Logic.{◌≢◌, ◌↔◌}
use mathlib.Core.List.{List, [], ◌∷◌, ◌++◌, map}
use Rattle.machine.specs.declared.Reason.{Reason}
use Rattle.machine.specs.Answers.{Verdict, Clear, Stop, number, stops, line, first_of, first_byte, first_line}
use Rattle.machine.proofs.Tests.{Tells}
use Rattle.machine.proofs.Verdicts.{not_both, first_none, first_assoc, bytes_stopped, bytes_clear}

pub record Line : Type 1 where
  pub number : ℕ
  pub verdict : Verdict
  pub Applies : Type 0

-- no line of a list applies
abbrev pub NoneOf : List Line → Type 0
NoneOf [] = Unit {0}
NoneOf (l ∷ ls) = (¬ l.Applies) × NoneOf ls

-- the number that a verdict gives
abbrev pub shown : Verdict → ℕ
shown Clear = 0
shown (Err refusal) = number refusal.reason

-- a verdict refuses with no number but n
abbrev pub Only : ℕ → Verdict → Type 0
Only n Clear = Unit {0}
Only n (Err refusal) = number refusal.reason ≡ n

-- a line refuses with its number only, and exactly when its sentence holds
pub record Sound (l : Line) : Type 0 where
  pub own : Only l.number l.verdict
  pub when : (stops l.verdict ≡ true) ↔ l.Applies

abbrev pub AllSound : List Line → Type 0
AllSound [] = Unit {0}
AllSound (l ∷ ls) = Sound l × AllSound ls

-- no line of a list has the number n
abbrev pub NumberedOther : ℕ → List Line → Type 0
NumberedOther n [] = Unit {0}
NumberedOther n (l ∷ ls) = (l.number ≢ n) × NumberedOther n ls

-- the verdict of a table, its lines taken from top to bottom
abbrev pub table_of : List Line → Verdict
table_of [] = Clear
table_of (l ∷ ls) = first_of l.verdict (table_of ls)

-- a line above others: together they give a number that is not its own exactly when it does not apply and they give it
passed : (l : Line) → Sound l → (n : ℕ) → l.number ≢ n → (w : Verdict) → (shown (first_of l.verdict w) ≡ n) ↔ ((¬ l.Applies) × (shown w ≡ n))
unfolding first_of
passed l sound n other w = go l.verdict sound.own sound.when
  where
    go : (v : Verdict) → Only l.number v → (stops v ≡ true) ↔ l.Applies → (shown (first_of v w) ≡ n) ↔ ((¬ l.Applies) × (shown w ≡ n))
    go Clear own when = (λ e. (λ a. not_both (when.1 a) refl, e), λ h. h.1)
    go (Err refusal) own when = (λ e. absurd (other (sym own ∙ e)), λ h. absurd (h.0 (when.0 refl)))

-- a table gives 0 exactly when no line applies
pub table_clears : (ls : List Line) → AllSound ls → NumberedOther 0 ls → (shown (table_of ls) ≡ 0) ↔ NoneOf ls
table_clears [] sounds apart = (λ e. tt, λ h. refl)
table_clears (l ∷ ls) sounds apart =
    let first = passed l sounds.0 0 apart.0 (table_of ls) in
    let rest = table_clears ls sounds.1 apart.1 in
    (λ e. let (a, b) = first.0 e in (a, rest.0 b), λ h. first.1 (h.0, rest.1 h.1))

-- lines with other numbers than n do not give n
other_numbers : (n : ℕ) (ls : List Line) → AllSound ls → NumberedOther n ls → n ≢ 0 → shown (table_of ls) ≢ n
other_numbers n [] sounds apart nonzero e = nonzero (sym e)
other_numbers n (l ∷ ls) sounds apart nonzero e =
    other_numbers n ls sounds.1 apart.1 nonzero ((passed l sounds.0 n apart.0 (table_of ls)).0 e).1

-- the law: a table gives the number of a line exactly when no earlier line applies and this one does
pub line_answers : (earlier : List Line) (l : Line) (later : List Line) → AllSound (earlier ++ (l ∷ later))
    → NumberedOther l.number earlier → NumberedOther l.number later → l.number ≢ 0
    → (shown (table_of (earlier ++ (l ∷ later))) ≡ l.number) ↔ (NoneOf earlier × l.Applies)
unfolding first_of
line_answers (m ∷ earlier) l later sounds before after nonzero =
    let first = passed m sounds.0 l.number before.0 (table_of (earlier ++ (l ∷ later))) in
    let rest = line_answers earlier l later sounds.1 before.1 after nonzero in
    (λ e. let (a, b) = first.0 e in let (c, d) = rest.0 b in ((a, c), d), λ h. first.1 (h.0.0, rest.1 (h.0.1, h.1)))
line_answers [] l later sounds before after nonzero =
    go l.verdict sounds.0.own sounds.0.when (table_of later) (other_numbers l.number later sounds.1 after nonzero)
  where
    go : (v : Verdict) → Only l.number v → (stops v ≡ true) ↔ l.Applies → (u : Verdict) → shown u ≢ l.number
        → (shown (first_of v u) ≡ l.number) ↔ (Unit {0} × l.Applies)
    go Clear own when u h = (λ e. absurd (h e), λ a. absurd (not_both (when.1 a.1) refl))
    go (Err refusal) own when u h = (λ e. (tt, when.0 refl), λ a. own)

-- and where it does, it refuses with the reason and the place of that line
pub line_places : (earlier : List Line) (l : Line) (later : List Line) → AllSound (earlier ++ (l ∷ later))
    → NumberedOther l.number earlier → NumberedOther l.number later → l.number ≢ 0
    → (r : Reason) (k : ℕ) → table_of (earlier ++ (l ∷ later)) ≡ Stop r k → number r ≡ l.number → l.verdict ≡ Stop r k
unfolding first_of
line_places (m ∷ earlier) l later sounds before after nonzero r k e q =
    go m.verdict sounds.0.own (λ rest. line_places earlier l later sounds.1 before.1 after nonzero r k rest q) e
  where
    go : (v : Verdict) → Only m.number v → (table_of (earlier ++ (l ∷ later)) ≡ Stop r k → l.verdict ≡ Stop r k)
        → first_of v (table_of (earlier ++ (l ∷ later))) ≡ Stop r k → l.verdict ≡ Stop r k
    go Clear own rest e = rest e
    go (Err refusal) own rest e = absurd (before.0 (sym own ∙ ap shown e ∙ q))
line_places [] l later sounds before after nonzero r k e q = go l.verdict e
  where
    go : (v : Verdict) → first_of v (table_of later) ≡ Stop r k → v ≡ Stop r k
    go Clear e = absurd (other_numbers l.number later sounds.1 after nonzero (ap shown e ∙ q))
    go (Err refusal) e = e

-- Lines of a table.

pub line_sound : {P : Type 0} (r : Reason) (b : Bool) → Tells b P → Sound (record { number = number r; verdict = line r b; Applies = P })
unfolding line
line_sound r true tells = record { own = refl; when = (λ e. tells.0 refl, λ h. refl) }
line_sound r false tells = record { own = tt; when = tells }

-- a line that is always clear
pub clear_sound : (n : ℕ) → Sound (record { number = n; verdict = Clear; Applies = ⊥ })
clear_sound n = record { own = tt; when = (λ e. absurd (not_both e refl), λ h. absurd h) }

-- a line of bytes applies exactly when the test holds of one of them
pub bytes_sound : {P : ℕ → Type 0} (r : Reason) (test : ℕ → Bool) (n : ℕ) → ((i : ℕ) → Tells (test i) (P i))
    → Sound (record { number = number r; verdict = first_byte r test n; Applies = (i : ℕ) × (i < n) × P i })
bytes_sound {P = P} r test n tells = record { own = own (first_byte r test n) refl; when = when (first_byte r test n) refl }
  where
    own : (v : Verdict) → first_byte r test n ≡ v → Only (number r) v
    own Clear e = tt
    own (Err refusal) e = ap number (bytes_stopped r test n refusal.reason refusal.place e).0

    when : (v : Verdict) → first_byte r test n ≡ v → (stops v ≡ true) ↔ ((i : ℕ) × (i < n) × P i)
    when Clear e = (λ h. absurd (not_both h refl), λ h. absurd (not_both ((tells h.0).1 h.2) (bytes_clear r test n e h.0 h.1)))
    when (Err refusal) e =
        let (x, (l, y, z)) = bytes_stopped r test n refusal.reason refusal.place e in
        (λ h. (refusal.place, l, (tells refusal.place).0 y), λ h. refl)

-- byte k is the first of n bytes of which P holds
abbrev pub FirstSuch : (ℕ → Type 0) → ℕ → ℕ → Type 0
FirstSuch P n k = (k < n) × P k × ((i : ℕ) → i < k → ¬ P i)

-- and its place is the first of them
pub bytes_place : {P : ℕ → Type 0} (r : Reason) (test : ℕ → Bool) (n : ℕ) → ((i : ℕ) → Tells (test i) (P i))
    → (q : Reason) (k : ℕ) → first_byte r test n ≡ Stop q k → FirstSuch P n k
bytes_place r test n tells q k e =
    let (x, (l, y, z)) = bytes_stopped r test n q k e in
    (l, (tells k).0 y, λ i h a. not_both ((tells i).1 a) (z i h))

-- a table of lines and its last line, in the form of the rules
pub in_rules : (ls : List Line) (l : Line) → first_of (first_line (map (λ m. m.verdict) ls)) l.verdict ≡ table_of (ls ++ (l ∷ []))
unfolding first_line first_of
in_rules [] l = sym (first_none l.verdict)
in_rules (m ∷ ls) l = first_assoc m.verdict _ l.verdict ∙ ap (first_of m.verdict) (in_rules ls l)
