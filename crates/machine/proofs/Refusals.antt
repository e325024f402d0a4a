-- The table of answers: a request is refused with the number of a line exactly when no earlier line applies and the line's sentence holds, and
-- it completes exactly when no line applies; then the place of each refusal, and which words are 0. The rules' table is the table of the lines of
-- `lines_of`, each of which is sound, and the laws of tables give the rest.
-- Assumes nothing.
use Rattle.std.specs.Prelude.{Err}
use Prim.Native.Nat.{ℕ, ◌≤◌}
use mathlib.Core.Path.{◌≡◌, refl, sym, ap, subst, ◌∙◌}
use mathlib.Core.Bool.{Bool, true, false}
use mathlib.Core.Logic.Iff
use mathlib.Core.Logic.{◌≢◌, ◌↔◌, true-and}
use mathlib.Core.List.{List, [], ◌∷◌, ◌++◌}
use native.Mathlib.Omega.{arith}
use lib.ListN.{length, take, drop}
use Rattle.machine.specs.declared.Settings.{Settings}
use Rattle.machine.specs.declared.Processor.{Processor}
use Rattle.machine.specs.declared.AccessKind.{AccessKind}
use Rattle.machine.specs.declared.Request.{Request}
use Rattle.machine.specs.declared.Request.TheVariants.{Access, Key, Prefix}
use Rattle.machine.specs.declared.Reason.{Reason}
use Rattle.machine.specs.declared.Reason.TheVariants.{Configuration, Record, Operand, Operation, Privileged, SpecialOperation}
use Rattle.machine.specs.declared.Reason.TheVariants.{Specification, Addressing, Protection}
use Rattle.machine.specs.Answers.{Verdict, Clear, Stop, Values, number, line, first_of}
use Rattle.machine.specs.Table.{configuration, own_record, operand_invalid, operation_exception, privileged_exception}
use Rattle.machine.specs.Table.{special_operation_exception, specification_exception, addressing, protection, before_protection, verdict}
use Rattle.machine.specs.Step.{completed, step}
use Rattle.machine.proofs.Requests.{NoAccess, by_verdict, completed_number}
use Rattle.machine.proofs.Tests.{at_most}
use Rattle.machine.proofs.TableLines.{Line, Sound, AllSound, NoneOf, Only, NumberedOther, FirstSuch, shown, table_of}
use Rattle.machine.proofs.TableLines.{table_clears, line_answers, line_places, line_sound, bytes_place, in_rules}
use Rattle.machine.proofs.Sentences.{Line64, Line65, Line66, Line1, Line2, Line19, Line6, Line5, Line4, Forbidden, real_of, key_at}
use Rattle.machine.proofs.Sentences.{tells_64, tells_65, tells_66, tells_1, tells_2, tells_19, tells_6, tells_forbidden}
use Rattle.machine.proofs.Sentences.{sound_5, sound_4}

-- the lines of a request's table, from top to bottom
abbrev pub lines_of : Settings → (storage_length : ℕ) → List ℕ → Processor → Request → (buffer_length : ℕ) → List Line
lines_of s storage_length keys p r buffer_length =
    record { number = 64; verdict = configuration s storage_length (length keys); Applies = Line64 s storage_length (length keys) }
    ∷ record { number = 65; verdict = own_record storage_length p; Applies = Line65 storage_length p }
    ∷ record { number = 66; verdict = line Operand (operand_invalid r buffer_length); Applies = Line66 r buffer_length }
    ∷ record { number = 1; verdict = line Operation (operation_exception s r); Applies = Line1 s r }
    ∷ record { number = 2; verdict = line Privileged (privileged_exception p r); Applies = Line2 p r }
    ∷ record { number = 19; verdict = line SpecialOperation (special_operation_exception s p r); Applies = Line19 s p r }
    ∷ record { number = 6; verdict = line Specification (specification_exception r); Applies = Line6 r }
    ∷ record { number = 5; verdict = addressing storage_length r; Applies = Line5 storage_length r }
    ∷ record { number = 4; verdict = protection s keys p r; Applies = Line4 s keys p r }
    ∷ []

lines_sound : (s : Settings) (storage_length : ℕ) (keys : List ℕ) (p : Processor) (r : Request) (buffer_length : ℕ)
    → AllSound (lines_of s storage_length keys p r buffer_length)
lines_sound s storage_length keys p r buffer_length =
    let l64 = line_sound Configuration _ (tells_64 s storage_length (length keys)) in
    let l65 = line_sound Record _ (tells_65 storage_length p) in
    let l66 = line_sound Operand _ (tells_66 r buffer_length) in
    let l1 = line_sound Operation _ (tells_1 s r) in
    let l2 = line_sound Privileged _ (tells_2 p r) in
    let l19 = line_sound SpecialOperation _ (tells_19 s p r) in
    let l6 = line_sound Specification _ (tells_6 r) in
    let l5 = sound_5 storage_length r in
    (l64, (l65, (l66, (l1, (l2, (l19, (l6, (l5, (sound_4 s keys p r, tt)))))))))

module _ (s : Settings) (storage keys : List ℕ) (p : Processor) (r : Request) (buffer : List ℕ) where
  -- the number that comes back
  abbrev answered : ℕ
  answered = (step s storage keys p r buffer).answer.number

  abbrev lines : List Line
  lines = lines_of s (length storage) keys p r (length buffer)

  sounds : AllSound lines
  sounds = lines_sound s (length storage) keys p r (length buffer)

  as_lines : verdict s (length storage) keys p r (length buffer) ≡ table_of lines
  unfolding verdict before_protection
  as_lines = in_rules (take 8 lines) (record { number = 4; verdict = protection s keys p r; Applies = Line4 s keys p r })

  by_lines : answered ≡ shown (table_of lines)
  by_lines =
      by_verdict s storage keys p r buffer (λ o. o.answer.number ≡ shown (verdict s (length storage) keys p r (length buffer)))
      (λ reason place e. rw e) (λ e. completed_number s storage keys p r buffer r ∙ rw e)
      ∙ ap shown as_lines

  -- the law of a table for the step
  by_line : (earlier : List Line) (l : Line) (later : List Line) → AllSound (earlier ++ (l ∷ later)) → answered ≡ shown (table_of (earlier ++ (l ∷ later)))
      → NumberedOther l.number earlier → NumberedOther l.number later → l.number ≢ 0 → (answered ≡ l.number) ↔ (NoneOf earlier × l.Applies)
  by_line earlier l later sounds e before after nonzero = rw e (line_answers earlier l later sounds before after nonzero)

  -- a request is refused with the number of a line exactly when none of the lines above it applies and its own sentence holds
  pub refused_64 : (answered ≡ 64) ↔ Line64 s (length storage) (length keys)
  refused_64 = Iff.trans (by_line [] _ (drop 1 lines) sounds by_lines tt (omega arith) (omega arith)) true-and

  pub refused_65 : (answered ≡ 65) ↔ (NoneOf (take 1 lines) × Line65 (length storage) p)
  refused_65 = by_line (take 1 lines) _ (drop 2 lines) sounds by_lines (omega arith) (omega arith) (omega arith)

  pub refused_66 : (answered ≡ 66) ↔ (NoneOf (take 2 lines) × Line66 r (length buffer))
  refused_66 = by_line (take 2 lines) _ (drop 3 lines) sounds by_lines (omega arith) (omega arith) (omega arith)

  pub refused_1 : (answered ≡ 1) ↔ (NoneOf (take 3 lines) × Line1 s r)
  refused_1 = by_line (take 3 lines) _ (drop 4 lines) sounds by_lines (omega arith) (omega arith) (omega arith)

  pub refused_2 : (answered ≡ 2) ↔ (NoneOf (take 4 lines) × Line2 p r)
  refused_2 = by_line (take 4 lines) _ (drop 5 lines) sounds by_lines (omega arith) (omega arith) (omega arith)

  pub refused_19 : (answered ≡ 19) ↔ (NoneOf (take 5 lines) × Line19 s p r)
  refused_19 = by_line (take 5 lines) _ (drop 6 lines) sounds by_lines (omega arith) (omega arith) (omega arith)

  pub refused_6 : (answered ≡ 6) ↔ (NoneOf (take 6 lines) × Line6 r)
  refused_6 = by_line (take 6 lines) _ (drop 7 lines) sounds by_lines (omega arith) (omega arith) (omega arith)

  pub refused_5 : (answered ≡ 5) ↔ (NoneOf (take 7 lines) × Line5 (length storage) r)
  refused_5 = by_line (take 7 lines) _ (drop 8 lines) sounds by_lines (omega arith) (omega arith) (omega arith)

  pub refused_4 : (answered ≡ 4) ↔ (NoneOf (take 8 lines) × Line4 s keys p r)
  refused_4 = by_line (take 8 lines) _ [] sounds by_lines (omega arith) tt (omega arith)

  -- it completes exactly when none of them applies
  pub completes : (answered ≡ 0) ↔ NoneOf lines
  completes = rw by_lines (table_clears lines sounds (omega arith))

  -- the verdicts of lines 5 and 4 where they answer
  verdict_5 : (reason : Reason) (place : ℕ) → verdict s (length storage) keys p r (length buffer) ≡ Stop reason place → number reason ≡ 5
      → addressing (length storage) r ≡ Stop reason place
  verdict_5 reason place e q =
      line_places (take 7 lines) (record { number = 5; verdict = addressing (length storage) r; Applies = Line5 (length storage) r }) (drop 8 lines)
      sounds (omega arith) (omega arith) (omega arith) reason place (sym as_lines ∙ e) q

  verdict_4 : (reason : Reason) (place : ℕ) → verdict s (length storage) keys p r (length buffer) ≡ Stop reason place → number reason ≡ 4
      → protection s keys p r ≡ Stop reason place
  verdict_4 reason place e q =
      line_places (take 8 lines) (record { number = 4; verdict = protection s keys p r; Applies = Line4 s keys p r }) []
      sounds (omega arith) tt (omega arith) reason place (sym as_lines ∙ e) q

-- The place of an access that is refused with 5 or 4: the first byte outside storage, and the first that is forbidden.
module _ (s : Settings) (storage keys : List ℕ) (p : Processor) (kind : AccessKind) (address count : ℕ) (buffer : List ℕ) where
  abbrev access : Request
  access = Access kind address count

  pub place_of_5 : (step s storage keys p access buffer).answer.number ≡ 5
      → FirstSuch (λ i. length storage ≤ real_of address i) count (step s storage keys p access buffer).answer.place
  unfolding addressing
  place_of_5 =
      by_verdict s storage keys p access buffer (λ o. o.answer.number ≡ 5 → FirstSuch (λ i. length storage ≤ real_of address i) count o.answer.place)
      (λ reason place e h.
      bytes_place Addressing _ count (λ i. at_most (length storage) (real_of address i)) reason place
      (verdict_5 s storage keys p access buffer reason place e h))
      (λ e h. absurd (omega (arith, completed_number s storage keys p access buffer access)))

  pub place_of_4 : (step s storage keys p access buffer).answer.number ≡ 4
      → FirstSuch (λ i. Forbidden kind p (real_of address i) (key_at s keys p (real_of address i))) count (step s storage keys p access buffer).answer.place
  unfolding protection
  place_of_4 =
      by_verdict s storage keys p access buffer
      (λ o. o.answer.number ≡ 4 → FirstSuch (λ i. Forbidden kind p (real_of address i) (key_at s keys p (real_of address i))) count o.answer.place)
      (λ reason place e h.
      bytes_place Protection _ count (λ i. tells_forbidden kind p (real_of address i) (key_at s keys p (real_of address i))) reason place
      (verdict_4 s storage keys p access buffer reason place e h))
      (λ e h. absurd (omega (arith, completed_number s storage keys p access buffer access)))

  -- its word is 0, whatever the number
  pub access_word : (step s storage keys p access buffer).answer.word ≡ 0
  unfolding completed
  access_word = by_verdict s storage keys p access buffer (λ o. o.answer.word ≡ 0) (λ reason place e. refl) (λ e. refl)

-- Every other place is 0. A verdict with a number of which E holds has the place 0
abbrev Starts : (ℕ → Type 0) → Verdict → Type 0
Starts E Clear = Unit {0}
Starts E (Err refusal) = E (number refusal.reason) → refusal.place ≡ 0

line_starts : (E : ℕ → Type 0) (r : Reason) (b : Bool) → Starts E (line r b)
unfolding line
line_starts E r true = λ e. refl
line_starts E r false = tt

other_starts : (E : ℕ → Type 0) {l : Line} → Sound l → ¬ E l.number → Starts E l.verdict
other_starts E {l = l} sound other = go l.verdict sound.own
  where
    go : (v : Verdict) → Only l.number v → Starts E v
    go Clear own = tt
    go (Err refusal) own = λ e. absurd (other (subst E own e))

abbrev AllStart : (ℕ → Type 0) → List Line → Type 0
AllStart E [] = Unit {0}
AllStart E (l ∷ ls) = Starts E l.verdict × AllStart E ls

table_starts : (E : ℕ → Type 0) (ls : List Line) → AllStart E ls → Starts E (table_of ls)
unfolding first_of
table_starts E [] all = tt
table_starts E (l ∷ ls) all = go l.verdict all.0 (table_starts E ls all.1)
  where
    go : (v : Verdict) → Starts E v → Starts E (table_of ls) → Starts E (first_of v (table_of ls))
    go Clear here rest = rest
    go (Err refusal) here rest = here

-- the number of a line that does not go by bytes
abbrev NotByBytes : ℕ → Type 0
NotByBytes n = (n ≢ 5) × (n ≢ 4)

module _ (s : Settings) (storage keys : List ℕ) (p : Processor) (r : Request) (buffer : List ℕ) where
  abbrev answer : Values
  answer = (step s storage keys p r buffer).answer

  at_start : (E : ℕ → Type 0) → Starts E (addressing (length storage) r) → Starts E (protection s keys p r) → E answer.number
      → answer.place ≡ 0
  unfolding completed
  at_start E l5 l4 =
      by_verdict s storage keys p r buffer (λ o. E o.answer.number → o.answer.place ≡ 0)
      (λ reason place e. rw (sym (as_lines s storage keys p r buffer) ∙ e) at all) (λ e h. done r)
    where
      at : (r : Reason) (b : Bool) → Starts E (line r b)
      at = line_starts E

      all : Starts E (table_of (lines_of s (length storage) keys p r (length buffer)))
      all =
          table_starts E (lines_of s (length storage) keys p r (length buffer))
          (at _ _, (at _ _, (at _ _, (at _ _, (at _ _, (at _ _, (at _ _, (l5, (l4, tt)))))))))

      done : (r : Request) → (completed s storage keys p r buffer).answer.place ≡ 0
      done (Access kind address count) = refl
      done (Key i) = refl
      done (Prefix i) = refl

  -- where the number is not 5 or 4, for every request
  pub other_place : answer.number ≢ 5 → answer.number ≢ 4 → answer.place ≡ 0
  other_place not_5 not_4 =
      at_start NotByBytes
      (other_starts NotByBytes (sound_5 (length storage) r) (λ h. h.0 refl))
      (other_starts NotByBytes (sound_4 s keys p r) (λ h. h.1 refl))
      (not_5, not_4)

  -- and whatever the number, for an instruction
  pub instruction_place : NoAccess r → answer.place ≡ 0
  unfolding addressing protection
  instruction_place other = go r other at_start
    where
      go : (q : Request) → NoAccess q
          → ((E : ℕ → Type 0) → Starts E (addressing (length storage) q) → Starts E (protection s keys p q) → E answer.number
          → answer.place ≡ 0) → answer.place ≡ 0
      go (Key i) h f = f (λ n. Unit {0}) (line_starts (λ n. Unit {0}) _ _) tt tt
      go (Prefix i) h f = f (λ n. Unit {0}) (line_starts (λ n. Unit {0}) _ _) tt tt
      go (Access kind address count) h f = absurd h

  -- the word of a request that is refused is 0
  pub refused_word : answer.number ≢ 0 → answer.word ≡ 0
  refused_word =
      by_verdict s storage keys p r buffer (λ o. o.answer.number ≢ 0 → o.answer.word ≡ 0) (λ reason place e h. refl)
      (λ e h. absurd (h (completed_number s storage keys p r buffer r)))
