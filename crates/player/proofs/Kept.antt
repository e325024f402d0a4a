-- What playing keeps, and what it keeps to. A property of the run so far that a request and any other record keep is kept by a call of `play`, record
-- after record: so of the records of the processors condition code and prefix only change, and numbers that fit their fields still do. A call
-- writes no more than its room. Assumes nothing.
use Prim.Native.Nat.{ℕ, zero, suc, ◌+◌, ◌-◌, ◌^◌, ◌/◌, ◌%◌, ◌≤◌, ◌<◌}
use native.Mathlib.Omega.{arith}
use mathlib.Core.Path.{◌≡◌, refl, ap, ◌∙◌, subst}
use mathlib.Core.Bool.{Bool, true, false, cond, not, ◌||◌}
use mathlib.Core.List.{List, [], ◌∷◌, ◌++◌}
use mathlib.Core.Option.{some}
use lib.ListN.{length, get_or, set, get_elem?, drop, length-set, length-append}
use lib.Dec.{ltb}
use borrow.Author.Tests.{lt-ltb, ltb-false}
use Rattle.machine.specs.declared.Settings.{Settings}
use Rattle.machine.specs.declared.Processor.{Processor}
use Rattle.machine.specs.declared.Request.{Request}
use Rattle.machine.specs.declared.Request.TheVariants.{Access, Key, Prefix}
use Rattle.machine.specs.declared.PrefixInstruction.TheVariants.{SetPrefix, StorePrefix}
use Rattle.machine.specs.declared.KeyOperation.{KeyOperation}
use Rattle.machine.specs.declared.KeyOperation.TheVariants.{Insert, Set, Reset}
use Rattle.machine.specs.declared.Reason.TheVariants.{Configuration, Record}
use Rattle.machine.specs.Answers.{Stop, values, answer_of, line, first_of}
use Rattle.machine.specs.Numbers.{lengths_valid}
use Rattle.machine.specs.Key.{code_of}
use Rattle.machine.specs.KeyInstructions.{operation, two_keys, first_unit, code_left}
use Rattle.machine.specs.Step.{with_code, with_prefix, completed, step}
use Rattle.machine.specs.Pair.{pair_step}
use Rattle.machine.specs.Turns.{State, Turn, given}
use Rattle.machine.proofs.Requests.{number_of_reason, by_verdict, either_way, completed_number, controls_stay}
use Rattle.machine.proofs.AnswerPlace.{place_below_256}
use Rattle.machine.proofs.Pairs.{by_record, has_record}
use Rattle.trace.specs.Trace.{Read, ARequest, Remark, Bad, End, read_of}
use Rattle.player.specs.declared.Status.TheVariants.{More, Ended, Room, Limit}
use Rattle.player.specs.Text.{decimal_in, decimal_of, line_text, bad_text}
use Rattle.player.specs.Run.{Progress, start_processor, after_request, after_other, turn_of}
use Rattle.player.specs.Play.{Left, left, request_played, judged, bad_played, read_played, ordinals_used, record_played, passes, then, played}
use Rattle.player.proofs.Records.{ordinals_left}

-- What a request keeps, and any other record, is kept by a call.
module _ (s : Settings) (P : Progress → Type 0)
    (request : (p : Progress) (t : Turn) → ordinals_used p ≡ false → P p → P (after_request s p t))
    (other : (p : Progress) → ordinals_used p ≡ false → P p → P (after_other p)) where
  picked : (b : Bool) (x y : Left) → P x.progress → P y.progress → P (cond b x y).progress
  picked true x y h k = h
  picked false x y h k = k

  read_keeps : (last : Bool) (p : Progress) (bytes : List ℕ) (found : Read) → ordinals_used p ≡ false → P p
      → P (read_played found s last p bytes).progress
  unfolding read_played request_played bad_played
  read_keeps last p bytes (ARequest n r size) u h = request p (turn_of n r bytes size) u h
  read_keeps last p bytes (Remark size) u h = other p u h
  read_keeps last p bytes Bad u h =
      picked (last || judged bytes) (left (bad_text (p.records + 1)) (after_other p) 0 Ended) (left [] p 0 More) (other p u h) h
  read_keeps last p bytes End u h = h

  tested_keeps : (last : Bool) (p : Progress) (bytes : List ℕ) (full used : Bool) → ordinals_used p ≡ used → P p
      → P (cond full (left [] p 0 Room) (cond used (left [] p 0 Limit) (read_played (read_of bytes) s last p bytes))).progress
  tested_keeps last p bytes true used u h = h
  tested_keeps last p bytes false true u h = h
  tested_keeps last p bytes false false u h = read_keeps last p bytes (read_of bytes) u h

  record_keeps : (last : Bool) (room : ℕ) (p : Progress) (bytes : List ℕ) → P p → P (record_played s last room p bytes).progress
  unfolding record_played
  record_keeps last room p bytes h = tested_keeps last p bytes (ltb room 64) (ordinals_used p) refl h

  pub playing_keeps : (n : ℕ) (last : Bool) (room : ℕ) (p : Progress) (bytes : List ℕ) → P p → P (played n s last room p bytes).progress
  unfolding played
  playing_keeps zero last room p bytes h = h
  playing_keeps (suc n) last room p bytes h =
      let o : Left = record_played s last room p bytes in
      let k : P o.progress = record_keeps last room p bytes h in
      let rest : Left = played n s last (room - length o.text) o.progress (drop o.read bytes) in
      picked (passes o.status) (then o rest) o (playing_keeps n last (room - length o.text) o.progress (drop o.read bytes) k) k

-- A relation between a record and the one before it that holds of every record with itself and of the step holds of the pair, index by index.
module _ (R : Processor → Processor → Type 0) (same : (p : Processor) → R p p) where
  set_related : (ps : List Processor) (n : ℕ) (p q : Processor) → get_elem? ps n ≡ some p → R q p → (m : ℕ) (d : Processor)
      → R (get_or (set ps n q) m d) (get_or ps m d)
  set_related [] n p q e r m d = same d
  set_related (x ∷ xs) zero p q e r zero d = let i : p ≡ x = cc in subst (R q) i r
  set_related (x ∷ xs) zero p q e r (suc m) d = same (get_or xs m d)
  set_related (x ∷ xs) (suc n) p q e r zero d = same x
  set_related (x ∷ xs) (suc n) p q e r (suc m) d = set_related xs n p q e r m d

  pair_related : (s : Settings) (storage keys : List ℕ) (ps : List Processor) (n : ℕ) (r : Request) (buffer : List ℕ)
      → ((p : Processor) → R (step s storage keys p r buffer).processor p) → (m : ℕ) (d : Processor)
      → R (get_or (pair_step s storage keys ps n r buffer).processors m d) (get_or ps m d)
  pair_related s storage keys ps n r buffer stepped m d =
      by_record s storage keys ps n r buffer (λ o. R (get_or o.processors m d) (get_or ps m d)) (λ e. same (get_or ps m d))
      (λ p e. set_related ps n p (step s storage keys p r buffer).processor (has_record ps n p e).1 (stepped p) m d)

pair_length : (s : Settings) (storage keys : List ℕ) (ps : List Processor) (n : ℕ) (r : Request) (buffer : List ℕ)
    → length (pair_step s storage keys ps n r buffer).processors ≡ length ps
pair_length s storage keys ps n r buffer =
    by_record s storage keys ps n r buffer (λ o. length o.processors ≡ length ps) (λ e. refl)
    (λ p e. length-set ps n (step s storage keys p r buffer).processor)

-- q is p but for condition code and prefix
abbrev pub SameControls : Processor → Processor → Type 0
SameControls q p = q ≡ with_prefix (with_code p q.code) q.prefix

same_controls_on : (x q p : Processor) → SameControls x q → SameControls q p → SameControls x p
same_controls_on x q p e f = e ∙ ap (λ (y : Processor). with_prefix (with_code y x.code) x.prefix) f

-- as many records, and each is the one before it but for condition code and prefix
abbrev pub ControlsKept : List Processor → List Processor → Type 0
ControlsKept qs ps = (length qs ≡ length ps) × ((m : ℕ) (d : Processor) → SameControls (get_or qs m d) (get_or ps m d))

pub playing_keeps_controls : (n : ℕ) (s : Settings) (last : Bool) (room : ℕ) (p : Progress) (bytes : List ℕ)
    → ControlsKept (played n s last room p bytes).progress.state.processors p.state.processors
playing_keeps_controls n s last room p bytes =
    playing_keeps s (λ q. ControlsKept q.state.processors p.state.processors)
    (λ q t u h.
    let m = q.state in (
      pair_length s m.storage m.keys m.processors t.processor_number t.request t.buffer ∙ h.0,
      λ i d.
          same_controls_on _ (get_or m.processors i d) (get_or p.state.processors i d)
          (pair_related SameControls (λ x. refl) s m.storage m.keys m.processors t.processor_number t.request t.buffer
          (λ x. controls_stay s m.storage m.keys x t.request t.buffer) i d)
          (h.1 i d),
    ))
    (λ q u h. h)
    n last room p bytes (refl, λ i d. refl)

-- condition code and prefix fit their fields
abbrev pub RecordFits : Processor → Type 0
RecordFits q = (q.code < 256) × (q.prefix < 4294967296)

step_fits : (s : Settings) (storage keys : List ℕ) (p : Processor) (r : Request) (buffer : List ℕ) → RecordFits p
    → RecordFits (step s storage keys p r buffer).processor
unfolding completed code_left code_of
step_fits s storage keys p r buffer h =
    either_way s storage keys p r buffer (λ o. RecordFits o.processor) (λ answer. h) (go r)
  where
    code_fits : (u : ℕ) (two : Bool) (o : KeyOperation) → code_left keys u two o p.code < 256
    code_fits u two (Insert r1) = h.0
    code_fits u two (Set r1) = h.0
    code_fits u two Reset = omega arith

    go : (r : Request) → RecordFits (completed s storage keys p r buffer).processor
    go (Access kind address count) = h
    go (Key i) = (code_fits (first_unit s p i) (two_keys s i) (operation i), h.1)
    go (Prefix (SetPrefix word)) = (h.0, omega arith)
    go (Prefix StorePrefix) = h

-- records, and counts of requests and of records, that fit their fields
pub record NumbersFit (ps : List Processor) (n m : ℕ) : Type 0 where
  pub each : (i : ℕ) → RecordFits (get_or ps i start_processor)
  pub requests : n < 18446744073709551616
  pub records : m < 18446744073709551616

abbrev pub ProgressFits : Progress → Type 0
ProgressFits p = NumbersFit p.state.processors p.requests p.records

counted : (p : Progress) → ordinals_used p ≡ false → ProgressFits p → (p.requests + 1 < 18446744073709551616) × (p.records + 1 < 18446744073709551616)
counted p u h =
    let (a, b) = ordinals_left p.records p.requests u (omega (arith, h.records)) (omega (arith, h.requests)) in
    (omega arith, omega arith)

request_fits : (s : Settings) (q : Progress) (t : Turn) → ordinals_used q ≡ false → ProgressFits q → ProgressFits (after_request s q t)
request_fits s q t u h =
    let m = q.state in
    record {
      each = λ i.
          pair_related (λ x y. RecordFits y → RecordFits x) (λ x f. f) s m.storage m.keys m.processors t.processor_number t.request
          t.buffer
          (λ x. step_fits s m.storage m.keys x t.request t.buffer) i start_processor
          (h.each i);
      requests = (counted q u h).0;
      records = (counted q u h).1;
    }

other_fits : (q : Progress) → ordinals_used q ≡ false → ProgressFits q → ProgressFits (after_other q)
other_fits q u h = record { each = h.each; requests = h.requests; records = (counted q u h).1 }

record_still_fits : (s : Settings) (last : Bool) (room : ℕ) (p : Progress) (bytes : List ℕ) → ProgressFits p
    → ProgressFits (record_played s last room p bytes).progress
record_still_fits s last room p bytes fits = record_keeps s ProgressFits (request_fits s) other_fits last room p bytes fits

pub playing_fits : (n : ℕ) (s : Settings) (last : Bool) (room : ℕ) (p : Progress) (bytes : List ℕ) → ProgressFits p
    → ProgressFits (played n s last room p bytes).progress
playing_fits n s last room p bytes fits = playing_keeps s ProgressFits (request_fits s) other_fits n last room p bytes fits

-- A line has less than 64 bytes, and so a call keeps to its room. A number below a power of ten has at most so many digits.
digit_more : (j n : ℕ) (xs : List ℕ) (b : Bool) → length xs ≤ j → length (cond b ((48 + n) ∷ []) (xs ++ ((48 + n % 10) ∷ []))) ≤ suc j
digit_more j n xs true h = omega arith
digit_more j n xs false h = omega (arith, length-append xs ((48 + n % 10) ∷ []))

digits_few : (j k n : ℕ) → n < 10 ^ (suc j) → length (decimal_in k n) ≤ suc j
unfolding decimal_in
digits_few j zero n h = omega arith
digits_few zero (suc k) n h = rw (lt-ltb n 10 (omega arith)) (omega arith)
digits_few (suc j) (suc k) n h = digit_more (suc j) n (decimal_in k (n / 10)) (ltb n 10) (digits_few j k (n / 10) (omega arith))

line_short : (ordinal number place : ℕ) → ordinal < 18446744073709551616 → number ≤ 66 → place < 256 → length (line_text ordinal number place) ≤ 64
unfolding line_text
line_short ordinal number place h k l =
    let a : length (decimal_of ordinal) ≤ 20 = digits_few 19 (suc ordinal) ordinal (omega arith) in
    let b : length (decimal_of number) ≤ 2 = digits_few 1 (suc number) number (omega arith) in
    let c : length (decimal_of place) ≤ 3 = digits_few 2 (suc place) place (omega arith) in
    simp length-append (omega arith)

bad_short : (ordinal : ℕ) → ordinal < 18446744073709551616 → length (bad_text ordinal) ≤ 64
unfolding bad_text
bad_short ordinal h =
    let a : length (decimal_of ordinal) ≤ 20 = digits_few 19 (suc ordinal) ordinal (omega arith) in
    simp length-append (omega arith)

-- number and place of an answer
answer_small : (s : Settings) (m : State) (t : Turn) → ((given s m t).answer.number ≤ 66) × ((given s m t).answer.place < 256)
unfolding first_of line
answer_small s m t =
    by_record s m.storage m.keys m.processors t.processor_number t.request t.buffer
    (λ o. (o.answer.number ≤ 66) × (o.answer.place < 256))
    (λ e. without (lengths_valid s (length m.storage) (length m.keys)))
    (λ p e. (
      by_verdict s m.storage m.keys p t.request t.buffer (λ o. o.answer.number ≤ 66) (λ reason place f. (number_of_reason reason).1)
          (λ f. omega (arith, completed_number s m.storage m.keys p t.request t.buffer t.request)),
      place_below_256 s m.storage m.keys p t.request t.buffer,
    ))
  where
    without : (b : Bool)
        → ((values (answer_of (first_of (line Configuration (not b)) (Stop Record 0)) 0 0)).number ≤ 66)
        × ((values (answer_of (first_of (line Configuration (not b)) (Stop Record 0)) 0 0)).place < 256)
    without true = (omega arith, omega arith)
    without false = (omega arith, omega arith)

read_short : (s : Settings) (last : Bool) (p : Progress) (bytes : List ℕ) (found : Read) → ordinals_used p ≡ false → ProgressFits p
    → length (read_played found s last p bytes).text ≤ 64
unfolding read_played request_played bad_played
read_short s last p bytes (ARequest n r size) u h =
    let a = answer_small s p.state (turn_of n r bytes size) in
    line_short (p.requests + 1) _ _ (counted p u h).0 a.0 a.1
read_short s last p bytes (Remark size) u h = omega arith
read_short s last p bytes Bad u h = go (last || judged bytes)
  where
    go : (b : Bool) → length (cond b (left (bad_text (p.records + 1)) (after_other p) 0 Ended) (left [] p 0 More)).text ≤ 64
    go true = bad_short (p.records + 1) (counted p u h).1
    go false = omega arith
read_short s last p bytes End u h = omega arith

record_within : (s : Settings) (last : Bool) (room : ℕ) (p : Progress) (bytes : List ℕ) → ProgressFits p
    → length (record_played s last room p bytes).text ≤ room
unfolding record_played
record_within s last room p bytes h = go (ltb room 64) (ordinals_used p) refl refl
  where
    go : (full used : Bool) → ltb room 64 ≡ full → ordinals_used p ≡ used
        → length (cond full (left [] p 0 Room) (cond used (left [] p 0 Limit) (read_played (read_of bytes) s last p bytes))).text ≤ room
    go true used e u = omega arith
    go false true e u = omega arith
    go false false e u = omega (arith, ltb-false room 64 e, read_short s last p bytes (read_of bytes) u h)

all_within : (o next : Left) (room : ℕ) (b : Bool) → length o.text ≤ room → length next.text ≤ room - length o.text
    → length (cond b (then o next) o).text ≤ room
all_within o next room true h k = omega (arith, length-append o.text next.text)
all_within o next room false h k = h

pub writes_within : (n : ℕ) (s : Settings) (last : Bool) (room : ℕ) (p : Progress) (bytes : List ℕ) → ProgressFits p
    → length (played n s last room p bytes).text ≤ room
unfolding played
writes_within zero s last room p bytes h = omega arith
writes_within (suc n) s last room p bytes h =
    let o : Left = record_played s last room p bytes in
    let left_over : ℕ = room - length o.text in
    let rest : List ℕ = drop o.read bytes in
    all_within o (played n s last left_over o.progress rest) room (passes o.status) (record_within s last room p bytes h)
    (writes_within n s last left_over o.progress rest (record_still_fits s last room p bytes h))
