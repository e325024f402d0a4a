-- The six key instructions in the documents' sentences: when each completes, and what it leaves then. Words and key bytes are taken apart in
-- numbers, not by the bits of the rules; `bits_of` says that the bits of a key are these numbers. What is left is argued once for each of the
-- operations insert, set and reset, over the first unit and one key or two; completion once for every instruction. The laws of the
-- instructions follow in a line each.
-- Assumes nothing.
use Prim.Native.Nat.{ℕ, ◌+◌, ◌-◌, ◌*◌, ◌/◌, ◌%◌, ◌<◌, ◌≤◌, max}
use mathlib.Core.Path.{◌≡◌, refl, ap, subst, ◌∙◌}
use mathlib.Core.Bool.{Bool, true, false, cond, not}
use mathlib.Core.Logic.Dec
use mathlib.Core.Logic.Iff
use mathlib.Core.Logic.{◌≢◌, ◌↔◌, ◌⊎◌, ⊎_elim}
use mathlib.Core.List.{List}
use native.Mathlib.Decide.{ℕ_discrete}
use native.Mathlib.Omega.{arith}
use lib.ListN.{length, get_or}
use Rattle.machine.specs.declared.Settings.{Settings}
use Rattle.machine.specs.declared.Processor.{Processor}
use Rattle.machine.specs.declared.KeyInstruction.{KeyInstruction}
use Rattle.machine.specs.declared.KeyInstruction.TheVariants.{Isk, Ssk, Rrb, Iske, Sske, Rrbe}
use Rattle.machine.specs.declared.KeyOperation.{KeyOperation}
use Rattle.machine.specs.declared.KeyOperation.TheVariants.{Insert, Set, Reset}
use Rattle.machine.specs.declared.Request.{Request}
use Rattle.machine.specs.declared.Request.TheVariants.{Key}
use Rattle.machine.specs.Answers.{Completed}
use Rattle.machine.specs.Lists.{written}
use Rattle.machine.specs.Key.{access_control, fetch_protection, reference, change, key_of, after_reset, code_of, joined}
use Rattle.machine.specs.Prefixing.{absolute}
use Rattle.machine.specs.KeyInstructions.{operation, two_keys, key_count, key_read, word_given, keys_left, code_left, first_unit}
use Rattle.machine.specs.Step.{Outcome, outcome, with_code, rule_given, completed, step}
use Rattle.machine.proofs.Verdicts.{not_both}
use Rattle.machine.proofs.Written.{length-written, written_there, written_elsewhere}
use Rattle.machine.proofs.KeyBytes.{key_of_lem, key_joined}
use Rattle.machine.proofs.KeyInstructions.{key_instruction_passed}
use Rattle.machine.proofs.Requests.{completed_step, completed_cleared}
use Rattle.machine.proofs.TableLines.{NoneOf}
use Rattle.machine.proofs.Sentences.{Line64, Line65, Line66, Line1, Line2, Line19, Line6, Line5, Line4}
use Rattle.machine.proofs.Refusals.{lines_of, completes}

-- a word with the bits 0-7, 8-20 and 21-31 a, b and c: ISK, SSK and RRB take b, the number of a 2K block, and ignore c and, but for RRB, a
abbrev pub word_2k : ℕ → ℕ → ℕ → ℕ
word_2k a b c = a * 16777216 + b * 2048 + c

-- a word with the bits 0, 1-19 and 20-31 a, b and c: the extended instructions take b, the number of a 4K block, and ignore a and c
abbrev pub word_4k : ℕ → ℕ → ℕ → ℕ
word_4k a b c = a * 2147483648 + b * 4096 + c

-- the unit of a block at a real address: the address is prefixed, and the unit is 4,096 bytes with the 4K facility, 2,048 without it
abbrev pub key_unit : Settings → Processor → ℕ → ℕ
key_unit s p block = absolute p.prefix block / cond s.four_k 4096 2048

-- the byte k holds a key: bits 0-4 are f, the reference bit is r, the change bit c. Bit 7 may be anything
pub record HoldsKey (k f r c : ℕ) : Type 0 where
  pub upper : f < 32
  pub reference_bit : r < 2
  pub change_bit_lem : c < 2
  pub value : k / 2 ≡ f * 4 + r * 2 + c

-- every byte does
pub byte_holds_key : (k : ℕ) → k < 256 → HoldsKey k (k / 8) (k / 4 % 2) (k / 2 % 2)
byte_holds_key k byte = omega arith

-- What is left, with storage, keys, record and buffer as they were before.

-- insert: a word, and nothing is changed
pub record Inserts (storage keys : List ℕ) (p : Processor) (buffer : List ℕ) (word : ℕ) (o : Outcome) : Type 0 where
  pub word_given_lem : o.answer.word ≡ word
  pub keys_stay : o.keys ≡ keys
  pub record_stays : o.processor ≡ p
  pub storage_stays : o.storage ≡ storage
  pub buffer_stays : o.buffer ≡ buffer

-- set: the n keys from unit u on become k, and nothing else is changed
pub record Sets (storage keys : List ℕ) (p : Processor) (buffer : List ℕ) (u n k : ℕ) (o : Outcome) : Type 0 where
  pub word_zero : o.answer.word ≡ 0
  pub keys_set_lem : (v : ℕ) → u ≤ v → v < u + n → get_or o.keys v 0 ≡ k
  pub other_keys_stay : (v : ℕ) → (v < u) ⊎ (u + n ≤ v) → get_or o.keys v 0 ≡ get_or keys v 0
  pub as_many_keys : length o.keys ≡ length keys
  pub record_stays : o.processor ≡ p
  pub storage_stays : o.storage ≡ storage
  pub buffer_stays : o.buffer ≡ buffer

-- the record q is p in all fields but the condition code
pub record CodeOnly (p q : Processor) : Type 0 where
  pub key_stays : q.psw_key ≡ p.psw_key
  pub problem_stays : q.problem ≡ p.problem
  pub low_protection_stays : q.low_protection ≡ p.low_protection
  pub key_control_stays : q.key_control ≡ p.key_control
  pub prefix_stays : q.prefix ≡ p.prefix

-- reset: in the n keys from unit u on the reference bit becomes zero, and bit 7; bits 0-4 and the change bit stay. The condition code
-- becomes k. Nothing else is changed
pub record Resets (storage keys : List ℕ) (p : Processor) (buffer : List ℕ) (u n k : ℕ) (o : Outcome) : Type 0 where
  pub word_zero : o.answer.word ≡ 0
  pub keys_reset : (v : ℕ) → u ≤ v → v < u + n → (f r c : ℕ) → HoldsKey (get_or keys v 0) f r c → get_or o.keys v 0 ≡ f * 8 + c * 2
  pub other_keys_stay : (v : ℕ) → (v < u) ⊎ (u + n ≤ v) → get_or o.keys v 0 ≡ get_or keys v 0
  pub as_many_keys : length o.keys ≡ length keys
  pub code_left_lem : o.processor.code ≡ k
  pub rest_of_record_stays : CodeOnly p o.processor
  pub storage_stays : o.storage ≡ storage
  pub buffer_stays : o.buffer ≡ buffer

-- The operations on one key or two, over plain variables.

-- the bits of a key, as the rules have them, are these numbers
pub bits_of : (k f r c : ℕ) → HoldsKey k f r c → (access_control k ≡ f / 2) × (fetch_protection k ≡ f % 2) × (reference k ≡ r) × (change k ≡ c)
bits_of k f r c h = (omega arith, omega arith, omega arith, omega arith)

-- what insert, reset and the condition code make of a key
key_inserted : (k f r c : ℕ) → HoldsKey k f r c → key_of k ≡ f * 8 + r * 4 + c * 2
unfolding key_of
key_inserted k f r c h = let (a, b, d, e) = bits_of k f r c h in rw (a, b, d, e) (omega arith)

key_reset : (k f r c : ℕ) → HoldsKey k f r c → after_reset k ≡ f * 8 + c * 2
unfolding after_reset
key_reset k f r c h = let (a, b, d, e) = bits_of k f r c h in rw (a, b, e) (omega arith)

keys_joined : (low high f r c g q d : ℕ) → HoldsKey low f r c → HoldsKey high g q d → joined low high ≡ f * 8 + max r q * 4 + max c d * 2
unfolding joined
keys_joined low high f r c g q d l h =
    let (a1, b1, r1, c1) = bits_of low f r c l in
    let (a2, b2, r2, c2) = bits_of high g q d h in
    rw (a1, b1, r1, c1, r2, c2) (omega arith)

code_of_one : (k : ℕ) → code_of (key_of k) ≡ 2 * reference k + change k
unfolding code_of
code_of_one k = rw ((key_of_lem k).reference_bit, (key_of_lem k).change_bit_lem)

code_of_two : (low high : ℕ) → code_of (joined low high) ≡ 2 * max (reference low) (reference high) + max (change low) (change high)
unfolding code_of
code_of_two low high = rw ((key_joined low high).reference_bit, (key_joined low high).change_bit_lem)

-- a run of writes from place u on
run_written : (xs : List ℕ) (u : ℕ) (value : ℕ → ℕ) (n : ℕ) → ((j : ℕ) → j < n → u + j < length xs)
    → (v : ℕ) → u ≤ v → v < u + n → get_or (written xs (λ j. u + j) value n) v 0 ≡ value (v - u)
run_written xs u value n inside v h l =
    let at : u + (v - u) ≡ v = omega arith in
    subst (λ w. get_or (written xs (λ j. u + j) value n) w 0 ≡ value (v - u)) at
    (written_there xs (λ j. u + j) value n (v - u) (omega arith) (inside (v - u) (omega arith)) (λ j k e. ap value (omega arith)))

run_elsewhere : (xs : List ℕ) (u : ℕ) (value : ℕ → ℕ) (n : ℕ) (v : ℕ) → (v < u) ⊎ (u + n ≤ v)
    → get_or (written xs (λ j. u + j) value n) v 0 ≡ get_or xs v 0
run_elsewhere xs u value n v away =
    written_elsewhere xs (λ j. u + j) value n v (⊎_elim (λ h j l e. omega arith) (λ h j l e. omega arith) away)

-- What a completed instruction leaves: it performs an operation on the key of unit u, and where it works on two keys on that of u + 1 besides.
module _ (s : Settings) (storage keys : List ℕ) (p : Processor) (buffer : List ℕ) (i : KeyInstruction) {u : ℕ} {two : Bool}
    (first : first_unit s p i ≡ u) (counted : two_keys s i ≡ two) (done : (step s storage keys p (Key i) buffer).answer.number ≡ 0) where
  abbrev after : Outcome
  after = step s storage keys p (Key i) buffer

  leaves : (op : KeyOperation) → operation i ≡ op
      → after
      ≡ outcome (Completed (word_given keys u two op) (rule_given p (Key i)))
      storage (keys_left keys u two op) (with_code p (code_left keys u two op p.code)) buffer
  unfolding completed
  leaves op performs = completed_step s storage keys p (Key i) buffer done ∙ rw (first, counted, performs)

  inside : (j : ℕ) → j < key_count two → u + j < length keys
  inside j h =
      rw first at (key_instruction_passed s p i (length storage) (length keys) (length buffer)
      (completed_cleared s storage keys p (Key i) buffer done) j (rw counted h))

  inserts_one : (h l f r c : ℕ) → h < 16777216 → l < 256 → operation i ≡ Insert (h * 256 + l) → two ≡ false → HoldsKey (get_or keys u 0) f r c
      → Inserts storage keys p buffer (h * 256 + (f * 8 + r * 4 + c * 2)) after
  unfolding word_given keys_left code_left
  inserts_one h l f r c word small performs one holds =
      rw (leaves _ performs)
      (record {
        word_given_lem = rw one (omega (arith, key_inserted _ f r c holds));
        keys_stay = refl;
        record_stays = refl;
        storage_stays = refl;
        buffer_stays = refl;
      })

  inserts_two : (h l f r c g q d : ℕ) → h < 16777216 → l < 256 → operation i ≡ Insert (h * 256 + l) → two ≡ true
      → HoldsKey (get_or keys u 0) f r c → HoldsKey (get_or keys (u + 1) 0) g q d
      → Inserts storage keys p buffer (h * 256 + (f * 8 + max r q * 4 + max c d * 2)) after
  unfolding word_given keys_left code_left
  inserts_two h l f r c g q d word small performs both low high =
      rw (leaves _ performs)
      (record {
        word_given_lem = rw (both, keys_joined _ _ f r c g q d low high) (omega arith);
        keys_stay = refl;
        record_stays = refl;
        storage_stays = refl;
        buffer_stays = refl;
      })

  sets : (h k z : ℕ) → k < 128 → z < 2 → operation i ≡ Set (h * 256 + k * 2 + z) → Sets storage keys p buffer u (key_count two) (k * 2) after
  unfolding word_given keys_left code_left
  sets h k z small bit performs =
      rw (leaves _ performs)
      (record {
        word_zero = refl;
        keys_set_lem = λ v a b. run_written keys u _ (key_count two) inside v a b ∙ omega arith;
        other_keys_stay = run_elsewhere keys u _ (key_count two);
        as_many_keys = length-written keys _ _ (key_count two);
        record_stays = refl;
        storage_stays = refl;
        buffer_stays = refl;
      })

  resets : (code : ℕ) → operation i ≡ Reset → code_of (key_read keys u two) ≡ code → Resets storage keys p buffer u (key_count two) code after
  unfolding word_given keys_left code_left
  resets code performs by_key =
      rw (leaves _ performs)
      (record {
        word_zero = refl;
        keys_reset = λ v a b f r c h.
            let at : u + (v - u) ≡ v = omega arith in
            run_written keys u (λ j. after_reset (get_or keys (u + j) 0)) (key_count two) inside v a b ∙ rw at (key_reset _ f r c h);
        other_keys_stay = run_elsewhere keys u _ (key_count two);
        as_many_keys = length-written keys _ _ (key_count two);
        code_left_lem = by_key;
        rest_of_record_stays =
            record { key_stays = refl; problem_stays = refl; low_protection_stays = refl; key_control_stays = refl; prefix_stays = refl };
        storage_stays = refl;
        buffer_stays = refl;
      })

-- When an instruction completes: no line of the table applies.

-- what every instruction needs: lines 64 and 65 do not apply, and the processor is in supervisor state
pub record Ready (s : Settings) (storage_length key_length : ℕ) (p : Processor) : Type 0 where
  pub configured : ¬ Line64 s storage_length key_length
  pub own_record_lem : ¬ Line65 storage_length p
  pub supervisor : p.problem ≡ false

-- with the 4K facility CR0 bit 7 is one, as ISK, SSK and RRB need it
abbrev pub Controlled : Settings → Processor → Type 0
Controlled s p = s.four_k ≡ true → p.key_control ≡ true

not_on : (b : Bool) → (¬ (b ≡ true)) ↔ (b ≡ false)
not_on true = (λ h. absurd (h refl), λ e t. not_both t e)
not_on false = (λ h. refl, λ e t. not_both t e)

not_off : (b : Bool) → (¬ (b ≡ false)) ↔ (b ≡ true)
not_off true = (λ h. refl, λ e t. not_both e t)
not_off false = (λ h. absurd (h refl), λ e t. not_both e t)

-- the lines that instructions differ in do not apply: 66, 1, 19, 6 and 5
abbrev pub OwnLines : Settings → (storage_length : ℕ) → Processor → Request → (buffer_length : ℕ) → Type 0
OwnLines s storage_length p r buffer_length = (¬ Line66 r buffer_length) × (¬ Line1 s r) × (¬ Line19 s p r) × (¬ Line6 r) × (¬ Line5 storage_length r)

module _ (s : Settings) (storage keys : List ℕ) (p : Processor) (buffer : List ℕ) (r : Request) (privileged : Line2 p r ↔ (p.problem ≡ true))
    (unprotected : ¬ Line4 s keys p r) where
  -- an instruction completes exactly when it is ready and its own lines do not apply, however these are said
  pub completes_when : {Q : Type 0} → OwnLines s (length storage) p r (length buffer) ↔ Q
      → ((step s storage keys p r buffer).answer.number ≡ 0) ↔ (Ready s (length storage) (length keys) p × Q)
  completes_when {Q = Q} own = Iff.trans (completes s storage keys p r buffer) (to, from)
    where
      to : NoneOf (lines_of s (length storage) keys p r (length buffer)) → Ready s (length storage) (length keys) p × Q
      to (l64, (l65, (l66, (l1, (l2, (l19, (l6, (l5, _)))))))) =
          (record { configured = l64; own_record_lem = l65; supervisor = (not_on _).0 (λ h. l2 (privileged.1 h)) }, own.0 (l66, l1, l19, l6, l5))

      from : Ready s (length storage) (length keys) p × Q → NoneOf (lines_of s (length storage) keys p r (length buffer))
      from (ready, q) =
          let (l66, l1, l19, l6, l5) = own.1 q in
          let l2 : ¬ Line2 p r = λ h. (not_on _).1 ready.supervisor (privileged.0 h) in
          (ready.configured, (ready.own_record_lem, (l66, (l1, (l2, (l19, (l6, (l5, (unprotected, tt)))))))))

-- a block that is not outside storage is inside
pub inside_storage : (storage_length a b : ℕ) → a ≡ b → (¬ (storage_length ≤ a)) ↔ (b < storage_length)
inside_storage storage_length a b e = (λ h. omega arith, λ h l. omega arith)

-- The six instructions, with the 2K block b designated by `word_2k a b c` or the 4K block b by `word_4k a b c`.
module _ (s : Settings) (storage keys : List ℕ) (p : Processor) (buffer : List ℕ) where
  -- what an instruction leaves
  abbrev left : KeyInstruction → Outcome
  left i = step s storage keys p (Key i) buffer

  abbrev Completes : KeyInstruction → Type 0
  Completes i = (left i).answer.number ≡ 0

  abbrev Prepared : Type 0
  Prepared = Ready s (length storage) (length keys) p

  no_19 : (¬ ((s.four_k ≡ true) × (p.key_control ≡ false))) ↔ Controlled s p
  no_19 = (λ h t. (not_off _).0 (λ f. h (t, f)), λ h f. not_both (h f.0) f.1)

  module _ (a b c : ℕ) (block : b < 8192) (ignored : c < 2048) where
    -- the first key unit
    abbrev unit2_k : ℕ
    unit2_k = key_unit s p (b * 2048)

    inside_2K : (¬ (length storage ≤ word_2k a b c % 16777216 / 2048 * 2048)) ↔ (b * 2048 < length storage)
    inside_2K = inside_storage (length storage) _ (b * 2048) (omega arith)

    no_6 : (¬ (word_2k a b c % 16 ≢ 0)) ↔ (c % 16 ≡ 0)
    no_6 = Iff.trans (Dec.not-not (ℕ_discrete (word_2k a b c % 16) 0)) (λ h. omega arith, λ h. omega arith)

    -- ISK and SSK complete if their block is inside storage, CR0 bit 7 is one with the 4K facility, and bits 28-31 of R2 are zero
    isk_lines : ((¬ ⊥) × (¬ ⊥) × (¬ ((s.four_k ≡ true) × (p.key_control ≡ false))) × (¬ (word_2k a b c % 16 ≢ 0))
        × (¬ (length storage ≤ word_2k a b c % 16777216 / 2048 * 2048)))
        ↔ ((b * 2048 < length storage) × Controlled s p × (c % 16 ≡ 0))
    isk_lines =
        (λ (x, y, l19, l6, l5). (inside_2K.0 l5, no_19.0 l19, no_6.0 l6), λ (l5, l19, l6). (λ f. f, λ f. f, no_19.1 l19, no_6.1 l6, inside_2K.1 l5))

    pub isk_completes : (r1 : ℕ)
        → Completes (Isk r1 (word_2k a b c)) ↔ (Prepared × ((b * 2048 < length storage) × Controlled s p × (c % 16 ≡ 0)))
    isk_completes r1 = completes_when s storage keys p buffer _ Iff.rfl (λ f. f) isk_lines

    pub ssk_completes : (r1 : ℕ)
        → Completes (Ssk r1 (word_2k a b c)) ↔ (Prepared × ((b * 2048 < length storage) × Controlled s p × (c % 16 ≡ 0)))
    ssk_completes r1 = completes_when s storage keys p buffer _ Iff.rfl (λ f. f) isk_lines

    -- RRB, if its block is inside storage, CR0 bit 7 is one with the 4K facility, and its address has 24 bits
    pub rrb_completes : Completes (Rrb (word_2k a b c)) ↔ (Prepared × ((b * 2048 < length storage) × Controlled s p × (a ≡ 0)))
    rrb_completes =
        completes_when s storage keys p buffer _ Iff.rfl (λ f. f) (
          λ (l66, y, l19, x, l5). (inside_2K.0 l5, no_19.0 l19, omega arith),
          λ (l5, l19, l66). (λ l. omega arith, λ f. f, no_19.1 l19, λ f. f, inside_2K.1 l5),
        )

    -- ISK gives R1 with bits 24-30 replaced by the key and bit 31 zero
    pub isk_inserts : (h l f r d : ℕ) → h < 16777216 → l < 256 → HoldsKey (get_or keys unit2_k 0) f r d
        → let i = Isk (h * 256 + l) (word_2k a b c) in Completes i → Inserts storage keys p buffer (h * 256 + (f * 8 + r * 4 + d * 2)) (left i)
    isk_inserts h l f r d word small holds done =
        inserts_one s storage keys p buffer _ (ap (key_unit s p) (omega arith)) refl done h l f r d word small refl refl holds

    -- SSK sets the key to bits 24-30 of R1
    pub ssk_sets : (h k z : ℕ) → k < 128 → z < 2
        → let i = Ssk (h * 256 + k * 2 + z) (word_2k a b c) in Completes i → Sets storage keys p buffer unit2_k 1 (k * 2) (left i)
    ssk_sets h k z small bit done = sets s storage keys p buffer _ (ap (key_unit s p) (omega arith)) refl done h k z small bit refl

    -- RRB puts the reference bit of the key to zero; the condition code is 2 x old reference + old change
    pub rrb_resets : let i = Rrb (word_2k a b c) in
        let key = get_or keys unit2_k 0 in
        Completes i → Resets storage keys p buffer unit2_k 1 (2 * reference key + change key) (left i)
    rrb_resets done = resets s storage keys p buffer _ (ap (key_unit s p) (omega arith)) refl done _ refl (code_of_one _)

  module _ (a b c : ℕ) (block : b < 524288) (ignored : c < 4096) where
    -- the first key unit
    abbrev unit4_k : ℕ
    unit4_k = key_unit s p (b * 4096)

    -- the extended instructions complete if the extensions are present and their block is inside storage
    extended_lines_lem : ((¬ ⊥) × (¬ (s.extensions ≡ false)) × (¬ ⊥) × (¬ ⊥) × (¬ (length storage ≤ word_4k a b c % 2147483648 / 4096 * 4096)))
        ↔ ((b * 4096 < length storage) × (s.extensions ≡ true))
    extended_lines_lem =
        let inside = inside_storage (length storage) (word_4k a b c % 2147483648 / 4096 * 4096) (b * 4096) (omega arith) in
        (λ (x, l1, y, z, l5). (inside.0 l5, (not_off _).0 l1), λ (l5, l1). (λ f. f, (not_off _).1 l1, λ f. f, λ f. f, inside.1 l5))

    pub iske_completes : (r1 : ℕ) → Completes (Iske r1 (word_4k a b c)) ↔ (Prepared × ((b * 4096 < length storage) × (s.extensions ≡ true)))
    iske_completes r1 = completes_when s storage keys p buffer _ Iff.rfl (λ f. f) extended_lines_lem

    pub sske_completes : (r1 : ℕ) → Completes (Sske r1 (word_4k a b c)) ↔ (Prepared × ((b * 4096 < length storage) × (s.extensions ≡ true)))
    sske_completes r1 = completes_when s storage keys p buffer _ Iff.rfl (λ f. f) extended_lines_lem

    pub rrbe_completes : Completes (Rrbe (word_4k a b c)) ↔ (Prepared × ((b * 4096 < length storage) × (s.extensions ≡ true)))
    rrbe_completes = completes_when s storage keys p buffer _ Iff.rfl (λ f. f) extended_lines_lem

    -- ISKE with the 4K facility: the one key of the block
    pub iske_inserts_one : s.four_k ≡ true → (h l f r d : ℕ) → h < 16777216 → l < 256 → HoldsKey (get_or keys unit4_k 0) f r d
        → let i = Iske (h * 256 + l) (word_4k a b c) in Completes i → Inserts storage keys p buffer (h * 256 + (f * 8 + r * 4 + d * 2)) (left i)
    iske_inserts_one present h l f r d word small holds done =
        inserts_one s storage keys p buffer _ (ap (key_unit s p) (omega arith)) (ap not present) done h l f r d word small refl refl holds

    -- and without it: the low-order key, its reference and change bits each ORed with the high-order one's. The OR of two bits is the greater
    pub iske_inserts_two : s.four_k ≡ false → (h l f r d g q e : ℕ) → h < 16777216 → l < 256
        → HoldsKey (get_or keys unit4_k 0) f r d → HoldsKey (get_or keys (unit4_k + 1) 0) g q e
        → let i = Iske (h * 256 + l) (word_4k a b c) in
        Completes i → Inserts storage keys p buffer (h * 256 + (f * 8 + max r q * 4 + max d e * 2)) (left i)
    iske_inserts_two absent h l f r d g q e word small low high done =
        inserts_two s storage keys p buffer _ (ap (key_unit s p) (omega arith)) (ap not absent) done h l f r d g q e word small refl refl low high

    -- SSKE sets the one key of the block; and without the 4K facility both
    pub sske_sets_one : s.four_k ≡ true → (h k z : ℕ) → k < 128 → z < 2
        → let i = Sske (h * 256 + k * 2 + z) (word_4k a b c) in Completes i → Sets storage keys p buffer unit4_k 1 (k * 2) (left i)
    sske_sets_one present h k z small bit done = sets s storage keys p buffer _ (ap (key_unit s p) (omega arith)) (ap not present) done h k z small bit refl

    pub sske_sets_two : s.four_k ≡ false → (h k z : ℕ) → k < 128 → z < 2
        → let i = Sske (h * 256 + k * 2 + z) (word_4k a b c) in Completes i → Sets storage keys p buffer unit4_k 2 (k * 2) (left i)
    sske_sets_two absent h k z small bit done = sets s storage keys p buffer _ (ap (key_unit s p) (omega arith)) (ap not absent) done h k z small bit refl

    -- RRBE puts the reference bit of the one key of the block to zero, with the condition code as RRB
    pub rrbe_resets_one : s.four_k ≡ true
        → let i = Rrbe (word_4k a b c) in
        let key = get_or keys unit4_k 0 in
        Completes i → Resets storage keys p buffer unit4_k 1 (2 * reference key + change key) (left i)
    rrbe_resets_one present done = resets s storage keys p buffer _ (ap (key_unit s p) (omega arith)) (ap not present) done _ refl (code_of_one _)

    -- and without the 4K facility of both; the condition code is 2 x (OR of old reference bits) + (OR of old change bits)
    pub rrbe_resets_two : s.four_k ≡ false
        → let i = Rrbe (word_4k a b c) in
        let low = get_or keys unit4_k 0 in
        let high = get_or keys (unit4_k + 1) 0 in
        Completes i
        → Resets storage keys p buffer unit4_k 2 (2 * max (reference low) (reference high) + max (change low) (change high)) (left i)
    rrbe_resets_two absent done = resets s storage keys p buffer _ (ap (key_unit s p) (omega arith)) (ap not absent) done _ refl (code_of_two _ _)
