-- A processor's request obeys the laws of actions. What it leaves of each part follows from the laws of a single request. In two states that are alike to it
-- a request finds the same record and the same verdict of the lines before protection, so it names the same units, and one verdict; where that
-- is clear, what it leaves and gives back is the same. Assumes nothing.
use Rattle.std.specs.Prelude.{Err}
use Prim.Native.Nat.{ℕ}
use mathlib.Core.Path.{◌≡◌, refl, sym, ap}
use mathlib.Core.Bool.{Bool, true, false, cond, ◌&&◌}
use mathlib.Core.Logic.{⊎_elim}
use mathlib.Core.Option.{Option, none, some}
use native.Mathlib.Decide.{ℕ_discrete}
use native.Mathlib.Omega.{arith}
use lib.Dec.{eqb, ltb}
use lib.ListN.{length, get_or, get_elem?}
use borrow.Author.Tests.{ltb-false, eq-eqb}
use Rattle.machine.specs.declared.Settings.{Settings}
use Rattle.machine.specs.declared.Processor.{Processor}
use Rattle.machine.specs.Answers.{Verdict, Clear, first_of}
use Rattle.machine.specs.Numbers.{unit_of}
use Rattle.machine.specs.Key.{after_fetch}
use Rattle.machine.specs.Table.{verdict}
use Rattle.machine.specs.Step.{Outcome, performed, step}
use Rattle.machine.specs.Pair.{PairOutcome, served, pair_step}
use Rattle.turns.specs.Units.{names}
use Rattle.machine.specs.Turns.{State, Turn, Given, next, given}
use Rattle.turns.specs.Units.{named_by, is_fetch}
use Rattle.turns.proofs.Actions.{untouched, fetch, write, Alike, Leaves, AlikeTo, Laws}
use Rattle.machine.proofs.Verdicts.{tested, not_both}
use Rattle.turns.proofs.Named.{named_at_lem}
use Rattle.turns.proofs.Fetches.{same_protection, fetch_keeps_storage, fetch_leaves_keys}
use Rattle.machine.proofs.BeforeProtection.{table_clear}
use Rattle.machine.proofs.Requests.{lengths_stay}
use Rattle.machine.proofs.Pairs.{by_record, other_record_stays, other_number_refused, lookup_set_agree}
use Rattle.turns.proofs.Named.{only_named_bytes_change, only_named_keys_change}
use Rattle.turns.proofs.Parts.{Part, byte, key, processor, lengths, Value, read, whole, touch, touch_twice, is_clear, treatment, mode}
use Rattle.turns.proofs.Parts.{record_found, before_of, verdict_of, unit_mode_by, unit_mode}
use Rattle.turns.proofs.Dependence.{byte_same, key_same, record_same, answer_same, buffer_same}

-- what is left of a part that is named or not, by a fetch or not, which completes or not
pub left_of : {P : Type 0} (t : P → P) (v w : P) (is_named is_fetched completes : Bool)
    → (is_named ≡ false → w ≡ v) → (is_named ≡ true → is_fetched ≡ true → w ≡ cond completes (t v) v)
    → Leaves (cond is_named (cond is_fetched (fetch completes) write) untouched) t v w
left_of t v w false f c kept fetched = kept refl
left_of t v w true true c kept fetched = fetched refl refl
left_of t v w true false c kept fetched = tt

pub same_either : {P : Type 0} (c : Bool) (v : P) → v ≡ cond c v v
same_either true v = refl
same_either false v = refl

-- values that are alike to a request that names their part are the same to a fetch
pub as_fetched : {P : Type 0} (t : P → P) (v w : P) (is_fetched completes : Bool)
    → Alike (cond is_fetched (fetch completes) write) t v w → t v ≡ t w
as_fetched t v w true c e = e
as_fetched t v w false c e = ap t e

module _ (s : Settings) (t : Turn) where
  -- what the request leaves by the record that it finds
  abbrev left : Option Processor → State → PairOutcome
  left f m = served f s m.storage m.keys m.processors t.processor_number t.request t.buffer

  abbrev own : State → Processor → Outcome
  own m p = step s m.storage m.keys p t.request t.buffer

  -- unit u is named by a request that the lines before protection let pass
  abbrev names_unit : Processor → ℕ → Bool
  names_unit p u = names Clear s p t.request u

  module _ (m : State) where
    key_fetched : (p : Processor) (v : Verdict) → verdict_of s m t p ≡ v → (u : ℕ)
        → named_by (some p) s u m t ≡ true → is_fetch t.request ≡ true
        → get_or (own m p).keys u 0 ≡ cond (is_clear v) (after_fetch (read m (key u))) (read m (key u))
    unfolding step performed
    key_fetched p (Err refusal) e u n f = rw e
    key_fetched p Clear e u n f =
        fetch_leaves_keys s m.storage m.keys p t.request t.buffer f e u (rw (table_clear s _ _ _ t.request _ e) at n)

    byte_left : (f : Option Processor) (a : ℕ)
        → Leaves (unit_mode_by f s m t (unit_of s a)) (λ v. v) (read m (byte a)) (get_or (left f m).storage a 0)
    unfolding served
    byte_left none a = refl
    byte_left (some p) a =
        left_of _ _ _ (named_by (some p) s (unit_of s a) m t) (is_fetch t.request) _
        (only_named_bytes_change s m.storage m.keys p t.request t.buffer a)
        (λ n f. rw (fetch_keeps_storage s m.storage m.keys p t.request t.buffer f) (same_either (is_clear (verdict_of s m t p)) _))

    key_left : (f : Option Processor) (u : ℕ) → Leaves (unit_mode_by f s m t u) after_fetch (read m (key u)) (get_or (left f m).keys u 0)
    unfolding served
    key_left none u = refl
    key_left (some p) u =
        left_of _ _ _ (named_by (some p) s u m t) (is_fetch t.request) _
        (only_named_keys_change s m.storage m.keys p t.request t.buffer u)
        (key_fetched p (verdict_of s m t p) refl u)

    -- a record that is not its processor's; where the number is not 0 or 1, any
    record_kept : (i : ℕ) → eqb i t.processor_number && ltb i 2 ≡ false → read (next s m t) (processor i) ≡ read m (processor i)
    record_kept i f = go (ℕ_discrete i t.processor_number)
      where
        go : Dec (i ≡ t.processor_number) → read (next s m t) (processor i) ≡ read m (processor i)
        go (no d) = other_record_stays s m.storage m.keys m.processors t.processor_number t.request t.buffer i d
        go (yes q) =
            rw (other_number_refused s m.storage m.keys m.processors t.processor_number t.request t.buffer
            (omega (arith, ltb-false i 2 (rw (eq-eqb i t.processor_number q) at f))))

    leaves : (q : Part) → Leaves (mode s m t q) (touch q) (read m q) (read (next s m t) q)
    unfolding pair_step
    leaves (byte a) = byte_left (record_found m t) a
    leaves (key u) = key_left (record_found m t) u
    leaves (processor i) =
        left_of _ _ _ (eqb i t.processor_number && ltb i 2) false true (record_kept i) (λ n f. absurd (not_both f refl))
    leaves lengths =
        by_record s m.storage m.keys m.processors t.processor_number t.request t.buffer
        (λ o. ◌≡◌ {A = ℕ × ℕ} (length o.storage, length o.keys) (length m.storage, length m.keys))
        (λ e. refl) (λ p e. let (a, b, c) = lengths_stay s m.storage m.keys p t.request t.buffer in rw (a, b))

  module _ (m o : State) (alike : AlikeTo (mode s) read touch m o t) where
    same_found : record_found o t ≡ record_found m t
    same_found = ⊎_elim (λ h. rw (found h)) (λ h. rw h) (tested (ltb t.processor_number 2))
      where
        found : ltb t.processor_number 2 ≡ true → get_elem? o.processors t.processor_number ≡ get_elem? m.processors t.processor_number
        found h = sym (rw (eq-eqb t.processor_number t.processor_number refl, h) at (alike (processor t.processor_number)))

    module _ (p : Processor) (found : record_found m t ≡ some p) where
      same_before : before_of s o t p ≡ before_of s m t p
      same_before = rw (← ap (λ l. l.0) (alike lengths), ← ap (λ l. l.1) (alike lengths))

      module _ (clear : before_of s m t p ≡ Clear) where
        key_alike : (u : ℕ) → names_unit p u ≡ true → Alike (treatment (verdict_of s m t p) t.request) after_fetch (read m (key u)) (read o (key u))
        key_alike u e = rw (found, clear, e) at (alike (key u))

        same_keys : is_fetch t.request ≡ false → (u : ℕ) → names_unit p u ≡ true → read m (key u) ≡ read o (key u)
        same_keys f u e = rw f at (key_alike u e)

        same_bytes : (a : ℕ) → names_unit p (unit_of s a) ≡ true → read m (byte a) ≡ read o (byte a)
        same_bytes a e = as_fetched (λ v. v) _ _ (is_fetch t.request) _ (rw (found, clear, e) at (alike (byte a)))

      same_verdict : verdict_of s o t p ≡ verdict_of s m t p
      unfolding verdict first_of
      same_verdict = go (before_of s m t p) refl
        where
          go : (v : Verdict) → before_of s m t p ≡ v → verdict_of s o t p ≡ verdict_of s m t p
          go Clear e =
              rw (same_before, e)
              (sym (same_protection s _ _ _ t.request (λ i h.
              as_fetched _ _ _ (is_fetch t.request) _ (key_alike e _ (named_at_lem s _ t.request i h)))))
          go (Err refusal) e = rw (same_before, e)

    same_unit_mode : (u : ℕ) → unit_mode s o t u ≡ unit_mode s m t u
    same_unit_mode u = rw same_found (go (record_found m t) refl)
      where
        go : (f : Option Processor) → record_found m t ≡ f → unit_mode_by f s o t u ≡ unit_mode_by f s m t u
        go none e = refl
        go (some p) e = rw (same_before p e, same_verdict p e)

    same_mode : (q : Part) → mode s o t q ≡ mode s m t q
    same_mode (byte a) = same_unit_mode (unit_of s a)
    same_mode (key u) = same_unit_mode u
    same_mode (processor i) = refl
    same_mode lengths = refl

    -- by the record found, and by the verdict where there is one
    module _ (p : Processor) (found : record_found m t ≡ some p) where
      own_answer : (v : Verdict) → verdict_of s m t p ≡ v → ((own o p).answer ≡ (own m p).answer) × ((own o p).buffer ≡ (own m p).buffer)
      unfolding step performed
      own_answer (Err refusal) e = rw (same_verdict p found, e) (refl, refl)
      own_answer Clear e =
          let clear = table_clear s _ _ _ t.request _ e in
          rw (same_verdict p found, e) (
            sym (answer_same s _ t.buffer m o (alike lengths) t.request (same_keys p found clear)),
            sym (buffer_same s _ t.buffer m o (alike lengths) t.request (same_bytes p found clear)),
          )

      own_record_lem : (v : Verdict) → verdict_of s m t p ≡ v → (own o p).processor ≡ (own m p).processor
      unfolding step performed
      own_record_lem (Err refusal) e = rw (same_verdict p found, e)
      own_record_lem Clear e =
          rw (same_verdict p found, e)
          (sym (record_same s _ t.buffer m o (alike lengths) t.request (same_keys p found (table_clear s _ _ _ t.request _ e))))

      own_byte : (v : Verdict) → verdict_of s m t p ≡ v → (a : ℕ) → read m (byte a) ≡ read o (byte a)
          → get_or (own o p).storage a 0 ≡ get_or (own m p).storage a 0
      unfolding step performed
      own_byte (Err refusal) e a w = rw (same_verdict p found, e) (sym w)
      own_byte Clear e a w = rw (same_verdict p found, e) (sym (byte_same s _ t.buffer m o (alike lengths) t.request a w))

      own_key : (v : Verdict) → verdict_of s m t p ≡ v → (u : ℕ) → read m (key u) ≡ read o (key u)
          → get_or (own o p).keys u 0 ≡ get_or (own m p).keys u 0
      unfolding step performed
      own_key (Err refusal) e u w = rw (same_verdict p found, e) (sym w)
      own_key Clear e u w = rw (same_verdict p found, e) (sym (key_same s _ t.buffer m o (alike lengths) t.request u w))

    same_given : given s o t ≡ given s m t
    unfolding pair_step served
    same_given = rw same_found (go (record_found m t) refl)
      where
        go : (f : Option Processor) → record_found m t ≡ f
            → ◌≡◌ {A = Given} (record { answer = (left f o).answer; buffer = (left f o).buffer })
            (record { answer = (left f m).answer; buffer = (left f m).buffer })
        go none e = rw (← ap (λ l. l.0) (alike lengths), ← ap (λ l. l.1) (alike lengths))
        go (some p) e = let (a, b) = own_answer p e (verdict_of s m t p) refl in rw (a, b)

    same_written : (q : Part) → read m q ≡ read o q → read (next s o t) q ≡ read (next s m t) q
    unfolding pair_step served
    same_written q w = rw same_found (go (record_found m t) refl q w)
      where
        go : (f : Option Processor) → record_found m t ≡ f → (q : Part) → read m q ≡ read o q
            → read (record { storage = (left f o).storage; keys = (left f o).keys; processors = (left f o).processors }) q
            ≡ read (record { storage = (left f m).storage; keys = (left f m).keys; processors = (left f m).processors }) q
        go none e (byte a) w = sym w
        go none e (key u) w = sym w
        go none e (processor i) w = sym w
        go none e lengths w = sym w
        go (some p) e (byte a) w = own_byte p e (verdict_of s m t p) refl a w
        go (some p) e (key u) w = own_key p e (verdict_of s m t p) refl u w
        go (some p) e (processor i) w = rw (own_record_lem p e (verdict_of s m t p) refl) (lookup_set_agree o.processors m.processors _ i _ (sym w))
        go (some p) e lengths w =
            let (a, b, c) = lengths_stay s o.storage o.keys p t.request t.buffer in
            let (d, f, g) = lengths_stay s m.storage m.keys p t.request t.buffer in
            rw (a, b, d, f) (sym w)

pub request_laws : (s : Settings) → Laws State Turn (λ t. Given) Part Value (next s) (given s) (mode s) read touch
request_laws s =
    record {
      whole = whole;
      touch_twice = touch_twice;
      leaves = λ m t. leaves s t m;
      same_mode = λ m o t. same_mode s t m o;
      same_given = λ m o t alike. same_given s t m o alike;
      same_written = λ m o t alike q w. same_written s t m o alike q (rw w at (alike q));
    }
