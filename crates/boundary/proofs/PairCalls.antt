-- Calls are steps over the pair: with sixteen bytes of records, what a call answers and leaves is what the step over the pair in these bytes
-- answers and leaves. So conditions 1 to 3, which speak of that step, speak of calls. The bytes of a record that is written are read again,
-- and those of the other are not touched. Assumes nothing.
use Prim.Native.Nat.{ℕ, zero, suc, ◌+◌, ◌*◌, ◌<◌}
use mathlib.Core.Path.{◌≡◌, refl, sym, ap}
use mathlib.Core.List.{List, [], ◌∷◌}
use mathlib.Core.Option.{some}
use native.Mathlib.Decide.{ℕ_discrete, dec_lt}
use native.Mathlib.Omega.{arith}
use lib.ListN.{length, get_or, set}
use borrow.Author.Tests.{eq-eqb, ne_eqb, lt-ltb, le-ltb}
use Rattle.machine.specs.declared.Settings.{Settings}
use Rattle.machine.specs.declared.Processor.{Processor}
use Rattle.machine.specs.declared.Request.{Request}
use Rattle.machine.specs.declared.Request.TheVariants.{Access, Key, Prefix}
use Rattle.machine.specs.declared.PrefixInstruction.TheVariants.{SetPrefix, StorePrefix}
use Rattle.machine.specs.Lists.{written, record_of}
use Rattle.machine.specs.Step.{Outcome, completed, step}
use Rattle.machine.specs.Pair.{PairOutcome, pair_step}
use Rattle.machine.proofs.Written.{written_elsewhere}
use Rattle.machine.proofs.Requests.{either_way, refused_changes_nothing}
use Rattle.machine.proofs.Pairs.{own_step, other_number_refused}
use Rattle.boundary.specs.Boundary.{record_at, record_bytes, packed, CallOutcome, call_outcome, records_left, called_with}
use Rattle.boundary.proofs.Records.{same_record, written_record_is_read}

-- the pair of records in sixteen bytes, processor 0's first
abbrev pub pair_of : List ℕ → List Processor
pair_of bytes = record_at bytes 0 ∷ record_at bytes 8 ∷ []

-- a request leaves a prefix of 32 bits
prefix_fits : (s : Settings) (storage keys : List ℕ) (p : Processor) (r : Request) (buffer : List ℕ) → p.prefix < 4294967296
    → (step s storage keys p r buffer).processor.prefix < 4294967296
unfolding completed
prefix_fits s storage keys p r buffer h =
    either_way s storage keys p r buffer (λ o. o.processor.prefix < 4294967296) (λ answer. h) (go r)
  where
    go : (r : Request) → (completed s storage keys p r buffer).processor.prefix < 4294967296
    go (Access kind address count) = h
    go (Key i) = h
    go (Prefix (SetPrefix word)) = omega arith
    go (Prefix StorePrefix) = h

module _ (records : List ℕ) (sized : length records ≡ 16) where
  -- processor n's record written over its bytes is the pair with this record
  abbrev put : ℕ → Processor → List ℕ
  put n q = written records (λ i. n * 8 + i) (λ i. get_or (record_bytes q) i 0) 8

  other_bytes : (n m : ℕ) (q : Processor) → ((i j : ℕ) → i < 8 → j < 8 → n * 8 + i ≡ m + j → ⊥) → record_at (put n q) m ≡ record_at records m
  other_bytes n m q apart =
      same_record (put n q) records m m (λ j h. written_elsewhere records (λ i. n * 8 + i) _ 8 (m + j) (λ i l e. apart i j l h e))

  put_pair : (n : ℕ) (q : Processor) → n < 2 → q.prefix < 4294967296 → pair_of (put n q) ≡ set (pair_of records) n q
  put_pair zero q h small =
      rw (written_record_is_read records 0 q sized (omega arith) small, other_bytes 0 8 q (λ i j k l e. omega arith))
  put_pair (suc zero) q h small =
      rw (written_record_is_read records 8 q sized (omega arith) small, other_bytes 1 0 q (λ i j k l e. omega arith))
  put_pair (suc (suc n)) q h small = absurd (omega arith)

  own : (n : ℕ) → n < 2 → record_of (pair_of records) n ≡ some (record_at records (n * 8))
  own zero h = refl
  own (suc zero) h = refl
  own (suc (suc n)) h = absurd (omega arith)

  put_back : (n : ℕ) → n < 2 → set (pair_of records) n (record_at records (n * 8)) ≡ pair_of records
  put_back zero h = refl
  put_back (suc zero) h = refl
  put_back (suc (suc n)) h = absurd (omega arith)

  module _ (byte : (i : ℕ) → get_or records i 0 < 256) (s : Settings) (storage keys : List ℕ) (r : Request) (buffer : List ℕ) where
    -- what is left of a processor's record
    abbrev left : ℕ → Outcome
    left n = step s storage keys (record_at records (n * 8)) r buffer

    pair_left : (n : ℕ) → n < 2 → pair_of (records_left (left n).answer.number records (n * 8) (left n).processor) ≡ set (pair_of records) n (left n).processor
    unfolding records_left
    pair_left n h = go (ℕ_discrete (left n).answer.number 0)
      where
        small : (record_at records (n * 8)).prefix < 4294967296
        small = omega (arith, byte (n * 8 + 4), byte (n * 8 + 5), byte (n * 8 + 6), byte (n * 8 + 7))

        go : Dec ((left n).answer.number ≡ 0)
            → pair_of (records_left (left n).answer.number records (n * 8) (left n).processor) ≡ set (pair_of records) n (left n).processor
        go (yes e) = rw (eq-eqb _ _ e) (put_pair n _ h (prefix_fits s storage keys _ r buffer small))
        go (no d) =
            rw (ne_eqb _ _ d, ap (λ o. o.processor) (refused_changes_nothing s storage keys (record_at records (n * 8)) r buffer d))
            (sym (put_back n h))

    abbrev over : ℕ → PairOutcome
    over n = pair_step s storage keys (pair_of records) n r buffer

    abbrev call : ℕ → CallOutcome
    call n = called_with s storage keys records n r buffer

    -- the answer, storage, keys and buffer of a call are those of the step over the pair, and the pair in the bytes that it leaves is the pair
    -- that the step leaves
    pub call_is_pair_step : (n : ℕ) → (call n ≡ call_outcome (packed (over n).answer) (over n).storage (over n).keys (call n).records (over n).buffer)
        × (pair_of (call n).records ≡ (over n).processors)
    unfolding called_with
    call_is_pair_step n = go (dec_lt n 2)
      where
        go : Dec (n < 2) → (call n ≡ call_outcome (packed (over n).answer) (over n).storage (over n).keys (call n).records (over n).buffer)
            × (pair_of (call n).records ≡ (over n).processors)
        go (yes h) =
            rw (eq-eqb _ _ sized, lt-ltb n 2 h, own_step s storage keys (pair_of records) n r buffer _ (own n h)) (refl, pair_left n h)
        go (no d) =
            rw (eq-eqb _ _ sized, le-ltb n 2 (omega arith), other_number_refused s storage keys (pair_of records) n r buffer (omega arith)) (refl, refl)
