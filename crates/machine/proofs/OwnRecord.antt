-- A record that line 65 lets pass stays one, whatever is asked: SET PREFIX installs a block inside storage only, and RRB and RRBE leave a
-- condition code of 0 to 3. The proof goes by the verdict and the kind of request. A request by a record that line 65 refuses is refused
-- as one that has no record.
-- Assumes nothing.
use Rattle.std.specs.Prelude.{Err}
use Prim.Native.Nat.{ℕ, ◌≤◌}
use mathlib.Core.Path.{◌≡◌, refl}
use mathlib.Core.Bool.{Bool, true, false}
use mathlib.Core.List.{List}
use native.Mathlib.Omega.{arith}
use lib.ListN.{length}
use borrow.Author.Tests.{leb-false}
use Rattle.machine.specs.declared.Settings.{Settings}
use Rattle.machine.specs.declared.Processor.{Processor}
use Rattle.machine.specs.declared.KeyOperation.{KeyOperation}
use Rattle.machine.specs.declared.KeyOperation.TheVariants.{Insert, Set, Reset}
use Rattle.machine.specs.declared.PrefixInstruction.TheVariants.{SetPrefix, StorePrefix}
use Rattle.machine.specs.declared.Request.{Request}
use Rattle.machine.specs.declared.Request.TheVariants.{Access, Key, Prefix}
use Rattle.machine.specs.declared.Reason.TheVariants.{Record}
use Rattle.machine.specs.Answers.{Verdict, Clear, Stop, stops, line, first_of, first_line, answer_of}
use Rattle.machine.specs.Numbers.{record_valid}
use Rattle.machine.specs.Key.{code_of}
use Rattle.machine.specs.Prefixing.{prefix_of}
use Rattle.machine.specs.KeyInstructions.{operation, two_keys, first_unit, code_left}
use Rattle.machine.specs.Table.{configuration, own_record, addressing, protection, before_protection, verdict}
use Rattle.machine.specs.Step.{with_code, with_prefix, outcome, completed, step}
use Rattle.machine.specs.Pair.{without_record}
use Rattle.machine.proofs.Verdicts.{line_clear}
use Rattle.machine.proofs.AbsoluteAddress.{ValidRecord, record_valid_lem, record_passes}
use Rattle.machine.proofs.BeforeProtection.{cleared, table_clear}
use Rattle.machine.proofs.Requests.{by_verdict, completed_cleared, refused_request}

-- the table of a request whose record is wrong: line 64, then line 65
wrong_record_found : (s : Settings) (storage_length : ℕ) (keys : List ℕ) (p : Processor) (r : Request) (buffer_length : ℕ)
    → record_valid storage_length p ≡ false → without_record s storage_length (length keys) ≡ verdict s storage_length keys p r buffer_length
unfolding first_of first_line line verdict before_protection
wrong_record_found s storage_length keys p r buffer_length wrong =
    rw wrong (absorbed (configuration s storage_length (length keys)) (protection s keys p r))
  where
    absorbed : (v u : Verdict) → first_of v (Stop Record 0) ≡ first_of (first_of v (Stop Record 0)) u
    absorbed Clear u = refl
    absorbed (Err refusal) u = refl

stops_without_record : (v : Verdict) → stops (first_of v (Stop Record 0)) ≡ true
unfolding first_of
stops_without_record Clear = refl
stops_without_record (Err refusal) = refl

pub wrong_record : (s : Settings) (storage keys : List ℕ) (p : Processor) (r : Request) (buffer : List ℕ) → record_valid (length storage) p ≡ false
    → outcome (answer_of (without_record s (length storage) (length keys)) 0 0) storage keys p buffer ≡ step s storage keys p r buffer
wrong_record s storage keys p r buffer wrong =
    refused_request s storage keys p r buffer (wrong_record_found s (length storage) keys p r (length buffer) wrong) 0 0
    (stops_without_record (configuration s (length storage) (length keys)))

-- the condition code that an operation on keys leaves
code_small : (keys : List ℕ) (u : ℕ) (two : Bool) (o : KeyOperation) (c : ℕ) → c ≤ 3 → code_left keys u two o c ≤ 3
unfolding code_left code_of
code_small keys u two (Insert r1) c h = h
code_small keys u two (Set r1) c h = h
code_small keys u two Reset c h = omega arith

module _ (s : Settings) (storage keys : List ℕ) (p : Processor) (buffer : List ℕ) where
  -- every request leaves a record that line 65 lets pass where it found one
  pub record_stays_valid : (r : Request) → own_record (length storage) p ≡ Clear
      → own_record (length storage) (step s storage keys p r buffer).processor ≡ Clear
  unfolding addressing completed
  record_stays_valid r l65 =
      by_verdict s storage keys p r buffer (λ o. own_record (length storage) o.processor ≡ Clear) (λ reason place e. l65) (λ e. done r e)
    where
      before : ValidRecord (length storage) p
      before = record_valid_lem (length storage) p l65

      done : (r : Request) → verdict s (length storage) keys p r (length buffer) ≡ Clear
          → own_record (length storage) (completed s storage keys p r buffer).processor ≡ Clear
      done (Access kind address count) e = l65
      done (Key i) e =
          let left = code_left keys (first_unit s p i) (two_keys s i) (operation i) p.code in
          let small : left ≤ 3 = code_small keys _ _ (operation i) p.code before.code in
          record_passes (length storage) (with_code p left) (record { key = before.key; code = small; block = before.block; inside = before.inside })
      done (Prefix StorePrefix) e = l65
      done (Prefix (SetPrefix word)) e =
          let lines = cleared _ _ _ _ _ _ (table_clear s (length storage) keys p (Prefix (SetPrefix word)) (length buffer) e) in
          let below = leb-false (length storage) (prefix_of word) (line_clear _ _ lines.inside) in
          record_passes (length storage) (with_prefix p (prefix_of word))
          (record { key = before.key; code = before.code; block = omega arith; inside = omega arith })

  -- a completed SET PREFIX leaves a record that line 65 lets pass
  pub set_prefix_leaves_valid_record : (word : ℕ) → let o = step s storage keys p (Prefix (SetPrefix word)) buffer in
      o.answer.number ≡ 0 → own_record (length storage) o.processor ≡ Clear
  set_prefix_leaves_valid_record word done =
      record_stays_valid (Prefix (SetPrefix word))
      (cleared _ _ _ _ _ _ (completed_cleared s storage keys p (Prefix (SetPrefix word)) buffer done)).own
