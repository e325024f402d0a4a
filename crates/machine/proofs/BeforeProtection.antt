-- The lines before protection: what is known of a request that they let pass. The table is taken apart line by line, and the tests of a line
-- one by one. Assumes nothing.
use Prim.Native.Nat.{ℕ, ◌<◌, ◌≤◌}
use mathlib.Core.Path.{◌≡◌, refl}
use mathlib.Core.Bool.{false}
use mathlib.Core.List.{List}
use native.Mathlib.Nat.{pos_of_ne-zero}
use lib.ListN.{length}
use lib.Dec.{eqb, ltb, leb}
use borrow.Author.Tests.{ltb-false, eqb-false}
use Rattle.machine.specs.declared.Settings.{Settings}
use Rattle.machine.specs.declared.Processor.{Processor}
use Rattle.machine.specs.declared.AccessKind.{AccessKind}
use Rattle.machine.specs.declared.Request.{Request}
use Rattle.machine.specs.declared.Request.TheVariants.{Access}
use Rattle.machine.specs.Answers.{Clear, first_line}
use Rattle.machine.specs.Numbers.{operand_limit, unit_of, add24}
use Rattle.machine.specs.Prefixing.{byte_address}
use Rattle.machine.specs.Table.{configuration, own_record, operand_invalid, addressing, before_protection, verdict}
use Rattle.machine.proofs.Verdicts.{neither, line_clear, first_clear}
use Rattle.machine.proofs.Units.{unit_inside}
use Rattle.machine.proofs.AbsoluteAddress.{Configured, configured, named_absolute_inside}

-- what is known of a request that the lines before protection let pass
pub record Cleared (s : Settings) (storage_length key_length : ℕ) (p : Processor) (r : Request) (buffer_length : ℕ) : Type 0 where
  pub lengths : configuration s storage_length key_length ≡ Clear
  pub own : own_record storage_length p ≡ Clear
  pub operands : operand_invalid r buffer_length ≡ false
  pub inside : addressing storage_length r ≡ Clear

pub cleared : (s : Settings) (storage_length key_length : ℕ) (p : Processor) (r : Request) (buffer_length : ℕ)
    → before_protection s storage_length key_length p r buffer_length ≡ Clear → Cleared s storage_length key_length p r buffer_length
unfolding before_protection first_line
cleared s storage_length key_length p r buffer_length e =
    let (l64, from65) = first_clear _ _ e in
    let (l65, from66) = first_clear _ _ from65 in
    let (l66, from1) = first_clear _ _ from66 in
    let (l1, from2) = first_clear _ _ from1 in
    let (l2, from19) = first_clear _ _ from2 in
    let (l19, from6) = first_clear _ _ from19 in
    let (l6, from5) = first_clear _ _ from6 in
    record {
      lengths = l64;
      own = l65;
      operands = line_clear _ _ l66;
      inside = (first_clear _ _ from5).0;
    }

-- a request that the whole table lets pass is one of these
pub table_clear : (s : Settings) (storage_length : ℕ) (keys : List ℕ) (p : Processor) (r : Request) (buffer_length : ℕ)
    → verdict s storage_length keys p r buffer_length ≡ Clear → before_protection s storage_length (length keys) p r buffer_length ≡ Clear
unfolding verdict
table_clear s storage_length keys p r buffer_length e = (first_clear _ _ e).0

-- what line 66 lets pass of an access
pub operands_passed : (kind : AccessKind) (address count buffer_length : ℕ) → operand_invalid (Access kind address count) buffer_length ≡ false
    → (0 < count) × (count ≤ 256) × (count ≤ buffer_length)
operands_passed kind address count buffer_length e =
    let (before, buffered) = neither _ (ltb buffer_length count) e in
    let (not_zero, short) = neither (eqb count 0) _ (neither _ (leb operand_limit address) before).0 in
    (pos_of_ne-zero (eqb-false count 0 not_zero), ltb-false _ _ short, ltb-false _ _ buffered)

-- what is known of an access that the lines before protection let pass
pub record AccessCleared (storage_length : ℕ) (p : Processor) (address count buffer_length : ℕ) : Type 0 where
  pub positive : 0 < count
  pub short : count ≤ 256
  pub buffered : count ≤ buffer_length
  pub byte_inside : (i : ℕ) → i < count → byte_address p address i < storage_length

module _ (s : Settings) (storage_length key_length : ℕ) (p : Processor) (kind : AccessKind) (address count buffer_length : ℕ)
    (clear : before_protection s storage_length key_length p (Access kind address count) buffer_length ≡ Clear) where
  lines : Cleared s storage_length key_length p (Access kind address count) buffer_length
  lines = cleared s storage_length key_length p (Access kind address count) buffer_length clear

  known : Configured s storage_length key_length
  known = configured s storage_length key_length lines.lengths

  pub access_cleared : AccessCleared storage_length p address count buffer_length
  access_cleared =
      let (positive, short, buffered) = operands_passed kind address count buffer_length lines.operands in
      record {
        positive = positive;
        short = short;
        buffered = buffered;
        byte_inside = λ i h.
            named_absolute_inside s storage_length key_length p lines.lengths lines.own (Access kind address count) lines.inside
            (add24 address i) (i, h, refl);
      }

  -- the keys of the units that it touches are in the key array
  pub access_keyed : (i : ℕ) → i < count → unit_of s (byte_address p address i) < key_length
  access_keyed i h = rw known.keyed (unit_inside s storage_length (byte_address p address i) known.whole (access_cleared.byte_inside i h))
