-- The table of answers as document 01 prints it has a line for 67 between those for 5 and 4, which the rules do not have. Both tables give the
-- same verdict for every input: where lines 64 and 65 pass, no absolute address is outside storage, and the line for 67 passes. It is said of a
-- processor's own record; a number without one is refused with 64 or 65, and comes to no later line.
-- Assumes nothing.
use Rattle.std.specs.Prelude.{Err}
use Prim.Native.Nat.{ℕ, zero, suc}
use mathlib.Core.Path.{◌≡◌, refl}
use mathlib.Core.Bool.{Bool, true, false, cond, ◌&&◌}
use mathlib.Core.List.{List}
use lib.ListN.{length}
use lib.Dec.{ltb, leb}
use borrow.Author.Tests.{ltb-true, lt-leb}
use Rattle.machine.specs.declared.Settings.{Settings}
use Rattle.machine.specs.declared.Processor.{Processor}
use Rattle.machine.specs.declared.AccessKind.TheVariants.{Fetch}
use Rattle.machine.specs.declared.KeyInstruction.TheVariants.{Isk, Iske}
use Rattle.machine.specs.declared.Request.{Request}
use Rattle.machine.specs.declared.Request.TheVariants.{Access, Key, Prefix}
use Rattle.machine.specs.Answers.{Verdict, Clear, number, first_of}
use Rattle.machine.specs.Numbers.{add24}
use Rattle.machine.specs.Prefixing.{prefixed, absolute}
use Rattle.machine.specs.KeyInstructions.{designated}
use Rattle.machine.specs.Table.{configuration, own_record, protection, before_protection, verdict}
use Rattle.machine.specs.Conditions.{numbers, is_in}
use Rattle.machine.proofs.AbsoluteAddress.{absolute_inside}
use Rattle.machine.proofs.BeforeProtection.{cleared}

-- what a line or a table says: nothing, or a number and a place
pub data Said : Type 0 where
  passes : Said
  refuses : (number place : ℕ) → Said

-- what a verdict of the rules says; a reason is told by its number
abbrev pub said : Verdict → Said
said Clear = passes
said (Err refusal) = refuses (number refusal.reason) refusal.place

-- the first, and where it passes the second
abbrev pub or_else : Said → Said → Said
or_else passes w = w
or_else (refuses n k) w = refuses n k

-- 67: the real address is inside storage and its absolute address is outside
abbrev absolute_outside : ℕ → Processor → ℕ → Bool
absolute_outside storage_length p real = ltb real storage_length && leb storage_length (absolute p.prefix real)

-- at the first such of n bytes of an access
abbrev first_outside : ℕ → Processor → ℕ → ℕ → Said
first_outside storage_length p address zero = passes
first_outside storage_length p address (suc n) =
    or_else (first_outside storage_length p address n) (cond (absolute_outside storage_length p (add24 address n)) (refuses 67 n) passes)

abbrev pub line67 : ℕ → Processor → Request → Said
line67 storage_length p (Access kind address count) = first_outside storage_length p address count
line67 storage_length p (Key i) = cond (absolute_outside storage_length p (designated i)) (refuses 67 0) passes
line67 storage_length p (Prefix i) = passes

-- the table as document 01 prints it: the lines from 64 to 5, the line for 67, line 4
abbrev pub printed : Settings → ℕ → List ℕ → Processor → Request → ℕ → Said
printed s storage_length keys p r buffer_length =
    or_else (said (before_protection s storage_length (length keys) p r buffer_length))
    (or_else (line67 storage_length p r) (said (protection s keys p r)))

-- where lines 64 and 65 pass, so does the line for 67
module _ (s : Settings) (storage_length key_length : ℕ) (p : Processor) (l64 : configuration s storage_length key_length ≡ Clear)
    (l65 : own_record storage_length p ≡ Clear) where
  none_outside : (real : ℕ) → absolute_outside storage_length p real ≡ false
  none_outside real = at (ltb real storage_length) refl
    where
      at : (b : Bool) → ltb real storage_length ≡ b → b && leb storage_length (absolute p.prefix real) ≡ false
      at true e = lt-leb _ _ (absolute_inside s storage_length key_length p l64 l65 real (ltb-true _ _ e))
      at false e = refl

  bytes_pass : (address n : ℕ) → first_outside storage_length p address n ≡ passes
  bytes_pass address zero = refl
  bytes_pass address (suc n) = rw (bytes_pass address n, none_outside (add24 address n))

  line_67_passes : (r : Request) → line67 storage_length p r ≡ passes
  line_67_passes (Access kind address count) = bytes_pass address count
  line_67_passes (Key i) = rw (none_outside (designated i))
  line_67_passes (Prefix i) = refl

-- the table with the line for 67 gives the same verdict as the table without it
pub printed_table_same : (s : Settings) (storage_length : ℕ) (keys : List ℕ) (p : Processor) (r : Request) (buffer_length : ℕ)
    → printed s storage_length keys p r buffer_length ≡ said (verdict s storage_length keys p r buffer_length)
unfolding first_of verdict
printed_table_same s storage_length keys p r buffer_length = go (before_protection s storage_length (length keys) p r buffer_length) refl
  where
    go : (v : Verdict) → before_protection s storage_length (length keys) p r buffer_length ≡ v
        → or_else (said v) (or_else (line67 storage_length p r) (said (protection s keys p r))) ≡ said (first_of v (protection s keys p r))
    go (Err refusal) e = refl
    go Clear e =
        let lines = cleared s storage_length (length keys) p r buffer_length e in
        rw (line_67_passes s storage_length (length keys) p lines.lengths lines.own r)

-- The line for 67 does refuse where line 65 is left out: with the prefix at the end of storage, block 0 goes outside and no other block does. Where
-- an access comes to block 0 after its first byte, the place is there.
abbrev at_end : ℕ → Processor
at_end storage_length =
    record { psw_key = 0; problem = false; low_protection = false; key_control = false; prefix = storage_length; code = 0 }

pub line_67_refuses : (line67 4096 (at_end 4096) (Access Fetch 0 1) ≡ refuses 67 0)
    × (line67 16777216 (at_end 16777216) (Access Fetch 16777215 2) ≡ refuses 67 1)
    × (line67 4096 (at_end 4096) (Key (Isk 0 0x800)) ≡ refuses 67 0)
    × (line67 8192 (at_end 8192) (Key (Iske 0 0)) ≡ refuses 67 0)
    × (line67 8192 (at_end 8192) (Key (Iske 0 0x1000)) ≡ passes)
unfolding prefixed
line_67_refuses = (refl, refl, refl, refl, refl)

-- the numbers of the table of answers have no 67
pub numbers_without_67 : is_in 67 numbers ≡ false
numbers_without_67 = refl
