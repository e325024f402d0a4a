-- Records in literal bytes, computed: which byte is which operand, for every kind, and what is bad. Assumes nothing.
use Prim.Native.Nat.{ℕ}
use mathlib.Core.Path.{◌≡◌, refl}
use mathlib.Core.List.{List, [], ◌∷◌}
use Rattle.machine.specs.declared.Request.TheVariants.{Access, Key, Prefix}
use Rattle.machine.specs.declared.AccessKind.TheVariants.{Fetch, Store}
use Rattle.machine.specs.declared.KeyInstruction.TheVariants.{Isk, Ssk, Rrb, Iske, Sske, Rrbe}
use Rattle.machine.specs.declared.PrefixInstruction.TheVariants.{SetPrefix, StorePrefix}
use Rattle.house_record.specs.Little.{little}
use Rattle.house_record.specs.Records.{found}
use Rattle.trace.specs.Trace.{ARequest, Remark, Bad, End, fetch_in, store_in, key_in, prefix_in, remark_in, kind_read, record_read, read_of, data_of}

-- processor 1, address 01020304, length 0506; the same with data bytes AA and BB; one data byte too few and one too many
pub accesses : (read_of (9 ∷ 0 ∷ 1 ∷ 0 ∷ 1 ∷ 4 ∷ 3 ∷ 2 ∷ 1 ∷ 6 ∷ 5 ∷ []) ≡ ARequest 1 (Access Fetch 16909060 1286) 11)
    × (read_of (11 ∷ 0 ∷ 2 ∷ 0 ∷ 1 ∷ 4 ∷ 3 ∷ 2 ∷ 1 ∷ 2 ∷ 0 ∷ 170 ∷ 187 ∷ []) ≡ ARequest 1 (Access Store 16909060 2) 13)
    × (data_of (11 ∷ 0 ∷ 2 ∷ 0 ∷ 1 ∷ 4 ∷ 3 ∷ 2 ∷ 1 ∷ 2 ∷ 0 ∷ 170 ∷ 187 ∷ []) 13 ≡ 170 ∷ 187 ∷ [])
    × (read_of (10 ∷ 0 ∷ 2 ∷ 0 ∷ 1 ∷ 4 ∷ 3 ∷ 2 ∷ 1 ∷ 2 ∷ 0 ∷ 170 ∷ []) ≡ Bad)
    × (read_of (12 ∷ 0 ∷ 2 ∷ 0 ∷ 1 ∷ 4 ∷ 3 ∷ 2 ∷ 1 ∷ 2 ∷ 0 ∷ 170 ∷ 187 ∷ 204 ∷ []) ≡ Bad)
unfolding read_of record_read kind_read fetch_in store_in found little
accesses = (refl, refl, refl, refl, refl)

-- a key instruction of processor 1, R1 01020304, R2 or address 05060708
abbrev instruction : ℕ → List ℕ
instruction i = 12 ∷ 0 ∷ 3 ∷ 0 ∷ 1 ∷ i ∷ 4 ∷ 3 ∷ 2 ∷ 1 ∷ 8 ∷ 7 ∷ 6 ∷ 5 ∷ []

pub key_instructions : (read_of (instruction 0) ≡ ARequest 1 (Key (Isk 16909060 84281096)) 14)
    × (read_of (instruction 1) ≡ ARequest 1 (Key (Ssk 16909060 84281096)) 14)
    × (read_of (instruction 2) ≡ ARequest 1 (Key (Rrb 84281096)) 14)
    × (read_of (instruction 3) ≡ ARequest 1 (Key (Iske 16909060 84281096)) 14)
    × (read_of (instruction 4) ≡ ARequest 1 (Key (Sske 16909060 84281096)) 14)
    × (read_of (instruction 5) ≡ ARequest 1 (Key (Rrbe 84281096)) 14)
    × (read_of (instruction 6) ≡ Bad)
unfolding read_of record_read kind_read key_in found little
key_instructions = (refl, refl, refl, refl, refl, refl, refl)

-- a prefix instruction of processor 255 with the word 01020304
abbrev operation : ℕ → List ℕ
operation o = 8 ∷ 0 ∷ 4 ∷ 0 ∷ 255 ∷ o ∷ 4 ∷ 3 ∷ 2 ∷ 1 ∷ []

pub prefix_instructions : (read_of (operation 0) ≡ ARequest 255 (Prefix (SetPrefix 16909060)) 10)
    × (read_of (operation 1) ≡ ARequest 255 (Prefix StorePrefix) 10)
    × (read_of (operation 2) ≡ Bad)
unfolding read_of record_read kind_read prefix_in found little
prefix_instructions = (refl, refl, refl)

-- a remark, an empty one, a kind whose low-order byte is that of a remark, and bytes behind a remark
pub remarks : (read_of (4 ∷ 0 ∷ 255 ∷ 0 ∷ 72 ∷ 105 ∷ []) ≡ Remark 6)
    × (read_of (2 ∷ 0 ∷ 255 ∷ 0 ∷ []) ≡ Remark 4)
    × (read_of (2 ∷ 0 ∷ 255 ∷ 1 ∷ []) ≡ Bad)
    × (read_of (2 ∷ 0 ∷ 255 ∷ 0 ∷ 9 ∷ []) ≡ Remark 4)
    × (read_of [] ≡ End)
    × (read_of (9 ∷ []) ≡ Bad)
unfolding read_of record_read kind_read remark_in found little
remarks = (refl, refl, refl, refl, refl, refl)
