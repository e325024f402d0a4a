-- Rows of single requests, computed: what each finds, and its number, place, word and rule with the key array, the prefix and the condition code
-- that it leaves. They show each instruction at both facilities, with prefixes and with keys that differ in their reference and change bits, and both
-- sides of the bounds of each line of the table. Storage and buffer may hold anything: a row gives their lengths.
-- Assumes nothing.
use Rattle.std.specs.Prelude.{Err}
use Prim.Native.Nat.{ℕ}
use mathlib.Core.Path.{◌≡◌, refl, ◌∙◌}
use mathlib.Core.Bool.{Bool, true, false}
use mathlib.Core.List.{List, [], ◌∷◌, map}
use lib.ListN.{length, replicate}
use Rattle.machine.specs.declared.Settings.{Settings}
use Rattle.machine.specs.declared.Processor.{Processor}
use Rattle.machine.specs.declared.Request.{Request}
use Rattle.machine.specs.declared.Request.TheVariants.{Access, Key, Prefix}
use Rattle.machine.specs.declared.AccessKind.TheVariants.{Fetch, Store}
use Rattle.machine.specs.declared.KeyInstruction.TheVariants.{Isk, Ssk, Rrb, Iske, Sske, Rrbe}
use Rattle.machine.specs.declared.PrefixInstruction.TheVariants.{SetPrefix, StorePrefix}
use Rattle.machine.specs.Answers.{Verdict, Clear, Values, line, first_of, first_byte, first_line}
use Rattle.machine.specs.Lists.{written}
use Rattle.machine.specs.Key.{key_of, after_fetch, after_store, after_reset, code_of, joined}
use Rattle.machine.specs.Prefixing.{prefixed}
use Rattle.machine.specs.Protection.{permitted, low_protected}
use Rattle.machine.specs.KeyInstructions.{word_given, keys_left, code_left}
use Rattle.machine.specs.Table.{addressing, protection, before_protection, verdict}
use Rattle.machine.specs.Step.{Outcome, keys_recorded, completed, performed, step}

-- settings, storage length and key array
pub record Machine : Type 0 where
  pub settings : Settings
  pub storage_length : ℕ
  pub keys : List ℕ

-- a machine, a record, a request and the length of its buffer. It is completed with this word and rule and leaves these keys, this prefix
-- and this condition code; or it is refused with this number at this place, and nothing is changed
pub data Row : Type 0 where
  done : Machine → Processor → Request → (buffer : ℕ) → (word rule : ℕ) → (keys : List ℕ) → (prefix code : ℕ) → Row
  refused : Machine → Processor → Request → (buffer : ℕ) → (number place : ℕ) → Row

-- is the 4K facility present, are the extensions, storage length, keys
abbrev machine : Bool → Bool → ℕ → List ℕ → Machine
machine four extensions storage_length keys =
    record { settings = record { four_k = four; extensions = extensions }; storage_length = storage_length; keys = keys }

-- PSW key, problem state, CR0 bit 7, prefix, condition code
abbrev processor : ℕ → Bool → Bool → ℕ → ℕ → Processor
processor key problem control prefix code =
    record { psw_key = key; problem = problem; low_protection = false; key_control = control; prefix = prefix; code = code }

-- in supervisor state with CR0 bit 7 one, and with CR0 bit 7 zero; and in problem state
abbrev on : ℕ → ℕ → Processor
on prefix code = processor 0 false true prefix code

abbrev off : ℕ → ℕ → Processor
off prefix code = processor 0 false false prefix code

abbrev problem : ℕ → ℕ → Processor
problem prefix code = processor 0 true true prefix code

-- four keys: reference and change bit 1 and 0, 0 and 1, 0 and 0, 1 and 1; the last two have bit 7 on
abbrev K : List ℕ
K = 0x84 ∷ 0x52 ∷ 0x89 ∷ 0x37 ∷ []

-- with them 8,192 bytes in 2K units, and 16,384 bytes in 4K units; and the same without the extensions
abbrev in_2k : Machine
in_2k = machine false true 8192 K

abbrev in_4k : Machine
in_4k = machine true true 16384 K

abbrev basic_2k : Machine
basic_2k = machine false false 8192 K

abbrev basic_4k : Machine
basic_4k = machine true false 16384 K

-- four blocks in 2K units: the high-order key alone is changed; it alone is referenced; both are referenced and the low-order one is changed;
-- neither is referenced or changed
abbrev in_halves : Machine
in_halves = machine false true 16384 (0x80 ∷ 0x52 ∷ 0x89 ∷ 0x35 ∷ 0x87 ∷ 0x54 ∷ 0xF8 ∷ 0x49 ∷ [])

-- the greatest storage, in 4K units, with keys of zeros
abbrev zeros : List ℕ
zeros = replicate 4096 0

abbrev greatest : Machine
greatest = machine true true 16777216 zeros

abbrev rows : List Row
rows =
    -- ISK, 2K units
    done in_2k (off 0 1) (Key (Isk 0x12345678 0)) 0 0x12345684 1 K 0 1
    ∷ done in_2k (off 0 1) (Key (Isk 0xFFFFFFFF 0x800)) 0 0xFFFFFF52 1 K 0 1
    ∷ done in_2k (off 0 1) (Key (Isk 0 0x1000)) 0 0x88 3 K 0 1
    ∷ done in_2k (off 0 1) (Key (Isk 0x100 0x1800)) 0 0x136 3 K 0 1
    ∷ done in_2k (off 0 1) (Key (Isk 0x100 0xFF0017F0)) 0 0x188 3 K 0 1
    ∷ done in_2k (on 4096 2) (Key (Isk 0x12345678 0x800)) 0 0x12345636 1 K 4096 2
    ∷ done in_2k (on 4096 2) (Key (Isk 0x12345678 0x1800)) 0 0x12345652 2 K 4096 2
    -- SSK, 2K units
    ∷ done in_2k (off 0 1) (Key (Ssk 0xABCDEF37 0)) 0 0 1 (0x36 ∷ 0x52 ∷ 0x89 ∷ 0x37 ∷ []) 0 1
    ∷ done in_2k (off 0 1) (Key (Ssk 0xFF 0x800)) 0 0 1 (0x84 ∷ 0xFE ∷ 0x89 ∷ 0x37 ∷ []) 0 1
    ∷ done in_2k (off 0 1) (Key (Ssk 0x136 0xFF0017F0)) 0 0 3 (0x84 ∷ 0x52 ∷ 0x36 ∷ 0x37 ∷ []) 0 1
    ∷ done in_2k (on 4096 2) (Key (Ssk 0x0 0x810)) 0 0 1 (0x84 ∷ 0x52 ∷ 0x89 ∷ 0x00 ∷ []) 4096 2
    -- RRB, 2K units
    ∷ done in_2k (off 0 1) (Key (Rrb 0)) 0 0 1 (0x80 ∷ 0x52 ∷ 0x89 ∷ 0x37 ∷ []) 0 2
    ∷ done in_2k (off 0 2) (Key (Rrb 0x800)) 0 0 1 (0x84 ∷ 0x52 ∷ 0x89 ∷ 0x37 ∷ []) 0 1
    ∷ done in_2k (off 0 1) (Key (Rrb 0x17FF)) 0 0 3 (0x84 ∷ 0x52 ∷ 0x88 ∷ 0x37 ∷ []) 0 0
    ∷ done in_2k (off 0 1) (Key (Rrb 0x1FFF)) 0 0 3 (0x84 ∷ 0x52 ∷ 0x89 ∷ 0x32 ∷ []) 0 3
    ∷ done in_2k (on 4096 1) (Key (Rrb 0x1001)) 0 0 2 (0x80 ∷ 0x52 ∷ 0x89 ∷ 0x37 ∷ []) 4096 2
    -- ISKE, SSKE, RRBE, 2K units: two keys
    ∷ done in_2k (off 0 1) (Key (Iske 0x12345678 0)) 0 0x12345686 1 K 0 1
    ∷ done in_2k (off 0 1) (Key (Iske 0xFF 0x80001FFF)) 0 0x8E 3 K 0 1
    ∷ done in_2k (on 4096 2) (Key (Iske 0x100 0x800)) 0 0x18E 1 K 4096 2
    ∷ done in_2k (off 0 1) (Key (Sske 0xABCDEF37 0)) 0 0 1 (0x36 ∷ 0x36 ∷ 0x89 ∷ 0x37 ∷ []) 0 1
    ∷ done in_2k (off 0 1) (Key (Sske 0xFF 0x80001FFF)) 0 0 3 (0x84 ∷ 0x52 ∷ 0xFE ∷ 0xFE ∷ []) 0 1
    ∷ done in_2k (on 4096 2) (Key (Sske 0x136 0xFFF)) 0 0 1 (0x84 ∷ 0x52 ∷ 0x36 ∷ 0x36 ∷ []) 4096 2
    ∷ done in_2k (off 0 1) (Key (Rrbe 0)) 0 0 1 (0x80 ∷ 0x52 ∷ 0x89 ∷ 0x37 ∷ []) 0 3
    ∷ done in_2k (off 0 1) (Key (Rrbe 0x80001FFF)) 0 0 3 (0x84 ∷ 0x52 ∷ 0x88 ∷ 0x32 ∷ []) 0 3
    ∷ done in_2k (on 4096 1) (Key (Rrbe 0x1000)) 0 0 2 (0x80 ∷ 0x52 ∷ 0x89 ∷ 0x37 ∷ []) 4096 3
    ∷ done in_halves (off 0 0) (Key (Rrbe 0)) 0 0 1 (0x80 ∷ 0x52 ∷ 0x89 ∷ 0x35 ∷ 0x87 ∷ 0x54 ∷ 0xF8 ∷ 0x49 ∷ []) 0 1
    ∷ done in_halves (off 0 0) (Key (Rrbe 0x1000)) 0 0 3 (0x80 ∷ 0x52 ∷ 0x88 ∷ 0x30 ∷ 0x87 ∷ 0x54 ∷ 0xF8 ∷ 0x49 ∷ []) 0 2
    ∷ done in_halves (off 0 0) (Key (Rrbe 0x2000)) 0 0 3 (0x80 ∷ 0x52 ∷ 0x89 ∷ 0x35 ∷ 0x82 ∷ 0x50 ∷ 0xF8 ∷ 0x49 ∷ []) 0 3
    ∷ done in_halves (off 0 1) (Key (Rrbe 0x3000)) 0 0 3 (0x80 ∷ 0x52 ∷ 0x89 ∷ 0x35 ∷ 0x87 ∷ 0x54 ∷ 0xF8 ∷ 0x48 ∷ []) 0 0
    -- ISK, SSK, RRB, 4K units: the one key of the enclosing block
    ∷ done in_4k (on 0 1) (Key (Isk 0x12345678 0x800)) 0 0x12345684 1 K 0 1
    ∷ done in_4k (on 0 1) (Key (Isk 0x12345678 0x1000)) 0 0x12345652 3 K 0 1
    ∷ done in_4k (on 8192 2) (Key (Isk 0x12345678 0x800)) 0 0x12345688 1 K 8192 2
    ∷ done in_4k (on 0 1) (Key (Ssk 0xABCDEF37 0xFF002FF0)) 0 0 3 (0x84 ∷ 0x52 ∷ 0x36 ∷ 0x37 ∷ []) 0 1
    ∷ done in_4k (on 8192 2) (Key (Ssk 0xABCDEF37 0x2800)) 0 0 2 (0x36 ∷ 0x52 ∷ 0x89 ∷ 0x37 ∷ []) 8192 2
    ∷ done in_4k (on 0 1) (Key (Rrb 0x3FFF)) 0 0 3 (0x84 ∷ 0x52 ∷ 0x89 ∷ 0x32 ∷ []) 0 3
    ∷ done in_4k (on 8192 1) (Key (Rrb 0xFFF)) 0 0 1 (0x84 ∷ 0x52 ∷ 0x88 ∷ 0x37 ∷ []) 8192 0
    -- ISKE, SSKE, RRBE, 4K units: one key, and CR0 bit 7 is ignored
    ∷ done in_4k (off 0 1) (Key (Iske 0x12345678 0)) 0 0x12345684 1 K 0 1
    ∷ done in_4k (off 8192 2) (Key (Iske 0xFF 0x80000FFF)) 0 0x88 1 K 8192 2
    ∷ done in_4k (off 0 1) (Key (Sske 0xABCDEF37 0x1FFF)) 0 0 3 (0x84 ∷ 0x36 ∷ 0x89 ∷ 0x37 ∷ []) 0 1
    ∷ done in_4k (off 8192 2) (Key (Sske 0xFF 0x80002000)) 0 0 2 (0xFE ∷ 0x52 ∷ 0x89 ∷ 0x37 ∷ []) 8192 2
    ∷ done in_4k (off 0 1) (Key (Rrbe 0)) 0 0 1 (0x80 ∷ 0x52 ∷ 0x89 ∷ 0x37 ∷ []) 0 2
    ∷ done in_4k (off 8192 1) (Key (Rrbe 0x80003800)) 0 0 3 (0x84 ∷ 0x52 ∷ 0x89 ∷ 0x32 ∷ []) 8192 3
    -- SET PREFIX and STORE PREFIX
    ∷ done in_2k (off 0 1) (Prefix (SetPrefix 0x1000)) 0 0 0 K 4096 1
    ∷ done in_2k (off 4096 2) (Prefix (SetPrefix 0xFF000FFF)) 0 0 0 K 0 2
    ∷ done in_4k (off 4096 3) (Prefix (SetPrefix 0xFF003FFF)) 0 0 0 K 12288 3
    ∷ done in_2k (off 4096 1) (Prefix StorePrefix) 0 4096 0 K 4096 1
    ∷ done in_4k (off 12288 2) (Prefix StorePrefix) 0 12288 0 K 12288 2
    -- 64
    ∷ done (machine false true 4096 (0x84 ∷ 0x52 ∷ [])) (off 0 1) (Prefix StorePrefix) 0 0 0 (0x84 ∷ 0x52 ∷ []) 0 1
    ∷ refused (machine false true 4096 (0x84 ∷ [])) (off 0 1) (Prefix StorePrefix) 0 64 0
    ∷ refused (machine false true 4096 (0x84 ∷ 0x52 ∷ 0x89 ∷ [])) (off 0 1) (Prefix StorePrefix) 0 64 0
    ∷ refused (machine false true 6144 (0x84 ∷ 0x52 ∷ 0x89 ∷ [])) (off 0 1) (Prefix StorePrefix) 0 64 0
    ∷ refused (machine true true 0 []) (off 0 1) (Prefix StorePrefix) 0 64 0
    ∷ done (machine true true 4096 (0x84 ∷ [])) (off 0 1) (Prefix StorePrefix) 0 0 0 (0x84 ∷ []) 0 1
    ∷ refused (machine true true 4096 (0x84 ∷ 0x52 ∷ [])) (off 0 1) (Prefix StorePrefix) 0 64 0
    ∷ done greatest (off 0 1) (Prefix StorePrefix) 0 0 0 zeros 0 1
    ∷ refused (machine true true 16781312 (0 ∷ zeros)) (off 0 1) (Prefix StorePrefix) 0 64 0
    -- 65
    ∷ done in_2k (processor 15 false false 0 3) (Prefix StorePrefix) 0 0 0 K 0 3
    ∷ refused in_2k (processor 16 false false 0 3) (Prefix StorePrefix) 0 65 0
    ∷ refused in_2k (processor 15 false false 0 4) (Prefix StorePrefix) 0 65 0
    ∷ refused in_2k (off 2048 0) (Prefix (SetPrefix 0)) 0 65 0
    ∷ refused in_2k (off 4097 0) (Prefix (SetPrefix 0)) 0 65 0
    ∷ refused in_2k (off 8192 0) (Prefix (SetPrefix 0)) 0 65 0
    -- 66
    ∷ refused in_2k (off 0 1) (Key (Rrb 16777215)) 0 5 0
    ∷ refused in_2k (off 0 1) (Key (Rrb 16777216)) 0 66 0
    ∷ done greatest (on 0 1) (Key (Rrb 16777215)) 0 0 3 zeros 0 0
    ∷ refused in_2k (off 0 1) (Access Fetch 0 0) 300 66 0
    ∷ done in_2k (off 0 1) (Access Fetch 0 1) 300 0 1 (0x84 ∷ 0x52 ∷ 0x89 ∷ 0x37 ∷ []) 0 1
    ∷ done in_2k (off 0 1) (Access Store 0 256) 256 0 1 (0x86 ∷ 0x52 ∷ 0x89 ∷ 0x37 ∷ []) 0 1
    ∷ refused in_2k (off 0 1) (Access Fetch 0 257) 300 66 0
    ∷ refused in_2k (off 0 1) (Access Store 0 257) 300 66 0
    ∷ refused in_2k (off 0 1) (Access Store 0 256) 255 66 0
    ∷ refused in_2k (off 0 1) (Access Fetch 0 2) 1 66 0
    ∷ refused in_2k (off 0 1) (Access Fetch 16777215 2) 2 5 0
    ∷ refused in_2k (off 0 1) (Access Fetch 16777216 2) 2 66 0
    -- 1
    ∷ refused basic_2k (problem 0 1) (Key (Iske 0 0)) 0 1 0
    ∷ refused basic_4k (off 0 1) (Key (Sske 0 0)) 0 1 0
    ∷ refused basic_2k (off 0 1) (Key (Rrbe 0)) 0 1 0
    ∷ done basic_2k (off 0 1) (Key (Isk 0 0)) 0 0x84 1 K 0 1
    ∷ done basic_4k (on 0 1) (Key (Ssk 0x37 0)) 0 0 1 (0x36 ∷ 0x52 ∷ 0x89 ∷ 0x37 ∷ []) 0 1
    ∷ done basic_2k (off 0 1) (Key (Rrb 0)) 0 0 1 (0x80 ∷ 0x52 ∷ 0x89 ∷ 0x37 ∷ []) 0 2
    -- 2
    ∷ refused in_2k (problem 0 1) (Key (Isk 0 0)) 0 2 0
    ∷ refused in_4k (problem 0 1) (Key (Ssk 0 0)) 0 2 0
    ∷ refused in_2k (problem 0 1) (Key (Rrb 0)) 0 2 0
    ∷ refused in_4k (problem 0 1) (Key (Iske 0 0)) 0 2 0
    ∷ refused in_2k (problem 0 1) (Key (Sske 0 0)) 0 2 0
    ∷ refused in_4k (problem 0 1) (Key (Rrbe 0)) 0 2 0
    ∷ refused in_2k (problem 0 1) (Prefix (SetPrefix 0x1000)) 0 2 0
    ∷ refused in_2k (problem 0 1) (Prefix StorePrefix) 0 2 0
    ∷ done in_2k (problem 0 1) (Access Fetch 0x1800 1) 1 0 3 (0x84 ∷ 0x52 ∷ 0x89 ∷ 0x36 ∷ []) 0 1
    -- 19
    ∷ refused in_4k (off 0 1) (Key (Isk 0 1)) 0 19 0
    ∷ refused in_4k (off 0 1) (Key (Ssk 0 0)) 0 19 0
    ∷ refused in_4k (off 0 1) (Key (Rrb 0)) 0 19 0
    -- 6: each of bits 28-31; bit 27 is ignored
    ∷ refused in_2k (off 0 1) (Key (Isk 0 0x1)) 0 6 0
    ∷ refused in_2k (off 0 1) (Key (Isk 0 0x2)) 0 6 0
    ∷ refused in_4k (on 0 1) (Key (Isk 0 0x4)) 0 6 0
    ∷ refused in_2k (off 0 1) (Key (Isk 0 0x2008)) 0 6 0
    ∷ done in_2k (off 0 1) (Key (Isk 0 0x10)) 0 0x84 1 K 0 1
    ∷ refused in_2k (off 0 1) (Key (Ssk 0 0x801)) 0 6 0
    ∷ refused in_2k (off 0 1) (Key (Ssk 0 0x802)) 0 6 0
    ∷ refused in_4k (on 0 1) (Key (Ssk 0 0x804)) 0 6 0
    ∷ refused in_2k (off 0 1) (Key (Ssk 0 0x808)) 0 6 0
    ∷ done in_2k (off 0 1) (Key (Ssk 0 0x810)) 0 0 1 (0x84 ∷ 0x00 ∷ 0x89 ∷ 0x37 ∷ []) 0 1
    -- 5: the first block outside, and bit 8 of R2 and of SET PREFIX's word; of the extended instructions bit 7 and bit 1, while bit 0 is ignored
    ∷ refused in_2k (off 0 1) (Key (Isk 0 0x2000)) 0 5 0
    ∷ refused in_2k (off 0 1) (Key (Isk 0 0x800000)) 0 5 0
    ∷ done in_2k (off 0 1) (Key (Isk 0 0x1000000)) 0 0x84 1 K 0 1
    ∷ refused in_2k (off 0 1) (Key (Ssk 0 0x2000)) 0 5 0
    ∷ refused in_4k (on 0 1) (Key (Ssk 0 0x800000)) 0 5 0
    ∷ refused in_2k (off 0 1) (Key (Rrb 0x2000)) 0 5 0
    ∷ refused in_4k (on 0 1) (Key (Rrb 0x4000)) 0 5 0
    ∷ refused in_2k (off 0 1) (Key (Iske 0 0x2000)) 0 5 0
    ∷ refused in_2k (off 0 1) (Key (Iske 0 0x1000000)) 0 5 0
    ∷ refused in_4k (off 0 1) (Key (Sske 0 0x40000000)) 0 5 0
    ∷ done in_4k (off 0 1) (Key (Iske 0 0x80000000)) 0 0x84 1 K 0 1
    ∷ refused in_4k (off 0 1) (Key (Rrbe 0x4000)) 0 5 0
    ∷ refused in_2k (off 0 1) (Key (Rrbe 0x1000000)) 0 5 0
    ∷ refused greatest (off 0 1) (Key (Iske 0 0x1000000)) 0 5 0
    ∷ refused in_2k (off 0 1) (Prefix (SetPrefix 0x2000)) 0 5 0
    ∷ done greatest (off 0 1) (Prefix (SetPrefix 0xFFFFFFFF)) 0 0 0 zeros 0xFFF000 1
    ∷ refused in_2k (off 0 1) (Prefix (SetPrefix 0x800000)) 0 5 0
    ∷ done in_2k (off 0 1) (Access Fetch 0x1FFF 1) 1 0 3 (0x84 ∷ 0x52 ∷ 0x89 ∷ 0x36 ∷ []) 0 1
    ∷ refused in_2k (off 0 1) (Access Fetch 0x1FFF 2) 2 5 1
    -- the rule is that of the first byte, also where the access goes on under another or at 0
    ∷ done in_4k (off 8192 1) (Access Fetch 0xFFF 2) 2 0 1 (0x84 ∷ 0x56 ∷ 0x8C ∷ 0x37 ∷ []) 8192 1
    ∷ done in_4k (off 8192 1) (Access Store 0x1FFF 2) 2 0 3 (0x86 ∷ 0x56 ∷ 0x89 ∷ 0x37 ∷ []) 8192 1
    ∷ done in_4k (off 8192 1) (Access Fetch 0x2FFF 2) 2 0 2 (0x84 ∷ 0x52 ∷ 0x89 ∷ 0x36 ∷ []) 8192 1
    ∷ []

-- what is seen of a request: its answer, the key array, the prefix and the condition code
pub record RowOutcome : Type 0 where
  pub answer : Values
  pub keys : List ℕ
  pub prefix : ℕ
  pub code : ℕ

abbrev seen : Outcome → RowOutcome
seen o = record { answer = o.answer; keys = o.keys; prefix = o.processor.prefix; code = o.processor.code }

-- by the row
abbrev due : Row → RowOutcome
due (done m p r buffer word rule keys prefix code) =
    record { answer = record { number = 0; place = 0; word = word; rule = rule }; keys = keys; prefix = prefix; code = code }
due (refused m p r buffer number place) =
    record { answer = record { number = number; place = place; word = 0; rule = 0 }; keys = m.keys; prefix = p.prefix; code = p.code }

-- and by the rules, which look at storage and buffer only by their lengths
abbrev by_lengths : Machine → Processor → Request → ℕ → RowOutcome
by_lengths m p r buffer = seen (performed (verdict m.settings m.storage_length m.keys p r buffer) m.settings [] m.keys p r [])

abbrev given : Row → RowOutcome
given (done m p r buffer word rule keys prefix code) = by_lengths m p r buffer
given (refused m p r buffer number place) = by_lengths m p r buffer

rows_computed : map given rows ≡ map due rows
unfolding written key_of after_fetch after_store after_reset code_of joined line first_of first_byte first_line prefixed permitted low_protected
    word_given keys_left code_left addressing protection before_protection verdict keys_recorded completed performed
rows_computed = refl

-- the claim: on every storage and with every buffer of these lengths the step gives what the row says
abbrev RowMetBy : Machine → Processor → Request → ℕ → RowOutcome → Type 0
RowMetBy m p r buffer_length x =
    (storage buffer : List ℕ) → length storage ≡ m.storage_length → length buffer ≡ buffer_length
    → seen (step m.settings storage m.keys p r buffer) ≡ x

abbrev pub RowMet : Row → Type 0
RowMet (done m p r buffer word rule keys prefix code) = RowMetBy m p r buffer (due (done m p r buffer word rule keys prefix code))
RowMet (refused m p r buffer number place) = RowMetBy m p r buffer (due (refused m p r buffer number place))

abbrev pub RowsMet : List Row → Type 0
RowsMet [] = Unit {0}
RowsMet (x ∷ xs) = RowMet x × RowsMet xs

-- what is seen does not depend on what storage and buffer hold
lengths_suffice : (m : Machine) (p : Processor) (r : Request) (buffer_length : ℕ) → RowMetBy m p r buffer_length (by_lengths m p r buffer_length)
unfolding step performed completed
lengths_suffice m p r buffer_length storage buffer h k = rw (h, k) (go (verdict m.settings m.storage_length m.keys p r buffer_length) r)
  where
    go : (v : Verdict) (r : Request) → seen (performed v m.settings storage m.keys p r buffer) ≡ seen (performed v m.settings [] m.keys p r [])
    go (Err refusal) r = refl
    go Clear (Access kind address count) = refl
    go Clear (Key i) = refl
    go Clear (Prefix i) = refl

each_met : (xs : List Row) → map given xs ≡ map due xs → RowsMet xs
each_met [] e = tt
each_met (x ∷ xs) e = (one x (cc), each_met xs (cc))
  where
    one : (x : Row) → given x ≡ due x → RowMet x
    one (done m p r buffer word rule keys prefix code) q = λ storage lent h k. lengths_suffice m p r buffer storage lent h k ∙ q
    one (refused m p r buffer number place) q = λ storage lent h k. lengths_suffice m p r buffer storage lent h k ∙ q

pub rows_met : RowsMet rows
rows_met = each_met rows rows_computed
