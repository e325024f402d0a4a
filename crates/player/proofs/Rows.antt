-- A run, computed on a storage of 8,192 bytes: that each request finds what the one before it left, shows in the state that the run leaves. Its
-- records: a remark; a store of AA at 2049 by processor 1; SET PREFIX 4096 by processor 1; a store of BB at real 1, absolute 4097, by
-- processor 1; RRB on the block at 2048 by processor 0; a fetch of two bytes at 8191; a fetch by processor 2; a record of kind 5; and a fetch that
-- is not played. Assumes nothing.
use Prim.Native.Nat.{ℕ}
use mathlib.Core.Path.{◌≡◌, refl}
use mathlib.Core.List.{List, [], ◌∷◌, ◌++◌, map}
use mathlib.Core.Option.{some}
use lib.ListN.{get_or, replicate}
use Rattle.machine.specs.declared.Processor.{Processor}
use Rattle.machine.specs.Lists.{written}
use Rattle.machine.specs.Key.{key_of, after_fetch, after_store, after_reset, code_of, joined}
use Rattle.machine.specs.Answers.{line, first_of, first_byte, first_line}
use Rattle.machine.specs.Prefixing.{prefixed}
use Rattle.machine.specs.Protection.{permitted, low_protected}
use Rattle.machine.specs.KeyInstructions.{word_given, keys_left, code_left}
use Rattle.machine.specs.Table.{addressing, protection, before_protection, verdict}
use Rattle.machine.specs.Step.{storage_left, buffer_left, keys_recorded, completed, performed, step}
use Rattle.machine.specs.Pair.{served, pair_step}
use Rattle.house_record.specs.Little.{little}
use Rattle.house_record.specs.Records.{found}
use Rattle.trace.specs.Trace.{fetch_in, store_in, key_in, prefix_in, remark_in, kind_read, record_read, read_of}
use Rattle.player.specs.Run.{progress, start_settings, start_processors, Line, Run, on_read, run_from}

abbrev remark_bytes_lem : List ℕ
remark_bytes_lem = 3 ∷ 0 ∷ 255 ∷ 0 ∷ 33 ∷ []

abbrev store_bytes : List ℕ
store_bytes = 10 ∷ 0 ∷ 2 ∷ 0 ∷ 1 ∷ 1 ∷ 8 ∷ 0 ∷ 0 ∷ 1 ∷ 0 ∷ 170 ∷ []

abbrev set_prefix_bytes : List ℕ
set_prefix_bytes = 8 ∷ 0 ∷ 4 ∷ 0 ∷ 1 ∷ 0 ∷ 0 ∷ 16 ∷ 0 ∷ 0 ∷ []

abbrev store_prefixed_bytes : List ℕ
store_prefixed_bytes = 10 ∷ 0 ∷ 2 ∷ 0 ∷ 1 ∷ 1 ∷ 0 ∷ 0 ∷ 0 ∷ 1 ∷ 0 ∷ 187 ∷ []

abbrev rrb_bytes : List ℕ
rrb_bytes = 12 ∷ 0 ∷ 3 ∷ 0 ∷ 0 ∷ 2 ∷ 0 ∷ 0 ∷ 0 ∷ 0 ∷ 0 ∷ 8 ∷ 0 ∷ 0 ∷ []

abbrev fetch_outside_bytes : List ℕ
fetch_outside_bytes = 9 ∷ 0 ∷ 1 ∷ 0 ∷ 1 ∷ 255 ∷ 31 ∷ 0 ∷ 0 ∷ 2 ∷ 0 ∷ []

abbrev fetch_of_processor_2_bytes : List ℕ
fetch_of_processor_2_bytes = 9 ∷ 0 ∷ 1 ∷ 0 ∷ 2 ∷ 0 ∷ 0 ∷ 0 ∷ 0 ∷ 1 ∷ 0 ∷ []

abbrev bad_bytes : List ℕ
bad_bytes = 2 ∷ 0 ∷ 5 ∷ 0 ∷ []

abbrev fetch_bytes : List ℕ
fetch_bytes = 9 ∷ 0 ∷ 1 ∷ 0 ∷ 0 ∷ 0 ∷ 0 ∷ 0 ∷ 0 ∷ 1 ∷ 0 ∷ []

abbrev bytes : List ℕ
bytes =
    remark_bytes_lem
    ++ store_bytes
    ++ set_prefix_bytes
    ++ store_prefixed_bytes
    ++ rrb_bytes
    ++ fetch_outside_bytes
    ++ fetch_of_processor_2_bytes
    ++ bad_bytes
    ++ fetch_bytes

abbrev run : Run
run =
    run_from 9 start_settings (progress (record { storage = replicate 8192 0; keys = replicate 4 0; processors = start_processors }) 0 0) bytes

-- ordinal, number and place of each line, and the ordinal of the bad record among all records
pub lines_computed : (map (λ (l : Line). l.ordinal) run.lines ≡ 1 ∷ 2 ∷ 3 ∷ 4 ∷ 5 ∷ 6 ∷ [])
    × (map (λ (l : Line). l.number) run.lines ≡ 0 ∷ 0 ∷ 0 ∷ 0 ∷ 5 ∷ 65 ∷ [])
    × (map (λ (l : Line). l.place) run.lines ≡ 0 ∷ 0 ∷ 0 ∷ 0 ∷ 1 ∷ 0 ∷ [])
    × (run.bad ≡ some 8)
unfolding written key_of after_fetch after_store after_reset code_of joined line first_of first_byte first_line prefixed permitted low_protected
    word_given keys_left code_left addressing protection before_protection verdict storage_left buffer_left keys_recorded
    completed performed step served pair_step little found fetch_in store_in key_in prefix_in remark_in kind_read record_read read_of on_read run_from
lines_computed = (refl, refl, refl, refl)

-- the bytes stored, the keys, prefixes and condition codes
pub state_computed : (get_or run.state.storage 2049 0 ≡ 170)
    × (get_or run.state.storage 4097 0 ≡ 187)
    × (get_or run.state.storage 1 0 ≡ 0)
    × (run.state.keys ≡ 0 ∷ 2 ∷ 6 ∷ 0 ∷ [])
    × (map (λ (p : Processor). p.prefix) run.state.processors ≡ 0 ∷ 4096 ∷ [])
    × (map (λ (p : Processor). p.code) run.state.processors ≡ 3 ∷ 0 ∷ [])
unfolding written key_of after_fetch after_store after_reset code_of joined line first_of first_byte first_line prefixed permitted low_protected
    word_given keys_left code_left addressing protection before_protection verdict storage_left buffer_left keys_recorded
    completed performed step served pair_step little found fetch_in store_in key_in prefix_in remark_in kind_read record_read read_of on_read run_from
state_computed = (refl, refl, refl, refl, refl, refl)
