-- The case that 02 gives whole: one fetch, one line. Storage stays a variable, of which only the length is used. Assumes nothing.
use Prim.Native.Nat.{ℕ}
use mathlib.Core.Path.{◌≡◌, refl, ap, ◌∙◌}
use mathlib.Core.List.{List, [], ◌∷◌, ◌++◌}
use mathlib.Core.Option.{none}
use lib.ListN.{length, replicate, length-replicate}
use Rattle.machine.specs.declared.Request.TheVariants.{Access}
use Rattle.machine.specs.declared.AccessKind.TheVariants.{Fetch}
use Rattle.machine.specs.Answers.{Completed, Values, values, line, first_of, first_byte, first_line}
use Rattle.machine.specs.Lists.{written}
use Rattle.machine.specs.Key.{key_of, after_fetch}
use Rattle.machine.specs.Prefixing.{prefixed}
use Rattle.machine.specs.Protection.{permitted, low_protected}
use Rattle.machine.specs.Table.{addressing, protection, before_protection, verdict}
use Rattle.machine.specs.Step.{storage_left, buffer_left, keys_recorded, completed, performed, step}
use Rattle.machine.specs.Pair.{served, pair_step}
use Rattle.machine.specs.Turns.{State, Turn, next, given}
use Rattle.trace.proofs.Front.{given_case, nothing_is_end}
use Rattle.player.specs.Text.{decimal_in, line_text}
use Rattle.player.specs.Run.{start_settings, start_processors, start_state, start_progress, turn_of, line_of, ended, line_then, on_read, run_from}
use Rattle.player.specs.Run.{run_of, text_of_line, text_of_lines, text_of}
use Rattle.player.proofs.Runs.{text_behind}

-- bytes 09 00 01 00 00 00 00 00 00 01 00
abbrev pub given_bytes : List ℕ
given_bytes = 9 ∷ 0 ∷ 1 ∷ 0 ∷ 0 ∷ 0 ∷ 0 ∷ 0 ∷ 0 ∷ 1 ∷ 0 ∷ []

fetched : (storage : List ℕ) → length storage ≡ 65536
    → (given start_settings (record { storage = storage; keys = replicate 32 0; processors = start_processors })
    (record { processor_number = 0; request = Access Fetch 0 1; buffer = replicate 256 0 })).answer
    ≡ values (Completed 0 1)
unfolding written key_of after_fetch line first_of first_byte first_line prefixed permitted low_protected addressing protection before_protection verdict
    storage_left buffer_left keys_recorded completed performed step served pair_step
fetched storage h = rw h refl

first_answer : (given start_settings start_state (turn_of 0 (Access Fetch 0 1) given_bytes 11)).answer ≡ values (Completed 0 1)
unfolding start_state
first_answer = fetched (replicate 65536 0) (length-replicate {A = ℕ} 65536 0)

abbrev turn : Turn
turn = turn_of 0 (Access Fetch 0 1) given_bytes 11

-- the fetch is the only record
run : run_of given_bytes ≡ line_then (line_of start_settings start_progress turn) (ended none (next start_settings start_state turn))
unfolding run_of run_from on_read
run = rw (given_case, nothing_is_end) refl

line_of_lem : text_of_line (line_of start_settings start_progress turn) ≡ line_text 1 0 0
line_of_lem = ap (λ (v : Values). line_text 1 v.number v.place) first_answer

nothing_more : (m : State) → text_of (ended none m) ≡ []
unfolding text_of text_of_lines
nothing_more m = refl

characters : line_text 1 0 0 ++ [] ≡ 49 ∷ 32 ∷ 48 ∷ 32 ∷ 48 ∷ 10 ∷ []
unfolding line_text decimal_in
characters = refl

-- the single line "1 0 0" and a line end
pub the_given_case : text_of (run_of given_bytes) ≡ 49 ∷ 32 ∷ 48 ∷ 32 ∷ 48 ∷ 10 ∷ []
the_given_case =
    ap text_of run
    ∙ text_behind (line_of start_settings start_progress turn) (ended none (next start_settings start_state turn))
    ∙ ap (λ (l : List ℕ). l ++ text_of (ended none (next start_settings start_state turn))) line_of_lem
    ∙ ap (λ (l : List ℕ). line_text 1 0 0 ++ l) (nothing_more (next start_settings start_state turn))
    ∙ characters
