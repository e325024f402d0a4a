-- A request of a processor's list as a turn: what it finds and leaves, and what it gives back. Condition 3, over lists of such turns and of
-- the channel's, is in crate turns.
use Rattle.std.specs.Prelude.{ℕ, List}
use Rattle.machine.specs.declared.Settings.{Settings}
use Rattle.machine.specs.declared.Processor.{Processor}
use Rattle.machine.specs.declared.Request.{Request}
use Rattle.machine.specs.Answers.{Values}
use Rattle.machine.specs.Pair.{PairOutcome, pair_step}

-- what each request gets from the one before it: storage, key array and the pair of records. The settings stay
pub record State : Type 0 where
  pub storage : List ℕ
  pub keys : List ℕ
  pub processors : List Processor

-- a request of a list: the number that it carries, and its own buffer as it stands before every run, for a store the bytes to be stored
pub record Turn : Type 0 where
  pub processor_number : ℕ
  pub request : Request
  pub buffer : List ℕ

-- what a request gives back: the whole answer and the whole buffer
pub record Given : Type 0 where
  pub answer : Values
  pub buffer : List ℕ

abbrev pub turn_outcome : Settings → State → Turn → PairOutcome
turn_outcome s m t = pair_step s m.storage m.keys m.processors t.processor_number t.request t.buffer

abbrev pub next : Settings → State → Turn → State
next s m t = let o = turn_outcome s m t in record { storage = o.storage; keys = o.keys; processors = o.processors }

abbrev pub given : Settings → State → Turn → Given
given s m t = let o = turn_outcome s m t in record { answer = o.answer; buffer = o.buffer }
