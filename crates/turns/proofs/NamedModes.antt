-- How a turn names a unit is how it treats its key: not at all, by fetching it, or otherwise. A byte is treated as its unit's key; the lengths are
-- looked at. Shown for each action, and so for sequences.
-- Assumes nothing.
use Prim.Native.Nat.{ℕ}
use mathlib.Core.Path.{◌≡◌, refl, sym, ap, ◌∙◌}
use mathlib.Core.Bool.{Bool, true, false, cond, not, ◌&&◌}
use mathlib.Core.Logic.{◌≢◌}
use mathlib.Core.Option.{Option, none, some}
use native.Mathlib.Omega.{arith}
use lib.ListN.{length}
use lib.Dec.{ltb}
use Rattle.machine.specs.declared.Settings.{Settings}
use Rattle.machine.specs.declared.Processor.{Processor}
use Rattle.machine.specs.Numbers.{unit_of}
use Rattle.machine.specs.Turns.{State, Turn}
use Rattle.turns.specs.Units.{Naming, unnamed, fetching, otherwise, named_by, is_fetch, naming}
use Rattle.turns.specs.ChannelUnits.{together}
use Rattle.turns.specs.ThreeLists.{Work, turn_names}
use Rattle.turns.proofs.Actions.{Mode, untouched, fetch, write, Reads, untreated, fetched}
use Rattle.turns.proofs.Sequences.{end, act, both}
use Rattle.turns.proofs.Parts.{byte, key, lengths, record_found, verdict_of, is_clear, unit_mode_by, unit_mode}
use Rattle.turns.proofs.Reaches.{fetches, reaches, barred}
use Rattle.turns.proofs.ChannelSteps.{Action, request, look, reach, after, gives, action_mode, action_names, Steps, sequence_names, sequence_mode}
use Rattle.turns.proofs.ChannelSteps.{steps_of, turn_names_lem, work_mode}

pub unnamed_not_otherwise : unnamed ≢ otherwise
unnamed_not_otherwise e = let z : ◌≡◌ {A = ℕ} 0 1 = cc in omega arith

pub fetching_not_otherwise : fetching ≢ otherwise
fetching_not_otherwise e = let z : ◌≡◌ {A = ℕ} 0 1 = cc in omega arith

abbrev name_of : Mode → Naming
name_of untouched = unnamed
name_of (fetch completed) = fetching
name_of write = otherwise

name_untouched : (a : Mode) → name_of a ≡ unnamed → a ≡ untouched
name_untouched untouched e = refl
name_untouched (fetch completed) e = cc
name_untouched write e = cc

name_reads : (a : Mode) → name_of a ≢ otherwise → Reads a
name_reads untouched h = untreated
name_reads (fetch completed) h = fetched
name_reads write h = absurd (h refl)

-- a unit that is named or not, by a fetch or not, which completes or not; and two actions
named_mode : (is_named is_fetched completes : Bool)
    → cond is_named (cond is_fetched fetching otherwise) unnamed ≡ name_of (cond is_named (cond is_fetched (fetch completes) write) untouched)
named_mode false f c = refl
named_mode true true c = refl
named_mode true false c = refl

name_both : (a b : Mode) → together (name_of a) (name_of b) ≡ name_of (both a b)
name_both untouched b = refl
name_both (fetch c) untouched = refl
name_both (fetch c) (fetch d) = refl
name_both (fetch c) write = refl
name_both write b = refl

reads_both : {a b : Mode} → Reads a → Reads b → Reads (both a b)
reads_both untreated r = r
reads_both fetched untreated = fetched
reads_both fetched fetched = fetched

module _ (s : Settings) where
  request_name : (u : ℕ) (m : State) (t : Turn) → naming s m t u ≡ name_of (unit_mode s m t u)
  request_name u m t = go (record_found m t)
    where
      go : (f : Option Processor) → cond (named_by f s u m t) (cond (is_fetch t.request) fetching otherwise) unnamed ≡ name_of (unit_mode_by f s m t u)
      go none = refl
      go (some p) = named_mode (named_by (some p) s u m t) (is_fetch t.request) (is_clear (verdict_of s m t p))

  action_name : (u : ℕ) (m : State) (x : Action) → action_names s m x u ≡ name_of (action_mode s m x (key u))
  action_name u m (request t) = request_name u m t
  action_name u m look = refl
  action_name u m (reach r) = named_mode (reaches s r u) (fetches r) (not (barred s m.keys r) && ltb u (length m.keys))

  action_byte : (a : ℕ) (m : State) (x : Action) → action_mode s m x (byte a) ≡ action_mode s m x (key (unit_of s a))
  action_byte a m (request t) = refl
  action_byte a m look = refl
  action_byte a m (reach r) = refl

  action_lengths : (m : State) (x : Action) → Reads (action_mode s m x lengths)
  action_lengths m (request t) = fetched
  action_lengths m look = fetched
  action_lengths m (reach r) = fetched

  sequence_name : (u : ℕ) (m : State) (p : Steps) → sequence_names s m p u ≡ name_of (sequence_mode s m p (key u))
  sequence_name u m (end w) = refl
  sequence_name u m (act x further) =
      rw (action_name u m x, sequence_name u (after s m x) (further (gives s m x)))
      (name_both (action_mode s m x (key u)) (sequence_mode s (after s m x) (further (gives s m x)) (key u)))

  sequence_byte : (a : ℕ) (m : State) (p : Steps) → sequence_mode s m p (byte a) ≡ sequence_mode s m p (key (unit_of s a))
  sequence_byte a m (end w) = refl
  sequence_byte a m (act x further) = rw (action_byte a m x, sequence_byte a (after s m x) (further (gives s m x)))

  sequence_lengths : (m : State) (p : Steps) → Reads (sequence_mode s m p lengths)
  sequence_lengths m (end w) = untreated
  sequence_lengths m (act x further) = reads_both (action_lengths m x) (sequence_lengths (after s m x) (further (gives s m x)))

  turn_name : (m : State) (w : Work) (u : ℕ) → turn_names s m w u ≡ name_of (work_mode s m w (key u))
  turn_name m w u = sym (turn_names_lem s m w u) ∙ sequence_name u m (steps_of s w)

  -- turns that treat the units alike name them alike
  pub same_names : (m n : State) (v w : Work) (u : ℕ) → work_mode s m v (key u) ≡ work_mode s n w (key u) → turn_names s m v u ≡ turn_names s n w u
  same_names m n v w u e = turn_name m v u ∙ ap name_of e ∙ sym (turn_name n w u)

  module _ (m : State) (w : Work) where
    pub unnamed_unit : (u : ℕ) → turn_names s m w u ≡ unnamed → work_mode s m w (key u) ≡ untouched
    unnamed_unit u e = name_untouched (work_mode s m w (key u)) (sym (turn_name m w u) ∙ e)

    pub fetched_unit : (u : ℕ) → turn_names s m w u ≢ otherwise → Reads (work_mode s m w (key u))
    fetched_unit u h = name_reads (work_mode s m w (key u)) (λ e. h (turn_name m w u ∙ e))

    pub byte_of_unit : (a : ℕ) → work_mode s m w (byte a) ≡ work_mode s m w (key (unit_of s a))
    byte_of_unit a = sequence_byte a m (steps_of s w)

    pub lengths_read : Reads (work_mode s m w lengths)
    lengths_read = sequence_lengths m (steps_of s w)
