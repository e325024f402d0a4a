-- The exception is no wider than it has to be: no request is one but a completed SSK or SSKE, and for a unit only where the unit's key becomes that of
-- its R1; no turn of the channel is one, and none of a list at its end. The proof goes by what a completed request leaves. Assumes nothing.
use Prim.Native.Nat.{ℕ, ◌+◌}
use mathlib.Core.Path.{◌≡◌, refl}
use mathlib.Core.Bool.{true, false, ◌&&◌}
use mathlib.Core.Logic.{◌⊎◌, inl, inr}
use mathlib.Core.List.{List, [], ◌∷◌}
use mathlib.Core.Option.{some}
use lib.ListN.{length, get_or}
use lib.Dec.{eqb}
use borrow.Author.Tests.{eqb-true}
use Rattle.machine.specs.declared.Settings.{Settings}
use Rattle.machine.specs.declared.Processor.{Processor}
use Rattle.machine.specs.declared.Request.{Request}
use Rattle.machine.specs.declared.Request.TheVariants.{Access, Key, Prefix}
use Rattle.machine.specs.declared.KeyInstruction.{KeyInstruction}
use Rattle.machine.specs.declared.KeyInstruction.TheVariants.{Isk, Ssk, Rrb, Iske, Sske, Rrbe}
use Rattle.machine.specs.Answers.{Clear}
use Rattle.machine.specs.declared.channel.ChannelProgress.{ChannelProgress}
use Rattle.machine.specs.Lists.{written, record_of}
use Rattle.machine.specs.Key.{key_in_word}
use Rattle.machine.specs.KeyInstructions.{two_keys, key_count, first_unit, keys_left}
use Rattle.machine.specs.Table.{before_protection}
use Rattle.machine.specs.Step.{completed, step}
use Rattle.machine.specs.Turns.{State, Turn, Given, next, given}
use Rattle.machine.proofs.Written.{written_there}
use Rattle.machine.proofs.Verdicts.{not_both, both}
use Rattle.machine.proofs.KeyInstructions.{key_instruction_passed}
use Rattle.machine.proofs.Requests.{completed_step, completed_cleared}
use Rattle.machine.proofs.Pairs.{by_record}
use Rattle.turns.specs.Units.{names}
use Rattle.turns.specs.ThreeLists.{ChannelTurn, ChannelGiven, requests, between, under_way}
use Rattle.turns.specs.CleanUnits.{sets_key, applied_to, key_set, turn_sets_key, of_processor, of_channel, any_sets_key}
use Rattle.turns.proofs.Named.{named_by_lem}

-- the request is an SSK or SSKE, and k is the key that its R1 holds
abbrev pub SetFrom : Request → ℕ → Type 0
SetFrom r k = (r1 : ℕ) × (r2 : ℕ) × ((r ≡ Key (Ssk r1 r2)) ⊎ (r ≡ Key (Sske r1 r2))) × (k ≡ key_in_word r1)

module _ (s : Settings) (storage keys : List ℕ) (p : Processor) (buffer : List ℕ) (u : ℕ) where
  put : (i : KeyInstruction) (r1 : ℕ) → names Clear s p (Key i) u ≡ true
      → before_protection s (length storage) (length keys) p (Key i) (length buffer) ≡ Clear
      → get_or (written keys (λ j. first_unit s p i + j) (λ j. key_in_word r1) (key_count (two_keys s i))) u 0 ≡ key_in_word r1
  put i r1 has c =
      let (j, l, q) = named_by_lem s p (Key i) u has in
      rw q at (written_there keys (λ j. first_unit s p i + j) (λ j. key_in_word r1) (key_count (two_keys s i)) j l
      (key_instruction_passed s p i (length storage) (length keys) (length buffer) c j l) (λ k h e. refl))

  completed_sets_lem : (r : Request) → sets_key r ≡ true → names Clear s p r u ≡ true
      → before_protection s (length storage) (length keys) p r (length buffer) ≡ Clear
      → SetFrom r (get_or (completed s storage keys p r buffer).keys u 0)
  unfolding completed keys_left
  completed_sets_lem (Access kind address count) e has c = absurd (not_both e refl)
  completed_sets_lem (Key (Isk r1 r2)) e has c = absurd (not_both e refl)
  completed_sets_lem (Key (Ssk r1 r2)) e has c = (r1, r2, inl refl, put (Ssk r1 r2) r1 has c)
  completed_sets_lem (Key (Rrb address)) e has c = absurd (not_both e refl)
  completed_sets_lem (Key (Iske r1 r2)) e has c = absurd (not_both e refl)
  completed_sets_lem (Key (Sske r1 r2)) e has c = (r1, r2, inr refl, put (Sske r1 r2) r1 has c)
  completed_sets_lem (Key (Rrbe r2)) e has c = absurd (not_both e refl)
  completed_sets_lem (Prefix i) e has c = absurd (not_both e refl)

  step_sets : (r : Request) → let o = step s storage keys p r buffer in
      applied_to o.answer.number (some p) s r u ≡ true → (o.answer.number ≡ 0) × SetFrom r (get_or o.keys u 0)
  step_sets r h =
      let (first, has) = both (sets_key r && eqb (step s storage keys p r buffer).answer.number 0) (names Clear s p r u) h in
      let (sets, zero) = both (sets_key r) (eqb (step s storage keys p r buffer).answer.number 0) first in
      let n = eqb-true _ 0 zero in
      (n, rw (completed_step s storage keys p r buffer n) (completed_sets_lem r sets has (completed_cleared s storage keys p r buffer n)))

-- whatever the settings
pub exception_sets_key : (s : Settings) (m : State) (t : Turn) (u : ℕ) → key_set s m t u ≡ true
    → ((given s m t).answer.number ≡ 0) × SetFrom t.request (get_or (next s m t).keys u 0)
exception_sets_key s m t u =
    by_record s m.storage m.keys m.processors t.processor_number t.request t.buffer
    (λ o. applied_to o.answer.number (record_of m.processors t.processor_number) s t.request u ≡ true
    → (o.answer.number ≡ 0) × SetFrom t.request (get_or o.keys u 0))
    (λ e h. absurd (not_both (both (sets_key t.request && _) false (rw e at h)).1 refl))
    (λ p e h. step_sets s m.storage m.keys p t.buffer u t.request (rw e at h))

-- Whose turns are the exception: no turn of the channel, in whatever request it is, and none of a list at its end; that of a processor's request where
-- it sets the key. The same of whole requests
pub exception_of_turns : (s : Settings) (m : State) (t : Turn) (ts : List Turn) (hs : List Given) (c : ChannelTurn) (room : List ℕ) (g : ChannelProgress)
    (cs : List ChannelTurn) (gs : List ChannelGiven) (u : ℕ)
    → (turn_sets_key s m (requests [] hs) u ≡ false) × (turn_sets_key s m (requests (t ∷ ts) hs) u ≡ key_set s m t u)
    × (turn_sets_key s m (between cs gs) u ≡ false) × (turn_sets_key s m (under_way c room g cs gs) u ≡ false)
    × (any_sets_key s m (of_processor t) u ≡ key_set s m t u) × (any_sets_key s m (of_channel c) u ≡ false)
exception_of_turns s m t ts hs c room g cs gs u = (refl, refl, refl, refl, refl, refl)
