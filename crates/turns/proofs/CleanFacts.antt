-- Facts about clean units, on every storage of 65,536 bytes and whatever the bytes stored. The claim says something where it should: units beside
-- those that are stored to are clean. It needs its exception: after a store and a completed SSK, or an SSKE of the block, the bytes have changed
-- and the change bit is zero. And the exception is no wider: rows of requests, among them a refused SSK. The steps are computed.
-- Assumes nothing.
use Prim.Native.Nat.{ℕ}
use mathlib.Core.Path.{◌≡◌, refl, sym, ap, ◌∙◌}
use mathlib.Core.Bool.{Bool, true, false}
use mathlib.Core.Logic.{◌≢◌}
use mathlib.Core.List.{List, [], ◌∷◌, map, foldl}
use mathlib.Core.Option.{some}
use native.Mathlib.Omega.{arith}
use lib.ListN.{length, get_or, set, replicate, length-set, length-replicate, get_or-replicate}
use lib.Seq.{get_or-set_same, get_or-set_other}
use Rattle.machine.specs.declared.Settings.{Settings}
use Rattle.machine.specs.declared.AccessKind.TheVariants.{Fetch}
use Rattle.machine.specs.declared.Request.TheVariants.{Access, Key, Prefix}
use Rattle.machine.specs.declared.KeyInstruction.{KeyInstruction}
use Rattle.machine.specs.declared.KeyInstruction.TheVariants.{Isk, Ssk, Rrb, Iske, Sske, Rrbe}
use Rattle.machine.specs.declared.PrefixInstruction.TheVariants.{SetPrefix}
use Rattle.machine.specs.Lists.{written, any_below}
use Rattle.machine.specs.Numbers.{unit_bytes}
use Rattle.machine.specs.Key.{after_fetch, after_store}
use Rattle.machine.specs.Answers.{line, first_of, first_byte, first_line}
use Rattle.machine.specs.Prefixing.{prefixed}
use Rattle.machine.specs.Protection.{permitted, low_protected}
use Rattle.machine.specs.KeyInstructions.{keys_left}
use Rattle.machine.specs.Table.{addressing, protection, before_protection, verdict}
use Rattle.machine.specs.Step.{storage_left, buffer_left, keys_recorded, completed, performed, step}
use Rattle.machine.specs.Pair.{served, pair_step}
use Rattle.machine.specs.Channel.{ccw_at, operation_of, first_refusal, before_fetching, range_forbidden, range_recorded, bytes_moved, before_transfer}
use Rattle.machine.specs.Channel.{with_ccw_fetched, carried_out, obeyed, next_ccw, channel_step, steps, channel_run}
use Rattle.machine.specs.Turns.{State, Turn, given}
use Rattle.machine.proofs.UnitBytes.{other_unit_bytes}
use Rattle.turns.specs.Units.{names}
use Rattle.turns.specs.Parties.{Joint, run}
use Rattle.turns.specs.ThreeLists.{Work, requests, Party, processor0, processor1, channel, parties, start}
use Rattle.turns.specs.CleanUnits.{change_bit, has_unit, applied_to, key_set, NoneApplied, of_processor, of_channel, next_any, next_call}
use Rattle.turns.proofs.Starts.{settings, processor, memory, store, asked, reading, read_one}
use Rattle.turns.proofs.CleanUnits.{clean_is_untouched}

-- the change bit is bit 6 of a key alone, and where there is no key it is zero
pub change_bits : map (change_bit (253 ∷ 2 ∷ [])) (0 ∷ 1 ∷ 2 ∷ []) ≡ 0 ∷ 1 ∷ 0 ∷ []
change_bits = refl

-- Processor 0 stores a byte into unit 1 and then sets its key: to zero, by SSK, or by SSKE of the block of units 0 and 1
abbrev stored_and_set : List ℕ → ℕ → KeyInstruction → Joint State Work Party
stored_and_set storage a i = start (memory storage) (store 0 2048 a ∷ asked 0 (Key i) ∷ []) [] []

module _ (storage : List ℕ) (h : length storage ≡ 65536) where
  -- The channel reads a byte into unit 6, by a CCW in unit 4; processor 0 stores into unit 1; processor 1, with the prefix 4096, stores at real 0, into
  -- unit 2. Change bits are on in units 1, 2 and 6; the units beside them are clean, and the one that the CCW was fetched from
  module _ (holds : ccw_at storage 8192 ≡ reading) (a b c : ℕ) where
    abbrev beside : Joint State Work Party
    beside = start (memory storage) (store 0 2048 a ∷ []) (store 1 0 b ∷ []) (read_one c ∷ [])

    abbrev order : List Party
    order = channel ∷ processor0 ∷ processor1 ∷ []

    abbrev after : State
    after = (run (parties settings) beside order).shared

    -- the same requests whole, one after another
    abbrev listed : State
    listed = foldl (next_any settings) (memory storage) (of_channel (read_one c) ∷ of_processor (store 0 2048 a) ∷ of_processor (store 1 0 b) ∷ [])

    abbrev Left : State → Type 0
    Left n = (n.storage ≡ set (set (set storage 12288 c) 2048 a) 4096 b) × (n.keys ≡ set (set (set (set (replicate 32 0) 4 4) 6 6) 1 6) 2 6)

    pub both_leave : Left after × Left listed
    unfolding written after_fetch after_store line first_of first_byte first_line prefixed permitted low_protected addressing protection
        before_protection verdict storage_left buffer_left keys_recorded completed performed step served pair_step any_below channel_run steps
        channel_step next_ccw before_fetching first_refusal range_forbidden obeyed operation_of before_transfer with_ccw_fetched carried_out
        range_recorded bytes_moved
    both_leave =
        let two = length-set storage 12288 c in
        let three = length-set (set storage 12288 c) 2048 a in (
          (rw (h, holds, two, h, three, two, h), rw (h, holds, two, h, three, two, h)),
          (rw (h, holds, two, h, three, two, h), rw (h, holds, two, h, three, two, h)),
        )

    left : Left after
    left = both_leave.0

    -- whatever the unit, no key is set
    none_applied : (u : ℕ) → NoneApplied settings beside order u
    none_applied u = (refl, (refl, (refl, tt)))

    pub stored_on : (change_bit after.keys 1 ≡ 1) × (change_bit after.keys 2 ≡ 1) × (change_bit after.keys 6 ≡ 1)
    stored_on = rw left.1 (refl, refl, refl)

    pub beside_clean : (change_bit after.keys 0 ≡ 0) × (change_bit after.keys 3 ≡ 0) × (change_bit after.keys 4 ≡ 0)
        × (change_bit after.keys 5 ≡ 0) × (change_bit after.keys 7 ≡ 0)
    beside_clean = rw left.1 (refl, refl, refl, refl, refl)

    pub beside_untouched : (u : ℕ) → change_bit after.keys u ≡ 0 → unit_bytes settings after.storage u ≡ unit_bytes settings storage u
    beside_untouched u clean = clean_is_untouched settings beside order u clean (none_applied u)

    -- the byte stored into unit 1 is there
    pub neighbour_stored : get_or after.storage 2048 0 ≡ a
    neighbour_stored =
        rw left.0 (get_or-set_other (set (set storage 12288 c) 2048 a) 4096 2048 b 0 (omega arith)
        ∙ get_or-set_same (set storage 12288 c) 2048 a 0 (omega (arith, h, length-set storage 12288 c)))

  -- A call finds the records that the host has written: with the prefix 8192 in the record of processor 0, a store at real 0 goes to absolute 8192
  pub call_by_record : (a : ℕ) → (next_call settings (memory storage)
      (record { processors = processor 8192 ∷ []; work = requests (store 0 0 a ∷ []) [] })).storage ≡ set storage 8192 a
  unfolding written after_store line first_of first_byte first_line prefixed permitted low_protected addressing protection
      before_protection verdict storage_left buffer_left keys_recorded completed performed step served pair_step
  call_by_record a = rw h

  -- The byte stored is another than the one that unit 1 held
  module _ (a : ℕ) (different : a ≢ get_or storage 2048 0) where
    abbrev after_set : KeyInstruction → State
    after_set i = (run (parties settings) (stored_and_set storage a i) (processor0 ∷ processor0 ∷ [])).shared

    -- the change bit of unit 1 is zero, and its bytes are not those of the start
    abbrev CleanButChanged : State → Type 0
    CleanButChanged n = (change_bit n.keys 1 ≡ 0) × (unit_bytes settings n.storage 1 ≢ unit_bytes settings storage 1)

    differs : (n : State) → n.storage ≡ set storage 2048 a → n.keys ≡ replicate 32 0 → CleanButChanged n
    differs n e k = (rw k refl, other_unit_bytes settings n.storage storage 2048 (λ q. different (sym held ∙ q)))
      where
        held : get_or n.storage 2048 0 ≡ a
        held = rw e (get_or-set_same storage 2048 a 0 (omega arith))

    pub clean_by_setting : CleanButChanged (after_set (Ssk 0 2048)) × CleanButChanged (after_set (Sske 0 0))
    unfolding written after_store line first_of first_byte first_line prefixed permitted low_protected addressing protection
        before_protection verdict storage_left buffer_left keys_recorded keys_left completed performed step served pair_step
    clean_by_setting =
        let two = length-set storage 2048 a in
        (differs (after_set (Ssk 0 2048)) (rw (h, two, h)) (rw (h, two, h)), differs (after_set (Sske 0 0)) (rw (h, two, h)) (rw (h, two, h)))

  -- A refused SSK is no exception. This one designates unit 1 and has bit 28 of R2 on: it is refused with 6, and the claim speaks of unit 1
  abbrev refused_set : Turn
  refused_set = asked 0 (Key (Ssk 0 2056))

  abbrev refused_then_stored : Joint State Work Party
  refused_then_stored = start (memory storage) (refused_set ∷ store 0 0 7 ∷ []) [] []

  pub refused_with_6 : ((given settings (memory storage) refused_set).answer.number ≡ 6)
      × (has_unit (some (processor 0)) settings refused_set.request 1 ≡ true)
  unfolding line first_of first_line addressing protection before_protection verdict performed step served pair_step any_below names prefixed
  refused_with_6 = (rw h, refl)

  pub refused_no_exception : NoneApplied settings refused_then_stored (processor0 ∷ processor0 ∷ []) 1
  unfolding any_below names prefixed
  refused_no_exception = (ap (λ n. applied_to n (some (processor 0)) settings refused_set.request 1) refused_with_6.0, (refl, tt))

  -- and unit 1 is clean at the end
  pub refused_clean : change_bit (run (parties settings) refused_then_stored (processor0 ∷ processor0 ∷ [])).shared.keys 1 ≡ 0
  unfolding written after_store line first_of first_byte first_line prefixed permitted low_protected addressing protection
      before_protection verdict storage_left buffer_left keys_recorded completed performed step served pair_step
  refused_clean = rw (h, h)

  -- Nor is a completed SSK of another unit, nor one of this unit that stands in the list and whose turn does not come
  abbrev set_beside : Joint State Work Party
  set_beside = start (memory storage) (asked 0 (Key (Ssk 2 4096)) ∷ store 0 0 7 ∷ asked 0 (Key (Ssk 0 2048)) ∷ []) [] []

  pub beside_no_exception : NoneApplied settings set_beside (processor0 ∷ processor0 ∷ []) 1
  unfolding line first_of first_line addressing protection before_protection verdict completed performed step served pair_step any_below names prefixed
  beside_no_exception = (rw h, (refl, tt))

  -- Which requests are the exception for a unit: a completed SSK for the unit that it designates, by the prefix in force, an SSKE for both units of its
  -- block. No SSK of unit 1 that is refused is, with 6 or with 65, and no other request of unit 1
  abbrev applied : State → List (Turn × ℕ) → List Bool
  applied m rs = map (λ r. key_set settings m r.0 r.1) rs

  abbrev completed_sets : List (Turn × ℕ)
  completed_sets =
      (asked 0 (Key (Ssk 0 2048)), 0)
      ∷ (asked 0 (Key (Ssk 0 2048)), 1)
      ∷ (asked 0 (Key (Ssk 0 2048)), 2)
      ∷ (asked 1 (Key (Ssk 0 0)), 0)
      ∷ (asked 1 (Key (Ssk 0 0)), 2)
      ∷ (asked 0 (Key (Sske 0 4096)), 1)
      ∷ (asked 0 (Key (Sske 0 4096)), 2)
      ∷ (asked 0 (Key (Sske 0 4096)), 3)
      ∷ (asked 0 (Key (Sske 0 4096)), 4)
      ∷ []

  pub applied_to_units : applied (memory storage) completed_sets ≡ false ∷ true ∷ false ∷ false ∷ true ∷ false ∷ true ∷ true ∷ false ∷ []
  unfolding line first_of first_line addressing protection before_protection verdict completed performed step served pair_step any_below names prefixed
  applied_to_units = rw h

  abbrev others_of_unit1 : List Turn
  others_of_unit1 =
      asked 0 (Key (Ssk 0 2056))
      ∷ asked 2 (Key (Ssk 0 2048))
      ∷ asked 0 (Key (Isk 0 2048))
      ∷ asked 0 (Key (Rrb 2048))
      ∷ asked 0 (Key (Iske 0 0))
      ∷ asked 0 (Key (Rrbe 0))
      ∷ asked 0 (Prefix (SetPrefix 0))
      ∷ record { processor_number = 0; request = Access Fetch 2048 1; buffer = 0 ∷ [] }
      ∷ store 0 2048 7
      ∷ []

  pub applied_by_no_other : map (λ t. key_set settings (memory storage) t 1) others_of_unit1 ≡ replicate 9 false
  unfolding line first_of first_line addressing protection before_protection verdict completed performed step served pair_step any_below names prefixed
  applied_by_no_other = rw h

-- Since a unit can be clean by SSK though it was stored to, the claim without its exception does not hold
pub exception_needed : ¬ ((s : Settings) (m : Joint State Work Party) (o : List Party) (u : ℕ)
    → change_bit (run (parties s) m o).shared.keys u ≡ 0
    → unit_bytes s (run (parties s) m o).shared.storage u ≡ unit_bytes s m.shared.storage u)
exception_needed claim =
    let zeros : List ℕ = replicate 65536 0 in
    let long : length zeros ≡ 65536 = length-replicate {A = ℕ} 65536 0 in
    let zero_there : get_or zeros 2048 0 ≡ 0 = get_or-replicate {A = ℕ} 65536 2048 0 0 (omega arith) in
    let (clean, changed) = (clean_by_setting zeros long 1 (λ e. omega (arith, e ∙ zero_there))).0 in
    changed (claim settings (stored_and_set zeros 1 (Ssk 0 2048)) (processor0 ∷ processor0 ∷ []) 1 clean)
