-- The law of a single turn: a turn that changes a byte of a unit leaves its change bit on, and a turn that turns a change bit off is a completed SSK
-- or SSKE one of whose units it is. Bytes are written by a completed store and by data from the device alone, and both write the key of the
-- unit of each byte: one law for both, over the addresses of the bytes. Every other key that is written is made from the old one and
-- keeps its change bit, but for those that SSK and SSKE set. The proofs go by the kind of request and by the outcomes of a CCW.
-- Assumes nothing.
use Prim.Native.Nat.{ℕ, ◌+◌, ◌<◌}
use mathlib.Core.Path.{◌≡◌, refl, sym, ap, ◌∙◌}
use mathlib.Core.Bool.{Bool, true, false}
use mathlib.Core.Logic.{◌≢◌, ◌⊎◌, inl, inr, ⊎_elim}
use mathlib.Core.List.{List, [], ◌∷◌}
use mathlib.Core.Option.{none, some}
use native.Mathlib.Decide.{dec_lt}
use native.Mathlib.Omega.{arith}
use lib.ListN.{length, get_or, get_or-eq_default}
use lib.Dec.{eqb}
use borrow.Author.Tests.{eqb-true, eqb-false}
use Rattle.machine.specs.declared.Settings.{Settings}
use Rattle.machine.specs.declared.Processor.{Processor}
use Rattle.machine.specs.declared.AccessKind.{AccessKind}
use Rattle.machine.specs.declared.AccessKind.TheVariants.{Fetch, Store}
use Rattle.machine.specs.declared.KeyInstruction.{KeyInstruction}
use Rattle.machine.specs.declared.KeyInstruction.TheVariants.{Isk, Ssk, Rrb, Iske, Sske, Rrbe}
use Rattle.machine.specs.declared.Request.{Request}
use Rattle.machine.specs.declared.Request.TheVariants.{Access, Key, Prefix}
use Rattle.machine.specs.declared.Reason.TheVariants.{Configuration}
use Rattle.machine.specs.Answers.{Clear}
use Rattle.machine.specs.declared.channel.ChannelRequest.{ChannelRequest}
use Rattle.machine.specs.declared.channel.ChannelOperation.{ChannelOperation}
use Rattle.machine.specs.declared.channel.ChannelOperation.TheVariants.{TransferInChannel, Data, Invalid}
use Rattle.machine.specs.Channel.{Standing, UnderWay, Answered, Channel, range_recorded, bytes_moved, before_fetching, with_ccw_fetched, carried_out}
use Rattle.machine.specs.Channel.{next_ccw, step_by, channel_step, begun}
use Rattle.machine.specs.Lists.{written, any_below, record_of}
use Rattle.machine.specs.Numbers.{unit_of}
use Rattle.machine.specs.Key.{change, key_in_word, after_reset}
use Rattle.machine.specs.Prefixing.{byte_address}
use Rattle.machine.specs.Protection.{recorded}
use Rattle.machine.specs.KeyInstructions.{two_keys, key_count, first_unit, keys_left}
use Rattle.machine.specs.Table.{configuration, verdict}
use Rattle.machine.specs.Step.{Outcome, storage_left, keys_recorded, completed, step}
use Rattle.machine.specs.Turns.{State, Turn, next}
use Rattle.machine.proofs.Written.{length-written, written_elsewhere, written_there, marked_either}
use Rattle.machine.proofs.Verdicts.{tested, line_false, any_found, any_none}
use Rattle.machine.proofs.Units.{unit_inside}
use Rattle.machine.proofs.KeyBytes.{key_recorded_lem, key_after_reset}
use Rattle.machine.proofs.AbsoluteAddress.{configured}
use Rattle.machine.proofs.BeforeProtection.{cleared, table_clear}
use Rattle.machine.proofs.Requests.{by_verdict}
use Rattle.machine.proofs.Pairs.{by_record}
use Rattle.machine.proofs.ChannelSteps.{operation_found, CcwOutcome, unfetched, unread, unobeyed, untransferred, obeyed_whole, ccw_outcome, fetchable}
use Rattle.turns.specs.Units.{names}
use Rattle.turns.specs.ThreeLists.{requests, between, under_way, found}
use Rattle.turns.specs.CleanUnits.{change_bit, applied_to, key_set, RecordsChanges, EveryTurn}
use Rattle.turns.proofs.Named.{unnamed_at}

-- the change bits that are on stay on
abbrev StayOn : List ℕ → List ℕ → Type 0
StayOn keys keys' = (u : ℕ) → change_bit keys u ≡ 1 → change_bit keys' u ≡ 1

-- keys that are made from the old ones, by a function that keeps a change bit that is on
marks_stay_on : (keys : List ℕ) (place f : ℕ → ℕ) (n : ℕ) → ((k : ℕ) → change k ≡ 1 → change (f k) ≡ 1)
    → StayOn keys (written keys place (λ i. f (get_or keys (place i) 0)) n)
marks_stay_on keys place f n keeps u on =
    ⊎_elim (λ e. ap change e ∙ on) (λ e. ap change e ∙ keeps (get_or keys u 0) on) (marked_either keys place f n u)

recorded_stays_on : (kind : AccessKind) (k : ℕ) → change k ≡ 1 → change (recorded kind k) ≡ 1
recorded_stays_on Fetch k on = (key_recorded_lem Fetch k).change_bit_lem ∙ on
recorded_stays_on Store k on = (key_recorded_lem Store k).change_bit_lem

reset_stays_on : (k : ℕ) → change k ≡ 1 → change (after_reset k) ≡ 1
reset_stays_on k on = (key_after_reset k).change_bit_lem ∙ on

module _ (s : Settings) where
  -- where storage is as before and no change bit is turned off
  storage_stays : (storage keys keys' : List ℕ) (sets : ℕ → Bool) → StayOn keys keys' → RecordsChanges s storage keys storage keys' sets
  storage_stays storage keys keys' sets stay =
      record { changed_on = λ a n. absurd (n refl); off_by_set = λ u on off. absurd (omega (arith, stay u on)); same_length = refl }

  all_stays : (storage keys : List ℕ) (sets : ℕ → Bool) → RecordsChanges s storage keys storage keys sets
  all_stays storage keys sets = storage_stays storage keys keys sets (λ u on. on)

  -- Bytes stored at these addresses, and the keys of their units written.
  module _ (storage keys : List ℕ) (place : ℕ → ℕ) (count : ℕ) (lengths : configuration s (length storage) (length keys) ≡ Clear) where
    keyed : (a : ℕ) → a < length storage → unit_of s a < length keys
    keyed a h =
        let known = configured s (length storage) (length keys) lengths in
        rw known.keyed (unit_inside s (length storage) a known.whole h)

    abbrev keys_after : List ℕ
    keys_after = written keys (λ i. unit_of s (place i)) (λ i. recorded Store (get_or keys (unit_of s (place i)) 0)) count

    stored_on : (value : ℕ → ℕ) (a : ℕ) → get_or (written storage place value count) a 0 ≢ get_or storage a 0 → change_bit keys_after (unit_of s a) ≡ 1
    stored_on value a changed = go (tested (any_below (λ i. eqb (place i) a) count)) (dec_lt a (length storage))
      where
        there : (i : ℕ) → i < count → place i ≡ a → a < length storage → change_bit keys_after (unit_of s a) ≡ 1
        there i l q h =
            let put = written_there keys (λ j. unit_of s (place j)) (λ j. recorded Store (get_or keys (unit_of s (place j)) 0)) count i l
            (rw q (keyed a h)) (λ j k e. ap (λ u. recorded Store (get_or keys u 0)) e) in
            ap change (rw q at put) ∙ (key_recorded_lem Store (get_or keys (unit_of s a) 0)).change_bit_lem

        go : (any_below (λ i. eqb (place i) a) count ≡ true) ⊎ (any_below (λ i. eqb (place i) a) count ≡ false) → Dec (a < length storage)
            → change_bit keys_after (unit_of s a) ≡ 1
        go (inr e) d =
            absurd (changed (written_elsewhere storage place value count a (λ i l. eqb-false _ a (any_none (λ j. eqb (place j) a) count e i l))))
        go (inl e) (yes h) = let (i, l, q) = any_found (λ j. eqb (place j) a) count e in there i l (eqb-true _ a q) h
        go (inl e) (no h) =
            let past = get_or-eq_default (written storage place value count) 0 {n = a} (omega (arith, length-written storage place value count)) in
            absurd (changed (past ∙ sym (get_or-eq_default storage 0 {n = a} (omega arith))))

    stores_record : (value : ℕ → ℕ) (sets : ℕ → Bool) → RecordsChanges s storage keys (written storage place value count) keys_after sets
    stores_record value sets =
        record {
          changed_on = stored_on value;
          off_by_set = λ u on off. absurd (omega (arith, stay u on));
          same_length = length-written storage place value count;
        }
      where
        stay : StayOn keys keys_after
        stay = marks_stay_on keys (λ i. unit_of s (place i)) (recorded Store) count (recorded_stays_on Store)

  -- A request of a processor. SSK and SSKE turn off no change bit but those of their units
  abbrev keys_set : List ℕ → Processor → KeyInstruction → ℕ → List ℕ
  keys_set keys p i v = written keys (λ j. first_unit s p i + j) (λ j. v) (key_count (two_keys s i))

  set_records : (storage keys : List ℕ) (p : Processor) (i : KeyInstruction) (v : ℕ) (sets : ℕ → Bool)
      → ((u : ℕ) → names Clear s p (Key i) u ≡ true → sets u ≡ true) → RecordsChanges s storage keys storage (keys_set keys p i v) sets
  set_records storage keys p i v sets of_units =
      record { changed_on = λ a n. absurd (n refl); off_by_set = λ u on off. by u on off (tested (names Clear s p (Key i) u)); same_length = refl }
    where
      by : (u : ℕ) → change_bit keys u ≡ 1 → change_bit (keys_set keys p i v) u ≡ 0
          → (names Clear s p (Key i) u ≡ true) ⊎ (names Clear s p (Key i) u ≡ false) → sets u ≡ true
      by u on off (inl e) = of_units u e
      by u on off (inr e) =
          let same = ap change (written_elsewhere keys (λ j. first_unit s p i + j) (λ j. v) (key_count (two_keys s i)) u (unnamed_at s p (Key i) u e)) in
          absurd (omega (arith, same))

  reset_records : (storage keys : List ℕ) (place : ℕ → ℕ) (n : ℕ) (sets : ℕ → Bool)
      → RecordsChanges s storage keys storage (written keys place (λ j. after_reset (get_or keys (place j) 0)) n) sets
  reset_records storage keys place n sets = storage_stays storage keys _ sets (marks_stay_on keys place after_reset n reset_stays_on)

  module _ (storage keys : List ℕ) (p : Processor) (buffer : List ℕ) where
    -- the law of the request r, its outcome being o
    abbrev Records : Request → Outcome → Type 0
    Records r o = RecordsChanges s storage keys o.storage o.keys (applied_to o.answer.number (some p) s r)

    completed_records : (r : Request) → verdict s (length storage) keys p r (length buffer) ≡ Clear → Records r (completed s storage keys p r buffer)
    unfolding completed storage_left keys_recorded keys_left
    completed_records (Access Fetch address count) e =
        storage_stays storage keys _ _ (marks_stay_on keys (λ i. unit_of s (byte_address p address i)) (recorded Fetch) count (recorded_stays_on Fetch))
    completed_records (Access Store address count) e =
        let passed = table_clear s (length storage) keys p (Access Store address count) (length buffer) e in
        let lines = cleared s (length storage) (length keys) p (Access Store address count) (length buffer) passed in
        stores_record storage keys (byte_address p address) count lines.lengths (λ i. get_or buffer i 0) _
    completed_records (Key (Isk r1 r2)) e = all_stays storage keys _
    completed_records (Key (Ssk r1 r2)) e = set_records storage keys p (Ssk r1 r2) (key_in_word r1) _ (λ u e. cc)
    completed_records (Key (Rrb address)) e = reset_records storage keys (λ j. first_unit s p (Rrb address) + j) _ _
    completed_records (Key (Iske r1 r2)) e = all_stays storage keys _
    completed_records (Key (Sske r1 r2)) e = set_records storage keys p (Sske r1 r2) (key_in_word r1) _ (λ u e. cc)
    completed_records (Key (Rrbe r2)) e = reset_records storage keys (λ j. first_unit s p (Rrbe r2) + j) _ _
    completed_records (Prefix i) e = all_stays storage keys _

    step_records : (r : Request) → Records r (step s storage keys p r buffer)
    step_records r = by_verdict s storage keys p r buffer (Records r) (λ reason place e. all_stays storage keys _) (completed_records r)

  pub request_records : (m : State) (t : Turn)
      → RecordsChanges s m.storage m.keys (next s m t).storage (next s m t).keys (key_set s m t)
  request_records m t =
      by_record s m.storage m.keys m.processors t.processor_number t.request t.buffer
      (λ o. RecordsChanges s m.storage m.keys o.storage o.keys
      (applied_to o.answer.number (record_of m.processors t.processor_number) s t.request))
      (λ e. all_stays m.storage m.keys _)
      (λ p e. rw e (step_records m.storage m.keys p t.buffer t.request))

  -- A step of the channel.
  module _ (q : ChannelRequest) (from_device : List ℕ) (c : Channel) where
    abbrev Kept : Channel → Type 0
    Kept d = RecordsChanges s c.storage c.keys d.storage d.keys (λ u. false)

    ccw_stays_on : StayOn c.keys (with_ccw_fetched s c).keys
    unfolding with_ccw_fetched range_recorded
    ccw_stays_on = marks_stay_on c.keys (λ i. unit_of s (c.progress.state.ccw + i)) (recorded Fetch) 8 (recorded_stays_on Fetch)

    ccw_kept : Kept (with_ccw_fetched s c)
    unfolding with_ccw_fetched
    ccw_kept = storage_stays c.storage c.keys _ _ ccw_stays_on

    ccw_lengths : before_fetching s q c ≡ none → configuration s (length c.storage) (length (with_ccw_fetched s c).keys) ≡ Clear
    unfolding with_ccw_fetched range_recorded
    ccw_lengths h =
        line_false Configuration _
        (rw (
          length-written c.keys (λ i. unit_of s (c.progress.state.ccw + i))
              (λ i. recorded Fetch (get_or c.keys (unit_of s (c.progress.state.ccw + i)) 0)) 8,
          (fetchable s q c h).lengths_valid_lem,
        ))

    carried_kept : (o : ChannelOperation) → before_fetching s q c ≡ none → Kept (carried_out o s from_device (with_ccw_fetched s c))
    unfolding carried_out with_ccw_fetched range_recorded bytes_moved
    carried_kept (TransferInChannel address) h = ccw_kept
    carried_kept (Data Fetch address count chains) h =
        storage_stays c.storage c.keys _ _ (λ u on.
        marks_stay_on (with_ccw_fetched s c).keys (λ i. unit_of s (address + i)) (recorded Fetch) count (recorded_stays_on Fetch) u (ccw_stays_on u on))
    carried_kept (Data Store address count chains) h =
        let taken = c.progress.state.taken in
        let stored = stores_record c.storage (with_ccw_fetched s c).keys (λ i. address + i) count (ccw_lengths h) (λ k. get_or from_device (taken + k) 0) _ in
        record {
          changed_on = stored.changed_on;
          off_by_set = λ u on off. stored.off_by_set u (ccw_stays_on u on) off;
          same_length = stored.same_length;
        }
    carried_kept Invalid h = ccw_kept

    next_kept : Kept (next_ccw s q from_device c)
    next_kept = go (ccw_outcome s q from_device c)
      where
        go : CcwOutcome s q from_device c (next_ccw s q from_device c) → Kept (next_ccw s q from_device c)
        go (unfetched r h f) = rw f (all_stays c.storage c.keys _)
        go (unread h k f) = rw f (all_stays c.storage c.keys _)
        go (unobeyed r h k l f) = rw f ccw_kept
        go (untransferred h k l m f) = rw f ccw_kept
        go (obeyed_whole h k l m f) = rw f (carried_kept (operation_found c) h)

    pub channel_step_records : Kept (channel_step s q from_device c)
    unfolding channel_step
    channel_step_records = go c.progress.standing
      where
        go : (standing : Standing) → Kept (step_by standing s q from_device c)
        go UnderWay = next_kept
        go (Answered answer) = all_stays c.storage c.keys _

pub every_turn : EveryTurn
every_turn s m (requests [] gs) = all_stays s m.storage m.keys _
every_turn s m (requests (t ∷ ts) gs) = request_records s m t
every_turn s m (between [] gs) = all_stays s m.storage m.keys _
every_turn s m (between (t ∷ ts) gs) = channel_step_records s t.request t.from_device (found m t.room (begun t.request))
every_turn s m (under_way t room g ts gs) = channel_step_records s t.request t.from_device (found m room g)
