-- The channel's rules held to the sentences of document 02 (W4): where each part of a CCW stands; when a range is forbidden, and what of keys
-- and bytes an access to it leaves; and the seven lines of a CCW in their order, as one list.
-- The proofs go by the verdicts of the lines and by runs of writes. Assumes nothing.
use Prim.Native.Nat.{ℕ, ◌+◌, ◌*◌, ◌%◌, ◌<◌}
use mathlib.Core.Path.{◌≡◌, refl, ap, ◌∙◌}
use mathlib.Core.Bool.{Bool, true, false, cond, not, ◌||◌}
use mathlib.Core.Logic.{◌≢◌, ⊎_elim}
use mathlib.Core.List.{List, [], ◌∷◌, ◌++◌}
use mathlib.Core.Option.{Option, none, some}
use native.Mathlib.Omega.{arith}
use lib.ListN.{length, get_or}
use lib.Dec.{eqb, leb}
use borrow.Author.Tests.{not-true}
use Rattle.machine.specs.declared.Settings.{Settings}
use Rattle.machine.specs.declared.AccessKind.{AccessKind}
use Rattle.machine.specs.declared.AccessKind.TheVariants.{Fetch, Store}
use Rattle.machine.specs.declared.channel.ChannelRequest.{ChannelRequest}
use Rattle.machine.specs.declared.channel.ChannelOperation.{ChannelOperation}
use Rattle.machine.specs.declared.channel.ChannelOperation.TheVariants.{TransferInChannel, Data, Invalid}
use Rattle.machine.specs.declared.channel.ChannelReason.{ChannelReason}
use Rattle.machine.specs.declared.channel.ChannelReason.TheVariants.{GrantUsed, Program, Protection, Device}
use Rattle.machine.specs.Channel.{Refused, Answered, big_endian, ccw_at, outside, range_forbidden, range_recorded, bytes_moved, Channel}
use Rattle.machine.specs.Channel.{first_refusal, request_lines, address_lines, before_fetching, fetching_forbidden, program_check, data_outside}
use Rattle.machine.specs.Channel.{device_short, data_forbidden, before_transfer, with_ccw_fetched, carried_out, next_ccw}
use Rattle.machine.specs.Numbers.{unit_of}
use Rattle.machine.specs.Key.{after_fetch}
use Rattle.machine.specs.Protection.{permitted, recorded}
use Rattle.machine.proofs.Written.{written_elsewhere, written_there, marked_either}
use Rattle.machine.proofs.Verdicts.{any_at, any_found, any_same}
use Rattle.machine.proofs.Tests.{Tells}
use Rattle.machine.proofs.KeyBytes.{key_recorded_lem}
use Rattle.machine.proofs.ChannelSteps.{operation_found, CcwOutcome, unfetched, unread, unobeyed, untransferred, obeyed_whole, ccw_outcome}

-- command (1 byte), address (3), flags (1), an ignored byte, count (2), big-endian
pub ccw_fields : (storage : List ℕ) (a : ℕ) → ccw_at storage a ≡ record {
  command = get_or storage a 0;
  address = get_or storage (a + 1) 0 * 65536 + get_or storage (a + 2) 0 * 256 + get_or storage (a + 3) 0;
  flags = get_or storage (a + 4) 0;
  count = get_or storage (a + 6) 0 * 256 + get_or storage (a + 7) 0;
}
unfolding ccw_at big_endian
ccw_fields storage a =
    let one : a + 1 + 1 ≡ a + 2 = omega arith in
    let two : a + 2 + 1 ≡ a + 3 = omega arith in
    let seven : a + 6 + 1 ≡ a + 7 = omega arith in
    λ i.
    record {
      command = plain (get_or storage a 0) i;
      address = address one two i;
      flags = plain (get_or storage (a + 4) 0) i;
      count = count seven i;
    }
  where
    plain : (x : ℕ) → x * 1 + 0 ≡ x
    plain x = omega arith

    address : a + 1 + 1 ≡ a + 2 → a + 2 + 1 ≡ a + 3
        → big_endian 3 storage (a + 1) ≡ get_or storage (a + 1) 0 * 65536 + get_or storage (a + 2) 0 * 256 + get_or storage (a + 3) 0
    address e f = rw (e, f) (omega arith)

    count : a + 6 + 1 ≡ a + 7 → big_endian 2 storage (a + 6) ≡ get_or storage (a + 6) 0 * 256 + get_or storage (a + 7) 0
    count e = rw e (omega arith)

-- a range is forbidden exactly when a byte of it is in a unit whose key does not permit the access
pub range_forbidden_lem : (s : Settings) (kind : AccessKind) (access_key : ℕ) (keys : List ℕ) (start count : ℕ)
    → Tells (range_forbidden s kind access_key keys start count)
    ((i : ℕ) × (i < count) × (permitted kind access_key (get_or keys (unit_of s (start + i)) 0) ≡ false))
unfolding range_forbidden
range_forbidden_lem s kind access_key keys start count = (
  λ e. let (i, h, f) = any_found _ count e in (i, h, not-true _ f),
  λ f. any_at (λ i. not (permitted kind access_key (get_or keys (unit_of s (start + i)) 0))) count f.0 f.1 (rw f.2),
)

-- an access to a range writes the key of each of its units, and no other
module _ (s : Settings) (kind : AccessKind) (keys : List ℕ) (start count : ℕ) where
  pub range_key : (i : ℕ) → i < count → unit_of s (start + i) < length keys
      → get_or (range_recorded s kind keys start count) (unit_of s (start + i)) 0 ≡ recorded kind (get_or keys (unit_of s (start + i)) 0)
  unfolding range_recorded
  range_key i h inside = written_there keys (λ j. unit_of s (start + j)) _ count i h inside (λ j k e. rw e)

  pub range_other_key : (u : ℕ) → ((i : ℕ) → i < count → unit_of s (start + i) ≢ u)
      → get_or (range_recorded s kind keys start count) u 0 ≡ get_or keys u 0
  unfolding range_recorded
  range_other_key u apart = written_elsewhere keys _ _ count u apart

-- byte k of a transfer is that of the source, and no byte but those of the range changes: unused room is kept
module _ (target : List ℕ) (i : ℕ) (source : List ℕ) (j count : ℕ) where
  pub byte_moved : (k : ℕ) → k < count → i + k < length target → get_or (bytes_moved target i source j count) (i + k) 0 ≡ get_or source (j + k) 0
  unfolding bytes_moved
  byte_moved k h inside =
      written_there target (λ n. i + n) _ count k h inside (λ n l e. ap (λ m. get_or source (j + m) 0) (omega (arith, e)))

  pub byte_kept : (a : ℕ) → ((k : ℕ) → k < count → i + k ≢ a) → get_or (bytes_moved target i source j count) a 0 ≡ get_or target a 0
  unfolding bytes_moved
  byte_kept a apart = written_elsewhere target _ _ count a apart

-- the fetching of a CCW permits and forbids nothing
fetch_permits : (kind : AccessKind) (access_key k : ℕ) → permitted kind access_key (after_fetch k) ≡ permitted kind access_key k
unfolding permitted
fetch_permits Fetch access_key k = let kept = key_recorded_lem Fetch k in rw (kept.access_control_lem, kept.fetch_protection_lem)
fetch_permits Store access_key k = let kept = key_recorded_lem Fetch k in rw kept.access_control_lem

-- the fetching of a range permits and forbids nothing: each key is as before, or as a completed fetch leaves it
module _ (s : Settings) (keys : List ℕ) (start count : ℕ) where
  pub fetched_forbidden : (kind : AccessKind) (access_key from n : ℕ)
      → range_forbidden s kind access_key (range_recorded s Fetch keys start count) from n ≡ range_forbidden s kind access_key keys from n
  unfolding range_forbidden range_recorded
  fetched_forbidden kind access_key from n = any_same _ _ n (λ i h. ap not (permitted_same (unit_of s (from + i))))
    where
      permitted_same : (u : ℕ) → permitted kind access_key (get_or (range_recorded s Fetch keys start count) u 0) ≡ permitted kind access_key (get_or keys u 0)
      permitted_same u =
          ⊎_elim (λ e. ap (permitted kind access_key) e) (λ e. ap (permitted kind access_key) e ∙ fetch_permits kind access_key (get_or keys u 0))
          (marked_either keys (λ i. unit_of s (start + i)) after_fetch count u)

-- lines one after another
abbrev or_else : Option ChannelReason → Option ChannelReason → Option ChannelReason
or_else none w = w
or_else (some r) w = some r

refusal_append : (xs ys : List (Bool × ChannelReason)) → first_refusal (xs ++ ys) ≡ or_else (first_refusal xs) (first_refusal ys)
unfolding first_refusal
refusal_append [] ys = refl
refusal_append ((true, r) ∷ xs) ys = refl
refusal_append ((false, r) ∷ xs) ys = refusal_append xs ys

-- 64, 65 and 66, and then for the CCW 74, 71, 72, 71, 71, 73, 72, on what the request finds
abbrev pub lines_of_ccw : Settings → ChannelRequest → (from_device : List ℕ) → Channel → ChannelOperation → List (Bool × ChannelReason)
lines_of_ccw s q from_device c o =
    request_lines s (length c.storage) (length c.keys) q ++
    ((leb q.grant c.progress.fetched, GrantUsed)
    ∷ (not (eqb (c.progress.state.ccw % 8) 0) || outside (length c.storage) c.progress.state.ccw 8, Program)
    ∷ (range_forbidden s Fetch q.key c.keys c.progress.state.ccw 8, Protection)
    ∷ (program_check o c.progress.state.chaining, Program)
    ∷ (data_outside o (length c.storage), Program)
    ∷ (device_short o (length from_device) (length c.room) c.progress.state, Device)
    ∷ (data_forbidden o s q.key c.keys, Protection)
    ∷ [])

-- d is refused with the reason of the first line that applies; where none does, it is what is left
abbrev pub ByLines : Option ChannelReason → Channel → Channel → Type 0
ByLines none d left = d ≡ left
ByLines (some r) d left = d.progress.standing ≡ Answered (Refused r)

module _ (s : Settings) (q : ChannelRequest) (from_device : List ℕ) (c : Channel) where
  same_forbidden : (o : ChannelOperation) → data_forbidden o s q.key (with_ccw_fetched s c).keys ≡ data_forbidden o s q.key c.keys
  unfolding with_ccw_fetched
  same_forbidden (TransferInChannel address) = refl
  same_forbidden (Data kind address count chains) = fetched_forbidden s c.keys c.progress.state.ccw 8 kind q.key address count
  same_forbidden Invalid = refl

  -- by the verdicts of its parts
  split : first_refusal (lines_of_ccw s q from_device c (operation_found c))
      ≡ or_else (before_fetching s q c) (cond (fetching_forbidden s q c) (some Protection)
      (or_else (before_transfer (length from_device) (with_ccw_fetched s c) (operation_found c))
      (cond (data_forbidden (operation_found c) s q.key c.keys) (some Protection) none)))
  unfolding before_fetching before_transfer with_ccw_fetched first_refusal
  split =
      let o = operation_found c in
      let last : List (Bool × ChannelReason) = (data_forbidden o s q.key c.keys, Protection) ∷ [] in
      let upper = request_lines s (length c.storage) (length c.keys) q ++ address_lines (length c.storage) q c.progress in
      let lower : List (Bool × ChannelReason) =
      (program_check o c.progress.state.chaining, Program)
      ∷ (data_outside o (length c.storage), Program)
      ∷ (device_short o (length from_device) (length c.room) c.progress.state, Device)
      ∷ [] in
      refusal_append upper ((fetching_forbidden s q c, Protection) ∷ (lower ++ last))
      ∙ ap (λ v. or_else (before_fetching s q c) (cond (fetching_forbidden s q c) (some Protection) v)) (refusal_append lower last)

  -- the first line that applies refuses the CCW with its reason; where none applies, it is carried out
  pub seven_lines : ByLines (first_refusal (lines_of_ccw s q from_device c (operation_found c))) (next_ccw s q from_device c)
      (carried_out (operation_found c) s from_device (with_ccw_fetched s c))
  seven_lines = go (ccw_outcome s q from_device c)
    where
      go : CcwOutcome s q from_device c (next_ccw s q from_device c)
          → ByLines (first_refusal (lines_of_ccw s q from_device c (operation_found c))) (next_ccw s q from_device c)
          (carried_out (operation_found c) s from_device (with_ccw_fetched s c))
      go (unfetched r h f) = rw (split, h, f)
      go (unread h k f) = rw (split, h, k, f)
      go (unobeyed r h k l f) = rw (split, h, k, l, f)
      go (untransferred h k l m f) = rw (split, h, k, l, ← same_forbidden (operation_found c), m, f)
      go (obeyed_whole h k l m f) = rw (split, h, k, l, ← same_forbidden (operation_found c), m) f
