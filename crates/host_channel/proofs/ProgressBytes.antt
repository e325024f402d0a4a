-- The bytes of a progress: the status of a refusal is its number, by each reason; and all fields together, one after the other.
-- Assumes nothing.
use Prim.Native.Nat.{ℕ, zero, suc, ◌+◌, ◌*◌, ◌<◌, ◌≤◌}
use mathlib.Core.Path.{◌≡◌, refl, sym, ◌∙◌}
use mathlib.Core.List.{List, [], ◌∷◌, ◌++◌}
use mathlib.Core.Option.{some}
use lib.ListN.{length, get_or, take, drop}
use native.Mathlib.Nat.{add-suc}
use native.Mathlib.Numerals.{add-one}
use Rattle.std.proofs.Common.{rules}
use Rattle.std.proofs.lemmas.List.{take_more, drop_more, set_at, places, append_assoc, take-append-drop, take_all, length-take-le, length-append}
use Rattle.machine.specs.Lists.{written}
use Rattle.machine.proofs.Written.{length-written}
use Rattle.house_record.specs.Little.{little_bytes, pasted}
use Rattle.house_record.specs.Little as fields
use Rattle.house_record.proofs.LittleBytes.{length-little_bytes, in_room}
use borrow.Author.Tests.{eq-eqb, lt-ltb}
use native.Mathlib.Omega.{arith}
use Rattle.machine.specs.declared.channel.ChannelReason.{ChannelReason}
use Rattle.machine.specs.declared.channel.ChannelReason.TheVariants.{Configuration, ChannelKey, Grant, GrantUsed, Program, Protection, Device}
use Rattle.machine.specs.Channel.{Completed, Refused, Standing, UnderWay, Answered, answer_in, channel_number, channel_values}
use Rattle.machine.specs.declared.channel.ChannelRecord.{ChannelRecord}
use Rattle.host_channel.specs.ChannelCalls.{chaining_number, status_of, put, progress_left, progress_put}

-- the status of a standing fits a byte
pub status_small : (standing : Standing) → status_of (answer_in standing) < 256
status_small UnderWay = omega arith
status_small (Answered Completed) = omega arith
status_small (Answered (Refused Configuration)) = omega arith
status_small (Answered (Refused ChannelKey)) = omega arith
status_small (Answered (Refused Grant)) = omega arith
status_small (Answered (Refused GrantUsed)) = omega arith
status_small (Answered (Refused Program)) = omega arith
status_small (Answered (Refused Protection)) = omega arith
status_small (Answered (Refused Device)) = omega arith

-- the status of a refused request is its number
pub reason_status : (r : ChannelReason) → (channel_number r ≡ status_of (some (channel_values (Refused r)))) × (channel_number r < 256)
reason_status Configuration = (refl, omega arith)
reason_status ChannelKey = (refl, omega arith)
reason_status Grant = (refl, omega arith)
reason_status GrantUsed = (refl, omega arith)
reason_status Program = (refl, omega arith)
reason_status Protection = (refl, omega arith)
reason_status Device = (refl, omega arith)

-- the bytes of a number that are written one by one are written at once
written_part : (xs ys : List ℕ) (at n : ℕ) → n ≤ length ys → at + n ≤ length xs
    → written xs (λ i. at + i) (λ i. get_or ys i 0) n ≡ (take at xs ++ take n ys) ++ drop (at + n) xs
unfolding written
written_part xs ys at zero h g = search (rules, places, take-append-drop)
written_part xs ys at (suc n) h g =
    let next : drop (at + n) xs ≡ get_or xs (at + n) 0 ∷ drop (at + suc n) xs =
    rw (add-suc at n, sym (add-one (at + n))) (drop_more xs (at + n) 0 (omega arith)) in
    let more : take (suc n) ys ≡ take n ys ++ get_or ys n 0 ∷ [] = rw (sym (add-one n)) (take_more ys n 0 (omega arith)) in
    let front : length (take at xs ++ take n ys) ≡ at + n =
    length-append (take at xs) _ ∙ omega (arith, length-take-le at xs (omega arith), length-take-le n ys (omega arith)) in
    rw (written_part xs ys at n (omega arith) (omega arith), next, more) (set_at (take at xs ++ take n ys) _ _ _ (at + n) front ∙ simp append_assoc)

put_written : (n at v : ℕ) (b : List ℕ) → at + n ≤ length b → fields.put n at v b ≡ put n at v b
unfolding pasted
put_written n at v b fits =
    let long = length-little_bytes n v in
    rw (long, written_part b (little_bytes n v) at n (omega arith) fits, take_all n (little_bytes n v) (omega arith)) refl

-- one field
field_put : (n at v : ℕ) (b : List ℕ) {b' : List ℕ} → n ≤ 8 → at + n ≤ 32 → length b ≡ 32 → b' ≡ fields.put_in_room n at v b
    → (b' ≡ put n at v b) × (length b' ≡ 32)
field_put n at v b {b'} few fits sized e =
    let same : b' ≡ put n at v b = e ∙ in_room n at v b few (omega arith) ∙ put_written n at v b (omega arith) in
    (same, rw same (length-written b (λ i. at + i) (λ i. get_or (little_bytes n v) i 0) n ∙ sized))

-- all fields
pub all_put : (r : ChannelRecord) (count status chaining : ℕ) (b b1 b2 b3 b4 b5 b6 : List ℕ) → length b ≡ 32 → chaining ≡ chaining_number r.chaining
    → b1 ≡ fields.put_in_room 4 0 r.ccw b → b2 ≡ fields.put_in_room 4 4 (chaining + status * 256) b1
    → b3 ≡ fields.put_in_room 4 8 count b2 → b4 ≡ fields.put_in_room 4 12 0 b3
    → b5 ≡ fields.put_in_room 8 16 r.taken b4 → b6 ≡ fields.put_in_room 8 24 r.given b5 → b6 ≡ progress_left r count status b
unfolding progress_left
all_put r count status chaining b b1 b2 b3 b4 b5 b6 sized e1 e2 e3 e4 e5 e6 e7 =
    let f2 = field_put 4 0 r.ccw b (omega arith) (omega arith) sized e2 in
    let f3 = field_put 4 4 (chaining + status * 256) b1 (omega arith) (omega arith) f2.1 e3 in
    let f4 = field_put 4 8 count b2 (omega arith) (omega arith) f3.1 e4 in
    let f5 = field_put 4 12 0 b3 (omega arith) (omega arith) f4.1 e5 in
    let f6 = field_put 8 16 r.taken b4 (omega arith) (omega arith) f5.1 e6 in
    let f7 = field_put 8 24 r.given b5 (omega arith) (omega arith) f6.1 e7 in
    rw (f7.0, f6.0, f5.0, f4.0, f3.0, f2.0, e1)

-- what is written is all of it, where the bytes are right
pub put_left : (standing : Standing) (r : ChannelRecord) (count : ℕ) (b b' : List ℕ) → length b ≡ 32
    → b' ≡ progress_put r count (status_of (answer_in standing)) b → b' ≡ progress_left r count (status_of (answer_in standing)) b
put_left standing r count b b' sized e =
    rw (eq-eqb (length b) 32 sized, lt-ltb (status_of (answer_in standing)) 256 (status_small standing)) at e
