-- Why `play` stops: by what the record in front of the unread bytes is, and because a record that passes has at least one byte. Assumes nothing.
use Prim.Native.Nat.{ℕ, zero, suc, ◌+◌, ◌-◌, ◌<◌}
use native.Mathlib.Omega.{arith}
use mathlib.Core.Path.{◌≡◌, refl, sym, ap, subst}
use mathlib.Core.Bool.{Bool, true, false, cond, ◌||◌}
use mathlib.Core.List.{List, [], ◌++◌}
use lib.ListN.{length, drop, length-drop, length-append}
use lib.Seq.{drop-drop}
use lib.Dec.{ltb}
use borrow.Author.Tests.{ltb-true}
use Rattle.machine.specs.declared.Settings.{Settings}
use Rattle.machine.proofs.Verdicts.{not_both}
use Rattle.trace.specs.Trace.{Read, ARequest, Remark, Bad, End, read_of}
use Rattle.trace.proofs.Front.{by_front, by_kind, size_within, remark_within}
use Rattle.player.specs.declared.Status.{Status}
use Rattle.player.specs.declared.Status.TheVariants.{Passed, More, Ended, Room, Limit}
use Rattle.player.specs.Text.{bad_text}
use Rattle.player.specs.Run.{Progress, after_other}
use Rattle.player.specs.Play.{Left, left, request_played, judged, bad_played, read_played, ordinals_used, record_played, passes, then, played}
use Rattle.player.specs.Parts.{Stopped, WhyStopped}
use Rattle.player.proofs.Records.{neither}
use Rattle.player.proofs.Judged.{no_length}
use Rattle.player.proofs.Playing.{record_fits}

-- the end is read of no bytes only
abbrev is_end : Read → Bool
is_end (ARequest n r size) = false
is_end (Remark size) = false
is_end Bad = false
is_end End = true

end_is_nothing : (bytes : List ℕ) → is_end (read_of bytes) ≡ true → length bytes ≡ 0
end_is_nothing bytes =
    by_front (λ x. is_end x ≡ true → length bytes ≡ 0) bytes (λ e h. ap length e) (λ f h. absurd (not_both h refl))
    (λ f h. absurd
    (not_both h (by_kind (λ x. is_end x ≡ false) _ _ refl (λ k l. refl) (λ k l. refl) (λ k l r e. refl) (λ k l r e. refl) (λ k l. refl))))

-- a record that passes has at least one byte
abbrev Stops : Left → (last : Bool) (bytes : List ℕ) (room : ℕ) → Status → Type 0
Stops o last bytes room Passed = 0 < o.read
Stops o last bytes room More = Stopped More last (drop o.read bytes) (room - length o.text) o.progress
Stops o last bytes room Ended = Unit {0}
Stops o last bytes room Room = Stopped Room last (drop o.read bytes) (room - length o.text) o.progress
Stops o last bytes room Limit = Stopped Limit last (drop o.read bytes) (room - length o.text) o.progress

module _ (s : Settings) (last : Bool) (room : ℕ) (p : Progress) (bytes : List ℕ) where
  abbrev Why : Left → Type 0
  Why o = Stops o last bytes room o.status

  bad_why : (b : Bool) → (last || judged bytes) ≡ b
      → Why (cond b (left (bad_text (p.records + 1)) (after_other p) 0 Ended) (left [] p 0 More))
  bad_why true e = tt
  bad_why false e =
      let (l, k) = neither last (judged bytes) e in
      (l, k)

  end_why : read_of bytes ≡ End → (b : Bool) → last ≡ b → Why (left [] p 0 (cond b Ended More))
  end_why e true l = tt
  end_why e false l = (l, sym (no_length bytes (omega (arith, end_is_nothing bytes (ap (λ (x : Read). is_end x) e)))))

  read_why : (found : Read) → read_of bytes ≡ found → Why (read_played found s last p bytes)
  unfolding read_played request_played bad_played
  read_why (ARequest n r size) e = omega (arith, size_within bytes n r size e)
  read_why (Remark size) e = omega (arith, remark_within bytes size e)
  read_why Bad e = bad_why (last || judged bytes) refl
  read_why End e = end_why e last refl

  tested_why : (full used : Bool) → ltb room 64 ≡ full → ordinals_used p ≡ used
      → Why (cond full (left [] p 0 Room) (cond used (left [] p 0 Limit) (read_played (read_of bytes) s last p bytes)))
  tested_why true used e u = omega (arith, ltb-true room 64 e)
  tested_why false true e u = u
  tested_why false false e u = read_why (read_of bytes) refl

  record_why : Why (record_played s last room p bytes)
  unfolding record_played
  record_why = tested_why (ltb room 64) (ordinals_used p) refl refl

-- a record that does not pass stops the call
stays : (o : Left) (last : Bool) (bytes : List ℕ) (room : ℕ) (x : Status) → passes x ≡ false → Stops o last bytes room x
    → Stopped x last (drop o.read bytes) (room - length o.text) o.progress
stays o last bytes room Passed e h = absurd (not_both refl e)
stays o last bytes room More e h = h
stays o last bytes room Ended e h = h
stays o last bytes room Room e h = h
stays o last bytes room Limit e h = h

moves : (o : Left) (last : Bool) (bytes : List ℕ) (room : ℕ) (x : Status) → passes x ≡ true → Stops o last bytes room x → 0 < o.read
moves o last bytes room Passed e h = h
moves o last bytes room More e h = absurd (not_both e refl)
moves o last bytes room Ended e h = absurd (not_both e refl)
moves o last bytes room Room e h = absurd (not_both e refl)
moves o last bytes room Limit e h = absurd (not_both e refl)

-- what is left after two calls is what is left after the second of what the first left
left_after : (o next : Left) (last : Bool) (bytes : List ℕ) (room : ℕ)
    → Stopped next.status last (drop next.read (drop o.read bytes)) (room - length o.text - length next.text) next.progress
    → Stopped next.status last (drop (o.read + next.read) bytes) (room - length (o.text ++ next.text)) next.progress
left_after o next last bytes room h =
    let a : drop next.read (drop o.read bytes) ≡ drop (o.read + next.read) bytes = drop-drop next.read o.read bytes in
    let b : room - length o.text - length next.text ≡ room - length (o.text ++ next.text) = rw (length-append o.text next.text) (omega arith) in
    subst (λ u. Stopped next.status last u (room - length (o.text ++ next.text)) next.progress) a
    (subst (λ n. Stopped next.status last (drop next.read (drop o.read bytes)) n next.progress) b h)

chosen : (o next : Left) (last : Bool) (bytes : List ℕ) (room : ℕ) (b : Bool) → passes o.status ≡ b → Stops o last bytes room o.status
    → (0 < o.read
    → Stopped next.status last (drop next.read (drop o.read bytes)) (room - length o.text - length next.text) next.progress)
    → Stopped (cond b (then o next) o).status last (drop (cond b (then o next) o).read bytes) (room - length (cond b (then o next) o).text)
    (cond b (then o next) o).progress
chosen o next last bytes room true e h k = left_after o next last bytes room (k (moves o last bytes room o.status e h))
chosen o next last bytes room false e h k = stays o last bytes room o.status e h

stops_within : (n : ℕ) (s : Settings) (last : Bool) (room : ℕ) (p : Progress) (bytes : List ℕ) → length bytes < n
    → let o = played n s last room p bytes in
    Stopped o.status last (drop o.read bytes) (room - length o.text) o.progress
unfolding played
stops_within zero s last room p bytes h = absurd (omega arith)
stops_within (suc n) s last room p bytes h =
    let o : Left = record_played s last room p bytes in
    chosen o (played n s last (room - length o.text) o.progress (drop o.read bytes)) last bytes room (passes o.status) refl
    (record_why s last room p bytes)
    (λ some. stops_within n s last (room - length o.text) o.progress (drop o.read bytes)
    (omega (arith, length-drop o.read bytes, record_fits s last room p bytes)))

pub why_stopped : WhyStopped
why_stopped s last room p bytes = stops_within (length bytes + 1) s last room p bytes (omega arith)
