-- Record after record: `Going` says how far the loop is, and each turn adds what one record leaves. Assumes nothing.
use Prim.Native.Nat.{ℕ, zero, suc, ◌+◌, ◌-◌, ◌≤◌, ◌<◌}
use native.Mathlib.Omega.{arith}
use native.Mathlib.Nat.{zero-add, add-zero, add_assoc}
use native.Mathlib.Numerals.{sub-one}
use mathlib.Core.Path.{◌≡◌, refl, sym, ap, ◌∙◌}
use mathlib.Core.Bool.{Bool, true, false, cond, not, ◌||◌}
use denote.Enum.Bare.{sameb}
use Rattle.player.specs.contracts.Status.{the_type}
use mathlib.Core.List.{List, [], ◌++◌, append_assoc, append-nil}
use lib.ListN.{length, take, drop, length-append, length-take, length-drop, drop_of_length-le}
use lib.Seq.{take_at, drop_at, take_all, drop-drop}
use lib.Dec.{ltb}
use Rattle.machine.specs.declared.Settings.{Settings}
use Rattle.trace.specs.Trace.{Read, ARequest, Remark, Bad, End, read_of}
use Rattle.trace.proofs.Front.{size_within, remark_within}
use Rattle.player.specs.declared.Player.{Player}
use Rattle.player.specs.declared.Played.{Played}
use Rattle.player.specs.declared.Status.{Status}
use Rattle.player.specs.declared.Status.TheVariants.{Passed, More, Ended, Room, Limit}
use Rattle.player.specs.Text.{over, bad_text}
use Rattle.player.specs.Run.{Progress, after_other}
use Rattle.player.specs.Play.{progress_of, Left, left, request_played, judged, bad_played, read_played, ordinals_used, record_played, passes, then, played}
use Rattle.player.specs.Play.{PlayOutcome, play_outcome, play_outcome_of}

-- what is read lies within the bytes
pick : (n : ℕ) (b : Bool) (x y : Left) → x.read ≤ n → y.read ≤ n → (cond b x y).read ≤ n
pick n true x y h k = h
pick n false x y h k = k

read_fits : (s : Settings) (last : Bool) (p : Progress) (bytes : List ℕ) (found : Read) → read_of bytes ≡ found
    → (read_played found s last p bytes).read ≤ length bytes
unfolding read_played request_played bad_played
read_fits s last p bytes (ARequest n r size) e = (size_within bytes n r size e).1
read_fits s last p bytes (Remark size) e = (remark_within bytes size e).1
read_fits s last p bytes Bad e =
    pick (length bytes) (last || judged bytes) (left (bad_text (p.records + 1)) (after_other p) 0 Ended) (left [] p 0 More) (omega arith)
    (omega arith)
read_fits s last p bytes End e = omega arith

pub record_fits : (s : Settings) (last : Bool) (room : ℕ) (p : Progress) (bytes : List ℕ)
    → (record_played s last room p bytes).read ≤ length bytes
unfolding record_played
record_fits s last room p bytes =
    let third : Left = read_played (read_of bytes) s last p bytes in
    let second : Left = cond (ordinals_used p) (left [] p 0 Limit) third in
    pick (length bytes) (ltb room 64) (left [] p 0 Room) second (omega arith)
    (pick (length bytes) (ordinals_used p) (left [] p 0 Limit) third (omega arith) (read_fits s last p bytes (read_of bytes) refl))

-- what a call reads lies within the bytes
chosen_fits : (o next : Left) (bytes : List ℕ) (b : Bool) → o.read ≤ length bytes → next.read ≤ length (drop o.read bytes)
    → (cond b (then o next) o).read ≤ length bytes
chosen_fits o next bytes true h k = omega (arith, h, k, length-drop o.read bytes)
chosen_fits o next bytes false h k = h

pub play_fits : (n : ℕ) (s : Settings) (last : Bool) (room : ℕ) (p : Progress) (bytes : List ℕ) → (played n s last room p bytes).read ≤ length bytes
unfolding played
play_fits zero s last room p bytes = omega arith
play_fits (suc n) s last room p bytes =
    let o : Left = record_played s last room p bytes in
    chosen_fits o (played n s last (room - length o.text) o.progress (drop o.read bytes)) bytes (passes o.status)
    (record_fits s last room p bytes) (play_fits n s last (room - length o.text) o.progress (drop o.read bytes))

-- a text over the rest of an output that has a text in front
over_behind : (d t u output : List ℕ) (w : ℕ) → output ≡ over t d → w ≡ length t → t ++ over u (drop w output) ≡ over (t ++ u) d
unfolding over
over_behind d t u output w e long =
    let rest : drop w output ≡ drop (length t) d = rw e (drop_at t (drop (length t) d) w (sym long)) in
    rw (rest, length-append t u, drop-drop (length u) (length t) d) (sym (append_assoc t u (drop (length t + length u) d)))

module _ (s : Settings) (last : Bool) (bytes output₀ : List ℕ) (p₀ : Progress) where
  -- all that the loop leaves
  abbrev all : Left
  all = played (length bytes + 1) s last (length output₀) p₀ bytes

  -- the texts so far are the first bytes of the output
  pub record Going (output : List ℕ) (p : Progress) (at written n : ℕ) : Type 0 where
    pub whole : then (left (take written output) p at Passed) (played n s last (length output₀ - written) p (drop at bytes)) ≡ all
    pub lined : output ≡ over (take written output) output₀
    pub room : written ≤ length output₀
    pub sized : length output ≡ length output₀
    pub inside : at ≤ length bytes

  pub starts : Going output₀ p₀ 0 0 (length bytes + 1)
  unfolding over
  starts = record {
    whole =
        let room : length output₀ - 0 ≡ length output₀ = omega arith in
        rw room (ap (λ (n : ℕ). left all.text all.progress n all.status) (zero-add all.read));
    lined = refl;
    room = omega arith;
    sized = refl;
    inside = omega arith;
  }

  module _ (output : List ℕ) (p : Progress) (at written n : ℕ) (g : Going output p at written n) where
    long : length (take written output) ≡ written
    long = simp length-take (omega (arith, g.room, g.sized))

    -- no record is left to play
    pub runs_out : n ≡ 0 → left (take written output) p at Passed ≡ all
    unfolding played
    runs_out e =
        let none_left : then (left (take written output) p at Passed) (left [] p 0 Passed) ≡ all = rw e at g.whole in
        rw (append-nil (take written output), add-zero at) at none_left

    -- one turn: the record in front of the rest is played
    module _ (some : 0 < n) where
      abbrev one : Left
      one = record_played s last (length output₀ - written) p (drop at bytes)

      abbrev rest : Left
      rest = played (n - 1) s last (length output₀ - written - length one.text) one.progress (drop one.read (drop at bytes))

      begins : (k : ℕ) → 0 < k → (b : Bool) → passes one.status ≡ b
          → played k s last (length output₀ - written) p (drop at bytes)
          ≡ cond b
          (then one
          (played (k - 1) s last (length output₀ - written - length one.text) one.progress (drop one.read (drop at bytes))))
          one
      unfolding played
      begins zero h b e = absurd (omega arith)
      begins (suc k) h b e = rw (sub-one (suc k), e) refl

      abbrev texts : List ℕ
      texts = take written output ++ one.text

      pub stops : passes one.status ≡ false → left texts one.progress (at + one.read) one.status ≡ all
      stops e = ap (then (left (take written output) p at Passed)) (sym (begins n some false e)) ∙ g.whole

      both : length texts ≡ written + length one.text
      both = length-append (take written output) one.text ∙ ap (λ (k : ℕ). k + length one.text) long

      module _ (output' : List ℕ) (put : output' ≡ take written output ++ over one.text (drop written output)) where
        pub output_is : output' ≡ over texts output₀
        output_is = put ∙ over_behind output₀ (take written output) one.text output written g.lined (sym long)

        texts_taken : take (written + length one.text) output' ≡ texts
        unfolding over
        texts_taken = rw output_is (take_at texts (drop (length texts) output₀) (written + length one.text) both)

        pub goes_on : passes one.status ≡ true → length output' ≡ length output → length one.text ≤ length output - written
            → Going output' one.progress (at + one.read) (written + length one.text) (n - 1)
        goes_on e kept fits =
            let r : then (left (take written output) p at Passed) (then one rest) ≡ all =
            ap (then (left (take written output) p at Passed)) (sym (begins n some true e)) ∙ g.whole in
            let room : length output₀ - (written + length one.text) ≡ length output₀ - written - length one.text = omega arith in
            record {
              whole =
                  rw (texts_taken, room, ← drop-drop one.read at bytes)
                  (ap (λ (l : List ℕ). left l rest.progress (at + one.read + rest.read) rest.status)
                  (append_assoc (take written output) one.text rest.text)
                  ∙ ap (λ (k : ℕ). left (take written output ++ (one.text ++ rest.text)) rest.progress k rest.status)
                  (add_assoc at one.read rest.read)
                  ∙ r);
              lined = rw texts_taken output_is;
              room = omega (arith, g.room, g.sized);
              sized = kept ∙ g.sized;
              inside = omega (arith, record_fits s last (length output₀ - written) p (drop at bytes), length-drop at bytes, g.inside);
            }

-- a part to the end is the rest
tail_is : (l : List ℕ) (a : ℕ) → take (length l - a) (drop a l) ≡ drop a l
tail_is l a = take_all (length l - a) (drop a l) (simp length-drop (omega arith))

-- what the comparison of a status tells
pub passed : (x : Status) → false ≡ not (sameb the_type x Passed) → x ≡ Passed
passed Passed e = refl
passed More e = cc
passed Ended e = cc
passed Room e = cc
passed Limit e = cc

pub not_passed : (x : Status) → true ≡ not (sameb the_type x Passed) → passes x ≡ false
not_passed Passed e = cc
not_passed More e = refl
not_passed Ended e = refl
not_passed Room e = refl
not_passed Limit e = refl

-- the same turn, as the call of `play_record` on parts of the bytes and of the output leaves it
module _ (s : Settings) (last : Bool) (bytes output₀ : List ℕ) (p₀ : Progress) (output : List ℕ) (p : Progress) (at written n : ℕ)
    (g : Going s last bytes output₀ p₀ output p at written n) (r : Played) (storage' keys' part : List ℕ)
    (called : play_outcome r storage' keys' part
    ≡ play_outcome_of (record_played s last (length (take (length output - written) (drop written output))) p (take (length bytes - at) (drop at bytes)))
    (take (length output - written) (drop written output)))
    (kept : length part ≡ length (take (length output - written) (drop written output))) where
  abbrev record_left_lem : Left
  record_left_lem = record_played s last (length output₀ - written) p (drop at bytes)

  abbrev output_left : List ℕ
  output_left = take written output ++ (part ++ drop (length output - written) (drop written output))

  outcome : play_outcome r storage' keys' part ≡ play_outcome_of record_left_lem (drop written output)
  outcome =
      let room : length (drop written output) ≡ length output₀ - written = length-drop written output ∙ ap (λ (k : ℕ). k - written) g.sized in
      rw (tail_is output written, room, tail_is bytes at) at called

  progress_is : progress_of r.player storage' keys' ≡ record_left_lem.progress
  progress_is = ap (λ (o : PlayOutcome). o.progress) outcome

  read_is : r.read ≡ record_left_lem.read
  read_is = ap (λ (o : PlayOutcome). o.read) outcome

  written_is : r.written ≡ length record_left_lem.text
  written_is = ap (λ (o : PlayOutcome). o.written) outcome

  status_is : r.status ≡ record_left_lem.status
  status_is = ap (λ (o : PlayOutcome). o.status) outcome

  part_is : part ≡ over record_left_lem.text (drop written output)
  part_is = ap (λ (o : PlayOutcome). o.output) outcome

  text_fits : length record_left_lem.text ≤ length output - written
  unfolding over
  text_fits =
      omega (
        arith,
        ap length part_is ∙ length-append record_left_lem.text (drop (length record_left_lem.text) (drop written output)),
        kept ∙ ap length (tail_is output written) ∙ length-drop written output,
      )

  put : output_left ≡ take written output ++ over record_left_lem.text (drop written output)
  put =
      let none : drop (length output - written) (drop written output) ≡ [] =
      drop_of_length-le (drop written output) {i = length output - written} (simp length-drop (omega arith)) in
      rw (none, append-nil part, part_is) refl

  pub turn_reads : at + r.read ≤ length bytes
  turn_reads =
      rw read_is (omega (arith, record_fits s last (length output₀ - written) p (drop at bytes), length-drop at bytes, g.inside))

  pub turn_writes : written + r.written ≤ length output₀
  turn_writes = rw written_is (omega (arith, text_fits, g.room, g.sized))

  pub turn_keeps : length output_left ≡ length output
  turn_keeps =
      let none : drop (length output - written) (drop written output) ≡ [] =
      drop_of_length-le (drop written output) {i = length output - written} (simp length-drop (omega arith)) in
      rw (none, append-nil part, length-append (take written output) part, kept, tail_is output written)
      (simp (length-take, length-drop) (omega (arith, g.room, g.sized)))

  passes_as : (b : Bool) → passes r.status ≡ b → passes record_left_lem.status ≡ b
  passes_as b e = sym (ap (λ (x : Status). passes x) status_is) ∙ e

  module _ (some : 0 < n) where
    pub turn_stops : passes r.status ≡ false
        → play_outcome (record { player = r.player; read = at + r.read; written = written + r.written; status = r.status }) storage' keys' output_left
        ≡ play_outcome_of (played (length bytes + 1) s last (length output₀) p₀ bytes) output₀
    turn_stops e =
        let l : List ℕ = texts s last bytes output₀ p₀ output p at written n g some in
        let ended : left l record_left_lem.progress (at + record_left_lem.read) record_left_lem.status
        ≡ played (length bytes + 1) s last (length output₀) p₀ bytes =
        stops s last bytes output₀ p₀ output p at written n g some (passes_as false e) in
        let long : length l ≡ written + length record_left_lem.text = both s last bytes output₀ p₀ output p at written n g some in
        let lined : output_left ≡ over l output₀ = output_is s last bytes output₀ p₀ output p at written n g some output_left put in
        rw (← ended, read_is, written_is, status_is, ← long, lined)
        (ap
        (λ (q : Progress). record {
          progress = q;
          read = at + record_left_lem.read;
          written = length l;
          status = record_left_lem.status;
          output = over l output₀;
        })
        progress_is)

    pub turn_goes_on : passes r.status ≡ true
        → Going s last bytes output₀ p₀ output_left (progress_of r.player storage' keys') (at + r.read) (written + r.written) (n - 1)
    turn_goes_on e =
        rw (progress_is, read_is, written_is)
        (goes_on s last bytes output₀ p₀ output p at written n g some output_left put (passes_as true e) turn_keeps text_fits)

-- all turns are made
pub turns_end : (s : Settings) (last : Bool) (bytes output₀ : List ℕ) (p₀ : Progress) (output : List ℕ) (next : Player) (storage keys : List ℕ)
    (at written n : ℕ) → Going s last bytes output₀ p₀ output (progress_of next storage keys) at written n → n ≡ 0
    → play_outcome (record { player = next; read = at; written = written; status = Passed }) storage keys output
    ≡ play_outcome_of (played (length bytes + 1) s last (length output₀) p₀ bytes) output₀
turns_end s last bytes output₀ p₀ output next storage keys at written n g e =
    let ended = runs_out s last bytes output₀ p₀ output (progress_of next storage keys) at written n g e in
    let long : length (take written output) ≡ written = simp length-take (omega (arith, g.room, g.sized)) in
    rw (← ended, long, ← g.lined) refl
