-- A recording that comes in parts is played as the whole: what a call writes is the front of what the run writes, and the rest of the run goes
-- on from what it leaves. A record that was read, or that can be judged, stays the same whatever bytes follow.
-- Assumes nothing.
use Prim.Native.Nat.{ℕ, zero, suc, ◌+◌, ◌-◌}
use native.Mathlib.Omega.{arith}
use mathlib.Core.Path.{◌≡◌, refl, sym, ap, ◌∙◌}
use mathlib.Core.Bool.{Bool, true, false, cond, ◌||◌}
use mathlib.Core.List.{List, [], ◌++◌, append_assoc, append-nil}
use lib.ListN.{length, drop, length-drop}
use lib.Seq.{drop-drop, drop-append-le, take-append-le}
use lib.Dec.{ltb}
use Rattle.machine.specs.declared.Settings.{Settings}
use Rattle.machine.specs.declared.Request.{Request}
use Rattle.machine.specs.declared.Request.TheVariants.{Access, Key, Prefix}
use Rattle.machine.specs.declared.AccessKind.TheVariants.{Fetch, Store}
use Rattle.machine.specs.Turns.{Turn}
use Rattle.machine.proofs.Verdicts.{not_both}
use Rattle.trace.specs.Trace.{Read, ARequest, Remark, Bad, End, read_of}
use Rattle.trace.proofs.Front.{size_within, store_size, remark_within, stable_request, stable_remark}
use Rattle.player.specs.declared.Status.{Status}
use Rattle.player.specs.declared.Status.TheVariants.{Passed, More, Ended, Room, Limit}
use Rattle.player.specs.Text.{bad_text}
use Rattle.player.specs.Run.{Progress, turn_of, buffer_of, after_request, after_other, line_of, Run, line_then, on_read, run_from, text_of_lines, text_of}
use Rattle.player.specs.Play.{Left, left, request_played, judged, bad_played, read_played, ordinals_used, record_played, passes, then, played}
use Rattle.player.specs.Parts.{text_from, state_from, is_ended, text_after, state_after, FrontOfRun, PlayIsRun}
use Rattle.player.proofs.Judged.{judged_stays}
use Rattle.player.proofs.Runs.{run_begins, text_behind}

-- the bytes that follow change nothing in the turn of a request
buffer_stays : (bytes t : List ℕ) (n : ℕ) (r : Request) (size : ℕ) → read_of bytes ≡ ARequest n r size
    → buffer_of r (bytes ++ t) size ≡ buffer_of r bytes size
buffer_stays bytes t n (Access Store address count) size e =
    let within = size_within bytes n (Access Store address count) size e in
    let least : size ≡ 11 + count = store_size bytes n address count size e in
    rw (drop-append-le 11 bytes t (omega arith)) (take-append-le (size - 11) (drop 11 bytes) t (rw (length-drop 11 bytes) (omega arith)))
buffer_stays bytes t n (Access Fetch address count) size e = refl
buffer_stays bytes t n (Key i) size e = refl
buffer_stays bytes t n (Prefix i) size e = refl

turn_stays : (bytes t : List ℕ) (n : ℕ) (r : Request) (size : ℕ) → read_of bytes ≡ ARequest n r size → turn_of n r (bytes ++ t) size ≡ turn_of n r bytes size
turn_stays bytes t n r size e =
    ap (λ (b : List ℕ). record { processor_number = n; request = r; buffer = b }) (buffer_stays bytes t n r size e)

module _ (s : Settings) (last : Bool) (p : Progress) (bytes t : List ℕ) (nothing_behind : last ≡ true → t ≡ []) where
  abbrev Front : Left → Type 0
  Front o = FrontOfRun s p bytes t o

  -- the run of all the bytes, by what stands in front of them
  begins : (found : Read) → read_of (bytes ++ t) ≡ found
      → run_from (length (bytes ++ t)) s p (bytes ++ t) ≡ on_read found s p (bytes ++ t) (λ q b. run_from (length b) s q b)
  begins found e =
      run_begins s p (bytes ++ t) ∙ ap (λ (x : Read). on_read x s p (bytes ++ t) (λ q b. run_from (length b) s q b)) e

  request_begins : (n : ℕ) (r : Request) (size : ℕ) → read_of bytes ≡ ARequest n r size
      → run_from (length (bytes ++ t)) s p (bytes ++ t)
      ≡ line_then (line_of s p (turn_of n r bytes size))
      (run_from (length (drop size bytes ++ t)) s (after_request s p (turn_of n r bytes size)) (drop size bytes ++ t))
  unfolding on_read
  request_begins n r size e =
      let run : Turn → List ℕ → Run = λ u b. line_then (line_of s p u) (run_from (length b) s (after_request s p u) b) in
      begins (ARequest n r size) (stable_request bytes t n r size e)
      ∙ ap (λ u. run u (drop size (bytes ++ t))) (turn_stays bytes t n r size e)
      ∙ ap (run (turn_of n r bytes size)) (drop-append-le size bytes t (size_within bytes n r size e).1)

  request_front : (n : ℕ) (r : Request) (size : ℕ) → read_of bytes ≡ ARequest n r size → Front (request_played s p (turn_of n r bytes size) size)
  unfolding request_played
  request_front n r size e =
      let run = request_begins n r size e in
      record {
        text = ap text_of run ∙ text_behind (line_of s p (turn_of n r bytes size)) _;
        state = ap (λ (x : Run). x.state) run;
      }

  remark_front : (size : ℕ) → read_of bytes ≡ Remark size → Front (left [] (after_other p) size Passed)
  unfolding on_read
  remark_front size e =
      let run : run_from (length (bytes ++ t)) s p (bytes ++ t) ≡ run_from (length (drop size bytes ++ t)) s (after_other p) (drop size bytes ++ t) =
      begins (Remark size) (stable_remark bytes t size e)
      ∙ ap (λ (b : List ℕ). run_from (length b) s (after_other p) b) (drop-append-le size bytes t (remark_within bytes size e).1) in
      record { text = ap text_of run; state = ap (λ (x : Run). x.state) run }

  -- where nothing comes behind the bytes, they are all
  all_here : last ≡ true → bytes ++ t ≡ bytes
  all_here l = ap (λ (b : List ℕ). bytes ++ b) (nothing_behind l) ∙ append-nil bytes

  is_bad : read_of bytes ≡ Bad → (l d : Bool) → last ≡ l → judged bytes ≡ d → (l || d) ≡ true → read_of (bytes ++ t) ≡ Bad
  is_bad e true d l k h = ap read_of (all_here l) ∙ e
  is_bad e false true l k h = judged_stays bytes t k ∙ e
  is_bad e false false l k h = absurd (not_both h refl)

  bad_front : read_of bytes ≡ Bad → (b : Bool) → (last || judged bytes) ≡ b
      → Front (cond b (left (bad_text (p.records + 1)) (after_other p) 0 Ended) (left [] p 0 More))
  unfolding on_read text_of text_of_lines
  bad_front e true h =
      let run = begins Bad (is_bad e last (judged bytes) refl refl h) in
      record { text = ap text_of run ∙ sym (append-nil (bad_text (p.records + 1))); state = ap (λ (x : Run). x.state) run }
  bad_front e false h = record { text = refl; state = refl }

  end_front : read_of bytes ≡ End → (b : Bool) → last ≡ b → Front (left [] p 0 (cond b Ended More))
  unfolding on_read text_of text_of_lines
  end_front e true l =
      let run = begins End (ap read_of (all_here l) ∙ e) in
      record { text = ap text_of run; state = ap (λ (x : Run). x.state) run }
  end_front e false l = record { text = refl; state = refl }

  read_front : (found : Read) → read_of bytes ≡ found → Front (read_played found s last p bytes)
  unfolding read_played bad_played
  read_front (ARequest n r size) e = request_front n r size e
  read_front (Remark size) e = remark_front size e
  read_front Bad e = bad_front e (last || judged bytes) refl
  read_front End e = end_front e last refl

  tested_front : (full used : Bool)
      → Front (cond full (left [] p 0 Room) (cond used (left [] p 0 Limit) (read_played (read_of bytes) s last p bytes)))
  tested_front true used = record { text = refl; state = refl }
  tested_front false true = record { text = refl; state = refl }
  tested_front false false = read_front (read_of bytes) refl

  pub record_is_run : (room : ℕ) → Front (record_played s last room p bytes)
  unfolding record_played
  record_is_run room = tested_front (ltb room 64) (ordinals_used p)

-- a call that does not end the run, and then what goes on from it
pub then_front : (s : Settings) (p : Progress) (bytes t : List ℕ) (o next : Left) → is_ended o.status ≡ false → FrontOfRun s p bytes t o
    → FrontOfRun s o.progress (drop o.read bytes) t next → FrontOfRun s p bytes t (then o next)
then_front s p bytes t o next h first second = record {
  text =
      first.text
      ∙ ap (λ (b : Bool). o.text ++ cond b [] (text_from s o.progress rest)) h
      ∙ ap (λ (x : List ℕ). o.text ++ x) second.text
      ∙ sym (append_assoc o.text next.text (text_after next.status s next.progress (drop next.read (drop o.read bytes) ++ t)))
      ∙ ap (λ (b : List ℕ). o.text ++ next.text ++ text_after next.status s next.progress (b ++ t)) (drop-drop next.read o.read bytes);
  state =
      first.state
      ∙ ap (λ (b : Bool). cond b o.progress.state (state_from s o.progress rest)) h
      ∙ second.state
      ∙ ap (λ (b : List ℕ). state_after next.status s next.progress (b ++ t)) (drop-drop next.read o.read bytes);
}
  where
    rest : List ℕ
    rest = drop o.read bytes ++ t

passed_goes_on : (x : Status) → passes x ≡ true → is_ended x ≡ false
passed_goes_on Passed e = refl
passed_goes_on More e = refl
passed_goes_on Ended e = absurd (not_both e refl)
passed_goes_on Room e = refl
passed_goes_on Limit e = refl

chosen : (s : Settings) (p : Progress) (bytes t : List ℕ) (o next : Left) (b : Bool) → passes o.status ≡ b → FrontOfRun s p bytes t o
    → FrontOfRun s o.progress (drop o.read bytes) t next → FrontOfRun s p bytes t (cond b (then o next) o)
chosen s p bytes t o next true e first second = then_front s p bytes t o next (passed_goes_on o.status e) first second
chosen s p bytes t o next false e first second = first

pub play_is_run : PlayIsRun
unfolding played
play_is_run zero s last room p bytes t h = record { text = refl; state = refl }
play_is_run (suc n) s last room p bytes t h =
    let o : Left = record_played s last room p bytes in
    chosen s p bytes t o (played n s last (room - length o.text) o.progress (drop o.read bytes)) (passes o.status) refl
    (record_is_run s last p bytes t h room)
    (play_is_run n s last (room - length o.text) o.progress (drop o.read bytes) t h)
