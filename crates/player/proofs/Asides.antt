-- What is no request: a remark, a bad record and the end of the bytes leave what the definitions say. Assumes nothing.
use Prim.Native.Nat.{ℕ}
use mathlib.Core.Path.{◌≡◌, refl, ap}
use mathlib.Core.Bool.{Bool, true, false, ◌||◌}
use mathlib.Core.List.{List, []}
use lib.ListN.{length}
use Rattle.machine.specs.declared.Settings.{Settings}
use Rattle.machine.specs.declared.Request.{Request}
use Rattle.machine.proofs.Verdicts.{not_both}
use Rattle.std.specs.Prelude.{Ok}
use Rattle.trace.specs.declared.Item.{Item}
use Rattle.trace.specs.declared.Item.TheVariants as item
use Rattle.trace.specs.Trace.{size_of, Read, ARequest, Remark, Bad, End}
use Rattle.player.specs.declared.Player.{Player}
use Rattle.player.specs.declared.Played.{Played}
use Rattle.player.specs.declared.Status.TheVariants.{Passed, Ended, More}
use Rattle.player.specs.Text.{over, bad_text}
use Rattle.player.specs.Run.{Progress, after_other}
use Rattle.player.specs.Play.{progress_of, left, judged, bad_played, end_played, is_request, read_played, play_outcome, play_outcome_of}

pub no_request : (found : Read) → ((n : ℕ) (r : Request) (size : ℕ) → found ≡ ARequest n r size → ⊥) → is_request found ≡ false
no_request (ARequest n r size) h = absurd (h n r size refl)
no_request (Remark size) h = refl
no_request Bad h = refl
no_request End h = refl

module _ (p : Player) (bytes : List ℕ) (last : Bool) (output : List ℕ) where
  pub bad_decided : (p' : Player) (written : ℕ) (output' : List ℕ) → (last || judged bytes) ≡ true
      → ((storage keys : List ℕ) → progress_of p' storage keys ≡ after_other (progress_of p storage keys))
      → (written ≡ length (bad_text p'.records)) × (output' ≡ over (bad_text p'.records) output)
      → (storage keys : List ℕ) → play_outcome (record { player = p'; read = 0; written = written; status = Ended }) storage keys output'
      ≡ play_outcome_of (bad_played last (progress_of p storage keys) bytes) output
  unfolding bad_played
  bad_decided p' written output' d counted w storage keys =
      rw (d, w.0, w.1)
      (ap
      (λ (q : Progress). record {
        progress = q;
        read = 0;
        written = length (bad_text q.records);
        status = Ended;
        output = over (bad_text q.records) output;
      })
      (counted storage keys))

  pub bad_undecided : (r : Played) → (last || judged bytes) ≡ false
      → ((storage keys output : List ℕ) → play_outcome r storage keys output ≡ play_outcome_of (left [] (progress_of p storage keys) 0 More) output)
      → (storage keys : List ℕ) → play_outcome r storage keys output ≡ play_outcome_of (bad_played last (progress_of p storage keys) bytes) output
  unfolding bad_played
  bad_undecided r d stopped storage keys = rw d (stopped storage keys output)

  pub remark_left : (found : Read) (x : Item) (size : ℕ) (p' : Player) → is_request found ≡ false → found ≡ Ok x → size ≡ size_of x
      → ((storage keys : List ℕ) → progress_of p' storage keys ≡ after_other (progress_of p storage keys))
      → (s : Settings) (storage keys : List ℕ)
      → play_outcome (record { player = p'; read = size; written = 0; status = Passed }) storage keys output
      ≡ play_outcome_of (read_played found s last (progress_of p storage keys) bytes) output
  unfolding read_played over
  remark_left found (item.Request n r size) size' p' told f e counted s storage keys = absurd (not_both (ap (λ (x : Read). is_request x) f) told)
  remark_left found (item.Remark size) size' p' told f e counted s storage keys =
      rw (f, e)
      (ap (λ (q : Progress). record { progress = q; read = size; written = 0; status = Passed; output = output }) (counted storage keys))

  pub bad_left : (found : Read) (r : Played) (output' : List ℕ) → found ≡ Bad
      → ((storage keys : List ℕ) → play_outcome r storage keys output' ≡ play_outcome_of (bad_played last (progress_of p storage keys) bytes) output)
      → (s : Settings) (storage keys : List ℕ)
      → play_outcome r storage keys output' ≡ play_outcome_of (read_played found s last (progress_of p storage keys) bytes) output
  unfolding read_played
  bad_left found r output' f bad s storage keys = rw f (bad storage keys)

  pub end_left : (found : Read) (r : Played) → found ≡ End
      → ((storage keys output : List ℕ) → play_outcome r storage keys output ≡ play_outcome_of (end_played last (progress_of p storage keys)) output)
      → (s : Settings) (storage keys : List ℕ)
      → play_outcome r storage keys output ≡ play_outcome_of (read_played found s last (progress_of p storage keys) bytes) output
  unfolding read_played
  end_left found r f ended s storage keys = rw f (ended storage keys output)
