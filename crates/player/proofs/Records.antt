-- One record: the tests of room and ordinals, and then what was read. Assumes nothing.
use Prim.Native.Nat.{ℕ, ◌≤◌, ◌<◌}
use native.Mathlib.Omega.{arith}
use mathlib.Core.Path.{◌≡◌, refl, sym, ap, ◌∙◌}
use mathlib.Core.Bool.{Bool, true, false, ◌||◌}
use mathlib.Core.List.{List, [], ◌++◌, append_assoc}
use lib.ListN.{length, take, drop, length-take, length-append, take-append-drop}
use lib.Dec.{eqb}
use lib.Seq.{drop-append-le}
use borrow.Author.Tests.{lt-ltb, le-ltb, eqb-false}
use Rattle.machine.specs.declared.Settings.{Settings}
use Rattle.machine.proofs.Verdicts.{not_both}
use Rattle.trace.specs.Trace.{read_of}
use Rattle.player.specs.declared.Played.{Played}
use Rattle.player.specs.declared.Status.TheVariants.{Room, Limit}
use Rattle.player.specs.Text.{over}
use Rattle.player.specs.Run.{Progress}
use Rattle.player.specs.Play.{Left, left, read_played, ordinals_used, record_played, PlayOutcome, play_outcome, play_outcome_of}

module _ (s : Settings) (last : Bool) (room : ℕ) (p : Progress) (bytes : List ℕ) where
  pub no_room : room < 64 → record_played s last room p bytes ≡ left [] p 0 Room
  unfolding record_played
  no_room h = simp (lt-ltb _ _ h)

  module _ (h : 64 ≤ room) where
    pub no_ordinals : ordinals_used p ≡ true → record_played s last room p bytes ≡ left [] p 0 Limit
    unfolding record_played
    no_ordinals u = simp (le-ltb _ _ h, u)

    pub is_read : ordinals_used p ≡ false → record_played s last room p bytes ≡ read_played (read_of bytes) s last p bytes
    unfolding record_played
    is_read u = simp (le-ltb _ _ h, u)

pub neither : (a b : Bool) → (a || b) ≡ false → (a ≡ false) × (b ≡ false)
neither false false e = (refl, refl)
neither false true e = (refl, e)
neither true b e = absurd (not_both refl e)

-- another ordinal is left
pub ordinals_left : (records requests : ℕ) → (eqb records 18446744073709551615 || eqb requests 18446744073709551615) ≡ false
    → records ≤ 18446744073709551615 → requests ≤ 18446744073709551615
    → (records < 18446744073709551615) × (requests < 18446744073709551615)
ordinals_left records requests e m n =
    let (a, b) = neither (eqb records 18446744073709551615) (eqb requests 18446744073709551615) e in
    (below records m (eqb-false _ _ a), below requests n (eqb-false _ _ b))
  where
    below : (k : ℕ) → k ≤ 18446744073709551615 → (k ≡ 18446744073709551615 → ⊥) → k < 18446744073709551615
    below k h f = omega arith

-- what is left of the room for a line is left of the output that the room is in front of
module _ (r : Played) (storage keys : List ℕ) (o : Left) (output line : List ℕ) (room : 64 ≤ length output) where
  pub in_front : play_outcome r storage keys line ≡ play_outcome_of o (take 64 output) → length line ≡ 64
      → play_outcome r storage keys (line ++ drop 64 output) ≡ play_outcome_of o output
  unfolding over
  in_front e long =
      let line_is : line ≡ o.text ++ drop (length o.text) (take 64 output) = ap (λ (x : PlayOutcome). x.output) e in
      let fits : length o.text ≤ length (take 64 output) =
      simp length-take (omega (arith, sym long ∙ ap length line_is ∙ length-append o.text (drop (length o.text) (take 64 output)))) in
      let rest : drop (length o.text) (take 64 output) ++ drop 64 output ≡ drop (length o.text) output =
      sym (drop-append-le (length o.text) (take 64 output) (drop 64 output) fits) ∙ ap (drop (length o.text)) (take-append-drop 64 output) in
      ap (λ (x : PlayOutcome). record {
        progress = x.progress;
        read = x.read;
        written = x.written;
        status = x.status;
        output = line ++ drop 64 output;
      }) e
      ∙ rw (line_is, append_assoc, rest) refl
