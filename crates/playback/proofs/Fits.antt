-- What a call of `play` reads lies within its bytes, and what it writes lies within its output, since the output keeps its length. Assumes nothing.
use Prim.Native.Nat.{ℕ, ◌≤◌}
use native.Mathlib.Omega.{arith}
use mathlib.Core.Path.{◌≡◌, sym, ap, subst, ◌∙◌}
use mathlib.Core.Bool.{Bool}
use mathlib.Core.List.{List}
use lib.ListN.{length, drop, length-append}
use Rattle.machine.specs.declared.Settings.{Settings}
use Rattle.player.specs.declared.Played.{Played}
use Rattle.player.specs.Text.{over}
use Rattle.player.specs.Run.{Progress}
use Rattle.player.specs.Play.{played, PlayOutcome, play_outcome, play_outcome_of}
use Rattle.player.proofs.Playing.{play_fits}

over_fits : (text d : List ℕ) → length (over text d) ≡ length d → length text ≤ length d
unfolding over
over_fits text d e = omega (arith, sym (length-append text (drop (length text) d)) ∙ e)

module _ (n : ℕ) (s : Settings) (last : Bool) (p : Progress) (bytes output output' storage keys : List ℕ) (r : Played)
    (left : play_outcome r storage keys output' ≡ play_outcome_of (played n s last (length output) p bytes) output) where
  pub reads_within : r.read ≤ length bytes
  reads_within =
      subst (λ (k : ℕ). k ≤ length bytes) (sym (ap (λ (o : PlayOutcome). o.read) left)) (play_fits n s last (length output) p bytes)

  pub writes_within : length output' ≡ length output → r.written ≤ length output
  writes_within kept =
      let text : List ℕ = (played n s last (length output) p bytes).text in
      let same : length (over text output) ≡ length output = sym (ap (λ (o : PlayOutcome). length o.output) left) ∙ kept in
      subst (λ (k : ℕ). k ≤ length output) (sym (ap (λ (o : PlayOutcome). o.written) left)) (over_fits text output same)
