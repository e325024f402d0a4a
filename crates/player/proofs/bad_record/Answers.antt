-- `bad_record` puts the line of a bad record that ends the run, and else leaves all as it was. Assumes nothing.
use mathlib.Core.Path.{◌≡◌, sym, ◌∙◌}
use mathlib.Core.Bool.{true, ◌||◌}
use Rattle.std.proofs.Common.{rules}
use Rattle.player.specs.Play.{judged}
use Rattle.player.proofs.Asides.{bad_decided, bad_undecided}
use Rattle.player.proofs.bad_record.Goals as goal
use Rattle.player.proofs.bad_record.Goals.{else-not-last-via-then-not-last+else-not-can_be_judged, else-not-last-via-else-not-last}

pub returns-then-not-can_be_judged : goal.returns-then-not-can_be_judged
returns-then-not-can_be_judged c =
    bad_undecided c.args.ready.player c.args.bytes.now c.args.last _ _
    (rw c.if-not-last.true (sym c.can_be_judged.ensures ∙ c.if-not-can_be_judged.true)) c.stopped.ensures

pub returns : goal.returns
returns c =
    let decided : (c.args.last || judged c.args.bytes.now) ≡ true = elim c.else-not-last.branch [
      | else-not-last-via-then-not-last+else-not-can_be_judged w ↦ search (rules, w.can_be_judged.ensures)
      | else-not-last-via-else-not-last w ↦ search rules
    ] in
    bad_decided c.args.ready.player c.args.bytes.now c.args.last _ _ _ _ decided c.after_other-after.ensures c.put_bad.ensures
