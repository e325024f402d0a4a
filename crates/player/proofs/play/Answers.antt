-- `play` goes from record to record: the texts so far are in front of the output, and they and what is still to play are the whole.
-- Assumes nothing.
use native.Mathlib.Omega.{arith}
use Rattle.std.proofs.Common.{◌≡◌, ◌+◌, ◌-◌, length}
use mathlib.Core.Path.{refl, ap, ◌∙◌}
use Rattle.player.specs.declared.Status.{Status}
use Rattle.player.specs.declared.Status.TheVariants.{Passed}
use Rattle.player.specs.Play.{progress_of, passes}
use Rattle.player.proofs.Playing.{starts, turn_reads, turn_writes, turn_stops, turn_goes_on, turns_end, passed, not_passed}
use Rattle.player.proofs.play.Goals as goal

pub loop-init : goal.loop-init
loop-init c =
    let all : length c.args.bytes.now - 0 ≡ length c.args.bytes.now = omega arith in
    rw all (starts _ _ _ _ _, refl, refl)

pub overflow_add-all : goal.overflow_add-all
overflow_add-all c =
    let within = turn_reads _ _ _ _ _ _ (progress_of c.loop.all.player c.loop.storage c.loop.keys) _ _ _ c.loop.invariant.0
    c.play_record-part.result _ _ _
    c.play_record-part.ensures c.play_record-part.auto.output in
    omega (arith, within, c.well_formed)

pub overflow_add-all-in-loop : goal.overflow_add-all-in-loop
overflow_add-all-in-loop c =
    let within = turn_writes _ _ _ _ _ _ (progress_of c.loop.all.player c.loop.storage c.loop.keys) _ _ _ c.loop.invariant.0
    c.play_record-part.result _ _ _
    c.play_record-part.ensures c.play_record-part.auto.output in
    omega (arith, within, c.well_formed)

pub returns-then-ne : goal.returns-then-ne
returns-then-ne c =
    turn_stops _ _ _ _ _ _ (progress_of c.loop.all.player c.loop.storage c.loop.keys) _ _ _ c.loop.invariant.0
    c.play_record-part.result _ _ _
    c.play_record-part.ensures c.play_record-part.auto.output (omega arith) (not_passed _ c.if-ne.ensures)

pub loop-preserved : goal.loop-preserved
loop-preserved c =
    let left : length c.args.bytes.now - c.loop.counter + 1 - 1 ≡ length c.args.bytes.now - (c.loop.counter + 1) + 1 = omega arith in
    let going = turn_goes_on _ _ _ _ _ _ (progress_of c.loop.all.player c.loop.storage c.loop.keys) _ _ _ c.loop.invariant.0
    c.play_record-part.result _ _ _
    c.play_record-part.ensures c.play_record-part.auto.output (omega arith) (ap (λ (x : Status). passes x) (passed _ c.if-ne.ensures)) in
    (rw left at going, c.play_record-part.auto.storage ∙ c.loop.invariant.1, c.play_record-part.auto.keys ∙ c.loop.invariant.2)

pub returns-else-ne : goal.returns-else-ne
returns-else-ne c =
    let passed : c.play_record-part.result.status ≡ Passed = passed _ c.if-ne.ensures in
    let going = turn_goes_on _ _ _ _ _ _ (progress_of c.loop.all.player c.loop.storage c.loop.keys) _ _ _ c.loop.invariant.0
    c.play_record-part.result _ _ _
    c.play_record-part.ensures c.play_record-part.auto.output (omega arith) (ap (λ (x : Status). passes x) passed) in
    rw passed (turns_end _ _ _ _ _ _ _ _ _ _ _ _ going (omega arith))
