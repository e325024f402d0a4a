-- `play` goes from record to record: the texts so far are in front of the output, and they and what is still to play are the whole.
-- Assumes nothing.
use Rattle.std.proofs.Common.{◌≡◌, ◌+◌, ◌-◌, length}
use Rattle.player.specs.Play.{progress_of}
use Rattle.player.proofs.Playing.{Going}
use Rattle.player.proofs.play.Given as goal

abbrev pub invariant-loop : goal.invariant-loop
invariant-loop l =
    Going l.settings l.last l.bytes l.initial.output (progress_of l.initial.all.player l.initial.storage l.initial.keys)
    l.output (progress_of l.all.player l.storage l.keys) l.all.read l.all.written (length l.bytes - l.counter + 1)
    × (length l.storage ≡ length l.initial.storage)
    × (length l.keys ≡ length l.initial.keys)
