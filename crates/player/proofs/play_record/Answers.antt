-- `play_record` tests room and ordinals, reads the record, and leaves what the two ways do. Assumes nothing.
use native.Mathlib.Omega.{arith}
use mathlib.Core.Path.{◌≡◌}
use lib.ListN.{length-take}
use Rattle.std.proofs.Common.{rules}
use Rattle.trace.specs.Trace.{ARequest, read_of}
use Rattle.player.specs.Play.{progress_of, read_played}
use Rattle.player.proofs.Records.{no_room, no_ordinals, is_read, in_front}
use Rattle.player.proofs.play_record.Goals as goal

pub returns-in_default : goal.returns-in_default
returns-in_default c = rw (no_room _ _ _ _ _ c.in_default.ensures.cases) (c.stopped.ensures _ _ _)

pub returns-in_default-new : goal.returns-in_default-new
returns-in_default-new c =
    let room = c.in-Some.ensures.cases in
    let limit = no_ordinals c.args.settings c.args.last _ (progress_of c.args.player c.args.storage.now c.args.keys.now) c.args.bytes.now room.enough
    c.in_default-new.ensures in
    in_front c.stopped-in_default-new.result c.args.storage.now c.args.keys.now _ c.args.output.now c.in-Some.line.now room.enough
    (rw (limit, room.same) (c.stopped-in_default-new.ensures _ _ _)) (rw room.same (simp length-take (omega arith)))

pub returns-in_default-found : goal.returns-in_default-found
returns-in_default-found c =
    let room = c.in-Some.ensures.cases in
    let ready = c.in-Some-new.ensures in
    let read = is_read c.args.settings c.args.last _ (progress_of c.args.player c.args.storage.now c.args.keys.now) c.args.bytes.now room.enough
    ready.1 in
    let left = rw (ready.0, room.same, c.read_record-found.ensures) at (c.aside.ensures.outcome c.args.settings c.args.storage.now c.args.keys.now) in
    in_front c.aside.result c.args.storage.now c.args.keys.now _ c.args.output.now c.aside.new.line room.enough
    (rw read left) c.aside.ensures.room

pub returns : goal.returns
unfolding read_played
returns c =
    let room = c.in-Some.ensures.cases in
    let ready = c.in-Some-new.ensures in
    let read = is_read c.args.settings c.args.last _ (progress_of c.args.player c.args.storage.now c.args.keys.now) c.args.bytes.now room.enough
    ready.1 in
    let request : read_of c.args.bytes.now ≡ ARequest c.in-Ok-Request.processor_number c.in-Ok-Request.request c.in-Ok-Request.size = search rules in
    let left = rw (ready.0, room.same) at c.play.ensures.outcome in
    in_front c.play.result c.play.new.storage c.play.new.keys _ c.args.output.now c.play.new.line room.enough
    (rw (read, request) left) c.play.ensures.room
