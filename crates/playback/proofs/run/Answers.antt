-- What a turn writes lies within the output, and what it plays within the bytes that are held. Assumes nothing.
use Rattle.std.proofs.Common.{◌+◌, length, arith, length-take}
use Rattle.player.specs.Play.{progress_of}
use Rattle.playback.proofs.Fits.{reads_within, writes_within}
use Rattle.playback.proofs.run.Goals as goal

pub slice_bounds-output-end : goal.slice_bounds-output-end
slice_bounds-output-end g c =
    let bytes = c.as_slice-bytes.result.now in
    let progress = progress_of c.loop.player c.loop.storage c.loop.keys in
    let kept = c.play-played.auto.output in
    let within =
    writes_within (length bytes + 1) c.settings.result c.in_ok-last.last progress bytes c.loop.output _ _ _ _
    c.play-played.ensures kept in
    omega (arith, within, kept)

pub slice_bounds-text-end : goal.slice_bounds-text-end
slice_bounds-text-end g c =
    let bytes = c.as_slice-bytes.result.now in
    let progress = progress_of c.loop.player c.loop.storage c.loop.keys in
    let kept = c.play-played.auto.output in
    let within =
    writes_within (length bytes + 1) c.settings.result c.in_ok-last.last progress bytes c.loop.output _ _ _ _
    c.play-played.ensures kept in
    simp length-take (omega (arith, within, kept))

pub consume-requires : goal.consume-requires
consume-requires g c =
    let bytes = c.as_slice-bytes.result.now in
    let progress = progress_of c.loop.player c.loop.storage c.loop.keys in
    let within =
    reads_within (length bytes + 1) c.settings.result c.in_ok-last.last progress bytes c.loop.output _ _ _ _
    c.play-played.ensures in
    rw c.as_slice-bytes.ensures at within
