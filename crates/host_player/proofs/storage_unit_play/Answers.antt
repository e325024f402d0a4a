-- The call is refused by settings or length, or it is what `play` leaves. Assumes nothing.
use mathlib.Core.Path.{sym, ◌∙◌}
use borrow.Author.Tests.{ltb-false}
use Rattle.boundary.proofs.Settings.{settings_fit, settings_unfit}
use Rattle.host_player.proofs.Calls.{settings_refused, player_refused, call_played_lem}
use Rattle.host_player.proofs.storage_unit_play.Goals as goal

pub returns-in_default : goal.returns-in_default
returns-in_default c =
    settings_refused _ _ _ _ c.args.piece.now c.args.last _ (ltb-false _ _ (settings_unfit _ _ (sym c.settings_in.ensures ∙ c.in_default.is)).0)

pub returns-in-None : goal.returns-in-None
returns-in-None c =
    let (few, set) = settings_fit _ _ (sym c.settings_in.ensures ∙ c.in-Ok.is) in
    player_refused _ _ _ _ c.args.piece.now c.args.last _ few c.in-None.ensures.cases

pub returns-in-Some : goal.returns-in-Some
returns-in-Some c =
    let (few, set) = settings_fit _ _ (sym c.settings_in.ensures ∙ c.in-Ok.is) in
    let whole = c.in-Some.ensures.cases in
    call_played_lem c.args.settings c.args.storage.now c.args.keys.now c.args.player.now
    c.args.piece.now c.args.last c.args.output.now few whole.long _ (rw whole.same at c.player_in-before.ensures) _
    set _ _ _ _ _ _ c.play-played.ensures (rw whole.same at c.put_player.ensures) c.status_number.ensures
