-- `enter` takes the settings, then the record by its state. Assumes nothing.
use Rattle.std.proofs.Common.{arith, sym, ◌∙◌, refl}
use Rattle.std.proofs.lemmas.Result.{err_from_is_err_and}
use Rattle.machine.specs.Answers.{first_of}
use Rattle.boundary.proofs.Settings.{settings_fit}
use Rattle.host_access.proofs.Accesses.{record_read_lem, settings_refused, record_refused}
use Rattle.host_access.proofs.enter.Goals as goal

pub returns-in_err-settings : goal.returns-in_err-settings
returns-in_err-settings c =
    let p = err_from_is_err_and c.from_residual.result c.from_residual.ensures.1 in
    rw (p.1, p.2) (settings_refused _ _ _ _ _ (sym c.settings_in.ensures ∙ c.in_err-settings.was))

pub returns-in_err-configuration_line : goal.returns-in_err-configuration_line
unfolding first_of
returns-in_err-configuration_line c =
    let p = err_from_is_err_and c.from_residual-in_err-configuration_line.result c.from_residual-in_err-configuration_line.ensures.1 in
    let fit = settings_fit c.args.settings _ (sym c.settings_in.ensures ∙ c.in_ok-settings.was) in
    let wrong = rw (c.is_valid.ensures, c.words_in-words.ensures) at c.if-not-is_valid.true in
    let found = rw (c.of.ensures, fit.1) at (sym c.configuration_line.ensures ∙ c.in_err-configuration_line.was) in
    rw (p.1, p.2) (record_refused c.args.settings _ c.args.storage.now c.args.keys.now c.args.«record» fit.0 wrong found)

pub returns-then-not-is_valid : goal.returns-then-not-is_valid
unfolding first_of
returns-then-not-is_valid c =
    let fit = settings_fit c.args.settings _ (sym c.settings_in.ensures ∙ c.in_ok-settings.was) in
    let wrong = rw (c.is_valid.ensures, c.words_in-words.ensures) at c.if-not-is_valid.true in
    let found = rw (c.of.ensures, fit.1) at (sym c.configuration_line.ensures ∙ c.in_ok-configuration_line.was) in
    record_refused c.args.settings _ c.args.storage.now c.args.keys.now c.args.«record» fit.0 wrong found

pub returns : goal.returns
returns c =
    let fit = settings_fit c.args.settings _ (sym c.settings_in.ensures ∙ c.in_ok-settings.was) in
    let valid = rw (c.is_valid.ensures, c.words_in-words.ensures) at c.if-not-is_valid.false in (
      fit.0,
      fit.1,
      rw (c.into.ensures, c.words_in-words.ensures) (record_read_lem c.args.«record» (omega (arith, c.ranges.«record»)) valid),
    )
