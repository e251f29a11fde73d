use Rattle.std.proofs.Common.{subst, sym, ap, ◌∙◌, Err}
use Rattle.std.proofs.lemmas.Result.{err_from_is_err_and}
use Rattle.drawers.specs.Shown.{shows}
use Rattle.evaluation.specs.Values.{Evaluated}
use Rattle.renderer.specs.Openings.{CaseOpened}
use Rattle.renderer.proofs.Opening.{case_opened, case_lost}
use Rattle.renderer.proofs.openings.open_case.Goals as goal

pub returns-in_err-value : goal.returns-in_err-value
returns-in_err-value c =
    let d = shows c.args.drawers.now in
    let r = c.from_residual in
    let (k, is, gave) = err_from_is_err_and r.result r.ensures.1 in
    subst (CaseOpened c.args.scene c.args.frames.now d c.args.target) (sym (is ∙ ap Err gave))
    (case_lost c.args.scene c.args.frames.now d c.args.target c.in_err-value.field-0.0 (subst (Evaluated c.args.scene c.args.frames.now d c.args.target) c.in_err-value.was c.eval.ensures))

pub returns : goal.returns
returns c =
    let d = shows c.args.drawers.now in
    case_opened c.args.scene c.args.frames.now d c.args.target c.in_ok-value.value (subst (Evaluated c.args.scene c.args.frames.now d c.args.target) c.in_ok-value.was c.eval.ensures)
