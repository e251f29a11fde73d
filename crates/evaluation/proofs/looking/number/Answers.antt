use Rattle.std.proofs.Common.{rules, ap, sym, ◌∙◌, subst, Err}
use Rattle.std.proofs.lemmas.Result.{err_from_is_err_and}
use Rattle.drawers.specs.Shown.{shows}
use Rattle.evaluation.specs.Values.{Evaluated, NumberFound}
use Rattle.evaluation.proofs.Founds.{numbered, unnumbered}
use Rattle.evaluation.proofs.looking.number.Goals as goal

pub returns-in_err-value : goal.returns-in_err-value
returns-in_err-value c =
    let s = c.args.scene in
    let d = shows c.args.drawers.now in
    let (k, is, gave) = err_from_is_err_and c.from_residual.result c.from_residual.ensures.1 in
    let k = c.in_err-value.field-0.0 in
    subst (NumberFound s c.args.frames.now d c.args.value) (sym (is ∙ ap Err gave))
    (unnumbered s c.args.frames.now d c.args.value k (subst (Evaluated s c.args.frames.now d c.args.value) c.in_err-value.was c.eval.ensures))

pub returns : goal.returns
returns c =
    let d = shows c.args.drawers.now in
    numbered c.args.scene c.args.frames.now d c.args.value c.in_ok-value.value _ (subst (Evaluated c.args.scene c.args.frames.now d c.args.value) c.in_ok-value.was c.eval.ensures) (search rules)
