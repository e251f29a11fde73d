use Rattle.std.proofs.Common.{◌≡◌, ap, sym, ◌∙◌, subst, Ok, Err, Some}
use Rattle.std.proofs.lemmas.Result.{err_from_is_err_and}
use Rattle.drawers.specs.Shown.{shows}
use Rattle.evaluation.specs.Values.{Evaluated}
use Rattle.evaluation.specs.Chains.{Argued}
use Rattle.evaluation.proofs.Filtered.{argued_none, argued_some, argued_not}
use Rattle.evaluation.proofs.chains.argument.Goals as goal

pub returns-in_err-eval-in-Some : goal.returns-in_err-eval-in-Some
returns-in_err-eval-in-Some c =
    let s = c.args.scene in
    let d = shows c.args.drawers.now in
    let (k, is, gave) = err_from_is_err_and c.from_residual.result c.from_residual.ensures.1 in
    let k = c.in_err-eval-in-Some.field-0.0 in
    subst (λ x. Argued s c.args.frames.now d x c.from_residual.result) (sym c.in-Some.is)
    (subst (Argued s c.args.frames.now d (Some c.in-Some.value)) (sym (is ∙ ap Err gave))
    (argued_not s c.args.frames.now d c.in-Some.value k (subst (Evaluated s c.args.frames.now d c.in-Some.value) c.in_err-eval-in-Some.was c.eval.ensures)))

pub returns-in-None : goal.returns-in-None
returns-in-None c =
    let s = c.args.scene in
    let d = shows c.args.drawers.now in
    subst (λ x. Argued s c.args.frames.now d x (Ok Rattle.std.proofs.Common.None)) (sym c.in-None.is) (argued_none s c.args.frames.now d)

pub returns-in_ok-eval-in-Some : goal.returns-in_ok-eval-in-Some
returns-in_ok-eval-in-Some c =
    let s = c.args.scene in
    let d = shows c.args.drawers.now in
    subst (λ x. Argued s c.args.frames.now d x (Ok (Some c.in_ok-eval-in-Some.field-0))) (sym c.in-Some.is)
    (argued_some s c.args.frames.now d c.in-Some.value c.in_ok-eval-in-Some.field-0 (subst (Evaluated s c.args.frames.now d c.in-Some.value) c.in_ok-eval-in-Some.was c.eval.ensures))
