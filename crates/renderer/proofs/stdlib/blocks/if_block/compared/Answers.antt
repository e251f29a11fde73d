use Rattle.std.proofs.Common.{Err, ap, sym, ◌∙◌, subst}
use Rattle.std.proofs.lemmas.Result.{err_from_is_err_and}
use Rattle.drawers.specs.Shown.{shows}
use Rattle.evaluation.specs.Values.{Evaluated}
use Rattle.renderer.specs.Guards.{Compared}
use Rattle.renderer.proofs.Conditions.{compared_left, compared_right, compared_both}
use Rattle.renderer.proofs.stdlib.blocks.if_block.compared.Goals as goal

pub returns-in_err-left : goal.returns-in_err-left
returns-in_err-left c =
    let s = c.args.scene in
    let d = shows c.args.drawers.now in
    let (k, is, gave) = err_from_is_err_and c.from_residual.result c.from_residual.ensures.1 in
    let k = c.in_err-left.field-0.0 in
    subst (Compared s c.args.frames.now d c.args.left c.args.comparison c.args.right) (sym (is ∙ ap Err gave))
    (compared_left s c.args.frames.now d c.args.left c.args.comparison c.args.right k (subst (Evaluated s c.args.frames.now d c.args.left) c.in_err-left.was c.eval.ensures))

pub returns-in_err-right : goal.returns-in_err-right
returns-in_err-right c =
    let s = c.args.scene in
    let d = shows c.args.drawers.now in
    let (k, is, gave) = err_from_is_err_and c.from_residual-in_err-right.result c.from_residual-in_err-right.ensures.1 in
    let k = c.in_err-right.field-0.0 in
    subst (Compared s c.args.frames.now d c.args.left c.args.comparison c.args.right) (sym (is ∙ ap Err gave))
    (compared_right s c.args.frames.now d c.args.left c.args.comparison c.args.right c.in_ok-left.left k
    (subst (Evaluated s c.args.frames.now d c.args.left) c.in_ok-left.was c.eval.ensures)
    (subst (Evaluated s c.args.frames.now d c.args.right) c.in_err-right.was c.eval-2.ensures))

pub returns : goal.returns
returns c =
    let s = c.args.scene in
    let d = shows c.args.drawers.now in
    compared_both s c.args.frames.now d c.args.left c.args.comparison c.args.right c.in_ok-left.left c.in_ok-right.right c.compare.result
    (subst (Evaluated s c.args.frames.now d c.args.left) c.in_ok-left.was c.eval.ensures)
    (subst (Evaluated s c.args.frames.now d c.args.right) c.in_ok-right.was c.eval-2.ensures)
    c.compare.ensures
