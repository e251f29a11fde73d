use Rattle.std.proofs.Common.{Err, ap, sym, ◌∙◌, subst}
use Rattle.std.proofs.lemmas.Result.{err_from_is_err_and}
use Rattle.drawers.specs.Shown.{shows}
use Rattle.held.specs.Records.{held_in}
use Rattle.evaluation.specs.Values.{Evaluated}
use Rattle.meaning.specs.Blocks.{one_equal}
use Rattle.renderer.specs.Guards.{Answered}
use Rattle.renderer.proofs.Equals.{unequal_all, unequal_fault, unequal_found, unequal_more, unequal_none}
use Rattle.renderer.proofs.stdlib.blocks.case_block.one_equal.Goals as goal

pub loop-value-init : goal.loop-value-init
loop-value-init c all given = unequal_all c.args.scene c.args.frames.now (shows c.args.drawers.now) (held_in c.args.target) c.args.values c.entries-left.result.now all c.entries-left.ensures given

pub returns-in_err-value : goal.returns-in_err-value
returns-in_err-value c all given =
    let s = c.args.scene in
    let d = shows c.args.drawers.now in
    let v = held_in c.args.target in
    let (k, is, gave) = err_from_is_err_and c.from_residual.result c.from_residual.ensures.1 in
    let k = c.in_err-value.field-0.0 in
    subst (Answered s c.args.frames.now d (λ w. one_equal w all v)) (sym (is ∙ ap Err gave))
    (unequal_fault s c.args.frames.now d v c.loop-value.left.now c.in-Some.value.now c.in-Some.rest.now all k (c.loop-value.invariant all given) c.in-Some.ensures.cases.0
    (subst (Evaluated s c.args.frames.now d c.in-Some.value.now) c.in_err-value.was c.eval.ensures))

pub returns-then-same : goal.returns-then-same
returns-then-same c all given =
    let s = c.args.scene in
    let d = shows c.args.drawers.now in
    unequal_found s c.args.frames.now d (held_in c.args.target) c.loop-value.left.now c.in-Some.value.now c.in-Some.rest.now all c.in_ok-value.value c.same.result (c.loop-value.invariant all given)
    c.in-Some.ensures.cases.0 (subst (Evaluated s c.args.frames.now d c.in-Some.value.now) c.in_ok-value.was c.eval.ensures) (λ w fits. c.same.ensures w fits.host) c.if-same.true

pub loop-value-preserved : goal.loop-value-preserved
loop-value-preserved c all given =
    let s = c.args.scene in
    let d = shows c.args.drawers.now in
    unequal_more s c.args.frames.now d (held_in c.args.target) c.loop-value.left.now c.in-Some.value.now c.in-Some.rest.now all c.in_ok-value.value c.same.result (c.loop-value.invariant all given)
    c.in-Some.ensures.cases.0 (subst (Evaluated s c.args.frames.now d c.in-Some.value.now) c.in_ok-value.was c.eval.ensures) (λ w fits. c.same.ensures w fits.host) c.if-same.false

pub returns : goal.returns
returns c all given = unequal_none c.args.scene c.args.frames.now (shows c.args.drawers.now) (held_in c.args.target) c.loop-value.left.now all (c.loop-value.invariant all given) c.in_default.ensures.cases
