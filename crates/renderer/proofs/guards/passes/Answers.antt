use Rattle.std.proofs.Common.{◌+◌, Err, ap, sym, ◌∙◌, subst}
use Rattle.std.proofs.lemmas.Result.{err_from_is_err_and}
use Rattle.drawers.specs.Shown.{shows}
use Rattle.renderer.specs.Guards.{Judged, Passed}
use Rattle.renderer.proofs.Passing.{passed_holds, passed_fails, faulted_fails, passed_equals, passed_items, passed_always}
use Rattle.renderer.proofs.guards.passes.Goals as goal

pub returns-in_err-holds-in-Fails : goal.returns-in_err-holds-in-Fails
returns-in_err-holds-in-Fails c =
    let s = c.args.scene in
    let d = shows c.args.drawers.now in
    let a = c.args.arm in
    let (k, is, gave) = err_from_is_err_and c.from_residual.result c.from_residual.ensures.1 in
    let k = c.in_err-holds-in-Fails.field-0.0 in
    subst (Passed s c.args.frames.now d a c.args.node c.args.seen) (sym (is ∙ ap Err gave))
    (faulted_fails s c.args.frames.now d a c.args.node c.args.seen k c.in-Fails.is
    (subst (Judged s c.args.frames.now d (c.args.node + 1) a.body) c.in_err-holds-in-Fails.was c.holds-in-Fails.ensures))

pub returns-in-Holds : goal.returns-in-Holds
returns-in-Holds c = passed_holds c.args.scene c.args.frames.now (shows c.args.drawers.now) c.args.arm c.args.node c.args.seen c.holds.result c.in-Holds.is c.holds.ensures

pub returns-in_ok-holds-in-Fails : goal.returns-in_ok-holds-in-Fails
returns-in_ok-holds-in-Fails c =
    let s = c.args.scene in
    let d = shows c.args.drawers.now in
    let a = c.args.arm in
    passed_fails s c.args.frames.now d a c.args.node c.args.seen c.in_ok-holds-in-Fails.holds c.in-Fails.is
    (subst (Judged s c.args.frames.now d (c.args.node + 1) a.body) c.in_ok-holds-in-Fails.was c.holds-in-Fails.ensures)

pub returns-in-Equals : goal.returns-in-Equals
returns-in-Equals c = passed_equals c.args.scene c.args.frames.now (shows c.args.drawers.now) c.args.arm c.args.node c.args.seen c.in-Equals.values c.one_equal.result c.in-Equals.is c.one_equal.ensures

pub returns-in-HasItems : goal.returns-in-HasItems
returns-in-HasItems c = passed_items c.args.scene c.args.frames.now (shows c.args.drawers.now) c.args.arm c.args.node c.args.seen c.in-HasItems.is

pub returns-in-Always : goal.returns-in-Always
returns-in-Always c = passed_always c.args.scene c.args.frames.now (shows c.args.drawers.now) c.args.arm c.args.node c.args.seen c.in-Always.is
