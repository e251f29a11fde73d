use Rattle.std.proofs.Common.{◌≡◌, ◌-◌, ◌<◌, ◌≤◌, Err, ap, refl, sym, ◌∙◌, subst, arith}
use Rattle.std.proofs.lemmas.Result.{err_from_is_err_and}
use Rattle.drawers.specs.Shown.{shows}
use Rattle.renderer.specs.Guards.{from, Passed, Taken}
use Rattle.renderer.proofs.Taking.{start, starts, taken_fault, taken_here, untaken_more, taken_otherwise}
use Rattle.renderer.proofs.guards.choose.Goals as goal

pub returns-in_err-passes-clause-taken : goal.returns-in_err-passes-clause-taken
returns-in_err-passes-clause-taken c room r given =
    let s = c.args.scene in
    let d = shows c.args.drawers.now in
    let a = c.in-Some.arm in
    let (k, is, gave) = err_from_is_err_and c.from_residual.result c.from_residual.ensures.1 in
    let k = c.in_err-passes.field-0.0 in
    subst (Taken s c.args.frames.now d room c.args.seen r) (sym (is ∙ ap Err gave))
    (taken_fault s c.args.frames.now d c.args.seen room c.args.end c.loop-node.left c.in-Some.node a r k (c.loop-node.invariant.1 room r given) (c.in-Some.ensures.found c.in-Some.node a refl)
    (subst (Passed s c.args.frames.now d a c.in-Some.node c.args.seen) c.in_err-passes.was c.passes.ensures))

pub returns-then-branch-clause-within : goal.returns-then-branch-clause-within
returns-then-branch-clause-within c x is =
    let come = c.in-Some.ensures.found c.in-Some.node c.in-Some.arm refl in
    let first = (starts c.args.scene.book.nodes.now c.loop-node.left c.in-Some.node c.in-Some.arm come.is).1 in
    let all = c.loop-node.invariant.0 in
    let behind = come.behind in
    subst (λ x. (from c.args.first ≤ x.body) × (x.body ≤ x.end) × (x.end ≤ c.args.end)) (let same : record { guard = c.in-Some.arm.guard; body = c.in-Some.arm.body; end = c.in-Some.arm.next } ≡ x = cc in same)
    (omega arith, come.order, come.before)

pub returns-then-branch-clause-taken : goal.returns-then-branch-clause-taken
returns-then-branch-clause-taken c room r given =
    let s = c.args.scene in
    let d = shows c.args.drawers.now in
    let a = c.in-Some.arm in
    taken_here s c.args.frames.now d c.args.seen room c.args.end c.loop-node.left c.in-Some.node a r c.in_ok-passes.field-0 (c.loop-node.invariant.1 room r given) (c.in-Some.ensures.found c.in-Some.node a refl)
    (subst (Passed s c.args.frames.now d a c.in-Some.node c.args.seen) c.in_ok-passes.was c.passes.ensures) c.if-branch.true

pub loop-node-smaller : goal.loop-node-smaller
loop-node-smaller c =
    let come = c.in-Some.ensures.found c.in-Some.node c.in-Some.arm refl in
    let first = (starts c.args.scene.book.nodes.now c.loop-node.left c.in-Some.node c.in-Some.arm come.is).0 in
    let behind = come.behind in
    let order = come.order in
    let before = come.before in
    let less : c.args.end - c.in-Some.arm.next < c.args.end - start c.loop-node.left = omega arith in
    less

pub loop-node-preserved : goal.loop-node-preserved
loop-node-preserved c =
    let s = c.args.scene in
    let d = shows c.args.drawers.now in
    let a = c.in-Some.arm in
    let come = c.in-Some.ensures.found c.in-Some.node c.in-Some.arm refl in
    let first = (starts c.args.scene.book.nodes.now c.loop-node.left c.in-Some.node c.in-Some.arm come.is).1 in
    let all = c.loop-node.invariant.0 in
    let behind = come.behind in
    let order = come.order in (
      omega arith,
      λ room r given.
          untaken_more s c.args.frames.now d c.args.seen room c.args.end c.loop-node.left c.in-Some.node a r c.in_ok-passes.field-0 (c.loop-node.invariant.1 room r given) come
          (subst (Passed s c.args.frames.now d a c.in-Some.node c.args.seen) c.in_ok-passes.was c.passes.ensures) c.if-branch.false,
    )

pub returns-clause-taken : goal.returns-clause-taken
returns-clause-taken c room r given =
    taken_otherwise c.args.scene c.args.frames.now (shows c.args.drawers.now) c.args.seen room c.args.end c.loop-node.left r c.otherwise.result (c.loop-node.invariant.1 room r given)
    (λ i a h. c.in_default.not-Some (i, a) (c.arm_before.ensures.there i a h)) c.otherwise.ensures
