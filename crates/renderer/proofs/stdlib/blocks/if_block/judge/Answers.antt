use Rattle.std.proofs.Common.{◌+◌, Err, ap, refl, sym, ◌∙◌, subst, length}
use Rattle.std.proofs.lemmas.Option.{slice_get_read, slice_get_past}
use Rattle.std.proofs.lemmas.Result.{err_from_is_err_and}
use Rattle.nodes.proofs.Options.{none_some}
use Rattle.drawers.specs.Shown.{shows}
use Rattle.renderer.specs.Guards.{Tested, Answered}
use Rattle.meaning.specs.Tests.{judged}
use Rattle.renderer.proofs.Conditions.{left_more, left_short, left_last, left_fault, left_nowhere}
use Rattle.renderer.proofs.stdlib.blocks.if_block.judge.Goals.{then-i-end-via-then-i-end, then-i-end-via-else-i-end+then-not-more}
use Rattle.renderer.proofs.stdlib.blocks.if_block.judge.Goals as goal

pub returns-in_err-passed : goal.returns-in_err-passed
returns-in_err-passed c n t given =
    let s = c.args.scene in
    let d = shows c.args.drawers.now in
    let ns = s.book.nodes.now in
    let at = slice_get_read ns (length ns) c.loop-node.i c.in-Some.node.now refl c.in-Some.ensures.lookup.3.0 c.in-Some.ensures.lookup.1 in
    let (k, is, gave) = err_from_is_err_and c.from_residual.result c.from_residual.ensures.1 in
    let k = c.in_err-passed.field-0.0 in
    subst (Answered s c.args.frames.now d (λ w. judged w t)) (sym (is ∙ ap Err gave))
    (left_fault s c.args.frames.now d c.loop-node.i c.args.end t c.in-Some.node.now k (c.loop-node.invariant n t given) at
    (subst (Tested s c.args.frames.now d c.in-Some.node.now) c.in_err-passed.was c.test.ensures))

pub returns-in_default-get : goal.returns-in_default-get
returns-in_default-get c n t given =
    let s = c.args.scene in
    let d = shows c.args.drawers.now in
    let ns = s.book.nodes.now in
    let at = slice_get_read ns (length ns) c.loop-node.i c.in-Some.node.now refl c.in-Some.ensures.lookup.3.0 c.in-Some.ensures.lookup.1 in
    let past = slice_get_past ns (c.loop-node.i + 1) c.in_default-get.ensures.lookup.3 in
    left_last s c.args.frames.now d c.loop-node.i c.args.end t c.in-Some.node.now c.in_ok-passed.passed (c.loop-node.invariant n t given) at
    (subst (Tested s c.args.frames.now d c.in-Some.node.now) c.in_ok-passed.was c.test.ensures)
    (λ j there. none_some j (sym past ∙ there))

pub returns-then-i-end : goal.returns-then-i-end
returns-then-i-end c n t given =
    let s = c.args.scene in
    let d = shows c.args.drawers.now in
    let ns = s.book.nodes.now in
    let at = slice_get_read ns (length ns) c.loop-node.i c.in-Some.node.now refl c.in-Some.ensures.lookup.3.0 c.in-Some.ensures.lookup.1 in
    let there = slice_get_read ns (length ns) (c.loop-node.i + 1) c.in-Some-get.join.now refl c.in-Some-get.ensures.lookup.3.0 c.in-Some-get.ensures.lookup.1 in
    let tested = subst (Tested s c.args.frames.now d c.in-Some.node.now) c.in_ok-passed.was c.test.ensures in
    let left = c.loop-node.invariant n t given in
    elim c.then-i-end.branch [
      | then-i-end-via-then-i-end w ↦
          left_last s c.args.frames.now d c.loop-node.i c.args.end t c.in-Some.node.now c.in_ok-passed.passed left at tested (λ j x. w.if-i-end.true)
      | then-i-end-via-else-i-end+then-not-more w ↦
          left_short s c.args.frames.now d c.loop-node.i c.args.end t c.in-Some.node.now c.in-Some-get.join.now c.in_ok-passed.passed c.goes_on-more.result left at tested there
          c.goes_on-more.ensures.joins w.if-not-more.true
    ]

pub loop-node-preserved : goal.loop-node-preserved
loop-node-preserved c n t given =
    let s = c.args.scene in
    let d = shows c.args.drawers.now in
    let ns = s.book.nodes.now in
    let at = slice_get_read ns (length ns) c.loop-node.i c.in-Some.node.now refl c.in-Some.ensures.lookup.3.0 c.in-Some.ensures.lookup.1 in
    let there = slice_get_read ns (length ns) (c.loop-node.i + 1) c.in-Some-get.join.now refl c.in-Some-get.ensures.lookup.3.0 c.in-Some-get.ensures.lookup.1 in
    let tested = subst (Tested s c.args.frames.now d c.in-Some.node.now) c.in_ok-passed.was c.test.ensures in
    left_more s c.args.frames.now d c.loop-node.i c.args.end t c.in-Some.node.now c.in-Some-get.join.now c.in_ok-passed.passed c.goes_on-more.result (c.loop-node.invariant n t given) at tested there
    c.if-i-end.false c.goes_on-more.ensures.joins c.if-not-more.false

pub returns : goal.returns
returns c n t given =
    let s = c.args.scene in
    let past = slice_get_past s.book.nodes.now c.loop-node.i c.in_default.ensures.lookup.3 in
    left_nowhere s c.args.frames.now (shows c.args.drawers.now) c.loop-node.i c.args.end t (c.loop-node.invariant n t given) past
