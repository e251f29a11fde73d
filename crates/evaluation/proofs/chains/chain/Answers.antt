use Rattle.std.proofs.Common.{ap, sym, ◌∙◌, subst, refl, Err}
use Rattle.std.proofs.lemmas.Result.{err_from_is_err_and}
use Rattle.drawers.specs.Shown.{shows}
use Rattle.evaluation.specs.Values.{Evaluated}
use Rattle.evaluation.specs.Chains.{chained_in, Applied, CameThrough}
use Rattle.evaluation.proofs.Filtered.{starts, starts_not, goes_on, goes_off, is_through}
use Rattle.evaluation.proofs.chains.chain.Goals as goal

pub returns-in_err-eval-clause-gives : goal.returns-in_err-eval-clause-gives
returns-in_err-eval-clause-gives g c =
    let s = c.args.scene in
    let d = shows c.args.drawers.now in
    let m = g.B.Bank.meaning c.args.bank.now in
    let (k, is, gave) = err_from_is_err_and c.from_residual.result c.from_residual.ensures.1 in
    let k = c.in_err-eval.field-0.0 in
    subst (CameThrough s c.args.frames.now d m c.args.chain c.args.answer.now) (sym (is ∙ ap Err gave))
    (starts_not s c.args.frames.now d m c.args.chain c.args.answer.now k (subst (Evaluated s c.args.frames.now d c.args.chain.value) c.in_err-eval.was c.eval.ensures))

pub loop-filter-init : goal.loop-filter-init
loop-filter-init g c =
    let s = c.args.scene in
    let d = shows c.args.drawers.now in
    let m = g.B.Bank.meaning c.args.bank.now in
    (refl, starts s c.args.frames.now d m c.args.chain c.in_ok-eval.field-0 c.entries-left.result.now (subst (Evaluated s c.args.frames.now d c.args.chain.value) c.in_ok-eval.was c.eval.ensures) c.entries-left.ensures)

pub returns-in_err-what-clause-gives : goal.returns-in_err-what-clause-gives
returns-in_err-what-clause-gives g c =
    let s = c.args.scene in
    let d = shows c.args.drawers.now in
    let m = g.B.Bank.meaning c.args.bank.now in
    let v = chained_in c.loop-filter.answer c.loop-filter.so_far in
    let buffer = c.apply.new.answer in
    let (k, is, gave) = err_from_is_err_and c.from_residual-in_err-what.result c.from_residual-in_err-what.ensures.1 in
    let k = c.in_err-what.field-0.0 in
    let gives = subst (λ m. Applied s c.args.frames.now d m c.in-Some.filter.now v buffer c.apply.result) c.loop-filter.invariant.0 c.apply.ensures.gives in
    subst (CameThrough s c.args.frames.now d m c.args.chain buffer) (sym (is ∙ ap Err gave))
    (goes_off s c.args.frames.now d m c.args.chain c.loop-filter.left.now c.in-Some.rest.now c.in-Some.filter.now v buffer c.apply.result k c.loop-filter.invariant.1 c.in-Some.ensures.cases.0 gives c.in_err-what.was)

pub loop-filter-preserved : goal.loop-filter-preserved
loop-filter-preserved g c =
    let s = c.args.scene in
    let d = shows c.args.drawers.now in
    let m = g.B.Bank.meaning c.args.bank.now in
    let v = chained_in c.loop-filter.answer c.loop-filter.so_far in
    let buffer = c.apply.new.answer in
    let gives = subst (λ m. Applied s c.args.frames.now d m c.in-Some.filter.now v buffer c.apply.result) c.loop-filter.invariant.0 c.apply.ensures.gives in (
      c.apply.ensures.same ∙ c.loop-filter.invariant.0,
      goes_on s c.args.frames.now d m c.args.chain c.loop-filter.left.now c.in-Some.rest.now c.in-Some.filter.now v buffer c.apply.result c.in_ok-what.what c.loop-filter.invariant.1 c.in-Some.ensures.cases.0 gives c.in_ok-what.was,
    )

pub returns-clause-gives : goal.returns-clause-gives
returns-clause-gives g c =
    let s = c.args.scene in
    let d = shows c.args.drawers.now in
    let m = g.B.Bank.meaning c.args.bank.now in
    is_through s c.args.frames.now d m c.args.chain c.loop-filter.left.now c.loop-filter.answer c.loop-filter.so_far c.loop-filter.invariant.1 c.in_default.ensures.cases
