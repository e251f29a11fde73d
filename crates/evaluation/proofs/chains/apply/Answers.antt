use Rattle.std.proofs.Common.{ap, sym, ◌∙◌, subst, Err}
use Rattle.std.specs.Option.{option_map}
use Rattle.std.proofs.lemmas.Result.{err_from_is_err_and}
use Rattle.drawers.specs.Shown.{shows}
use Rattle.held.specs.Records.{held_in}
use Rattle.evaluation.specs.Chains.{chained_in, Argued, Applied, Called}
use Rattle.evaluation.proofs.Filtered.{applied, applied_not}
use Rattle.evaluation.proofs.chains.apply.Goals as goal

pub returns-in_err-argument-clause-gives : goal.returns-in_err-argument-clause-gives
returns-in_err-argument-clause-gives g c =
    let s = c.args.scene in
    let d = shows c.args.drawers.now in
    let v = chained_in c.args.answer.now c.args.input in
    let m = g.B.Bank.meaning c.args.bank.now in
    let (k, is, gave) = err_from_is_err_and c.from_residual.result c.from_residual.ensures.1 in
    let k = c.in_err-argument.field-0.0 in
    subst (Applied s c.args.frames.now d m c.args.filter v c.args.answer.now) (sym (is ∙ ap Err gave))
    (applied_not s c.args.frames.now d m c.args.filter v c.args.answer.now k (subst (Argued s c.args.frames.now d c.args.filter.argument) c.in_err-argument.was c.argument.ensures))

pub returns-clause-gives : goal.returns-clause-gives
returns-clause-gives g c =
    let s = c.args.scene in
    let d = shows c.args.drawers.now in
    let v = chained_in c.args.answer.now c.args.input in
    let m = g.B.Bank.meaning c.args.bank.now in
    let a = c.in_ok-argument.argument in
    applied s c.args.frames.now d m c.args.filter v a c.part_in-name.result.now c.call.new.answer c.call.result
    (subst (Argued s c.args.frames.now d c.args.filter.argument) c.in_ok-argument.was c.argument.ensures)
    c.part_in-name.ensures
    (subst (λ v. Called m c.part_in-name.result.now v (option_map held_in a) c.call.new.answer c.call.result) c.value_in.ensures c.call.ensures.gives)
