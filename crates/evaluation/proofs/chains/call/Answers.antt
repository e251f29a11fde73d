use Rattle.std.proofs.Common.{rules, ap, sym, ◌∙◌, subst, Err}
use Rattle.std.specs.Option.{option_map}
use Rattle.std.proofs.lemmas.Result.{err_from_is_err_and}
use Rattle.held.specs.Records.{held_in}
use Rattle.banks.specs.Operands.{datum}
use Rattle.evaluation.specs.Chains.{Called}
use Rattle.banks.specs.declared.causes.Cause.TheVariants.{WrongOperand}
use Rattle.held.specs.declared.faults.Fault.TheVariants.{Filter}
use Rattle.evaluation.proofs.Filtered.{not_there, unfit_input, unfit_argument, calls}
use Rattle.evaluation.proofs.chains.call.Goals as goal

pub returns-in_err-input-clause-gives : goal.returns-in_err-input-clause-gives
returns-in_err-input-clause-gives g c =
    let m = g.B.Bank.meaning c.args.bank.now in
    let v = held_in c.args.input in
    let a = option_map held_in c.args.argument in
    let (k, is, gave) = err_from_is_err_and c.from_residual.result c.from_residual.ensures.1 in
    let (none, why) = not_there c.fit.result (Filter WrongOperand) c.in_err-input.field-0.0 (sym c.ok_or.ensures.value ∙ c.in_err-input.was) in
    subst (Called m c.args.name.now v a c.args.answer.now) (sym (is ∙ ap Err (gave ∙ why)))
    (unfit_input m c.args.name.now v a c.args.answer.now (sym c.fit.ensures ∙ ap (option_map datum) none))

pub returns-in_err-argument-clause-gives : goal.returns-in_err-argument-clause-gives
returns-in_err-argument-clause-gives g c =
    let m = g.B.Bank.meaning c.args.bank.now in
    let v = held_in c.args.input in
    let a = option_map held_in c.args.argument in
    let (k, is, gave) = err_from_is_err_and c.from_residual-in_err-argument.result c.from_residual-in_err-argument.ensures.1 in
    let (none, why) = not_there c.fit_argument.result (Filter WrongOperand) c.in_err-argument.field-0.0 (sym c.ok_or-2.ensures.value ∙ c.in_err-argument.was) in
    subst (Called m c.args.name.now v a c.args.answer.now) (sym (is ∙ ap Err (gave ∙ why)))
    (unfit_argument m c.args.name.now v a c.args.answer.now (sym c.fit_argument.ensures ∙ ap (option_map (option_map datum)) none))

pub returns-clause-gives : goal.returns-clause-gives
returns-clause-gives g c =
    let m = g.B.Bank.meaning c.args.bank.now in
    let a = option_map held_in c.args.argument in
    calls m c.args.name.now (held_in c.args.input) a (datum c.in_ok-input.input) (option_map datum c.in_ok-argument.argument) c.args.answer.now c.apply.new.answer c.map_err.result
    (sym c.fit.ensures ∙ search rules)
    (sym c.fit_argument.ensures ∙ search rules)
    c.apply.ensures.buffer
    (search rules)
