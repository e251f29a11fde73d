use Rattle.std.proofs.Common.{ap, sym, ◌∙◌, subst, Err}
use Rattle.std.proofs.lemmas.Result.{err_from_is_err_and}
use Rattle.drawers.specs.Shown.{shows}
use Rattle.evaluation.specs.Chains.{CameThrough}
use Rattle.held.specs.Records.{held_in}
use Rattle.nodes.specs.declared.table.Leaf.TheVariants.{Output}
use Rattle.renderer.specs.Leaves.{LeafDone}
use Rattle.renderer.proofs.Writing.{output_done, output_stops}
use Rattle.renderer.proofs.stdlib.output.write_output.Goals as goal

pub returns-in_err-came-clause-done : goal.returns-in_err-came-clause-done
returns-in_err-came-clause-done g c =
    let s = c.args.scene in
    let fs = c.args.frames.now in
    let m = g.B.Bank.meaning c.args.bank.now in
    let d = shows c.args.drawers.now in
    let (k, is, gave) = err_from_is_err_and c.from_residual.result c.from_residual.ensures.1 in
    let k = c.in_err-came.field-0.0 in
    let through = subst (CameThrough s fs d m c.args.output c.chain.new.answer) c.in_err-came.was c.chain.ensures.gives in
    subst (λ r. LeafDone s fs m d d c.args.filled c.args.out.now c.args.out.now r (Output c.args.output)) (sym (is ∙ ap Err gave))
    (output_stops s fs m c.args.filled c.args.out.now c.args.out.now d c.args.output c.chain.new.answer k through)

pub returns-clause-done : goal.returns-clause-done
returns-clause-done g c =
    let s = c.args.scene in
    let fs = c.args.frames.now in
    let m = g.B.Bank.meaning c.args.bank.now in
    let d = shows c.args.drawers.now in
    let through = subst (CameThrough s fs d m c.args.output c.chain.new.answer) c.in_ok-came.was c.chain.ensures.gives in
    output_done s fs m c.args.filled c.args.out.now c.write_value.new.out d c.args.output c.chain.new.answer c.in_ok-came.came (held_in c.value_in.result) c.write_value.result through c.value_in.ensures c.write_value.ensures
