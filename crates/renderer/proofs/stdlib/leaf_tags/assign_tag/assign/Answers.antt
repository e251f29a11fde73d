use Rattle.std.proofs.Common.{ap, sym, ◌∙◌, subst, Err}
use Rattle.std.proofs.lemmas.Result.{err_from_is_err_and}
use Rattle.drawers.specs.Shown.{shows, held_of}
use Rattle.evaluation.specs.Chains.{CameThrough}
use Rattle.held.specs.Records.{held_in}
use Rattle.nodes.specs.declared.table.Leaf.TheVariants.{Assign}
use Rattle.renderer.specs.Leaves.{LeafDone}
use Rattle.std.specs.Option.{option_map}
use Rattle.held.specs.declared.faults.Fault.TheVariants.{TooLong}
use Rattle.renderer.proofs.Assigning.{assign_done, assign_long, assign_stops}
use Rattle.renderer.proofs.Doing.{not_there, is_there}
use Rattle.renderer.proofs.stdlib.leaf_tags.assign_tag.assign.Goals as goal

pub returns-in_err-came-clause-done : goal.returns-in_err-came-clause-done
returns-in_err-came-clause-done g c text =
    let s = c.args.scene in
    let fs = c.args.frames.now in
    let m = g.B.Bank.meaning c.args.bank.now in
    let d = shows c.args.drawers.now in
    let (k, is, gave) = err_from_is_err_and c.from_residual.result c.from_residual.ensures.1 in
    let k = c.in_err-came.field-0.0 in
    let through = subst (CameThrough s fs d m c.args.value c.chain.new.answer) c.in_err-came.was c.chain.ensures.gives in
    subst (λ r. LeafDone s fs m d d c.args.filled text text r (Assign c.args.target c.args.value)) (sym (is ∙ ap Err gave))
    (assign_stops s fs m c.args.filled text d c.args.target c.args.value c.chain.new.answer k through)

pub returns-in_err-kept-clause-done : goal.returns-in_err-kept-clause-done
returns-in_err-kept-clause-done g c text =
    let s = c.args.scene in
    let fs = c.args.frames.now in
    let m = g.B.Bank.meaning c.args.bank.now in
    let d = shows c.args.drawers.now in
    let (k, is, gave) = err_from_is_err_and c.from_residual-in_err-kept.result c.from_residual-in_err-kept.ensures.1 in
    let (none, why) = not_there c.keep.result TooLong c.in_err-kept.field-0.0 (sym c.ok_or.ensures.value ∙ c.in_err-kept.was) in
    let through = subst (CameThrough s fs d m c.args.value c.chain.new.answer) c.in_ok-came.was c.chain.ensures.gives in
    subst (λ r. LeafDone s fs m d d c.args.filled text text r (Assign c.args.target c.args.value)) (sym (is ∙ ap Err (gave ∙ why)))
    (assign_long s fs m c.args.filled text d c.args.target c.args.value c.chain.new.answer c.in_ok-came.came (held_in c.value_in.result) through c.value_in.ensures
    (sym (ap (option_map held_of) none) ∙ c.keep.ensures))

pub returns-clause-done : goal.returns-clause-done
returns-clause-done g c text =
    let s = c.args.scene in
    let fs = c.args.frames.now in
    let m = g.B.Bank.meaning c.args.bank.now in
    let d = shows c.args.drawers.now in
    let some = is_there c.keep.result TooLong c.in_ok-kept.kept (sym c.ok_or.ensures.value ∙ c.in_ok-kept.was) in
    let through = subst (CameThrough s fs d m c.args.value c.chain.new.answer) c.in_ok-came.was c.chain.ensures.gives in
    assign_done s fs m c.args.filled text d (shows c.set_variable.new.self) c.args.target c.args.value c.chain.new.answer c.in_ok-came.came (held_in c.value_in.result) (held_of c.in_ok-kept.kept) through c.value_in.ensures
    (sym (ap (option_map held_of) some) ∙ c.keep.ensures) c.set_variable.ensures.set
