use Rattle.std.proofs.Common.{ap, sym, ◌∙◌, subst, Err, to_z-of_z, to_z, of_z, w64, ◌+ℤ◌, pos}
use Rattle.std.proofs.lemmas.Result.{err_from_is_err_and}
use Rattle.drawers.specs.Shown.{shows}
use Rattle.held.specs.declared.faults.Fault.TheVariants.{FullCounter}
use Rattle.nodes.specs.declared.table.Leaf.TheVariants.{Increment}
use Rattle.renderer.specs.Leaves.{LeafDone, Counted}
use Rattle.renderer.proofs.Counting.{read_back, increment_done, increment_full}
use Rattle.renderer.proofs.Doing.{not_there, is_there}
use Rattle.renderer.proofs.stdlib.leaf_tags.increment_tags.increment.Goals as goal

pub returns-in_err-next : goal.returns-in_err-next
returns-in_err-next c s fs m =
    let d = shows c.args.drawers.now in
    let old = c.args.out.now in
    let shown = to_z w64 (of_z w64 c.count-shown.result) in
    let is_shown = to_z-of_z {w = w64} {z = c.count-shown.result} (record { sfits = c.count-shown.type_inv }) ∙ c.count-shown.ensures in
    let (k, is, gave) = err_from_is_err_and c.from_residual.result c.from_residual.ensures.1 in
    let (none, why) = not_there c.one_more.result FullCounter c.in_err-next.field-0.0 (sym c.ok_or.ensures.value ∙ c.in_err-next.was) in
    subst (λ r. LeafDone s fs m d d c.args.filled old old r (Increment c.args.target)) (sym (is ∙ ap Err (gave ∙ why)))
    (increment_full s fs m c.args.filled old d c.args.target shown is_shown (sym none ∙ c.one_more.ensures))

pub returns : goal.returns
returns c s fs m =
    let d = shows c.args.drawers.now in
    let old = c.args.out.now in
    let shown = to_z w64 (of_z w64 c.count-shown.result) in
    let is_shown = to_z-of_z {w = w64} {z = c.count-shown.result} (record { sfits = c.count-shown.type_inv }) ∙ c.count-shown.ensures in
    let some = is_there c.one_more.result FullCounter c.in_ok-next.next (sym c.ok_or.ensures.value ∙ c.in_ok-next.was) in
    let gave = sym some ∙ c.one_more.ensures in
    increment_done s fs m c.args.filled old d (shows c.count_on.new.drawers) c.args.target shown c.in_ok-next.next c.count_on.new.out c.count_on.result
    is_shown gave (subst (λ z. Counted c.args.target shown z d (shows c.count_on.new.drawers) c.args.filled old c.count_on.new.out c.count_on.result) (read_back (shown +ℤ pos 1) c.in_ok-next.next gave) c.count_on.ensures)
