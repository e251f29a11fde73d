use Rattle.std.proofs.Common.{length, ap, sym, ◌∙◌, subst, Err}
use Rattle.std.proofs.lemmas.Bool.{eqb-true}
use Rattle.std.proofs.lemmas.Result.{err_from_is_err_and}
use Rattle.drawers.specs.Shown.{shows}
use Rattle.evaluation.specs.Values.{Evaluated}
use Rattle.held.specs.declared.faults.Fault.TheVariants.{PastValues}
use Rattle.meaning.specs.Things.{cycle_name, altered, with_position}
use Rattle.nodes.specs.declared.table.Leaf.TheVariants.{Cycle}
use Rattle.renderer.specs.Leaves.{LeafDone}
use Rattle.renderer.proofs.Cycling.{read_there, read_past, is_many, cycle_none, cycle_past, cycle_stops, cycle_done, Turned}
use Rattle.renderer.proofs.Doing.{not_there, is_there}
use Rattle.renderer.proofs.stdlib.leaf_tags.cycle_tag.cycle.Goals as goal

pub returns-then-is_empty : goal.returns-then-is_empty
returns-then-is_empty c m =
    cycle_none c.args.scene c.args.frames.now m c.args.filled c.args.out.now c.args.name c.args.values (shows c.args.drawers.now) c.entries-values.result.now c.entries-values.ensures
    (eqb-true (length c.entries-values.result.now) 0 (sym c.is_empty.ensures ∙ c.if-is_empty.true))

pub returns-in_err-value : goal.returns-in_err-value
returns-in_err-value c m =
    let s = c.args.scene in
    let fs = c.args.frames.now in
    let d = shows c.args.drawers.now in
    let after = shows c.set_position.new.self in
    let old = c.args.out.now in
    let values = c.entries-values.result.now in
    let many = is_many (length values) (sym c.is_empty.ensures ∙ c.if-is_empty.false) in
    let h : Turned s c.args.name c.args.values d after values c.position-position.result = record {
      are = c.entries-values.ensures;
      many = many;
      was = c.position-position.ensures;
      set = λ low. c.set_position.ensures.set low ∙ ap (λ q. altered (cycle_name c.args.name) (with_position q) d) c.advanced.ensures;
    } in
    let (k, is, gave) = err_from_is_err_and c.from_residual.result c.from_residual.ensures.1 in
    let (none, why) = not_there c.get.result PastValues c.in_err-value.field-0.0 (sym c.ok_or.ensures.value ∙ c.in_err-value.was) in
    subst (λ r. LeafDone s fs m d after c.args.filled old old r (Cycle c.args.name c.args.values)) (sym (is ∙ ap Err (gave ∙ why)))
    (cycle_past s fs m c.args.filled old c.args.name c.args.values d after values c.position-position.result h (read_past values c.position-position.result c.get.result c.get.ensures.lookup.0 none))

pub returns-in_err-value-2 : goal.returns-in_err-value-2
returns-in_err-value-2 c m =
    let s = c.args.scene in
    let fs = c.args.frames.now in
    let d = shows c.args.drawers.now in
    let after = shows c.set_position.new.self in
    let old = c.args.out.now in
    let values = c.entries-values.result.now in
    let many = is_many (length values) (sym c.is_empty.ensures ∙ c.if-is_empty.false) in
    let h : Turned s c.args.name c.args.values d after values c.position-position.result = record {
      are = c.entries-values.ensures;
      many = many;
      was = c.position-position.ensures;
      set = λ low. c.set_position.ensures.set low ∙ ap (λ q. altered (cycle_name c.args.name) (with_position q) d) c.advanced.ensures;
    } in
    let (k, is, gave) = err_from_is_err_and c.from_residual-in_err-value-2.result c.from_residual-in_err-value-2.ensures.1 in
    let k = c.in_err-value-2.field-0.0 in
    let some = is_there c.get.result PastValues c.in_ok-value.value (sym c.ok_or.ensures.value ∙ c.in_ok-value.was) in
    subst (λ r. LeafDone s fs m d after c.args.filled old old r (Cycle c.args.name c.args.values)) (sym (is ∙ ap Err gave))
    (cycle_stops s fs m c.args.filled old c.args.name c.args.values d after values c.position-position.result h c.in_ok-value.value.now k
    (read_there values c.position-position.result c.get.result c.in_ok-value.value c.get.ensures.lookup.0 c.get.ensures.lookup.1 some) (subst (Evaluated s fs after c.in_ok-value.value.now) c.in_err-value-2.was c.eval.ensures))

pub returns : goal.returns
returns c m =
    let s = c.args.scene in
    let fs = c.args.frames.now in
    let d = shows c.args.drawers.now in
    let after = shows c.set_position.new.self in
    let old = c.args.out.now in
    let values = c.entries-values.result.now in
    let many = is_many (length values) (sym c.is_empty.ensures ∙ c.if-is_empty.false) in
    let h : Turned s c.args.name c.args.values d after values c.position-position.result = record {
      are = c.entries-values.ensures;
      many = many;
      was = c.position-position.ensures;
      set = λ low. c.set_position.ensures.set low ∙ ap (λ q. altered (cycle_name c.args.name) (with_position q) d) c.advanced.ensures;
    } in
    let some = is_there c.get.result PastValues c.in_ok-value.value (sym c.ok_or.ensures.value ∙ c.in_ok-value.was) in
    cycle_done s fs m c.args.filled old c.args.name c.args.values d after values c.position-position.result h c.in_ok-value.value.now c.in_ok-value-2.value c.write_value.new.out c.write_value.result
    (read_there values c.position-position.result c.get.result c.in_ok-value.value c.get.ensures.lookup.0 c.get.ensures.lookup.1 some) (subst (Evaluated s fs after c.in_ok-value.value.now) c.in_ok-value-2.was c.eval.ensures) c.write_value.ensures
