use Rattle.std.proofs.Common.{sym, subst, Ok, Err, ◌≤◌, length}
use Rattle.drawers.specs.Shown.{shows}
use Rattle.renderer.specs.Rendered.{NodesRendered}
use Rattle.renderer.proofs.Finished.{rendered_through, rendered_broken, spells_tree}
use Rattle.renderer.proofs.calls.render_nodes.Goals as goal

pub returns-in-Ok-clause-done : goal.returns-in-Ok-clause-done
returns-in-Ok-clause-done g c t given few l =
    let s = c.args.scene in
    let m = g.B.Bank.meaning c.args.bank.now in
    let d = shows c.args.drawers.now in
    let n = c.in-Ok.filled in
    let did : NodesRendered s m t d (shows c.run_to_end.new.drawers) c.args.out.now c.run_to_end.new.out c.args.trail.now c.run_to_end.new.trail (Ok n) = c.in-Ok.ensures.rendered t few (spells_tree s c.args.from c.args.end t given) in
    let still : 16 ≤ length c.run_to_end.new.trail = subst (λ x. 16 ≤ length x) (sym did.ended.same) l in
    rendered_through s m t d (shows c.run_to_end.new.drawers) c.args.out.now c.run_to_end.new.out c.zero_rest.new.out c.args.trail.now c.run_to_end.new.trail c.blank_trail.new.trail l n did
    (c.zero_rest.ensures.zeros did.ended.within) (c.blank_trail.ensures.written still)

pub returns-in-Err-clause-done : goal.returns-in-Err-clause-done
returns-in-Err-clause-done g c t given few l =
    let s = c.args.scene in
    let m = g.B.Bank.meaning c.args.bank.now in
    let d = shows c.args.drawers.now in
    let k = c.in-Err.failure in
    let did : NodesRendered s m t d (shows c.run_to_end.new.drawers) c.args.out.now c.run_to_end.new.out c.args.trail.now c.run_to_end.new.trail (Err k) = c.in-Err.ensures.rendered t few (spells_tree s c.args.from c.args.end t given) in
    rendered_broken s m t d (shows c.run_to_end.new.drawers) c.args.out.now c.run_to_end.new.out c.zero_rest-in-Err.new.out c.args.trail.now c.run_to_end.new.trail c.run_to_end.new.trail l k did
    (c.zero_rest-in-Err.ensures.zeros did.ended.within)
