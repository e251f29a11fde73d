use Rattle.std.proofs.Common.{inl, inr, sym, subst, Ok}
use Rattle.drawers.specs.Shown.{shows}
use Rattle.renderer.specs.Leaves.{LeafDone}
use Rattle.renderer.proofs.Leaving.{break_done, continue_done}
use Rattle.renderer.proofs.leaves.render_leaf.Goals as goal

pub returns-in-Plain-clause-done : goal.returns-in-Plain-clause-done
returns-in-Plain-clause-done g c =
    let m = g.B.Bank.meaning c.args.bank.now in
    let d = shows c.args.drawers.now in
    subst (LeafDone c.args.scene c.args.frames.now m d d c.args.filled c.args.out.now c.write_plain.new.out c.write_plain.result) (sym c.in-Plain.is) (c.write_plain.ensures c.args.frames.now m d)

pub returns-in-Output-clause-done : goal.returns-in-Output-clause-done
returns-in-Output-clause-done g c =
    let m = g.B.Bank.meaning c.args.bank.now in
    let d = shows c.args.drawers.now in
    subst (LeafDone c.args.scene c.args.frames.now m d d c.args.filled c.args.out.now c.write_output.new.out c.write_output.result) (sym c.in-Output.is) (c.write_output.ensures.done)

pub returns-in-Assign-clause-done : goal.returns-in-Assign-clause-done
returns-in-Assign-clause-done g c =
    let m = g.B.Bank.meaning c.args.bank.now in
    let d = shows c.args.drawers.now in
    subst (LeafDone c.args.scene c.args.frames.now m d (shows c.assign.new.drawers) c.args.filled c.args.out.now c.args.out.now c.assign.result) (sym c.in-Assign.is) (c.assign.ensures.done c.args.out.now)

pub returns-in-Increment-clause-done : goal.returns-in-Increment-clause-done
returns-in-Increment-clause-done g c =
    let m = g.B.Bank.meaning c.args.bank.now in
    let d = shows c.args.drawers.now in
    subst (LeafDone c.args.scene c.args.frames.now m d (shows c.increment.new.drawers) c.args.filled c.args.out.now c.increment.new.out c.increment.result) (sym c.in-Increment.is) (c.increment.ensures c.args.scene c.args.frames.now m)

pub returns-in-Decrement-clause-done : goal.returns-in-Decrement-clause-done
returns-in-Decrement-clause-done g c =
    let m = g.B.Bank.meaning c.args.bank.now in
    let d = shows c.args.drawers.now in
    subst (LeafDone c.args.scene c.args.frames.now m d (shows c.decrement.new.drawers) c.args.filled c.args.out.now c.decrement.new.out c.decrement.result) (sym c.in-Decrement.is) (c.decrement.ensures c.args.scene c.args.frames.now m)

pub returns-in-Cycle-clause-done : goal.returns-in-Cycle-clause-done
returns-in-Cycle-clause-done g c =
    let m = g.B.Bank.meaning c.args.bank.now in
    let d = shows c.args.drawers.now in
    subst (LeafDone c.args.scene c.args.frames.now m d (shows c.cycle.new.drawers) c.args.filled c.args.out.now c.cycle.new.out c.cycle.result) (sym c.in-Cycle.is) (c.cycle.ensures m)

pub returns-in-Break-clause-done : goal.returns-in-Break-clause-done
returns-in-Break-clause-done g c =
    let s = c.args.scene in
    let fs = c.args.frames.now in
    let m = g.B.Bank.meaning c.args.bank.now in
    let d = shows c.args.drawers.now in
    let Done = LeafDone s fs m d d c.args.filled c.args.out.now c.args.out.now (Ok c.args.filled) in
    elim c.in-Break.is [
      | inl h ↦ subst Done (sym h) (break_done s fs m d c.args.filled c.args.out.now)
      | inr h ↦ subst Done (sym h) (continue_done s fs m d c.args.filled c.args.out.now)
    ]
