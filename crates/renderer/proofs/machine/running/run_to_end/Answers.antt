use Rattle.std.proofs.Common.{◌<◌, ◌∙◌, sym, refl, subst, length}
use Rattle.drawers.specs.Shown.{shows}
use Rattle.renderer.specs.Machines.{Stands, Done, Failed}
use Rattle.renderer.proofs.Whole.{whole, begins, through, broken}
use Rattle.renderer.proofs.machine.running.run_to_end.Goals as goal

pub steps-init : goal.steps-init
steps-init g c = record {
  same = refl;
  untouched = refl;
  stands = λ t few spelt. begins c.args.scene (g.B.Bank.meaning c.args.bank.now) t _ c.args.out.now c.new-machine.result c.args.from c.args.end c.new-machine.ensures.frames c.new-machine.ensures.begins few spelt;
}

pub steps-preserved : goal.steps-preserved
steps-preserved g c =
    let s = c.args.scene in
    let m = g.B.Bank.meaning c.args.bank.now in
    let limit = length c.args.out.now in
    let i = c.steps.invariant in
    record {
      same = c.in-On.ensures.same ∙ i.same;
      untouched = i.untouched;
      stands = λ t few spelt. (
          let fin = whole s m t (shows c.args.drawers.now) c.args.out.now in
          subst (λ y. Stands s y limit c.args.end fin c.step.new.self (shows c.step.new.drawers) c.step.new.out) i.same
          (c.in-On.ensures.did limit c.args.end fin (subst (λ y. Stands s y limit c.args.end fin c.steps.machine (shows c.steps.drawers) c.steps.out) (sym i.same) (i.stands t few spelt))));
    }

pub returns-in-Through-clause-rendered : goal.returns-in-Through-clause-rendered
returns-in-Through-clause-rendered g c t few spelt =
    let s = c.args.scene in
    let m = g.B.Bank.meaning c.args.bank.now in
    let limit = length c.args.out.now in
    let i = c.steps.invariant in
    let fin = whole s m t (shows c.args.drawers.now) c.args.out.now in
    through s m t (shows c.args.drawers.now) c.args.out.now (shows c.step.new.drawers) c.step.new.out c.args.trail.now c.steps.trail c.args.end c.step.new.self
    (subst (λ y. Done s y limit c.args.end fin c.step.new.self (shows c.step.new.drawers) c.step.new.out) i.same
    (c.in-Through.ensures.did limit c.args.end fin (subst (λ y. Stands s y limit c.args.end fin c.steps.machine (shows c.steps.drawers) c.steps.out) (sym i.same) (i.stands t few spelt))))
    i.untouched

pub returns-in-Through-clause-short : goal.returns-in-Through-clause-short
returns-in-Through-clause-short g c lt = c.steps.invariant.untouched

pub returns-in-Fault-clause-rendered : goal.returns-in-Fault-clause-rendered
returns-in-Fault-clause-rendered g c t few spelt =
    let s = c.args.scene in
    let m = g.B.Bank.meaning c.args.bank.now in
    let limit = length c.args.out.now in
    let i = c.steps.invariant in
    let fin = whole s m t (shows c.args.drawers.now) c.args.out.now in
    broken s m t (shows c.args.drawers.now) c.args.out.now (shows c.step.new.drawers) c.step.new.out c.args.trail.now c.write_trail.new.trail c.args.end c.step.new.self c.in-Fault.fault c.in-Fault.place
    (subst (λ y. Failed s y limit c.args.end fin c.step.new.self (shows c.step.new.drawers) c.step.new.out c.in-Fault.fault c.in-Fault.place) i.same
    (c.in-Fault.ensures.did limit c.args.end fin (subst (λ y. Stands s y limit c.args.end fin c.steps.machine (shows c.steps.drawers) c.steps.out) (sym i.same) (i.stands t few spelt))))
    c.steps.trail i.untouched c.write_trail.ensures.written c.write_trail.ensures.means

pub returns-in-Fault-clause-short : goal.returns-in-Fault-clause-short
returns-in-Fault-clause-short g c lt = c.write_trail.ensures.short (subst (λ x. length x < 16) (sym c.steps.invariant.untouched) lt) ∙ c.steps.invariant.untouched
