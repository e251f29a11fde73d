use Rattle.std.proofs.Common.{sym, ◌∙◌}
use Rattle.renderer.specs.Acts.{world}
use Rattle.renderer.proofs.Stepping.{no_more, entered_on, entering_fails}
use Rattle.renderer.proofs.machine.Machine.begin_visit.Goals as goal

pub returns-in_default-next_item-clause-did : goal.returns-in_default-next_item-clause-did
returns-in_default-next_item-clause-did c s m limit stop fin d mode h =
    no_more s m limit stop fin c.args.self.now d c.args.out.now h c.in-Some.frame (sym c.top.ensures ∙ c.in-Some.is) mode (sym c.next_item.ensures ∙ c.in_default-next_item.is)

pub returns-in-Ok-clause-did : goal.returns-in-Ok-clause-did
returns-in-Ok-clause-did c s m limit stop fin d mode h =
    entered_on s m limit stop fin c.args.self.now d c.args.out.now h c.in-Some.frame (sym c.top.ensures ∙ c.in-Some.is) mode c.in-Some-next_item.item (sym c.next_item.ensures ∙ c.in-Some-next_item.is) c.in-Ok.filled c.enter.new.out c.next_visit.new.self
    c.next_visit.ensures.frames (c.in-Ok.ensures (world s m limit) c.in-Some.frame.place _ d (sym h.long) h.within)

pub returns-in-Err-clause-did : goal.returns-in-Err-clause-did
returns-in-Err-clause-did c s m limit stop fin d mode h =
    entering_fails s m limit stop fin c.args.self.now d c.args.out.now h c.in-Some.frame (sym c.top.ensures ∙ c.in-Some.is) mode c.in-Some-next_item.item (sym c.next_item.ensures ∙ c.in-Some-next_item.is) c.in-Err.stopped c.enter.new.out c.fail_outside.new.self _
    c.fail_outside.ensures.fault c.fail_outside.ensures.frames c.fail_outside.ensures.cut (c.in-Err.ensures (world s m limit) c.in-Some.frame.place _ d (sym h.long) h.within)
