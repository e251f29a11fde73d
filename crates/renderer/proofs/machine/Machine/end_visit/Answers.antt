use Rattle.std.proofs.Common.{sym, ◌∙◌}
use Rattle.renderer.specs.Acts.{world}
use Rattle.renderer.proofs.Stepping.{top_none, through_ended, left_on, left_fails}
use Rattle.renderer.proofs.machine.Machine.end_visit.Goals as goal

pub returns-in_default-clause-did : goal.returns-in_default-clause-did
returns-in_default-clause-did c s m limit stop fin d mode h =
    through_ended s m limit stop fin c.args.self.now d c.args.out.now h c.args.flow mode (top_none _ (sym c.top.ensures ∙ c.in_default.is))

pub returns-in-Ok-clause-did : goal.returns-in-Ok-clause-did
returns-in-Ok-clause-did c s m limit stop fin d mode h =
    left_on s m limit stop fin c.args.self.now d c.args.out.now h c.in-Some.frame (sym c.top.ensures ∙ c.in-Some.is) c.args.flow mode c.index.result c.index.ensures c.in-Ok.filled c.leave.new.out _ c.mode_after_visit-self.ensures
    (c.in-Ok.ensures (world s m limit) c.in-Some.frame.place _ d (sym h.long) h.within)

pub returns-in-Err-clause-did : goal.returns-in-Err-clause-did
returns-in-Err-clause-did c s m limit stop fin d mode h =
    left_fails s m limit stop fin c.args.self.now d c.args.out.now h c.in-Some.frame (sym c.top.ensures ∙ c.in-Some.is) c.args.flow mode c.index.result c.index.ensures c.in-Err.stopped c.leave.new.out c.fail_outside.new.self _
    c.fail_outside.ensures.fault c.fail_outside.ensures.frames c.fail_outside.ensures.cut
    (c.in-Err.ensures (world s m limit) c.in-Some.frame.place _ d (sym h.long) h.within)
