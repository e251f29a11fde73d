use Rattle.std.proofs.Common.{sym, ◌∙◌}
use Rattle.renderer.specs.Flows.{flow_of}
use Rattle.renderer.proofs.Stepping.{closed_on, closing_fails}
use Rattle.renderer.proofs.machine.Machine.close_block.Goals as goal

pub returns-in-Ok-clause-did : goal.returns-in-Ok-clause-did
returns-in-Ok-clause-did c s m limit stop fin mode h =
    closed_on s m limit stop fin c.args.self.now _ c.args.out.now h c.in-Some.frame (sym c.top.ensures ∙ c.in-Some.is) c.args.flow mode c.in-Ok.filled _ _ c.close-in-Ok.new.self c.mode_after-self.ensures c.close-in-Ok.ensures
    (λ fits. c.in-Ok.ensures c.in-Some.frame.place _ (flow_of c.args.flow) fits h.within)

pub returns-in-Err-clause-did : goal.returns-in-Err-clause-did
returns-in-Err-clause-did c s m limit stop fin mode h =
    closing_fails s m limit stop fin c.args.self.now _ c.args.out.now h c.in-Some.frame (sym c.top.ensures ∙ c.in-Some.is) c.args.flow mode c.in-Err.stopped _ c.close-in-Err.new.self c.fail.new.self _
    c.fail.ensures.fault c.close-in-Err.ensures c.fail.ensures.frames c.fail.ensures.cut
    (λ fits. c.in-Err.ensures c.in-Some.frame.place _ (flow_of c.args.flow) fits h.within)
