use Rattle.std.proofs.Common.{◌-◌, length}
use Rattle.held.specs.Scenes.{host_in}
use Rattle.frames.specs.Views.{open_in}
use Rattle.renderer.proofs.Arming.{passed_on, choosing_fails}
use Rattle.renderer.proofs.machine.Machine.take_arm.Goals as goal

pub returns-in-Ok-clause-did : goal.returns-in-Ok-clause-did
returns-in-Ok-clause-did c m limit stop fin out h =
    passed_on c.args.scene m limit stop fin c.args.self.now _ out c.args.tag c.args.first c.args.opened c.of.result h (c.of.ensures (host_in c.args.scene) h.counted) c.pass.new.self c.in-Ok.chosen c.pass.ensures.passed
    (c.in-Ok.ensures.taken (16 - length (open_in c.args.self.now.frames) - 1) h.arms h.first)

pub returns-in-Err-clause-did : goal.returns-in-Err-clause-did
returns-in-Err-clause-did c m limit stop fin out h =
    choosing_fails c.args.scene m limit stop fin c.args.self.now _ out c.args.tag c.args.first c.args.opened c.of.result h (c.of.ensures (host_in c.args.scene) h.counted) c.in-Err.fault c.fail.new.self _
    c.fail.ensures.fault c.fail.ensures.frames c.fail.ensures.cut (c.in-Err.ensures.taken (16 - length (open_in c.args.self.now.frames) - 1) h.arms h.first)
