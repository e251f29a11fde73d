use Rattle.std.proofs.Common.{◌<◌, length, rules}
use Rattle.frames.specs.Views.{open_in}
use Rattle.renderer.proofs.Arming.{fits_parts, skipped_falls, arm_falls}
use Rattle.renderer.proofs.machine.Machine.pass.Goals as goal

pub returns-in-None-clause-less : goal.returns-in-None-clause-less
returns-in-None-clause-less c =
    let m = c.args.self.now in
    let (lt, le, room) = fits_parts m.at m.end (length (open_in m.frames)) c.args.tag.end c.requires.fits in
    skipped_falls m.mode m.at c.args.tag.end m.end (open_in m.frames) c.requires.elements lt le

pub returns-in-Some-clause-less : goal.returns-in-Some-clause-less
returns-in-Some-clause-less c =
    let m = c.args.self.now in
    let (lt, le, room) = fits_parts m.at m.end (length (open_in m.frames)) c.args.tag.end c.requires.fits in
    let (behind, ordered, inside) = c.requires.within c.in-Some.arm c.in-Some.is in
    let few : c.arm_visits-visits.result.times < 65536 = search rules in
    arm_falls m c.open_arm.new.self c.args.tag c.arm_visits-visits.result c.in-Some.arm c.requires.elements room le behind ordered inside few c.open_arm.ensures.frames c.open_arm.ensures.begins.0 c.open_arm.ensures.begins.1 c.open_arm.ensures.begins.2
