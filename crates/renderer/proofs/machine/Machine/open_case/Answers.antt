use Rattle.std.proofs.Common.{length}
use Rattle.frames.specs.Views.{open_in}
use Rattle.renderer.proofs.Listing.{before_end, case_at_arms, case_fails}
use Rattle.renderer.proofs.machine.Machine.open_case.Goals as goal

pub returns-in-Ok-clause-did : goal.returns-in-Ok-clause-did
returns-in-Ok-clause-did c m limit stop fin out there h =
    let k = c.args.self.now in
    c.take_arm.ensures.did m limit stop fin out
    (case_at_arms c.args.scene m limit stop fin k _ out h c.requires.elements c.args.place c.args.target c.args.then c.args.end c.in-Ok.opened (before_end k.at k.end (length (open_in k.frames)) c.args.end c.requires.fits) there c.in-Ok.ensures)

pub returns-in-Err-clause-did : goal.returns-in-Err-clause-did
returns-in-Err-clause-did c m limit stop fin out there h =
    let k = c.args.self.now in
    case_fails c.args.scene m limit stop fin k _ out h c.requires.elements c.args.place c.args.target c.args.then c.args.end c.in-Err.fault c.fail.new.self _ (before_end k.at k.end (length (open_in k.frames)) c.args.end c.requires.fits) there
    c.fail.ensures.fault c.fail.ensures.frames c.fail.ensures.cut c.in-Err.ensures
