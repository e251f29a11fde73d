use Rattle.std.proofs.Common.{length}
use Rattle.frames.specs.Views.{open_in}
use Rattle.renderer.proofs.Listing.{before_end, block_at_arms, block_fails}
use Rattle.renderer.proofs.machine.Machine.open.Goals as goal

pub returns-in-Ok-clause-did : goal.returns-in-Ok-clause-did
returns-in-Ok-clause-did c m limit stop fin out there h =
    let k = c.args.self.now in
    c.take_arm.ensures.did m limit stop fin out
    (block_at_arms c.args.scene m limit stop fin k _ out h c.requires.elements c.args.tag c.args.arm c.in-Ok.opened (before_end k.at k.end (length (open_in k.frames)) c.args.tag.end c.requires.fits) there c.in-Ok.ensures)

pub returns-in-Err-clause-did : goal.returns-in-Err-clause-did
returns-in-Err-clause-did c m limit stop fin out there h =
    let k = c.args.self.now in
    block_fails c.args.scene m limit stop fin k _ out h c.requires.elements c.args.tag c.args.arm c.in-Err.fault c.fail.new.self _ (before_end k.at k.end (length (open_in k.frames)) c.args.tag.end c.requires.fits) there
    c.fail.ensures.fault c.fail.ensures.frames c.fail.ensures.cut c.in-Err.ensures
