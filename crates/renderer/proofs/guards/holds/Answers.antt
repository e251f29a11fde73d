use Rattle.drawers.specs.Shown.{shows}
use Rattle.renderer.proofs.Passing.{judged_from}
use Rattle.renderer.proofs.guards.holds.Goals as goal

pub returns : goal.returns
returns c =
    let small = c.ranges.body.fits in
    judged_from c.args.scene c.args.frames.now (shows c.args.drawers.now) c.saturating_add.result c.args.node c.args.body c.judge.result c.saturating_add.ensures (omega Rattle.std.proofs.Common.arith) c.judge.ensures
