use Rattle.drawers.specs.Shown.{shows}
use Rattle.evaluation.proofs.Founds.{asked}
use Rattle.evaluation.proofs.looking.eval.Goals as goal

pub returns : goal.returns
returns c = asked c.args.scene c.args.frames.now (shows c.args.drawers.now) c.args.value c.reach.result c.needed.result c.reach.ensures c.needed.ensures
