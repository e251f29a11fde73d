use Rattle.std.proofs.Common.{Ok, sym, subst}
use Rattle.drawers.specs.Shown.{shows}
use Rattle.renderer.specs.Guards.{Tested}
use Rattle.renderer.proofs.Conditions.{tested_there, tested_compared}
use Rattle.renderer.proofs.stdlib.blocks.if_block.test.Goals as goal

pub returns-in-Exists : goal.returns-in-Exists
returns-in-Exists c =
    let d = shows c.args.drawers.now in
    subst (λ n. Tested c.args.scene c.args.frames.now d n (Ok c.is_there.result)) (sym c.in-Exists.is)
    (tested_there c.args.scene c.args.frames.now d c.in-Exists.value c.reach.result c.is_there.result c.reach.ensures c.is_there.ensures)

pub returns-in-Compares : goal.returns-in-Compares
returns-in-Compares c =
    let d = shows c.args.drawers.now in
    subst (λ n. Tested c.args.scene c.args.frames.now d n c.compared.result) (sym c.in-Compares.is)
    (tested_compared c.args.scene c.args.frames.now d c.in-Compares.left c.in-Compares.comparison c.in-Compares.right c.compared.result c.compared.ensures)
