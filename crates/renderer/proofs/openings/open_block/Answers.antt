use Rattle.std.proofs.Common.{subst, sym}
use Rattle.drawers.specs.Shown.{shows}
use Rattle.renderer.specs.Openings.{BlockOpened}
use Rattle.renderer.proofs.Opening.{block_bare, block_for, block_table}
use Rattle.renderer.proofs.openings.open_block.Goals as goal

pub returns-in_default : goal.returns-in_default
returns-in_default c = block_bare c.args.scene c.args.frames.now (shows c.args.drawers.now) c.args.block c.in_default.not-For c.in_default.not-Tablerow

pub returns-in-For : goal.returns-in-For
returns-in-For c =
    let d = shows c.args.drawers.now in
    subst (λ x. BlockOpened c.args.scene c.args.frames.now d x c.open_for.result) (sym c.in-For.is)
    (block_for c.args.scene c.args.frames.now d c.in-For.variable c.in-For.row c.in-For.limit c.in-For.offset c.in-For.reversed c.open_for.result c.open_for.ensures)

pub returns-in-Tablerow : goal.returns-in-Tablerow
returns-in-Tablerow c =
    let d = shows c.args.drawers.now in
    subst (λ x. BlockOpened c.args.scene c.args.frames.now d x c.open_table.result) (sym c.in-Tablerow.is)
    (block_table c.args.scene c.args.frames.now d c.in-Tablerow.variable c.in-Tablerow.row c.in-Tablerow.cols c.in-Tablerow.limit c.in-Tablerow.offset c.open_table.result c.open_table.ensures)
