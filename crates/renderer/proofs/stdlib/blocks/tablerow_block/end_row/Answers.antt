use Rattle.renderer.proofs.Endings.{marked, unmarked}
use Rattle.renderer.proofs.stdlib.blocks.tablerow_block.end_row.Goals as goal

pub returns-then-ends : goal.returns-then-ends
returns-then-ends c w limit = marked w c.args.filled c.args.out.now _ _ _ _ c.if-ends.true limit c.write_row_end.ensures

pub returns-else-ends : goal.returns-else-ends
returns-else-ends c w limit = unmarked w c.args.filled c.args.out.now _ _ c.if-ends.false
