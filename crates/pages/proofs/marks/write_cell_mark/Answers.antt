use Rattle.pages.proofs.Emitted.{emits}
use Rattle.pages.proofs.marks.write_cell_mark.Goals as goal

pub returns : goal.returns
returns c = emits _ c.write_mark.ensures
