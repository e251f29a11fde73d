use Rattle.tags.proofs.Loops.{tablerow_stands}
use Rattle.tags.proofs.stdlib.blocks.for_block.tablerow_of.Goals as goal

pub returns-clause-stands : goal.returns-clause-stands
returns-clause-stands c = λ b y h. tablerow_stands b c.args.header y h
