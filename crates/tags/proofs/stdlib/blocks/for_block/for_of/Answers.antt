use Rattle.tags.proofs.Loops.{for_stands}
use Rattle.tags.proofs.stdlib.blocks.for_block.for_of.Goals as goal

pub returns-clause-stands : goal.returns-clause-stands
returns-clause-stands c = λ b y h. for_stands b c.args.header y h
