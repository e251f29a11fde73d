use Rattle.cutter.specs.Ahead.{ahead}
use Rattle.tags.specs.Loops.{count}
use Rattle.tags.proofs.Loops.{Attributing}
use Rattle.tags.proofs.stdlib.blocks.for_block.parse_attributes.Given as goal

abbrev pub invariant-loop-word : goal.invariant-loop-word
invariant-loop-word l = Attributing l.fn.which l.fn.reader l.reader l.attributes

abbrev pub decreases-loop-word : goal.decreases-loop-word
decreases-loop-word l = count (ahead l.reader.cursor)
