use Rattle.tags.proofs.stdlib.blocks.case_block.+enter_values.Given as goal

abbrev pub decreases-enter_values : goal.decreases-enter_values
decreases-enter_values l = l.left
