use Rattle.tags.proofs.stdlib.tags.cycle_tag.+enter_values.Given as goal

abbrev pub decreases-enter_values : goal.decreases-enter_values
decreases-enter_values l = l.left
