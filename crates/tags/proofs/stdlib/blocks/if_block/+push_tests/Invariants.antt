use Rattle.tags.proofs.stdlib.blocks.if_block.+push_tests.Given as goal

abbrev pub decreases-push_tests : goal.decreases-push_tests
decreases-push_tests l = l.left
