-- What a template reads and writes: lists of things, taken from its tree as it stands, whether an arm is taken or not.
use Rattle.std.specs.Prelude.{List, [], ◌∷◌, ◌++◌, Some, None, Option}
use Rattle.tree.specs.Expressions.{Head, forloop, tablerowloop, named, Expr, nil_literal, boolean_literal, number_literal, text_literal, path, Filter, Chain, Row, row_from, range}
use Rattle.tree.specs.Conditions.{Test, exists, compares, Condition, only, both, either}
use Rattle.tree.specs.Elements.{Leaf, plain, output, assign, increment, decrement, cycle, break, continue}
use Rattle.tree.specs.Elements.{Block, if_block, case_block, for_block, tablerow_block, capture_block, ifchanged_block, Guard, holds, fails, equals_one, has_items, always, Tree, done, leaf, block, Arms, no_arms, arm}
use Rattle.meaning.specs.Things.{Thing, name, cycle_name, changed}

-- a path to a loop object reads nothing
abbrev pub head_reads : Head → List Thing
head_reads forloop = []
head_reads tablerowloop = []
head_reads (named n) = name n ∷ []

abbrev pub expr_reads : Expr → List Thing
expr_reads nil_literal = []
expr_reads (boolean_literal b) = []
expr_reads (number_literal z) = []
expr_reads (text_literal t) = []
expr_reads (path h ss) = head_reads h

abbrev pub option_reads : Option Expr → List Thing
option_reads None = []
option_reads (Some x) = expr_reads x

abbrev pub exprs_read : List Expr → List Thing
exprs_read [] = []
exprs_read (x ∷ xs) = expr_reads x ++ exprs_read xs

abbrev pub filters_read : List Filter → List Thing
filters_read [] = []
filters_read (f ∷ fs) = option_reads f.argument ++ filters_read fs

abbrev pub chain_reads : Chain → List Thing
chain_reads c = expr_reads c.value ++ filters_read c.filters

abbrev pub row_reads : Row → List Thing
row_reads (row_from x) = expr_reads x
row_reads (range x y) = expr_reads x ++ expr_reads y

abbrev pub test_reads : Test → List Thing
test_reads (exists x) = expr_reads x
test_reads (compares x c y) = expr_reads x ++ expr_reads y

abbrev pub condition_reads : Condition → List Thing
condition_reads (only t) = test_reads t
condition_reads (both t c) = test_reads t ++ condition_reads c
condition_reads (either t c) = test_reads t ++ condition_reads c

abbrev pub leaf_reads : Leaf → List Thing
leaf_reads (plain t) = []
leaf_reads (output c) = chain_reads c
leaf_reads (assign n c) = chain_reads c
leaf_reads (increment n) = name n ∷ []
leaf_reads (decrement n) = name n ∷ []
leaf_reads (cycle n xs) = cycle_name n ∷ exprs_read xs
leaf_reads break = []
leaf_reads continue = []

abbrev pub leaf_writes : Leaf → List Thing
leaf_writes (plain t) = []
leaf_writes (output c) = []
leaf_writes (assign n c) = name n ∷ []
leaf_writes (increment n) = name n ∷ []
leaf_writes (decrement n) = name n ∷ []
leaf_writes (cycle n xs) = cycle_name n ∷ []
leaf_writes break = []
leaf_writes continue = []

-- a loop variable is not written by its loop
abbrev pub block_reads : Block → List Thing
block_reads if_block = []
block_reads (case_block x) = expr_reads x
block_reads (for_block v r limit offset reversed) = row_reads r ++ (option_reads limit ++ option_reads offset)
block_reads (tablerow_block v r cols limit offset) = row_reads r ++ (option_reads cols ++ (option_reads limit ++ option_reads offset))
block_reads (capture_block n) = []
block_reads ifchanged_block = changed ∷ []

abbrev pub block_writes : Block → List Thing
block_writes if_block = []
block_writes (case_block x) = []
block_writes (for_block v r limit offset reversed) = []
block_writes (tablerow_block v r cols limit offset) = []
block_writes (capture_block n) = name n ∷ []
block_writes ifchanged_block = changed ∷ []

abbrev pub guard_reads : Guard → List Thing
guard_reads (holds c) = condition_reads c
guard_reads (fails c) = condition_reads c
guard_reads (equals_one xs) = exprs_read xs
guard_reads has_items = []
guard_reads always = []

abbrev mutual
  pub reads : Tree → List Thing
  reads done = []
  reads (leaf p l rest) = leaf_reads l ++ reads rest
  reads (block p b arms rest) = block_reads b ++ (arms_read arms ++ reads rest)

  pub arms_read : Arms → List Thing
  arms_read no_arms = []
  arms_read (arm g body arms) = guard_reads g ++ (reads body ++ arms_read arms)

abbrev mutual
  pub writes : Tree → List Thing
  writes done = []
  writes (leaf p l rest) = leaf_writes l ++ writes rest
  writes (block p b arms rest) = block_writes b ++ (arms_write arms ++ writes rest)

  pub arms_write : Arms → List Thing
  arms_write no_arms = []
  arms_write (arm g body arms) = writes body ++ arms_write arms
