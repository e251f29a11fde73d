-- Steps with the bytes of their keys, whatever the parts of the source are.
use Rattle.std.specs.Prelude.{ℕ, List}
use Rattle.nodes.specs.declared.exprs.Step.{Step}
use Rattle.nodes.specs.declared.exprs.Step.TheVariants.{Index, Key}
use Rattle.nodes.specs.Books.{spelled}
use Rattle.tree.specs.Expressions as tree

abbrev pub step_in : List ℕ → Step → tree.Step
step_in source (Index z) = tree.index z
step_in source (Key p) = tree.key (spelled source p)
