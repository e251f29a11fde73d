-- The arguments of an output, and of the tags that hold no elements.
use Rattle.std.specs.Prelude.{ℕ}
use Rattle.cutter.specs.declared.lengths.Symbol.TheVariants.{Assign}
use Rattle.tree.specs.Elements.{Leaf, output, assign, increment, decrement, break, continue}
use Rattle.arguments.specs.Judging.{Judge, ◌next◌, pure, expect, finished}
use Rattle.arguments.specs.Values.{is_the_symbol, target, chain}

-- `{{ value | filters }}`
unfoldable pub output_of : ℕ → Judge Leaf
output_of m = chain m next λ c. pure (output c)

-- `assign target = value | filters`
unfoldable pub assign_tag : ℕ → Judge Leaf
assign_tag m = target m next λ n. expect (is_the_symbol Assign) m next λ _. chain m next λ c. pure (assign n c)

-- a target, and no more
unfoldable pub only_target : ℕ → Judge ℕ
only_target m = target m next λ n. finished next λ _. pure n

-- `increment target`
unfoldable pub increment_tag : ℕ → Judge Leaf
increment_tag m = only_target m next λ n. pure (increment n)

-- `decrement target`
unfoldable pub decrement_tag : ℕ → Judge Leaf
decrement_tag m = only_target m next λ n. pure (decrement n)

-- `break`
unfoldable pub break_tag : Judge Leaf
break_tag = finished next λ _. pure break

-- `continue`
unfoldable pub continue_tag : Judge Leaf
continue_tag = finished next λ _. pure continue
