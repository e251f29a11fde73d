use Rattle.std.proofs.Common.{◌+◌, ◌-◌, length, vec_items}
use Rattle.arguments.proofs.Chains.{Filtering}
use Rattle.arguments.proofs.reader.Reader.push_filters.Given as goal

abbrev pub invariant-loop-place : goal.invariant-loop-place
invariant-loop-place l = Filtering l.fn.self l.self

abbrev pub decreases-loop-place : goal.decreases-loop-place
decreases-loop-place l = 4 + length (vec_items l.fn.self.filters) - length (vec_items l.self.filters)
