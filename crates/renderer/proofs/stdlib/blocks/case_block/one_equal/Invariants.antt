use Rattle.std.proofs.Common.{◌≡◌, List, length, Some}
use Rattle.drawers.specs.Shown.{shows}
use Rattle.nodes.specs.Exprs.{values_of}
use Rattle.held.specs.Records.{held_in}
use Rattle.held.specs.Scenes.{pool_of}
use Rattle.tree.specs.Expressions.{Expr}
use Rattle.renderer.proofs.Equals.{Unequal}
use Rattle.renderer.proofs.stdlib.blocks.case_block.one_equal.Given as goal

-- the values that are left come to what all come to
abbrev pub invariant-loop-value : goal.invariant-loop-value
invariant-loop-value l =
    (all : List Expr) → values_of (pool_of l.fn.scene) l.fn.values ≡ Some all → Unequal l.fn.scene l.fn.frames (shows l.fn.drawers) (held_in l.fn.target) l.left all

abbrev pub decreases-loop-value : goal.decreases-loop-value
decreases-loop-value l = length l.left
