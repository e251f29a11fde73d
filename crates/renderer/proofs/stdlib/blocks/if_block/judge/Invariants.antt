use Rattle.std.proofs.Common.{◌≡◌, ℕ, ◌-◌, length, Some}
use Rattle.drawers.specs.Shown.{shows}
use Rattle.nodes.specs.Trees.{condition_of}
use Rattle.held.specs.Scenes.{pool_of}
use Rattle.tree.specs.Conditions.{Condition}
use Rattle.renderer.proofs.Conditions.{Left}
use Rattle.renderer.proofs.stdlib.blocks.if_block.judge.Given as goal

-- the tests from here on come to what the condition comes to
abbrev pub invariant-loop-node : goal.invariant-loop-node
invariant-loop-node l =
    (k : ℕ) (c : Condition) → condition_of (pool_of l.fn.scene) l.fn.scene.book.nodes.now k l.fn.from l.fn.end ≡ Some c → Left l.fn.scene l.fn.frames (shows l.fn.drawers) l.i l.fn.end c

abbrev pub decreases-loop-node : goal.decreases-loop-node
decreases-loop-node l = length l.nodes - l.i
