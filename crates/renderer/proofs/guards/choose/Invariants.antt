use Rattle.std.proofs.Common.{ℕ, ◌-◌, ◌≤◌}
use Rattle.drawers.specs.Shown.{shows}
use Rattle.held.specs.Scenes.{pool_of}
use Rattle.tree.specs.Elements.{Arms}
use Rattle.renderer.specs.Guards.{from, Stands}
use Rattle.renderer.proofs.Taking.{start, Untaken}
use Rattle.renderer.proofs.guards.choose.Given as goal

-- the arms that are left stand behind the beginning, and come to what all come to
abbrev pub invariant-loop-node : goal.invariant-loop-node
invariant-loop-node l =
    (from l.fn.first ≤ from l.left) ×
    ((room : ℕ) (r : Arms) → Stands (pool_of l.fn.scene) l.fn.scene.book.nodes.now room l.fn.end l.fn.first r → Untaken l.fn.scene l.fn.frames (shows l.fn.drawers) l.fn.seen room l.fn.end l.left r)

abbrev pub decreases-loop-node : goal.decreases-loop-node
decreases-loop-node l = l.end - start l.left
