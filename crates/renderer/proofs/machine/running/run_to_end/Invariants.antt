use Rattle.std.proofs.Common.{◌≡◌, [], length}
use Rattle.drawers.specs.Shown.{shows}
use Rattle.held.specs.Scenes.{pool_of}
use Rattle.tree.specs.Elements.{Tree}
use Rattle.meaning.specs.Rendering.{render}
use Rattle.renderer.specs.Acts.{world}
use Rattle.renderer.specs.Leaves.{Few}
use Rattle.renderer.specs.Machines.{Stands, steps_left}
use Rattle.renderer.specs.Running.{Spells}
use Rattle.renderer.proofs.machine.running.run_to_end.Given as goal

abbrev pub invariant-steps : goal.invariant-steps
invariant-steps g l = record {
  same : g.B.Bank.meaning l.bank ≡ g.B.Bank.meaning l.fn.bank;
  untouched : l.trail ≡ l.fn.trail;
  stands : (t : Tree) → Few l.fn.scene → Spells (pool_of l.fn.scene) l.fn.scene.book.nodes.now 16 l.fn.from l.fn.end t →
      Stands l.fn.scene (g.B.Bank.meaning l.fn.bank) (length l.fn.out) l.fn.end (render (world l.fn.scene (g.B.Bank.meaning l.fn.bank) (length l.fn.out)) t [] (shows l.fn.drawers) []) l.machine (shows l.drawers) l.out;
}

abbrev pub decreases-steps : goal.decreases-steps
decreases-steps g l = steps_left l.machine
