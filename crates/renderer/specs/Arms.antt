-- What is done with the arms of a block that is opened.
use Rattle.std.specs.Prelude.{◌≡◌, ℕ, ◌-◌, ◌<◌, ◌≤◌, List, ◌∷◌, length, take, Some, None, Option}
use Rattle.banks.specs.Meaning.{Meaning}
use Rattle.tree.specs.Elements as tree
use Rattle.tree.specs.Elements.{Tree, Arms}
use Rattle.nodes.specs.declared.table.Block.{Block}
use Rattle.nodes.specs.declared.table.Guard as table
use Rattle.held.specs.declared.scenes.Scene.{Scene}
use Rattle.held.specs.Scenes.{host_in, pool_of}
use Rattle.frames.specs.declared.frame.Frame.{Frame}
use Rattle.frames.specs.declared.item.Item.TheVariants.{Nil}
use Rattle.frames.specs.Views.{open_in, around_in, manner_of}
use Rattle.meaning.specs.Hosts.{Host}
use Rattle.meaning.specs.Things.{Drawers}
use Rattle.meaning.specs.Acts.{Step, go_on}
use Rattle.meaning.specs.Leaves.{Flow}
use Rattle.meaning.specs.Blocks.{manner, after_element}
use Rattle.meaning.specs.Rendering.{render, taken}
use Rattle.renderer.specs.declared.guards.First.{First}
use Rattle.renderer.specs.declared.guards.Chosen.{Chosen}
use Rattle.renderer.specs.declared.machine.Machine.{Machine}
use Rattle.renderer.specs.declared.machine.Mode.TheVariants.{Elements, Between}
use Rattle.renderer.specs.declared.machine.arms.Tag.{Tag}
use Rattle.renderer.specs.declared.machine.opening.Visits.{Visits}
use Rattle.renderer.specs.declared.openings.Opened.{Opened}
use Rattle.renderer.specs.Acts.{world}
use Rattle.renderer.specs.Ends.{TargetFits}
use Rattle.renderer.specs.Guards.{IsGuard, Stands}
use Rattle.renderer.specs.Leaves.{Few}
use Rattle.renderer.specs.Openings.{Counted, opening_of}
use Rattle.renderer.specs.Running.{Inside, resume, Spells, Holds}
use Rattle.renderer.specs.Visiting.{shown_items, shown_cols, manner_in, VisitsOf}

-- the frame of an arm, before its first visit
abbrev pub arm_frame : Machine → Tag → Visits → Chosen → Frame
arm_frame c t v a =
    record { place = t.place; manner = v.manner; visit = 0; item = Nil; times = v.times; row = v.row; body = a.body; end = a.end; next = t.end; outer = c.end; mark = c.filled }

-- the machine stands behind the block
pub record PassedBy (c d : Machine) (t : Tag) : Type 0 where
  pub frames : open_in d.frames ≡ open_in c.frames
  pub mode : d.mode ≡ Elements
  pub at : d.at ≡ t.end
  pub end : d.end ≡ c.end
  pub filled : d.filled ≡ c.filled

-- it stands before the first visit of an arm
pub record Entered (c d : Machine) (t : Tag) (x : Opened) (a : Chosen) : Type 0 where
  pub visits : Visits
  pub are : Counted x → VisitsOf t.block x a.guard visits
  pub frames : open_in d.frames ≡ arm_frame c t visits a ∷ open_in c.frames
  pub mode : d.mode ≡ Between
  pub at : d.at ≡ a.end
  pub end : d.end ≡ a.end
  pub filled : d.filled ≡ c.filled

abbrev pub Passed : Machine → Machine → Tag → Opened → Option Chosen → Type 0
Passed c d t x None = PassedBy c d t
Passed c d t x (Some a) = Entered c d t x a

-- the arms of the block are visited like those of the tree's
pub record VisitedLike (k : Block) (b : tree.Block) : Type 0 where
  pub manner : (h : Host) (x : Opened) (guard : table.Guard) (g : tree.Guard) → IsGuard guard g → manner_of (manner_in k (length (shown_items x)) (shown_cols x) guard) ≡ manner b (opening_of h x) g
  pub target : (x : Opened) (guard : table.Guard) → TargetFits 128 (manner_in k (length (shown_items x)) (shown_cols x) guard)

-- A block was opened, and the ticket stands before its arms, from which it comes to `fin`.
pub record AtArms (s : Scene) (m : Meaning) (limit stop : ℕ) (fin : Step Flow) (c : Machine) (d : Drawers) (out : List ℕ) (t : Tag) (f : First) (x : Opened) : Type 0 where
  pub few : Few s
  pub long : length out ≡ limit
  pub within : c.filled ≤ length out
  pub block : tree.Block
  pub arms : Arms
  pub rest : Tree
  pub inside : List Inside
  pub like : VisitedLike t.block block
  pub some : 0 < 16 - length (open_in c.frames)
  pub first : Stands (pool_of s) s.book.nodes.now (16 - length (open_in c.frames) - 1) t.end f arms
  pub spelt : Spells (pool_of s) s.book.nodes.now (16 - length (open_in c.frames)) t.end c.end rest
  pub held : Holds (pool_of s) s.book.nodes.now stop (open_in c.frames) inside c.end
  pub counted : Counted x
  pub comes :
      resume (world s m limit) (open_in c.frames) inside
      (go_on (taken (world s m limit) block t.place (opening_of (host_in s) x) arms (around_in (host_in s) c.frames) d (take c.filled out))
      (λ r. after_element r (render (world s m limit) rest (around_in (host_in s) c.frames))))
      ≡ fin
