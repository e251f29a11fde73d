-- What steps of a rendering leave.
use Rattle.std.specs.Prelude.{◌≡◌, ℕ, ◌≤◌, Bool, true, ◌&&◌, List, length, take, Option, nat_lt, nat_le}
use Rattle.std.specs.List.{slice_get}
use Rattle.banks.specs.Meaning.{Meaning}
use Rattle.nodes.specs.declared.table.Node.{Node}
use Rattle.nodes.specs.declared.table.Node.TheVariants as node
use Rattle.nodes.specs.Exprs.{◌so◌, where_so, only}
use Rattle.held.specs.declared.faults.Fault as code_fault
use Rattle.held.specs.declared.scenes.Scene.{Scene}
use Rattle.held.specs.Faults.{number_of, cause_of}
use Rattle.held.specs.Scenes.{host_in, pool_of}
use Rattle.frames.specs.declared.frame.Frame as code
use Rattle.frames.specs.declared.item.Item.{Item}
use Rattle.frames.specs.Cuts.{cutback}
use Rattle.frames.specs.Views.{open_in, around_in}
use Rattle.meaning.specs.Things.{Drawers}
use Rattle.meaning.specs.Acts.{Step, step, gives, stops, fault_at}
use Rattle.meaning.specs.Leaves.{Flow}
use Rattle.renderer.specs.declared.machine.Machine.{Machine}
use Rattle.renderer.specs.declared.machine.Move.{Move}
use Rattle.renderer.specs.declared.machine.Move.TheVariants.{On, Through, Fault}
use Rattle.renderer.specs.Acts.{world}
use Rattle.renderer.specs.Costs.{cost}
use Rattle.renderer.specs.Leaves.{Few}
use Rattle.renderer.specs.Running.{items_of, Going}

-- a block at the node `at` ends behind it and within its list, and has room for a frame
abbrev pub block_fits : ℕ → ℕ → ℕ → ℕ → Bool
block_fits at end depth e = nat_lt at e && (nat_le e end && nat_lt depth 16)

abbrev pub fits : ℕ → ℕ → ℕ → Node → Bool
fits at end depth (node.Leaf p l) = true
fits at end depth (node.Open p k a e) = block_fits at end depth e
fits at end depth (node.Case p x n e) = block_fits at end depth e
fits at end depth (node.Arm a) = true
fits at end depth (node.Exists x) = true
fits at end depth (node.Compares x c y) = true
fits at end depth node.And = true
fits at end depth node.Or = true

-- the node at a place of a list, if it can be rendered there
abbrev pub node_in : List Node → ℕ → ℕ → ℕ → Option Node
node_in ns at end depth = where_so (nat_lt at end) (slice_get ns at so λ n. only (fits at end depth n) n)

-- the item of the next visit, where one is left
abbrev pub next_item : code.Frame → Option Item
next_item f = where_so (nat_lt f.visit f.times) (slice_get (items_of f) f.visit)

-- of a text up to `filled`, a fault inside these frames leaves what stands up to `end`
pub record CutFrom (fs : List code.Frame) (filled end : ℕ) : Type 0 where
  pub within : end ≤ filled
  pub cut : (out : List ℕ) → filled ≤ length out → take end out ≡ cutback fs (take filled out)

-- the steps that are left at most
abbrev pub steps_left : Machine → ℕ
steps_left c = cost c.mode c.at c.end (open_in c.frames)

module _ (s : Scene) (m : Meaning) (limit stop : ℕ) (fin : Step Flow) where
  -- From here on the ticket comes to `fin`: text and drawers are these.
  pub record Stands (c : Machine) (d : Drawers) (out : List ℕ) : Type 0 where
    pub few : Few s
    pub long : length out ≡ limit
    pub within : c.filled ≤ length out
    pub going : Going (pool_of s) s.book.nodes.now stop (world s m limit) c.mode c.at c.end (open_in c.frames) d (take c.filled out) fin

  -- The ticket is through.
  pub record Done (c : Machine) (d : Drawers) (out : List ℕ) : Type 0 where
    pub long : length out ≡ limit
    pub within : c.filled ≤ length out
    pub flow : Flow
    pub comes : fin ≡ step d (take c.filled out) (gives flow)

  -- A fault of the element at place `p` ended it.
  pub record Failed (c : Machine) (d : Drawers) (out : List ℕ) (k : code_fault.Fault) (p : ℕ) : Type 0 where
    pub long : length out ≡ limit
    pub within : c.filled ≤ length out
    pub comes : fin ≡ step d (take c.filled out) (stops (fault_at (number_of k) (cause_of k) p (around_in (host_in s) c.frames)))

  -- what a step leaves
  abbrev pub Stepped : Machine → Drawers → List ℕ → Move → Type 0
  Stepped c d out On = Stands c d out
  Stepped c d out Through = Done c d out
  Stepped c d out (Fault k p) = Failed c d out k p
