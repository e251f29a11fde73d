-- What the elements that hold no others do.
use Rattle.std.specs.Prelude.{◌≡◌, ℕ, ◌<◌, ◌≤◌, true, List, length, ℤ, Some, Result}
use Rattle.banks.specs.Meaning.{Meaning}
use Rattle.nodes.specs.declared.table.Leaf.{Leaf}
use Rattle.nodes.specs.declared.table.Leaf.TheVariants.{Plain, Output, Assign, Increment, Decrement, Cycle, Break, Continue}
use Rattle.nodes.specs.Trees.{leaf_of}
use Rattle.numerals.specs.Decimal.{fits}
use Rattle.held.specs.declared.faults.Fault.{Fault}
use Rattle.held.specs.declared.scenes.Scene.{Scene}
use Rattle.held.specs.Scenes.{host_in, pool_of}
use Rattle.frames.specs.declared.stack.Frames as code
use Rattle.frames.specs.Views.{around_in}
use Rattle.tree.specs.Elements as tree
use Rattle.meaning.specs.Things.{Drawers}
use Rattle.meaning.specs.Frames.{Frames}
use Rattle.meaning.specs.Looking.{World}
use Rattle.meaning.specs.Leaves.{Flow, onward, broken, continued, leaf_act, count_on}
use Rattle.renderer.specs.Acts.{world, Does}

-- There are drawers for all names and cycle names of the sheet.
pub record Few (s : Scene) : Type 0 where
  pub names : length s.book.names.now ≤ 128
  pub cycles : s.book.cycles ≤ 32

-- how a list of elements goes on behind the element
abbrev pub flow_behind : Leaf → Flow
flow_behind (Plain p) = onward
flow_behind (Output c) = onward
flow_behind (Assign n c) = onward
flow_behind (Increment n) = onward
flow_behind (Decrement n) = onward
flow_behind (Cycle n s) = onward
flow_behind Break = broken
flow_behind Continue = continued

-- At each place, the call does what the element does that stands for the leaf.
abbrev pub LeafDone : Scene → code.Frames → Meaning → (d after : Drawers) → (filled : ℕ) (old new : List ℕ) → Result ℕ Fault → Leaf → Type 0
LeafDone s fs m d after filled old new r l =
    (t : tree.Leaf) (p : ℕ) → leaf_of (pool_of s) l ≡ Some t → Few s → filled ≤ length old →
    Does (leaf_act (world s m (length old)) t p (around_in (host_in s) fs)) (flow_behind l) p (around_in (host_in s) fs) d after filled old new r

-- Of a buffer with the text of a call: the shown number is written, and then the next one stored, as the definition's act does at each place.
abbrev pub Counted : ℕ → (shown next : ℤ) → (d after : Drawers) → (filled : ℕ) (old new : List ℕ) → Result ℕ Fault → Type 0
Counted n shown next d after filled old new r =
    (w : World) (p : ℕ) (e : Frames) → w.limit ≡ length old → fits next ≡ true → n < 128 → filled ≤ length old →
    Does (count_on w n shown next p e) onward p e d after filled old new r
