-- What the functions answer that read the tags of blocks.
use Rattle.std.specs.Prelude.{◌≡◌, ℕ, ◌+◌, ◌<◌, List, [], ◌∷◌, ◌++◌, length, Some, vec_items}
use Rattle.cutter.specs.Ahead.{ahead}
use Rattle.cutter.specs.declared.places.Placed.{Placed}
use Rattle.tree.specs.Elements as tree
use Rattle.nodes.specs.declared.table.Arm.{Arm}
use Rattle.nodes.specs.declared.table.Guard.{Guard}
use Rattle.nodes.specs.declared.table.Leaf.{Leaf}
use Rattle.nodes.specs.declared.table.Node.{Node}
use Rattle.nodes.specs.declared.table.Node.TheVariants as node
use Rattle.nodes.specs.Exprs.{Pool, expr_of}
use Rattle.nodes.specs.Trees.{leaf_of, block_of, guard_of}
use Rattle.arguments.specs.declared.reader.Reader.{Reader}
use Rattle.arguments.specs.Judging.{seen}
use Rattle.arguments.specs.Tables.{pool_of}
use Rattle.sheet.specs.declared.blocks.Opened as code_opened
use Rattle.sheet.specs.declared.blocks.Opened.TheVariants as opened
use Rattle.sheet.specs.declared.blocks.Following as code_following
use Rattle.sheet.specs.declared.blocks.Following.TheVariants as following
use Rattle.sheet.specs.Blocks.{Tag, tag, Opened, with_arm, a_case, Following, the_end, an_else, an_arm}

abbrev pub nodes_in : Reader → List Node
nodes_in d = vec_items d.nodes

abbrev pub long : Reader → ℕ
long d = length (nodes_in d)

-- the tag of the mark that is read, by its name
abbrev pub tag_of : Reader → Placed → Tag
tag_of d w = tag d.mark (seen w.place w.bytes.now) (ahead d.cursor)

-- a leaf, whose node stands last
pub record Leafed (place : ℕ) (d e : Reader) (u : Prim.Unit {0}) (y : tree.Leaf) : Type 0 where
  pub leaf : Leaf
  pub nodes : nodes_in e ≡ nodes_in d ++ (node.Leaf place leaf ∷ [])
  pub is : leaf_of (pool_of e) leaf ≡ Some y

-- what decides about an arm whose node is at this place, and whose elements begin at `body`
abbrev pub GuardIn : Pool → List Node → ℕ → ℕ → Guard → tree.Guard → Type 0
GuardIn b ns at body g h = (a : Arm) → a.body ≡ body → guard_of b ns at a g ≡ Some h

-- the same of an arm whose node is the last before this place
abbrev pub GuardFrom : Pool → List Node → ℕ → ℕ → Guard → tree.Guard → Type 0
GuardFrom b ns from body g h = (at : ℕ) → at + 1 ≡ from → GuardIn b ns at body g h

-- the arguments of a tag that opens a block, whose node stands already
abbrev pub OpensIn : Reader → Reader → code_opened.Opened → Opened → Type 0
OpensIn d e (opened.Arm k g) (with_arm x y) = (block_of (pool_of e) k ≡ Some x) × GuardFrom (pool_of e) (nodes_in e) (long d) (long e) g y
OpensIn d e (opened.Arm k g) (a_case y) = ⊥
OpensIn d e (opened.Case x) (with_arm y g) = ⊥
OpensIn d e (opened.Case x) (a_case y) = (expr_of (pool_of e) x ≡ Some y) × (nodes_in e ≡ nodes_in d)

-- a block that opens: the node at its place is set when it is whole
abbrev pub Opens : Reader → Reader → code_opened.Opened → Opened → Type 0
Opens d e (opened.Arm k g) (with_arm x y) = (block_of (pool_of e) k ≡ Some x) × (long d < long e) × GuardIn (pool_of e) (nodes_in e) (long d) (long e) g y
Opens d e (opened.Arm k g) (a_case y) = ⊥
Opens d e (opened.Case x) (with_arm y g) = ⊥
Opens d e (opened.Case x) (a_case y) = (expr_of (pool_of e) x ≡ Some y) × (long e ≡ long d + 1)

-- what follows: an arm opens like a block
abbrev pub Follows : Reader → Reader → code_following.Following → Following → Type 0
Follows d e following.End the_end = nodes_in e ≡ nodes_in d
Follows d e following.End an_else = ⊥
Follows d e following.End (an_arm y) = ⊥
Follows d e following.Else the_end = ⊥
Follows d e following.Else an_else = nodes_in e ≡ nodes_in d
Follows d e following.Else (an_arm y) = ⊥
Follows d e (following.Arm g) the_end = ⊥
Follows d e (following.Arm g) an_else = ⊥
Follows d e (following.Arm g) (an_arm y) = (long d < long e) × GuardIn (pool_of e) (nodes_in e) (long d) (long e) g y
