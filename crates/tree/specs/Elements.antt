-- Templates as trees. A place is that of an element's first byte in the source text.
use Rattle.std.specs.Prelude.{ℕ, Bool, List, Option}
use Rattle.tree.specs.Expressions.{Expr, Chain, Row}
use Rattle.tree.specs.Conditions.{Condition}

-- The elements that hold no others. Targets and cycle names are numbers of the sheet.
pub data Leaf : Type 0 where
  plain : List ℕ → Leaf
  output : Chain → Leaf
  assign : (target : ℕ) → Chain → Leaf
  increment : (target : ℕ) → Leaf
  decrement : (target : ℕ) → Leaf
  cycle : (cycle_name : ℕ) → List Expr → Leaf
  break : Leaf
  continue : Leaf

-- The tags that hold others, with their arguments. `if` and `unless` have theirs in the guards of their arms.
pub data Block : Type 0 where
  if_block : Block
  case_block : (target : Expr) → Block
  for_block : (variable : ℕ) (row : Row) (limit offset : Option Expr) (reversed : Bool) → Block
  tablerow_block : (variable : ℕ) (row : Row) (cols limit offset : Option Expr) → Block
  capture_block : (target : ℕ) → Block
  ifchanged_block : Block

-- What decides about an arm of a block:
--   `if`, `elsif`: a condition that holds; `unless`: one that does not;
--   `when`: a value that is equal to the target;
--   the body of a loop: that its window has an item;
--   an `else`, and the body of `capture` and `ifchanged`: nothing.
pub data Guard : Type 0 where
  holds : Condition → Guard
  fails : Condition → Guard
  equals_one : List Expr → Guard
  has_items : Guard
  always : Guard

mutual
  -- A list of elements, each with its place: a leaf or a block, and the elements after it.
  pub data Tree : Type 0 where
    done : Tree
    leaf : (place : ℕ) (l : Leaf) (rest : Tree) → Tree
    block : (place : ℕ) (b : Block) (arms : Arms) (rest : Tree) → Tree

  -- The arms of a block, each with its guard. At most one is taken, the first whose guard passes.
  pub data Arms : Type 0 where
    no_arms : Arms
    arm : (g : Guard) (body : Tree) (arms : Arms) → Arms
