-- The tree that nodes of the table stand for. Nothing, where they stand for none.
use Rattle.std.specs.Prelude.{ℕ, zero, suc, ◌+◌, ◌-◌, ◌*◌, Bool, cond, ◌&&◌, List, length, Some, None, Option, ◌==◌, nat_le, nat_lt}
use Rattle.std.specs.Option.{option_map}
use Rattle.std.specs.List.{slice_get}
use Rattle.tree.specs.Conditions.{Test, exists, compares, Condition, only as lone, both, either}
use Rattle.tree.specs.Elements as tree
use Rattle.tree.specs.Elements.{Tree, done, leaf, block, Arms, no_arms, arm}
use Rattle.nodes.specs.declared.table.Leaf.{Leaf}
use Rattle.nodes.specs.declared.table.Leaf.TheVariants.{Plain, Output, Assign, Increment, Decrement, Cycle, Break, Continue}
use Rattle.nodes.specs.declared.table.Block.{Block}
use Rattle.nodes.specs.declared.table.Block.TheVariants.{If, For, Tablerow, Capture, Ifchanged}
use Rattle.nodes.specs.declared.table.Guard.{Guard}
use Rattle.nodes.specs.declared.table.Guard.TheVariants.{Holds, Fails, Equals, HasItems, Always}
use Rattle.nodes.specs.declared.table.Next.{Next}
use Rattle.nodes.specs.declared.table.Next.TheVariants as next
use Rattle.nodes.specs.declared.table.Arm.{Arm}
use Rattle.nodes.specs.declared.table.Node.{Node}
use Rattle.nodes.specs.declared.table.Node.TheVariants as node
use Rattle.nodes.specs.Exprs.{Pool, ◌so◌, where_so, only, if_any, bytes_of, comparison_of, expr_of, chain_of, values_of, row_of}

module _ (b : Pool) where
  abbrev pub numbered : {A : Type 0} → ℕ → ℕ → A → Option A
  numbered n limit x = only (nat_lt n limit) x

  unfoldable pub leaf_of : Leaf → Option tree.Leaf
  leaf_of (Plain p) = option_map tree.plain (bytes_of b.source p)
  leaf_of (Output c) = option_map tree.output (chain_of b c)
  leaf_of (Assign n c) = chain_of b c so λ x. numbered n b.names (tree.assign n x)
  leaf_of (Increment n) = numbered n b.names (tree.increment n)
  leaf_of (Decrement n) = numbered n b.names (tree.decrement n)
  leaf_of (Cycle n s) = values_of b s so λ xs. numbered n b.cycles (tree.cycle n xs)
  leaf_of Break = Some tree.break
  leaf_of Continue = Some tree.continue

  unfoldable pub block_of : Block → Option tree.Block
  block_of If = Some tree.if_block
  block_of (For v r limit offset reversed) =
      row_of b r so λ x. if_any (expr_of b) limit so λ l. if_any (expr_of b) offset so λ o.
      numbered v b.names (tree.for_block v x l o reversed)
  block_of (Tablerow v r cols limit offset) =
      row_of b r so λ x. if_any (expr_of b) cols so λ c. if_any (expr_of b) limit so λ l. if_any (expr_of b) offset so λ o.
      numbered v b.names (tree.tablerow_block v x c l o)
  block_of (Capture n) = numbered n b.names (tree.capture_block n)
  block_of Ifchanged = Some tree.ifchanged_block

  abbrev pub test_of : Node → Option Test
  test_of (node.Leaf p l) = None
  test_of (node.Open p k a e) = None
  test_of (node.Case p x n e) = None
  test_of (node.Arm a) = None
  test_of (node.Exists x) = option_map exists (expr_of b x)
  test_of (node.Compares x c y) = expr_of b x so λ u. expr_of b y so λ v. Some (compares u (comparison_of c) v)
  test_of node.And = None
  test_of node.Or = None

  -- a test joined with the condition behind it
  abbrev pub join_of : Node → Test → Condition → Option Condition
  join_of (node.Leaf p l) t c = None
  join_of (node.Open p k a e) t c = None
  join_of (node.Case p x n e) t c = None
  join_of (node.Arm a) t c = None
  join_of (node.Exists x) t c = None
  join_of (node.Compares x k y) t c = None
  join_of node.And t c = Some (both t c)
  join_of node.Or t c = Some (either t c)

module _ (b : Pool) (nodes : List Node) where
  -- The condition of the nodes from i up to e, of which there are at most twice k: tests, with `and` or `or` between them.
  -- It groups from the right.
  abbrev pub condition_of : ℕ → ℕ → ℕ → Option Condition
  condition_of zero i e = None
  condition_of (suc k) i e =
      where_so (nat_lt i e)
      (slice_get nodes i so λ n. test_of b n so λ t.
      cond (i + 1 == e) (Some (lone t))
      (where_so (nat_lt (i + 1) e) (slice_get nodes (i + 1) so λ j. condition_of k (i + 2) e so λ c. join_of b j t c)))

  -- what decides about the arm whose node is at i
  abbrev pub guard_of : ℕ → Arm → Guard → Option tree.Guard
  guard_of i a Holds = option_map tree.holds (condition_of a.body (i + 1) a.body)
  guard_of i a Fails = option_map tree.fails (condition_of a.body (i + 1) a.body)
  guard_of i a (Equals s) = where_so (i + 1 == a.body) (option_map tree.equals_one (values_of b s))
  guard_of i a HasItems = only (i + 1 == a.body) tree.has_items
  guard_of i a Always = only (i + 1 == a.body) tree.always

  -- An element, and an arm: from what the nodes behind them stand for, with room for so many blocks in one another.
  module _ (elements : ℕ → ℕ → ℕ → Option Tree) (arms : Next → ℕ → ℕ → ℕ → Option Arms) (room i e : ℕ) where
    -- an arm whose node is at i, in a block that ends at e
    abbrev pub arm_of : Arm → Option Arms
    arm_of a =
        where_so (nat_lt i a.body && (nat_le a.body a.next && nat_le a.next e))
        (guard_of i a a.guard so λ g. elements room a.body a.next so λ t.
        arms a.then room a.next e so λ r. Some (arm g t r))

    -- the arm that a node is
    abbrev pub arm_at : Node → Option Arms
    arm_at (node.Leaf p l) = None
    arm_at (node.Open p k a end) = None
    arm_at (node.Case p x n end) = None
    arm_at (node.Arm a) = arm_of a
    arm_at (node.Exists x) = None
    arm_at (node.Compares x c y) = None
    arm_at node.And = None
    arm_at node.Or = None

  module _ (elements : ℕ → ℕ → ℕ → Option Tree) (arms : Next → ℕ → ℕ → ℕ → Option Arms) (room i e : ℕ) where
    -- there is room for the block at i, which ends at `end`, and its elements end at e
    abbrev pub opens : ℕ → Bool
    opens end = nat_lt 0 room && (nat_lt i end && nat_le end e)

    -- the element whose node is at i, and those behind it up to e
    abbrev pub element_at : Node → Option Tree
    element_at (node.Leaf p l) = leaf_of b l so λ x. elements room (i + 1) e so λ t. Some (leaf p x t)
    element_at (node.Open p k a end) =
        where_so (opens end)
        (block_of b k so λ x. arm_of elements arms (room - 1) i end a so λ r. elements room end e so λ t. Some (block p x r t))
    element_at (node.Case p x n end) =
        where_so (opens end)
        (expr_of b x so λ y. arms n (room - 1) (i + 1) end so λ r. elements room end e so λ t. Some (block p (tree.case_block y) r t))
    element_at (node.Arm a) = None
    element_at (node.Exists x) = None
    element_at (node.Compares x c y) = None
    element_at node.And = None
    element_at node.Or = None

  -- the elements of the nodes from i up to e; k is at least twice as many
  abbrev mutual
    pub elements_of : ℕ → ℕ → ℕ → ℕ → Option Tree
    elements_of zero room i e = only (i == e) done
    elements_of (suc k) room i e =
        cond (i == e) (Some done)
        (where_so (nat_lt i e) (slice_get nodes i so λ n. element_at (λ r a z. elements_of k r a z) (λ x r a z. arms_of k x r a z) room i e n))

    -- what stands from i up to e behind an arm, or behind the node of a `case`
    pub arms_of : ℕ → Next → ℕ → ℕ → ℕ → Option Arms
    arms_of k next.Nothing room i e = only (i == e) no_arms
    arms_of zero next.Arm room i e = None
    arms_of (suc k) next.Arm room i e =
        where_so (nat_lt i e) (slice_get nodes i so λ n. arm_at (λ r a z. elements_of k r a z) (λ x r a z. arms_of k x r a z) room i e n)
    arms_of zero next.Else room i e = None
    arms_of (suc k) next.Else room i e = elements_of k room i e so λ t. Some (arm tree.always t no_arms)

  -- the template whose nodes are those from i up to e, with blocks in one another at most sixteen deep
  unfoldable pub tree_at : ℕ → ℕ → Option Tree
  tree_at i e = where_so (nat_le e (length nodes)) (elements_of (2 * length nodes) 16 i e)
