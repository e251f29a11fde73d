-- What tables stand for stays when they grow.
use Rattle.std.proofs.Common.{◌≡◌, ℕ, zero, suc, ◌+◌, ◌-◌, ◌<◌, ◌≤◌, Bool, true, false, cond, ◌&&◌, eqb, ltb, leb, List, Some, Option, refl, ap, ◌∙◌, arith}
use Rattle.std.proofs.lemmas.Bool.{ltb-true, lt-ltb, leb-true, and_parts}
use Rattle.std.specs.List.{slice_get}
use Rattle.tree.specs.Elements.{Tree, done, leaf, block, Arms, no_arms, arm}
use Rattle.tree.specs.Elements as tree
use Rattle.tree.specs.Conditions.{Test, Condition, only as lone}
use Rattle.nodes.specs.declared.exprs.Head.{Head}
use Rattle.nodes.specs.declared.exprs.Head.TheVariants.{Forloop, Tablerowloop, Name}
use Rattle.nodes.specs.declared.exprs.Step.{Step}
use Rattle.nodes.specs.declared.exprs.Step.TheVariants.{Index, Key}
use Rattle.nodes.specs.declared.exprs.Expr.{Expr}
use Rattle.nodes.specs.declared.exprs.Expr.TheVariants.{Nil, Boolean, Number, Text, Path}
use Rattle.nodes.specs.declared.exprs.Part.{Part}
use Rattle.nodes.specs.declared.exprs.Span.{Span}
use Rattle.nodes.specs.declared.exprs.Filter.{Filter}
use Rattle.nodes.specs.declared.exprs.Chain.{Chain}
use Rattle.nodes.specs.declared.exprs.Row.{Row}
use Rattle.nodes.specs.declared.exprs.Row.TheVariants.{Of, Range}
use Rattle.nodes.specs.declared.table.Leaf.{Leaf}
use Rattle.nodes.specs.declared.table.Leaf.TheVariants.{Plain, Output, Assign, Increment, Decrement, Cycle, Break, Continue}
use Rattle.nodes.specs.declared.table.Block.{Block}
use Rattle.nodes.specs.declared.table.Block.TheVariants.{If, For, Tablerow, Capture, Ifchanged}
use Rattle.nodes.specs.declared.table.Guard.{Guard}
use Rattle.nodes.specs.declared.table.Guard.TheVariants.{Holds, Fails, Equals, HasItems, Always}
use Rattle.nodes.specs.declared.table.Next.{Next}
use Rattle.nodes.specs.declared.table.Next.TheVariants as next
use Rattle.nodes.specs.declared.table.Arm.{Arm}
use Rattle.nodes.specs.declared.table.Node.{Node}
use Rattle.nodes.specs.declared.table.Node.TheVariants as node
use Rattle.nodes.specs.Exprs.{Pool, ◌so◌, where_so, only, each, if_any, bytes_of, entries, head_of, step_of, expr_of, filter_of, chain_of, values_of, row_of}
use Rattle.nodes.specs.Trees.{leaf_of, block_of, test_of, join_of, condition_of, guard_of, arm_of, arm_at, opens, element_at, elements_of, arms_of}
use Rattle.nodes.specs.Wider.{Wider, Agree, Keeps}
use Rattle.nodes.proofs.Options.{so_parts, where_parts, only_parts, keeps_refl, keeps_same, keeps_so, keeps_where, keeps_only, keeps_mapped, keeps_each, keeps_if_any, keeps_entries, front_refl, front_then}

pub wider_refl : (b : Pool) → Wider b b
wider_refl b =
    record {
      source = refl;
      names = omega arith;
      cycles = omega arith;
      steps = front_refl b.steps;
      values = front_refl b.values;
      filters = front_refl b.filters;
    }

pub wider_then : (b c d : Pool) → Wider b c → Wider c d → Wider b d
wider_then b c d h k =
    record {
      source = k.source ∙ h.source;
      names = omega (arith, h.names, k.names);
      cycles = omega (arith, h.cycles, k.cycles);
      steps = front_then b.steps c.steps d.steps h.steps k.steps;
      values = front_then b.values c.values d.values h.values k.values;
      filters = front_then b.filters c.filters d.filters h.filters k.filters;
    }

module _ (b c : Pool) (w : Wider b c) where
  below_names : (n : ℕ) → ltb n b.names ≡ true → ltb n c.names ≡ true
  below_names n t = lt-ltb n c.names (omega (arith, ltb-true n b.names t, w.names))

  below_cycles : (n : ℕ) → ltb n b.cycles ≡ true → ltb n c.cycles ≡ true
  below_cycles n t = lt-ltb n c.cycles (omega (arith, ltb-true n b.cycles t, w.cycles))

  keeps_bytes : (p : Part) → Keeps (bytes_of b.source p) (bytes_of c.source p)
  keeps_bytes p = keeps_same (bytes_of b.source p) (bytes_of c.source p) (ap (λ s. bytes_of s p) w.source)

  keeps_head : (h : Head) → Keeps (head_of b h) (head_of c h)
  keeps_head Forloop y e = e
  keeps_head Tablerowloop y e = e
  keeps_head (Name n) y e = keeps_only (ltb n b.names) (ltb n c.names) _ (below_names n) y e

  keeps_step : (s : Step) → Keeps (step_of b s) (step_of c s)
  keeps_step (Index z) y e = e
  keeps_step (Key p) y e = keeps_mapped _ (bytes_of b.source p) (bytes_of c.source p) (keeps_bytes p) y e

  pub keeps_expr : (x : Expr) → Keeps (expr_of b x) (expr_of c x)
  unfolding expr_of
  keeps_expr Nil y e = e
  keeps_expr (Boolean v) y e = e
  keeps_expr (Number z) y e = e
  keeps_expr (Text p) y e = keeps_mapped _ (bytes_of b.source p) (bytes_of c.source p) (keeps_bytes p) y e
  keeps_expr (Path h s) y e =
      keeps_so (head_of b h) (head_of c h) _ _ (keeps_head h)
      (λ t. keeps_so (entries b.steps s) (entries c.steps s) _ _ (keeps_entries b.steps c.steps s w.steps)
      (λ xs. keeps_so (each (step_of b) xs) (each (step_of c) xs) _ _ (keeps_each (step_of b) (step_of c) keeps_step xs) (λ ts z q. q))) y e

  keeps_filter : (f : Filter) → Keeps (filter_of b f) (filter_of c f)
  keeps_filter f y e =
      keeps_so (bytes_of b.source f.name) (bytes_of c.source f.name) _ _ (keeps_bytes f.name)
      (λ n. keeps_so (if_any (expr_of b) f.argument) (if_any (expr_of c) f.argument) _ _ (keeps_if_any (expr_of b) (expr_of c) keeps_expr f.argument) (λ a z q. q)) y e

  pub keeps_chain : (x : Chain) → Keeps (chain_of b x) (chain_of c x)
  unfolding chain_of
  keeps_chain x y e =
      keeps_so (expr_of b x.value) (expr_of c x.value) _ _ (keeps_expr x.value)
      (λ v. keeps_so (entries b.filters x.filters) (entries c.filters x.filters) _ _ (keeps_entries b.filters c.filters x.filters w.filters)
      (λ fs. keeps_so (each (filter_of b) fs) (each (filter_of c) fs) _ _ (keeps_each (filter_of b) (filter_of c) keeps_filter fs) (λ ts z q. q))) y e

  pub keeps_values : (s : Span) → Keeps (values_of b s) (values_of c s)
  unfolding values_of
  keeps_values s y e =
      keeps_so (entries b.values s) (entries c.values s) _ _ (keeps_entries b.values c.values s w.values)
      (λ xs. keeps_each (expr_of b) (expr_of c) keeps_expr xs) y e

  pub keeps_row : (r : Row) → Keeps (row_of b r) (row_of c r)
  unfolding row_of
  keeps_row (Of x) y e = keeps_mapped _ (expr_of b x) (expr_of c x) (keeps_expr x) y e
  keeps_row (Range x z) y e =
      keeps_so (expr_of b x) (expr_of c x) _ _ (keeps_expr x) (λ u. keeps_so (expr_of b z) (expr_of c z) _ _ (keeps_expr z) (λ v t q. q)) y e

  keeps_optional : (o : Option Expr) → Keeps (if_any (expr_of b) o) (if_any (expr_of c) o)
  keeps_optional o = keeps_if_any (expr_of b) (expr_of c) keeps_expr o

  keeps_name : {A : Type 0} (n : ℕ) (x : A) → Keeps (only (ltb n b.names) x) (only (ltb n c.names) x)
  keeps_name n x = keeps_only (ltb n b.names) (ltb n c.names) x (below_names n)

  pub keeps_leaf : (l : Leaf) → Keeps (leaf_of b l) (leaf_of c l)
  unfolding leaf_of
  keeps_leaf (Plain p) y e = keeps_mapped _ (bytes_of b.source p) (bytes_of c.source p) (keeps_bytes p) y e
  keeps_leaf (Output x) y e = keeps_mapped _ (chain_of b x) (chain_of c x) (keeps_chain x) y e
  keeps_leaf (Assign n x) y e = keeps_so (chain_of b x) (chain_of c x) _ _ (keeps_chain x) (λ t. keeps_name n (tree.assign n t)) y e
  keeps_leaf (Increment n) y e = keeps_name n _ y e
  keeps_leaf (Decrement n) y e = keeps_name n _ y e
  keeps_leaf (Cycle n s) y e =
      keeps_so (values_of b s) (values_of c s) _ _ (keeps_values s) (λ xs. keeps_only (ltb n b.cycles) (ltb n c.cycles) (tree.cycle n xs) (below_cycles n)) y e
  keeps_leaf Break y e = e
  keeps_leaf Continue y e = e

  pub keeps_block : (k : Block) → Keeps (block_of b k) (block_of c k)
  unfolding block_of
  keeps_block If y e = e
  keeps_block (For v r limit offset reversed) y e =
      keeps_so (row_of b r) (row_of c r) _ _ (keeps_row r)
      (λ x. keeps_so (if_any (expr_of b) limit) (if_any (expr_of c) limit) _ _ (keeps_optional limit)
      (λ l. keeps_so (if_any (expr_of b) offset) (if_any (expr_of c) offset) _ _ (keeps_optional offset)
      (λ o. keeps_name v (tree.for_block v x l o reversed)))) y e
  keeps_block (Tablerow v r cols limit offset) y e =
      keeps_so (row_of b r) (row_of c r) _ _ (keeps_row r)
      (λ x. keeps_so (if_any (expr_of b) cols) (if_any (expr_of c) cols) _ _ (keeps_optional cols)
      (λ k. keeps_so (if_any (expr_of b) limit) (if_any (expr_of c) limit) _ _ (keeps_optional limit)
      (λ l. keeps_so (if_any (expr_of b) offset) (if_any (expr_of c) offset) _ _ (keeps_optional offset)
      (λ o. keeps_name v (tree.tablerow_block v x k l o))))) y e
  keeps_block (Capture n) y e = keeps_name n _ y e
  keeps_block Ifchanged y e = e

  pub keeps_test : (n : Node) → Keeps (test_of b n) (test_of c n)
  keeps_test (node.Leaf p l) y e = e
  keeps_test (node.Open p k a z) y e = e
  keeps_test (node.Case p x n z) y e = e
  keeps_test (node.Arm a) y e = e
  keeps_test (node.Exists x) y e = keeps_mapped _ (expr_of b x) (expr_of c x) (keeps_expr x) y e
  keeps_test (node.Compares x o z) y e =
      keeps_so (expr_of b x) (expr_of c x) _ _ (keeps_expr x) (λ u. keeps_so (expr_of b z) (expr_of c z) _ _ (keeps_expr z) (λ v t q. q)) y e
  keeps_test node.And y e = e
  keeps_test node.Or y e = e

  keeps_join : (n : Node) (t : Test) (x : Condition) → Keeps (join_of b n t x) (join_of c n t x)
  keeps_join (node.Leaf p l) t x y e = e
  keeps_join (node.Open p k a z) t x y e = e
  keeps_join (node.Case p u n z) t x y e = e
  keeps_join (node.Arm a) t x y e = e
  keeps_join (node.Exists u) t x y e = e
  keeps_join (node.Compares u o z) t x y e = e
  keeps_join node.And t x y e = e
  keeps_join node.Or t x y e = e

  module _ (ns ms : List Node) where
    keeps_node : (i e k : ℕ) → Agree ns ms i e → i ≤ k → k < e → Keeps (slice_get ns k) (slice_get ms k)
    keeps_node i e k h a z = keeps_same (slice_get ns k) (slice_get ms k) (h k a z)

    -- the part behind a test
    joins : (k l i e : ℕ) → ((i e : ℕ) → Agree ns ms i e → Keeps (condition_of b ns k i e) (condition_of c ms l i e)) → Agree ns ms i e → (x : Test) (last : Bool) →
        Keeps (cond last (Some (lone x)) (where_so (ltb (i + 1) e) (slice_get ns (i + 1) so λ j. condition_of b ns k (i + 2) e so λ z. join_of b j x z)))
        (cond last (Some (lone x)) (where_so (ltb (i + 1) e) (slice_get ms (i + 1) so λ j. condition_of c ms l (i + 2) e so λ z. join_of c j x z)))
    joins k l i e rec h x true y q = q
    joins k l i e rec h x false y q =
        keeps_where (ltb (i + 1) e) _ _
        (λ t. let lt = ltb-true (i + 1) e t in
        keeps_so (slice_get ns (i + 1)) (slice_get ms (i + 1)) _ _ (keeps_node i e (i + 1) h (omega arith) lt)
        (λ j. keeps_so (condition_of b ns k (i + 2) e) (condition_of c ms l (i + 2) e) _ _ (rec (i + 2) e (λ m a z. h m (omega arith) z))
        (λ z. keeps_join j x z))) y q

    pub keeps_condition : (k l : ℕ) → k ≤ l → (i e : ℕ) → Agree ns ms i e → Keeps (condition_of b ns k i e) (condition_of c ms l i e)
    keeps_condition zero l kl i e h y q = Rattle.nodes.proofs.Options.none_some y q
    keeps_condition (suc k) zero kl i e h y q = absurd (omega arith)
    keeps_condition (suc k) (suc l) kl i e h y q =
        keeps_where (ltb i e) _ _
        (λ t. let lt = ltb-true i e t in
        keeps_so (slice_get ns i) (slice_get ms i) _ _ (keeps_node i e i h (omega arith) lt)
        (λ n. keeps_so (test_of b n) (test_of c n) _ _ (keeps_test n)
        (λ x. joins k l i e (keeps_condition k l (omega arith)) h x (eqb (i + 1) e)))) y q

    -- a guard reads no node but those behind the arm's
    pub keeps_guard : (i e : ℕ) (a : Arm) (g : Guard) → a.body ≤ e → Agree ns ms (i + 1) e → Keeps (guard_of b ns i a g) (guard_of c ms i a g)
    keeps_guard i e a Holds le h y q =
        keeps_mapped _ (condition_of b ns a.body (i + 1) a.body) (condition_of c ms a.body (i + 1) a.body)
        (keeps_condition a.body a.body (omega arith) (i + 1) a.body (λ m x z. h m x (omega arith))) y q
    keeps_guard i e a Fails le h y q =
        keeps_mapped _ (condition_of b ns a.body (i + 1) a.body) (condition_of c ms a.body (i + 1) a.body)
        (keeps_condition a.body a.body (omega arith) (i + 1) a.body (λ m x z. h m x (omega arith))) y q
    keeps_guard i e a (Equals s) le h y q =
        keeps_where (eqb (i + 1) a.body) _ _ (λ t. keeps_mapped _ (values_of b s) (values_of c s) (keeps_values s)) y q
    keeps_guard i e a HasItems le h y q = q
    keeps_guard i e a Always le h y q = q

    -- what is decoded with less is decoded with more
    abbrev ElementsKeep : ℕ → ℕ → Type 0
    ElementsKeep k l = (room i e : ℕ) → Agree ns ms i e → Keeps (elements_of b ns k room i e) (elements_of c ms l room i e)

    abbrev ArmsKeep : ℕ → ℕ → Type 0
    ArmsKeep k l = (n : Next) (room i e : ℕ) → Agree ns ms i e → Keeps (arms_of b ns k n room i e) (arms_of c ms l n room i e)

    module _ (k l : ℕ) (elements : ElementsKeep k l) (arms : ArmsKeep k l) (room i e : ℕ) (h : Agree ns ms i e) where
      pub keeps_arm : (a : Arm) →
          Keeps (arm_of b ns (λ r x z. elements_of b ns k r x z) (λ n r x z. arms_of b ns k n r x z) room i e a)
          (arm_of c ms (λ r x z. elements_of c ms l r x z) (λ n r x z. arms_of c ms l n r x z) room i e a)
      keeps_arm a =
          keeps_where (ltb i a.body && (leb a.body a.next && leb a.next e)) _ _
          (λ t. let (t0, t1) = and_parts (ltb i a.body) (leb a.body a.next && leb a.next e) t in
          let (t2, t3) = and_parts (leb a.body a.next) (leb a.next e) t1 in
          let f0 = ltb-true i a.body t0 in
          let f2 = leb-true a.body a.next t2 in
          let f3 = leb-true a.next e t3 in
          keeps_so (guard_of b ns i a a.guard) (guard_of c ms i a a.guard) _ _ (keeps_guard i e a a.guard (omega arith) (λ m x z. h m (omega arith) z))
          (λ g. keeps_so (elements_of b ns k room a.body a.next) (elements_of c ms l room a.body a.next) _ _
          (elements room a.body a.next (λ m x z. h m (omega arith) (omega arith)))
          (λ body. keeps_so (arms_of b ns k a.then room a.next e) (arms_of c ms l a.then room a.next e) _ _
          (arms a.then room a.next e (λ m x z. h m (omega arith) z)) (λ r u q. q))))

      keeps_arm_at : (n : Node) →
          Keeps (arm_at b ns (λ r x z. elements_of b ns k r x z) (λ n r x z. arms_of b ns k n r x z) room i e n)
          (arm_at c ms (λ r x z. elements_of c ms l r x z) (λ n r x z. arms_of c ms l n r x z) room i e n)
      keeps_arm_at (node.Leaf p x) y q = q
      keeps_arm_at (node.Open p x a z) y q = q
      keeps_arm_at (node.Case p x n z) y q = q
      keeps_arm_at (node.Arm a) y q = keeps_arm a y q
      keeps_arm_at (node.Exists x) y q = q
      keeps_arm_at (node.Compares x o z) y q = q
      keeps_arm_at node.And y q = q
      keeps_arm_at node.Or y q = q

    module _ (k l : ℕ) (elements : ElementsKeep k l) (arms : ArmsKeep k l) (room i e : ℕ) (h : Agree ns ms i e) where
      rest_keeps : (j : ℕ) (f : Tree → Tree) → i ≤ j →
          Keeps (elements_of b ns k room j e so λ t. Some (f t)) (elements_of c ms l room j e so λ t. Some (f t))
      rest_keeps j f le =
          keeps_so (elements_of b ns k room j e) (elements_of c ms l room j e) _ _ (elements room j e (λ m x z. h m (omega arith) z)) (λ t u q. q)

      opens_parts : (end : ℕ) → opens b ns (λ r x z. elements_of b ns k r x z) (λ n r x z. arms_of b ns k n r x z) room i e end ≡ true → (i < end) × (end ≤ e)
      opens_parts end t =
          let (t0, t1) = and_parts (ltb 0 room) (ltb i end && leb end e) t in
          let (t2, t3) = and_parts (ltb i end) (leb end e) t1 in
          (ltb-true i end t2, leb-true end e t3)

      keeps_element : (n : Node) →
          Keeps (element_at b ns (λ r x z. elements_of b ns k r x z) (λ n r x z. arms_of b ns k n r x z) room i e n)
          (element_at c ms (λ r x z. elements_of c ms l r x z) (λ n r x z. arms_of c ms l n r x z) room i e n)
      keeps_element (node.Leaf p x) y q =
          keeps_so (leaf_of b x) (leaf_of c x) _ _ (keeps_leaf x) (λ t. rest_keeps (i + 1) (leaf p t) (omega arith)) y q
      keeps_element (node.Open p x a end) y q =
          keeps_where (opens b ns (λ r u z. elements_of b ns k r u z) (λ n r u z. arms_of b ns k n r u z) room i e end) _ _
          (λ t. let (f0, f1) = opens_parts end t in
          keeps_so (block_of b x) (block_of c x) _ _ (keeps_block x)
          (λ u. keeps_so _ _ _ _ (keeps_arm k l elements arms (room - 1) i end (λ m v z. h m v (omega arith)) a)
          (λ r. rest_keeps end (block p u r) (omega arith)))) y q
      keeps_element (node.Case p x n end) y q =
          keeps_where (opens b ns (λ r u z. elements_of b ns k r u z) (λ n r u z. arms_of b ns k n r u z) room i e end) _ _
          (λ t. let (f0, f1) = opens_parts end t in
          keeps_so (expr_of b x) (expr_of c x) _ _ (keeps_expr x)
          (λ u. keeps_so (arms_of b ns k n (room - 1) (i + 1) end) (arms_of c ms l n (room - 1) (i + 1) end) _ _
          (arms n (room - 1) (i + 1) end (λ m v z. h m (omega arith) (omega arith)))
          (λ r. rest_keeps end (block p (tree.case_block u) r) (omega arith)))) y q
      keeps_element (node.Arm a) y q = q
      keeps_element (node.Exists x) y q = q
      keeps_element (node.Compares x o z) y q = q
      keeps_element node.And y q = q
      keeps_element node.Or y q = q

      at_most_one : (same : Bool) →
          Keeps (cond same (Some done) (where_so (ltb i e) (slice_get ns i so λ n. element_at b ns (λ r x z. elements_of b ns k r x z) (λ n r x z. arms_of b ns k n r x z) room i e n)))
          (cond same (Some done) (where_so (ltb i e) (slice_get ms i so λ n. element_at c ms (λ r x z. elements_of c ms l r x z) (λ n r x z. arms_of c ms l n r x z) room i e n)))
      at_most_one true y q = q
      at_most_one false y q =
          keeps_where (ltb i e) _ _
          (λ t. keeps_so (slice_get ns i) (slice_get ms i) _ _ (keeps_node i e i h (omega arith) (ltb-true i e t)) (λ n. keeps_element n)) y q

    mutual
      pub keeps_elements : (k l : ℕ) → k ≤ l → ElementsKeep k l
      keeps_elements zero zero kl room i e h y q = q
      keeps_elements zero (suc l) kl room i e h y q =
          let (t, d) = only_parts (eqb i e) done y q in
          ap (λ s. cond s (Some done) (where_so (ltb i e) (slice_get ms i so λ n. element_at c ms (λ r x z. elements_of c ms l r x z) (λ n r x z. arms_of c ms l n r x z) room i e n))) t ∙ ap Some d
      keeps_elements (suc k) zero kl room i e h y q = absurd (omega arith)
      keeps_elements (suc k) (suc l) kl room i e h y q = at_most_one k l (keeps_elements k l (omega arith)) (keeps_arms k l (omega arith)) room i e h (eqb i e) y q

      pub keeps_arms : (k l : ℕ) → k ≤ l → ArmsKeep k l
      keeps_arms k l kl next.Nothing room i e h y q = q
      keeps_arms zero l kl next.Arm room i e h y q = Rattle.nodes.proofs.Options.none_some y q
      keeps_arms (suc k) zero kl next.Arm room i e h y q = absurd (omega arith)
      keeps_arms (suc k) (suc l) kl next.Arm room i e h y q =
          keeps_where (ltb i e) _ _
          (λ t. keeps_so (slice_get ns i) (slice_get ms i) _ _ (keeps_node i e i h (omega arith) (ltb-true i e t))
          (λ n. keeps_arm_at k l (keeps_elements k l (omega arith)) (keeps_arms k l (omega arith)) room i e h n)) y q
      keeps_arms zero l kl next.Else room i e h y q = Rattle.nodes.proofs.Options.none_some y q
      keeps_arms (suc k) zero kl next.Else room i e h y q = absurd (omega arith)
      keeps_arms (suc k) (suc l) kl next.Else room i e h y q =
          keeps_so (elements_of b ns k room i e) (elements_of c ms l room i e) _ _ (keeps_elements k l (omega arith) room i e h) (λ t u p. p) y q
