-- What stands where nodes spell elements or arms.
use Rattle.std.proofs.Common.{◌≡◌, ℕ, zero, suc, ◌+◌, ◌-◌, ◌<◌, ◌≤◌, Bool, true, false, cond, ◌&&◌, eqb, ltb, leb, List, Some, sym, refl, ◌∙◌, arith}
use Rattle.std.proofs.lemmas.Bool.{eqb-true, ltb-true, leb-true, ne_eqb, lt-ltb, eq-eqb}
use Rattle.std.specs.List.{slice_get}
use Rattle.tree.specs.Expressions as tree_expr
use Rattle.tree.specs.Elements as tree
use Rattle.tree.specs.Elements.{Tree, done, leaf, block, Arms, no_arms, arm}
use Rattle.nodes.specs.declared.exprs.Expr.{Expr}
use Rattle.nodes.specs.declared.table.Leaf.{Leaf}
use Rattle.nodes.specs.declared.table.Block.{Block}
use Rattle.nodes.specs.declared.table.Node.{Node}
use Rattle.nodes.specs.declared.table.Node.TheVariants as node
use Rattle.nodes.specs.Exprs.{Pool, expr_of, ◌so◌, where_so}
use Rattle.nodes.specs.Trees.{leaf_of, block_of, element_at, elements_of, arms_of}
use Rattle.nodes.proofs.Options.{none_some, some_is, so_parts, where_parts, only_parts}
use Rattle.renderer.specs.Guards.{SpellsArm}
use Rattle.renderer.specs.Running.{Spells, SpellsArms}

pub both_parts : (a b : Bool) → (a && b) ≡ true → (a ≡ true) × (b ≡ true)
both_parts true b h = (refl, h)
both_parts false b h = let z : ◌≡◌ {A = ℕ} 0 1 = cc in absurd (omega arith)

-- a leaf, and the elements behind it
pub record LeafAt (b : Pool) (ns : List Node) (room i e p : ℕ) (l : Leaf) (t : Tree) : Type 0 where
  pub element : tree.Leaf
  pub rest : Tree
  pub is : t ≡ leaf p element rest
  pub of : leaf_of b l ≡ Some element
  pub spelt : Spells b ns room (i + 1) e rest

-- a block that ends at `end`, and the elements behind it
pub record BlockAt (b : Pool) (ns : List Node) (room i e p end : ℕ) (Of : tree.Block → Type 0) (First : Arms → Type 0) (t : Tree) : Type 0 where
  pub opened : tree.Block
  pub arms : Arms
  pub rest : Tree
  pub is : t ≡ block p opened arms rest
  pub of : Of opened
  pub some : 0 < room
  pub after : i < end
  pub within : end ≤ e
  pub first : First arms
  pub spelt : Spells b ns room end e rest

abbrev pub IsBlock : Pool → Block → tree.Block → Type 0
IsBlock b k x = block_of b k ≡ Some x

abbrev pub IsCase : Pool → Expr → tree.Block → Type 0
IsCase b x y = (z : tree_expr.Expr) × (expr_of b x ≡ Some z) × (y ≡ tree.case_block z)

-- the element whose node is at i
abbrev pub ElementAt : Pool → List Node → ℕ → ℕ → ℕ → Tree → Node → Type 0
ElementAt b ns room i e t (node.Leaf p l) = LeafAt b ns room i e p l t
ElementAt b ns room i e t (node.Open p k a end) = BlockAt b ns room i e p end (IsBlock b k) (λ r. SpellsArm b ns a (room - 1) i end r) t
ElementAt b ns room i e t (node.Case p x n end) = BlockAt b ns room i e p end (IsCase b x) (λ r. SpellsArms b ns n (room - 1) (i + 1) end r) t
ElementAt b ns room i e t (node.Arm a) = ⊥
ElementAt b ns room i e t (node.Exists x) = ⊥
ElementAt b ns room i e t (node.Compares x c y) = ⊥
ElementAt b ns room i e t node.And = ⊥
ElementAt b ns room i e t node.Or = ⊥

module _ (b : Pool) (ns : List Node) where
  opens_parts : (room i e end : ℕ) → (ltb 0 room && (ltb i end && leb end e)) ≡ true → (0 < room) × (i < end) × (end ≤ e)
  opens_parts room i e end h =
      let (some, more) = both_parts _ _ h in
      let (after, within) = both_parts _ _ more in
      (ltb-true 0 room some, ltb-true i end after, leb-true end e within)

  element_is : (k room i e : ℕ) (t : Tree) (n : Node) → element_at b ns (λ r a z. elements_of b ns k r a z) (λ x r a z. arms_of b ns k x r a z) room i e n ≡ Some t → ElementAt b ns room i e t n
  element_is k room i e t (node.Leaf p l) h =
      let (x, of, more) = so_parts _ _ _ h in
      let (rest, spelt, is) = so_parts _ _ _ more in
      record { element = x; rest = rest; is = sym (some_is _ _ is); of = of; spelt = record { steps = k; is = spelt } }
  element_is k room i e t (node.Open p o a end) h =
      let (fits, inner) = where_parts _ _ _ h in
      let (x, of, more) = so_parts _ _ _ inner in
      let (r, first, behind) = so_parts _ _ _ more in
      let (rest, spelt, is) = so_parts _ _ _ behind in
      let (some, after, within) = opens_parts room i e end fits in
      record {
        opened = x;
        arms = r;
        rest = rest;
        is = sym (some_is _ _ is);
        of = of;
        some = some;
        after = after;
        within = within;
        first = record { steps = k; is = first };
        spelt = record { steps = k; is = spelt };
      }
  element_is k room i e t (node.Case p x n end) h =
      let (fits, inner) = where_parts _ _ _ h in
      let (y, of, more) = so_parts _ _ _ inner in
      let (r, first, behind) = so_parts _ _ _ more in
      let (rest, spelt, is) = so_parts _ _ _ behind in
      let (some, after, within) = opens_parts room i e end fits in
      record {
        opened = tree.case_block y;
        arms = r;
        rest = rest;
        is = sym (some_is _ _ is);
        of = (y, of, refl);
        some = some;
        after = after;
        within = within;
        first = record { steps = k; is = first };
        spelt = record { steps = k; is = spelt };
      }
  element_is k room i e t (node.Arm a) h = none_some _ h
  element_is k room i e t (node.Exists x) h = none_some _ h
  element_is k room i e t (node.Compares x c y) h = none_some _ h
  element_is k room i e t node.And h = none_some _ h
  element_is k room i e t node.Or h = none_some _ h

  started : (k room i e : ℕ) (t : Tree) (n : Node) → i < e → slice_get ns i ≡ Some n → elements_of b ns k room i e ≡ Some t → ElementAt b ns room i e t n
  started zero room i e t n lt at h =
      let same = eqb-true i e ((only_parts _ _ _ h).0) in
      absurd (omega arith)
  started (suc k) room i e t n lt at h =
      let same : eqb i e ≡ false = ne_eqb i e (λ p. omega arith) in
      let less : ltb i e ≡ true = lt-ltb i e lt in
      element_is k room i e t n (sym (rw (same, less, at) refl) ∙ h)

  -- before the end of a list an element stands
  pub element_here : (room i e : ℕ) (t : Tree) (n : Node) → Spells b ns room i e t → i < e → slice_get ns i ≡ Some n → ElementAt b ns room i e t n
  element_here room i e t n h lt at = started h.steps room i e t n lt at h.is

  -- a node is there
  node_in_steps : (k room i e : ℕ) (t : Tree) → i < e → elements_of b ns k room i e ≡ Some t → (n : Node) × (slice_get ns i ≡ Some n)
  node_in_steps zero room i e t lt h =
      let same = eqb-true i e ((only_parts _ _ _ h).0) in
      absurd (omega arith)
  node_in_steps (suc k) room i e t lt h =
      let same : eqb i e ≡ false = ne_eqb i e (λ p. omega arith) in
      let (less, rest) = where_parts (ltb i e) (slice_get ns i so λ n. element_at b ns (λ r a z. elements_of b ns k r a z) (λ x r a z. arms_of b ns k x r a z) room i e n) t (sym (rw same refl) ∙ h) in
      let (n, is, more) = so_parts _ _ _ rest in
      (n, is)

  pub node_here : (room i e : ℕ) (t : Tree) → Spells b ns room i e t → i < e → (n : Node) × (slice_get ns i ≡ Some n)
  node_here room i e t h lt = node_in_steps h.steps room i e t lt h.is

  ended : (k room i e : ℕ) (t : Tree) → i ≡ e → elements_of b ns k room i e ≡ Some t → t ≡ done
  ended zero room i e t eq h = sym ((only_parts _ _ _ h).1)
  ended (suc k) room i e t eq h =
      let same : eqb i e ≡ true = eq-eqb i e eq in
      sym (some_is _ _ (sym (rw same refl) ∙ h))

  -- at its end nothing is left of it
  pub nothing_here : (room i e : ℕ) (t : Tree) → Spells b ns room i e t → i ≡ e → t ≡ done
  nothing_here room i e t h eq = ended h.steps room i e t eq h.is

  reaches : (k room i e : ℕ) (t : Tree) → elements_of b ns k room i e ≡ Some t → i ≤ e
  reaches zero room i e t h = let same = eqb-true i e ((only_parts _ _ _ h).0) in omega arith
  reaches (suc k) room i e t h = tested (eqb i e) refl h
    where
      tested : (c : Bool) → eqb i e ≡ c → cond c (Some done) (where_so (ltb i e) (slice_get ns i so λ n. element_at b ns (λ r a z. elements_of b ns k r a z) (λ x r a z. arms_of b ns k x r a z) room i e n)) ≡ Some t → i ≤ e
      tested true c q = let same = eqb-true i e c in omega arith
      tested false c q = let less = ltb-true i e ((where_parts _ _ _ q).0) in omega arith

  pub not_past : (room i e : ℕ) (t : Tree) → Spells b ns room i e t → i ≤ e
  not_past room i e t h = reaches h.steps room i e t h.is
