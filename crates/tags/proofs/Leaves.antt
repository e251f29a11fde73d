-- Leaves in the tables.
use Rattle.std.proofs.Common.{◌≡◌, ℕ, ◌<◌, ltb, Some, ap, ◌∙◌}
use Rattle.std.proofs.lemmas.Bool.{lt-ltb}
use Rattle.std.specs.Option.{option_map}
use Rattle.tree.specs.Expressions as tree
use Rattle.tree.specs.Elements.{output, assign, increment, decrement}
use Rattle.nodes.specs.declared.exprs.Chain.{Chain}
use Rattle.nodes.specs.declared.table.Leaf.TheVariants.{Output, Assign, Increment, Decrement}
use Rattle.nodes.specs.Exprs.{Pool, ◌so◌, only, chain_of}
use Rattle.nodes.specs.Trees.{leaf_of}

pub numbered_there : {A : Type 0} (n limit : ℕ) (x : A) → n < limit → only (ltb n limit) x ≡ Some x
numbered_there n limit x h = ap (λ t. only t x) (lt-ltb n limit h)

module _ (b : Pool) where
  pub output_leaf : (c : Chain) (y : tree.Chain) → chain_of b c ≡ Some y → leaf_of b (Output c) ≡ Some (output y)
  unfolding leaf_of
  output_leaf c y h = ap (option_map output) h

  pub assign_leaf : (n : ℕ) (c : Chain) (y : tree.Chain) → n < b.names → chain_of b c ≡ Some y → leaf_of b (Assign n c) ≡ Some (assign n y)
  unfolding leaf_of
  assign_leaf n c y h k = ap (λ o. o so λ x. only (ltb n b.names) (assign n x)) k ∙ numbered_there n b.names (assign n y) h

  pub increment_leaf : (n : ℕ) → n < b.names → leaf_of b (Increment n) ≡ Some (increment n)
  unfolding leaf_of
  increment_leaf n h = numbered_there n b.names (increment n) h

  pub decrement_leaf : (n : ℕ) → n < b.names → leaf_of b (Decrement n) ≡ Some (decrement n)
  unfolding leaf_of
  decrement_leaf n h = numbered_there n b.names (decrement n) h
