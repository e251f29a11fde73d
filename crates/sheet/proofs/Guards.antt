-- The guards of arms.
use Rattle.std.proofs.Common.{◌≡◌, ℕ, ◌+◌, ◌*◌, ◌<◌, ◌≤◌, List, length, Some, vec_items, refl, sym, ap, ◌∙◌, subst, arith}
use Rattle.tree.specs.Conditions.{Condition}
use Rattle.tree.specs.Expressions as tree_expr
use Rattle.tree.specs.Elements as tree
use Rattle.nodes.specs.declared.exprs.Span.{Span}
use Rattle.nodes.specs.declared.table.Guard.TheVariants.{Holds, Fails, Equals, HasItems, Always}
use Rattle.nodes.specs.declared.table.Node.{Node}
use Rattle.nodes.specs.Exprs.{Pool, values_of}
use Rattle.nodes.specs.Trees.{condition_of}
use Rattle.nodes.proofs.Builds.{guard_holds, guard_fails, guard_equals, guard_has_items, guard_always}
use Rattle.tags.specs.Reading.{Stands}
use Rattle.sheet.specs.Opening.{GuardIn, GuardFrom}

module _ (b : Pool) (ns : List Node) (from to : ℕ) where
  few : (c : Condition) (s : Stands b ns from to tt c) (at : ℕ) → at + 1 ≡ from → s.k ≤ to
  few c s at e = omega (arith, s.count, e)

  pub holding : (c : Condition) → Stands b ns from to tt c → GuardFrom b ns from to Holds (tree.holds c)
  holding c s at e a f =
      guard_holds b ns s.k at a c (omega (arith, few c s at e, f))
      (ap (λ i. condition_of b ns s.k i a.body) e ∙ ap (condition_of b ns s.k from) f ∙ s.is)

  pub failing : (c : Condition) → Stands b ns from to tt c → GuardFrom b ns from to Fails (tree.fails c)
  failing c s at e a f =
      guard_fails b ns s.k at a c (omega (arith, few c s at e, f))
      (ap (λ i. condition_of b ns s.k i a.body) e ∙ ap (condition_of b ns s.k from) f ∙ s.is)

  pub itemed : to ≡ from → GuardFrom b ns from to HasItems tree.has_items
  itemed h at e a f = guard_has_items b ns at a (e ∙ sym h ∙ sym f)

  pub always_taken : to ≡ from → GuardFrom b ns from to Always tree.always
  always_taken h at e a f = guard_always b ns at a (e ∙ sym h ∙ sym f)

  pub one_of : (s : Span) (xs : List tree_expr.Expr) → to ≡ from → values_of b s ≡ Some xs → GuardFrom b ns from to (Equals s) (tree.equals_one xs)
  one_of s xs h v at e a f = guard_equals b ns at a s xs (e ∙ sym h ∙ sym f) v

-- an arm whose node is the last before
module _ (b : Pool) (ns : List Node) (at from to : ℕ) (e : from ≡ at + 1) where
  pub elsif_arm : (c : Condition) → Stands b ns from to tt c → GuardIn b ns at to Holds (tree.holds c)
  elsif_arm c s = holding b ns from to c s at (sym e)

  pub when_arm : (s : Span) (xs : List tree_expr.Expr) → to ≡ from → values_of b s ≡ Some xs → GuardIn b ns at to (Equals s) (tree.equals_one xs)
  when_arm s xs h v = one_of b ns from to s xs h v at (sym e)
