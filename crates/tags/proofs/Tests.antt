-- Tests, and conditions as they are read.
use Rattle.std.proofs.Common.{◌≡◌, ℕ, zero, suc, ◌-◌, ◌<◌, Some, Option, sym, ap, ◌∙◌, arith}
use Rattle.tree.specs.Expressions as tree
use Rattle.tree.specs.Conditions.{Test, compares}
use Rattle.nodes.specs.declared.exprs.Comparison.{Comparison}
use Rattle.nodes.specs.declared.exprs.Expr.{Expr}
use Rattle.nodes.specs.declared.table.Node.TheVariants.{Compares}
use Rattle.nodes.specs.Exprs.{Pool, ◌so◌, comparison_of, expr_of}
use Rattle.nodes.specs.Trees.{test_of}
use Rattle.arguments.specs.Judging.{State, passes, went, ◌next◌, token_if}
use Rattle.tags.specs.declared.stdlib.blocks.if_block.Joint.{Joint}
use Rattle.tags.specs.Conditions.{a_test, joint, joined, condition_of}

pub compares_of : (b : Pool) (x y : Expr) (k : Comparison) (u v : tree.Expr) → expr_of b x ≡ Some u → expr_of b y ≡ Some v → test_of b (Compares x k y) ≡ Some (compares u (comparison_of k) v)
compares_of b x y k u v p q =
    ap (λ o. o so λ t. expr_of b y so λ z. Some (compares t (comparison_of k) z)) p ∙ ap (λ o. o so λ z. Some (compares u (comparison_of k) z)) q

-- a test, and what follows by what joins it with the rest
pub tests_step : (left m : ℕ) (s : State) (t : Test) (u : State) (j i : Option Joint) (v : State) → 0 < left → a_test m s ≡ passes t u → token_if joint u ≡ passes j v → j ≡ i →
    condition_of left m s ≡ joined (condition_of (left - 1) m) t i v
tests_step zero m s t u j i v h p q e = absurd (omega arith)
tests_step (suc n) m s t u j i v h p q e =
    let less : suc n - 1 ≡ n = omega arith in
    ap (λ x. went x (λ y. token_if joint next λ o. joined (condition_of n m) y o)) p
    ∙ ap (λ x. went x (λ o. joined (condition_of n m) t o)) q
    ∙ ap (λ o. joined (condition_of n m) t o v) e
    ∙ ap (λ k. joined (condition_of k m) t i v) (sym less)
