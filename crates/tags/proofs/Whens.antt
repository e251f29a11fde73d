-- The values of a `when` as they are read.
use Rattle.std.proofs.Common.{◌≡◌, ℕ, zero, suc, ◌-◌, ◌<◌, Option, sym, ap, ◌∙◌, arith}
use Rattle.tree.specs.Expressions.{Expr}
use Rattle.arguments.specs.Judging.{State, passes, went, ◌next◌, token_if}
use Rattle.arguments.specs.Values.{value}
use Rattle.tags.specs.Whens.{separator, listed, whens_of}

-- a value, and what follows behind a separator
pub whens_step : (left m : ℕ) (s : State) (x : Expr) (u : State) (o i : Option ℕ) (v : State) → 0 < left → value m s ≡ passes x u → token_if separator u ≡ passes o v → o ≡ i →
    whens_of left m s ≡ listed (whens_of (left - 1) m) x i v
whens_step zero m s x u o i v h p q e = absurd (omega arith)
whens_step (suc n) m s x u o i v h p q e =
    let less : suc n - 1 ≡ n = omega arith in
    ap (λ w. went w (λ y. token_if separator next λ z. listed (whens_of n m) y z)) p
    ∙ ap (λ w. went w (λ z. listed (whens_of n m) x z)) q
    ∙ ap (λ z. listed (whens_of n m) x z v) e
    ∙ ap (λ k. listed (whens_of k m) x i v) (sym less)
