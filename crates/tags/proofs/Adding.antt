-- Values that enter the table one after another.
use Rattle.std.proofs.Common.{◌≡◌, ℕ, ◌-◌, List, [], ◌∷◌, ◌++◌, length, Some, vec_items, ap, ◌∙◌, append_assoc, arith, length-append}
use Rattle.tree.specs.Expressions as tree
use Rattle.nodes.specs.declared.exprs.Expr.{Expr}
use Rattle.nodes.specs.Exprs.{Pool, ◌so◌, each, expr_of, values_of}
use Rattle.nodes.proofs.Widens.{wider_then, keeps_expr}
use Rattle.arguments.specs.declared.reader.Reader.{Reader}
use Rattle.arguments.specs.Tables.{pool_of, Grown, Longer}
use Rattle.arguments.specs.Reading.{Valued}
use Rattle.arguments.proofs.Paths.{new_entries}
use Rattle.tags.specs.Reading.{Added, Values}

-- a value, and those behind it
pub added_more : (d u v g : Reader) (x : tree.Expr) (ys : List tree.Expr) → Valued d u tt x → Grown u v → Longer v g → Added (vec_items v.values) (pool_of g) tt ys → Added (vec_items d.values) (pool_of g) tt (x ∷ ys)
added_more d u v g x ys valued grown longer rest =
    let b = pool_of g in
    let x_is = keeps_expr (pool_of u) b (wider_then (pool_of u) (pool_of v) b grown.pool longer.pool) valued.entry x valued.is in
    record {
      new = valued.entry ∷ rest.new;
      values = rest.values ∙ ap (λ l. l ++ rest.new) (grown.values ∙ valued.values) ∙ append_assoc (vec_items d.values) (valued.entry ∷ []) rest.new;
      are = ap (λ o. o so λ y. each (expr_of b) rest.new so λ zs. Some (y ∷ zs)) x_is ∙ ap (λ o. o so λ zs. Some (x ∷ zs)) rest.are;
    }

-- a value that is the last
pub added_last : (d u v g : Reader) (x : tree.Expr) → Valued d u tt x → Grown u v → Grown v g → Added (vec_items d.values) (pool_of g) tt (x ∷ [])
added_last d u v g x valued grown rest =
    let b = pool_of g in
    let x_is = keeps_expr (pool_of u) b (wider_then (pool_of u) (pool_of v) b grown.pool rest.pool) valued.entry x valued.is in
    record {
      new = valued.entry ∷ [];
      values = rest.values ∙ grown.values ∙ valued.values;
      are = ap (λ o. o so λ y. Some (y ∷ [])) x_is;
    }

-- they are the entries from the first place to the last
pub added_values : (old : List Expr) (b : Pool) (ys : List tree.Expr) (from count : ℕ) → Added old b tt ys → from ≡ length old → count ≡ length b.values - from →
    Values b (record { from = from; count = count }) ys
unfolding values_of
added_values old b ys from count a f c =
    ap (λ o. o so λ xs. each (expr_of b) xs) (new_entries old a.new b.values from count a.values f (omega (arith, ap length a.values, length-append old a.new))) ∙ a.are
