-- Rows in the tables.
use Rattle.std.proofs.Common.{◌≡◌, ℕ, Some, refl, ap, ◌∙◌}
use Rattle.std.specs.Option.{option_map}
use Rattle.cutter.specs.Tokens.{reading}
use Rattle.cutter.specs.declared.places.Placed.{Placed}
use Rattle.cutter.specs.declared.tokens.Token.{Token}
use Rattle.cutter.specs.declared.tokens.Token.TheVariants as token
use Rattle.tree.specs.Expressions as tree
use Rattle.nodes.specs.declared.exprs.Expr.{Expr}
use Rattle.nodes.specs.declared.exprs.Row.TheVariants.{Of, Range}
use Rattle.nodes.specs.Exprs.{Pool, ◌so◌, expr_of, row_of}
use Rattle.arguments.specs.Judging.{◌next◌, pure}
use Rattle.arguments.specs.Values.{value_as, row_as}

pub range_row : (b : Pool) (x y : Expr) (u v : tree.Expr) → expr_of b x ≡ Some u → expr_of b y ≡ Some v → row_of b (Range x y) ≡ Some (tree.range u v)
unfolding row_of
range_row b x y u v p q = ap (λ o. o so λ t. expr_of b y so λ w. Some (tree.range t w)) p ∙ ap (λ o. o so λ w. Some (tree.range u w)) q

pub of_row : (b : Pool) (x : Expr) (u : tree.Expr) → expr_of b x ≡ Some u → row_of b (Of x) ≡ Some (tree.row_from u)
unfolding row_of
of_row b x u p = ap (option_map tree.row_from) p

-- a token that is no range is a row as the value that it is
pub row_plain : (p : ℕ) (t : Token) → ((x y : Placed) → t ≡ token.Range x y → ⊥) → row_as p (reading t) ≡ (value_as p p (reading t) next λ x. pure (tree.row_from x))
unfolding value_as
row_plain p token.Nil h = refl
row_plain p (token.Boolean b) h = refl
row_plain p (token.Number z) h = refl
row_plain p (token.Text t) h = refl
row_plain p (token.Name n) h = refl
row_plain p (token.Path n s) h = refl
row_plain p (token.Range x y) h = absurd (h x y refl)
row_plain p (token.Symbol s) h = refl
