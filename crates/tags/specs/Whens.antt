-- The values of a `when`.
use Rattle.std.specs.Prelude.{ℕ, zero, suc, Bool, ◌||◌, List, [], ◌∷◌, Some, None, codes, Option}
use Rattle.cutter.specs.declared.lengths.Symbol.TheVariants.{Comma}
use Rattle.tree.specs.Expressions.{Expr}
use Rattle.arguments.specs.Judging.{Judge, ◌next◌, pure, Seen, token, token_if, finished}
use Rattle.arguments.specs.Values.{value, too_many, is_the_word, is_the_symbol, placed_if}

-- `or`, or a comma
abbrev pub is_separator : Seen → Bool
is_separator w = is_the_word (codes "or") w || is_the_symbol Comma w

abbrev pub separator : Seen → Option ℕ
separator w = placed_if (is_separator w) w.place

abbrev pub listed : Judge (List Expr) → Expr → Option ℕ → Judge (List Expr)
listed k x None = finished next λ _. pure (x ∷ [])
listed k x (Some p) = k next λ xs. pure (x ∷ xs)

-- values up to the end of the mark, at most n of them
abbrev pub whens_of : ℕ → ℕ → Judge (List Expr)
whens_of zero m = token m next λ w. too_many w
whens_of (suc n) m = value m next λ x. token_if separator next λ s. listed (whens_of n m) x s

-- `when value, value or value`: at most sixteen values
unfoldable pub whens : ℕ → Judge (List Expr)
whens m = whens_of 16 m
