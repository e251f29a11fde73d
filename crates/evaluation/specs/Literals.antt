-- The values of literals.
use Rattle.std.specs.Prelude.{ℕ, List}
use Rattle.nodes.specs.declared.exprs.Expr.{Expr}
use Rattle.nodes.specs.declared.exprs.Expr.TheVariants.{Nil, Boolean, Number, Text, Path}
use Rattle.nodes.specs.Books.{spelled}
use Rattle.meaning.specs.Things.{Held, nil, boolean, whole, text}

-- a path is no literal, and nil here
abbrev pub literal_of : List ℕ → Expr → Held
literal_of source Nil = nil
literal_of source (Boolean b) = boolean b
literal_of source (Number z) = whole z
literal_of source (Text p) = text (spelled source p)
literal_of source (Path h k) = nil
