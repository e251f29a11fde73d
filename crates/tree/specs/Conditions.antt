-- Conditions of `if`, `unless` and `elsif`.
use Rattle.tree.specs.Expressions.{Expr}

pub data Comparison : Type 0 where
  equals : Comparison
  differs : Comparison
  is_less : Comparison
  is_more : Comparison
  at_most : Comparison
  at_least : Comparison
  contains : Comparison

-- an existence test, or a comparison
pub data Test : Type 0 where
  exists : Expr → Test
  compares : Expr → Comparison → Expr → Test

-- `and` and `or` have one rank and group from the right: `a and b or c` is `both a (either b (only c))`
pub data Condition : Type 0 where
  only : Test → Condition
  both : Test → Condition → Condition
  either : Test → Condition → Condition
