-- What was read, as entries of the tables.
use Rattle.std.specs.Prelude.{◌≡◌, ℕ, ◌+◌, ◌*◌, List, [], ◌∷◌, ◌++◌, length, Some, None, Ok, Err, Option, vec_items, Result, ◌<◌}
use Rattle.std.specs.Option.{option_map}
use Rattle.arrayvec.specs.ArrayVec.{ArrayVec}
use Rattle.tree.specs.Expressions as expression
use Rattle.tree.specs.Elements as tree
use Rattle.tree.specs.Conditions as condition
use Rattle.nodes.specs.declared.exprs.Comparison.{Comparison}
use Rattle.nodes.specs.declared.exprs.Expr.{Expr}
use Rattle.nodes.specs.declared.exprs.Span.{Span}
use Rattle.nodes.specs.declared.table.Leaf.{Leaf}
use Rattle.nodes.specs.declared.table.Leaf.TheVariants.{Cycle}
use Rattle.nodes.specs.declared.table.Node.{Node}
use Rattle.nodes.specs.declared.table.Node.TheVariants as node
use Rattle.nodes.specs.Exprs.{Pool, each, comparison_of, expr_of, values_of, if_any}
use Rattle.nodes.specs.Trees.{leaf_of, test_of, condition_of}
use Rattle.arguments.specs.declared.reader.Reader.{Reader}
use Rattle.arguments.specs.declared.refusals.Stop.{Stop}
use Rattle.arguments.specs.Judging.{State}
use Rattle.arguments.specs.Values.{value}
use Rattle.arguments.specs.Tables.{pool_of, Refuses}
use Rattle.tags.specs.declared.stdlib.blocks.if_block.Joint.{Joint}
use Rattle.tags.specs.declared.stdlib.blocks.if_block.Joint.TheVariants.{And, Or}
use Rattle.tags.specs.Conditions.{first}
use Rattle.arguments.specs.Reading.{Rows}
use Rattle.tags.specs.declared.stdlib.blocks.for_block.Attributes.{Attributes as CodeAttributes}
use Rattle.tags.specs.declared.stdlib.blocks.for_block.Header.{Header as CodeHeader}
use Rattle.tags.specs.Cycles.{Written, joined_with, values_in}
use Rattle.tags.specs.Loops.{Attributes, Header}

abbrev pub Leaves : Pool → Leaf → tree.Leaf → Type 0
Leaves b x y = leaf_of b x ≡ Some y

pub record Settings (b : Pool) (x : CodeAttributes) (y : Attributes) : Type 0 where
  pub cols : if_any (expr_of b) x.cols ≡ Some y.cols
  pub limit : if_any (expr_of b) x.limit ≡ Some y.limit
  pub offset : if_any (expr_of b) x.offset ≡ Some y.offset
  pub reversed : y.reversed ≡ x.reversed

pub record Headers (b : Pool) (x : CodeHeader) (y : Header) : Type 0 where
  pub variable : y.variable ≡ x.variable
  pub there : x.variable < b.names
  pub row : Rows b x.row y.row
  pub attributes : Settings b x.attributes y.attributes

abbrev pub Tests : Pool → Node → condition.Test → Type 0
Tests b x y = test_of b x ≡ Some y

-- a comparison, if there is one
abbrev pub Comparisons : Option Comparison → Option condition.Comparison → Type 0
Comparisons x y = y ≡ option_map comparison_of x

-- a first value is judged as any other, where there is room for a node
abbrev pub Roomy : Result (Prim.Unit {0}) Stop → ℕ → State → Type 0
Roomy (Ok u) m s = first m s ≡ value m s
Roomy (Err e) m s = Refuses e (first m s)

abbrev pub Values : Pool → Span → List expression.Expr → Type 0
Values b x ys = values_of b x ≡ Some ys

-- all values that entered
pub record Whole (d e : Reader) (s : Span) : Type 0 where
  pub from : s.from ≡ length (vec_items d.values)
  pub to : s.from + s.count ≡ length (vec_items e.values)

abbrev pub WholeCycle : Reader → Reader → Leaf → Type 0
WholeCycle d e l = (n : ℕ) × (s : Span) × (l ≡ Cycle n s) × Whole d e s

-- values that stand in the table behind others
pub record Added (old : List Expr) (b : Pool) (u : Prim.Unit {0}) (ys : List expression.Expr) : Type 0 where
  pub new : List Expr
  pub values : b.values ≡ old ++ new
  pub are : each (expr_of b) new ≡ Some ys

-- an `and` or `or` as a node
abbrev pub node_of : Joint → Node
node_of (And p) = node.And
node_of (Or p) = node.Or

-- a test stands last among the nodes
pub record Last (d e : Reader) (u : Prim.Unit {0}) (t : condition.Test) : Type 0 where
  pub node : Node
  pub nodes : vec_items e.nodes ≡ vec_items d.nodes ++ (node ∷ [])
  pub is : test_of (pool_of e) node ≡ Some t

-- the nodes from one place up to another stand for a condition: k tests, and what joins them
pub record Stands (b : Pool) (nodes : List Node) (from to : ℕ) (u : Prim.Unit {0}) (c : condition.Condition) : Type 0 where
  pub k : ℕ
  pub count : from + 2 * k ≡ to + 1
  pub is : condition_of b nodes k from to ≡ Some c

-- the name that values make so far; none where it is longer than a name may be
abbrev pub Names : Option (ArrayVec ℕ) → List ℕ → Type 0
Names None b = 128 < length b
Names (Some v) b = v.items ≡ b

-- the values that follow in a cycle stand in the table behind others, and the name goes on with them
pub record Continued (old : List Expr) (b : Pool) (name after : Option (ArrayVec ℕ)) (ws : List Written) : Type 0 where
  pub added : Added old b tt (values_in ws)
  pub named : (a : List ℕ) → Names name a → Names after (joined_with a ws)
