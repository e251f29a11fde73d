-- What was read, as entries of the tables.
use Rattle.std.specs.Prelude.{◌≡◌, ℕ, true, false, cond, List, [], ◌∷◌, ◌++◌, map, length, Some, Ok, Err, vec_items, Result, nat_le}
use Rattle.cutter.specs.Paths.{PlacedStep, at_index, at_key}
use Rattle.tree.specs.Expressions as tree
use Rattle.nodes.specs.declared.exprs.Head.{Head}
use Rattle.nodes.specs.declared.exprs.Step.{Step}
use Rattle.nodes.specs.declared.exprs.Step.TheVariants.{Index, Key}
use Rattle.nodes.specs.declared.exprs.Expr.{Expr}
use Rattle.nodes.specs.declared.exprs.Filter.{Filter}
use Rattle.nodes.specs.declared.exprs.Chain.{Chain}
use Rattle.nodes.specs.declared.exprs.Row.{Row}
use Rattle.nodes.specs.declared.exprs.Span.{Span}
use Rattle.nodes.specs.Exprs.{Pool, each, entries, head_of, step_of, expr_of, filter_of, chain_of, row_of}
use Rattle.arguments.specs.declared.reader.Reader.{Reader}
use Rattle.arguments.specs.declared.refusals.Stop.{Stop}
use Rattle.arguments.specs.declared.refusals.Stop.TheVariants.{Refused, Memory}
use Rattle.arguments.specs.declared.refusals.Refusal.TheVariants.{Limit, Argument}
use Rattle.arguments.specs.Judging.{Seen}
use Rattle.arguments.specs.Values.{tree_step_of, read, is_value}
use Rattle.arguments.specs.Tables.{pool_of, Lies}

abbrev pub Heads : Pool → Head → tree.Head → Type 0
Heads b x y = head_of b x ≡ Some y

abbrev pub Exprs : Pool → Expr → tree.Expr → Type 0
Exprs b x y = expr_of b x ≡ Some y

abbrev pub Rows : Pool → Row → tree.Row → Type 0
Rows b x y = row_of b x ≡ Some y

abbrev pub Chains : Pool → Chain → tree.Chain → Type 0
Chains b x y = chain_of b x ≡ Some y

-- the filters that entries of the table stand for
abbrev pub Filters : Pool → Span → List tree.Filter → Type 0
Filters b s ys = (fs : List Filter) × (entries b.filters s ≡ Some fs) × (each (filter_of b) fs ≡ Some ys)

-- a filter stands last in the table
abbrev pub Pushed : Reader → Reader → Prim.Unit {0} → tree.Filter → Type 0
Pushed d e u y = (f : Filter) × (vec_items e.filters ≡ vec_items d.filters ++ (f ∷ [])) × (filter_of (pool_of e) f ≡ Some y)

-- a value stands last in the table
pub record Valued (d e : Reader) (u : Prim.Unit {0}) (y : tree.Expr) : Type 0 where
  pub entry : Expr
  pub values : vec_items e.values ≡ vec_items d.values ++ (entry ∷ [])
  pub is : expr_of (pool_of e) entry ≡ Some y

-- the keys among steps stand in the source
abbrev pub KeysIn : List ℕ → List PlacedStep → Type 0
KeysIn source [] = Prim.Unit {0}
KeysIn source (at_index z ∷ ss) = KeysIn source ss
KeysIn source (at_key p k ∷ ss) = Lies source p k × KeysIn source ss

-- the steps of a path, at most four, as entries of the table
pub record Entered (e : Reader) (ss : List PlacedStep) (s : Span) : Type 0 where
  pub few : nat_le (length ss) 4 ≡ true
  pub new : List Step
  pub there : entries (vec_items e.steps) s ≡ Some new
  pub are : each (step_of (pool_of e)) new ≡ Some (map tree_step_of ss)

-- more than four steps, refused at a place; or want of memory
abbrev pub TooMany : List PlacedStep → ℕ → Stop → Type 0
TooMany ss place (Refused k p) = (nat_le (length ss) 4 ≡ false) × (k ≡ Limit) × (p ≡ place)
TooMany ss place Memory = Prim.Unit {0}

abbrev pub Stepped : Reader → List PlacedStep → ℕ → Result Span Stop → Type 0
Stepped e ss place (Ok s) = Entered e ss s
Stepped e ss place (Err x) = TooMany ss place x

-- a step as an entry of the table
abbrev pub entry_of : PlacedStep → Step
entry_of (at_index z) = Index z
entry_of (at_key p k) = Key (record { place = p; len = length k })

-- the refusal of one value too many; what is none is refused as such
abbrev pub one_too_many : Seen → Stop
one_too_many w = cond (is_value (read w)) (Refused Limit w.place) (Refused Argument w.place)
