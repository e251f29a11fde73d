-- What the entries of the tables stand for. Nothing, where a part leaves the source, or a number or an entry is not there.
use Rattle.std.specs.Prelude.{ℕ, ◌+◌, Bool, true, false, List, [], ◌∷◌, length, take, drop, Some, None, Option, nat_le, nat_lt}
use Rattle.std.specs.Option.{option_map}
use Rattle.tree.specs.Expressions as tree
use Rattle.tree.specs.Conditions as condition
use Rattle.nodes.specs.declared.exprs.Part.{Part}
use Rattle.nodes.specs.declared.exprs.Span.{Span}
use Rattle.nodes.specs.declared.exprs.Head.{Head}
use Rattle.nodes.specs.declared.exprs.Head.TheVariants.{Forloop, Tablerowloop, Name}
use Rattle.nodes.specs.declared.exprs.Step.{Step}
use Rattle.nodes.specs.declared.exprs.Step.TheVariants.{Index, Key}
use Rattle.nodes.specs.declared.exprs.Expr.{Expr}
use Rattle.nodes.specs.declared.exprs.Expr.TheVariants.{Nil, Boolean, Number, Text, Path}
use Rattle.nodes.specs.declared.exprs.Filter.{Filter}
use Rattle.nodes.specs.declared.exprs.Chain.{Chain}
use Rattle.nodes.specs.declared.exprs.Row.{Row}
use Rattle.nodes.specs.declared.exprs.Row.TheVariants.{Of, Range}
use Rattle.nodes.specs.declared.exprs.Comparison.{Comparison}
use Rattle.nodes.specs.declared.exprs.Comparison.TheVariants.{Equals, Differs, Less, More, AtMost, AtLeast, Contains}

-- The source text, how many names and cycle names the sheet has, and the tables of steps, values and filters.
pub record Pool : Type 0 where
  pub source : List ℕ
  pub names : ℕ
  pub cycles : ℕ
  pub steps : List Step
  pub values : List Expr
  pub filters : List Filter

-- first the one, and with what it is the other
abbrev pub ◌so◌ : {A B : Type 0} → Option A → (A → Option B) → Option B
◌so◌ None f = None
◌so◌ (Some x) f = f x

infixr 20 ◌so◌
-- what it is, where a test passes
abbrev pub where_so : {A : Type 0} → Bool → Option A → Option A
where_so true x = x
where_so false x = None

-- a value, where a test passes
abbrev pub only : {A : Type 0} → Bool → A → Option A
only true x = Some x
only false x = None

abbrev pub each : {A B : Type 0} → (A → Option B) → List A → Option (List B)
each f [] = Some []
each f (x ∷ xs) = f x so λ y. each f xs so λ ys. Some (y ∷ ys)

abbrev pub if_any : {A B : Type 0} → (A → Option B) → Option A → Option (Option B)
if_any f None = Some None
if_any f (Some x) = option_map Some (f x)

-- the bytes of a part of the source
abbrev pub bytes_of : List ℕ → Part → Option (List ℕ)
bytes_of source p = only (nat_le (p.place + p.len) (length source)) (take p.len (drop p.place source))

-- the entries of a span
abbrev pub entries : {A : Type 0} → List A → Span → Option (List A)
entries xs s = only (nat_le (s.from + s.count) (length xs)) (take s.count (drop s.from xs))

abbrev pub comparison_of : Comparison → condition.Comparison
comparison_of Equals = condition.equals
comparison_of Differs = condition.differs
comparison_of Less = condition.is_less
comparison_of More = condition.is_more
comparison_of AtMost = condition.at_most
comparison_of AtLeast = condition.at_least
comparison_of Contains = condition.contains

module _ (b : Pool) where
  abbrev pub head_of : Head → Option tree.Head
  head_of Forloop = Some tree.forloop
  head_of Tablerowloop = Some tree.tablerowloop
  head_of (Name n) = only (nat_lt n b.names) (tree.named n)

  abbrev pub step_of : Step → Option tree.Step
  step_of (Index z) = Some (tree.index z)
  step_of (Key p) = option_map tree.key (bytes_of b.source p)

  unfoldable pub expr_of : Expr → Option tree.Expr
  expr_of Nil = Some tree.nil_literal
  expr_of (Boolean v) = Some (tree.boolean_literal v)
  expr_of (Number z) = Some (tree.number_literal z)
  expr_of (Text p) = option_map tree.text_literal (bytes_of b.source p)
  expr_of (Path h s) = head_of h so λ t. entries b.steps s so λ xs. each step_of xs so λ ts. Some (tree.path t ts)

  abbrev pub filter_of : Filter → Option tree.Filter
  filter_of f = bytes_of b.source f.name so λ n. if_any expr_of f.argument so λ a. Some (record { filter = n; argument = a })

  unfoldable pub chain_of : Chain → Option tree.Chain
  chain_of c = expr_of c.value so λ v. entries b.filters c.filters so λ fs. each filter_of fs so λ ts. Some (record { value = v; filters = ts })

  unfoldable pub values_of : Span → Option (List tree.Expr)
  values_of s = entries b.values s so λ xs. each expr_of xs

  unfoldable pub row_of : Row → Option tree.Row
  row_of (Of x) = option_map tree.row_from (expr_of x)
  row_of (Range x y) = expr_of x so λ u. expr_of y so λ v. Some (tree.range u v)
