-- Tables that have only grown.
use Rattle.std.specs.Prelude.{◌≡◌, ℕ, ◌<◌, ◌≤◌, List, ◌++◌, Some, Option}
use Rattle.std.specs.List.{slice_get}
use Rattle.nodes.specs.declared.table.Node.{Node}
use Rattle.nodes.specs.Exprs.{Pool}

-- ys is xs with more behind it
pub record Front {A : Type 0} (xs ys : List A) : Type 0 where
  pub more : List A
  pub is : ys ≡ xs ++ more

-- the same source, and at least as many names, cycle names and entries
pub record Wider (b c : Pool) : Type 0 where
  pub source : c.source ≡ b.source
  pub names : b.names ≤ c.names
  pub cycles : b.cycles ≤ c.cycles
  pub steps : Front b.steps c.steps
  pub values : Front b.values c.values
  pub filters : Front b.filters c.filters

-- the same nodes from i up to e
abbrev pub Agree : List Node → List Node → ℕ → ℕ → Type 0
Agree ns ms i e = (k : ℕ) → i ≤ k → k < e → slice_get ms k ≡ slice_get ns k

-- what the one gives, the other gives too
abbrev pub Keeps : {A : Type 0} → Option A → Option A → Type 0
Keeps {A} o p = (y : A) → o ≡ Some y → p ≡ Some y
