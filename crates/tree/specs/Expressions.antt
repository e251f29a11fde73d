-- Values as a template writes them. Names of the sheet are numbers; keys, texts and the names of filters are bytes.
use Rattle.std.specs.Prelude.{ℕ, Bool, List, ℤ, Option}

-- where a path begins: at a loop object, or at a name of the sheet
pub data Head : Type 0 where
  forloop : Head
  tablerowloop : Head
  named : ℕ → Head

-- `[number]`, or `.key` and `["key"]`
pub data Step : Type 0 where
  index : ℤ → Step
  key : List ℕ → Step

pub data Expr : Type 0 where
  nil_literal : Expr
  boolean_literal : Bool → Expr
  number_literal : ℤ → Expr
  text_literal : List ℕ → Expr
  path : Head → List Step → Expr

-- a filter: its name, and its argument if it has one
pub record Filter : Type 0 where
  pub filter : List ℕ
  pub argument : Option Expr

-- a value, and the filters that it goes through
pub record Chain : Type 0 where
  pub value : Expr
  pub filters : List Filter

-- what a loop goes over: a value, or the numbers from one to another
pub data Row : Type 0 where
  row_from : Expr → Row
  range : Expr → Expr → Row
