-- What a sheet holds.
use Rattle.std.specs.Prelude.{◌≡◌, ℕ, ◌+◌, Bool, List, [], ◌∷◌, ◌++◌, length, Some, Ok, Err, vec_items, Option, Result}
use Rattle.tree.specs.Elements.{Tree}
use Rattle.arguments.specs.declared.refusals.Stop.{Stop}
use Rattle.arguments.specs.declared.refusals.Stop.TheVariants.{Refused, Memory}
use Rattle.arguments.specs.Refusals.{number_of}
use Rattle.arguments.specs.Judging.{Lists}
use Rattle.arguments.specs.Tables.{pool_of, lists_of}
use Rattle.sheet.specs.declared.templates.Template.{Template}
use Rattle.sheet.specs.declared.sheet.Sheet.{Sheet}
use Rattle.sheet.specs.Templates.{trees_in}
use Rattle.sheet.specs.Loading.{Answer, refused, loaded, load}

abbrev pub templates_of : Sheet → List Template
templates_of s = vec_items s.templates

-- the trees of its templates, in the order of loading
abbrev pub trees_of : Sheet → Option (List Tree)
trees_of s = trees_in (pool_of s.parser.reader) (vec_items s.parser.reader.nodes) (templates_of s)

abbrev pub lists : Sheet → Lists
lists s = lists_of s.parser.reader

abbrev pub source_in : Sheet → List ℕ
source_in s = s.parser.reader.source.now

-- all that a sheet holds is the same
pub record Untouched (s t : Sheet) : Type 0 where
  pub source : source_in t ≡ source_in s
  pub names : vec_items t.parser.reader.names ≡ vec_items s.parser.reader.names
  pub cycles : vec_items t.parser.reader.cycles ≡ vec_items s.parser.reader.cycles
  pub steps : vec_items t.parser.reader.steps ≡ vec_items s.parser.reader.steps
  pub values : vec_items t.parser.reader.values ≡ vec_items s.parser.reader.values
  pub filters : vec_items t.parser.reader.filters ≡ vec_items s.parser.reader.filters
  pub nodes : vec_items t.parser.reader.nodes ≡ vec_items s.parser.reader.nodes
  pub templates : templates_of t ≡ templates_of s

-- A template more: its tree behind the others, and the lists then.
pub record Added (s t : Sheet) (y : Tree) (l : Lists) : Type 0 where
  pub source : source_in t ≡ source_in s
  pub lists : lists t ≡ l
  pub count : length (templates_of t) ≡ length (templates_of s) + 1
  pub trees : (ts : List Tree) → trees_of s ≡ Some ts → trees_of t ≡ Some (ts ++ (y ∷ []))

-- what `load` answers, by the definition: the template's number, and a template more; or a refusal, or want of memory, and a sheet that is untouched
abbrev pub Loads : (List ℕ → Bool) → ℕ → ℕ → Sheet → Result ℕ Stop → Sheet → Type 0
Loads known place len s (Ok k) t =
    (y : Tree) × (l : Lists) × (load known (source_in s) (length (templates_of s)) place len (lists s) ≡ loaded y l) × (k ≡ length (templates_of s)) × Added s t y l
Loads known place len s (Err (Refused r p)) t =
    (load known (source_in s) (length (templates_of s)) place len (lists s) ≡ refused (number_of r) p) × Untouched s t
Loads known place len s (Err Memory) t = Untouched s t
