-- The mark that is read.
use Rattle.std.specs.Prelude.{◌≡◌, ℕ, ◌+◌, List, length, take, Some, None, Ok, Err, vec_items, Result}
use Rattle.cutter.specs.Words.{Words, words_from, verdict}
use Rattle.cutter.specs.Ahead.{ahead}
use Rattle.arguments.specs.declared.reader.Reader.{Reader}
use Rattle.arguments.specs.declared.refusals.Stop.{Stop}
use Rattle.arguments.specs.declared.refusals.Stop.TheVariants.{Refused, Memory}
use Rattle.arguments.specs.declared.refusals.Refusal.TheVariants.{NoToken}

-- the tokens of a mark at place p of the source with these bytes inside
abbrev pub inside : List ℕ → ℕ → List ℕ → Words
inside source p b = words_from (take (p + 2 + length b) source) (p + 2)

-- the source and all tables are the same
pub record SameTables (d e : Reader) : Type 0 where
  pub source : e.source ≡ d.source
  pub names : vec_items e.names ≡ vec_items d.names
  pub cycles : vec_items e.cycles ≡ vec_items d.cycles
  pub steps : vec_items e.steps ≡ vec_items d.steps
  pub values : vec_items e.values ≡ vec_items d.values
  pub filters : vec_items e.filters ≡ vec_items d.filters
  pub nodes : vec_items e.nodes ≡ vec_items d.nodes

-- the mark cuts into tokens, which are ahead then; or it does not, and nothing has changed
abbrev pub Begins : Reader → ℕ → List ℕ → Result (Prim.Unit {0}) Stop → Reader → Type 0
Begins d p b (Ok u) e = (verdict (inside d.source.now p b) ≡ None) × (e.mark ≡ p) × (ahead e.cursor ≡ inside d.source.now p b) × SameTables d e
Begins d p b (Err (Refused k q)) e = (verdict (inside d.source.now p b) ≡ Some q) × (k ≡ NoToken) × (e ≡ d)
Begins d p b (Err Memory) e = ⊥
