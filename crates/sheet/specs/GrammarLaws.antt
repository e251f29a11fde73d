-- What holds of the grammar.
use Rattle.std.specs.Prelude.{◌≡◌, ◌≢◌, ℕ, ◌<◌, ◌⊎◌, Bool, true, false, List, Some, None, codes, Option}
use Rattle.cutter.specs.Words.{Words, tokens}
use Rattle.cutter.specs.Cuts.{Cut, done as no_pieces}
use Rattle.tree.specs.Expressions.{boolean_literal}
use Rattle.tree.specs.Conditions.{Test, exists, Condition, only, both, either}
use Rattle.tree.specs.Elements.{Tree}
use Rattle.arguments.specs.Judging.{CycleName, Lists}
use Rattle.sheet.specs.Steps.{fails, gives, pieces}
use Rattle.sheet.specs.Names.{known_as}
use Rattle.sheet.specs.Blocks.{Tag}
use Rattle.sheet.specs.Parsing.{Elements, elements}
use Rattle.sheet.specs.Grammar.{Env, NameIs, CycleNameIs, ConditionIs}
use Rattle.sheet.specs.GrammarElements.{TagAt, ElementsAre}

abbrev pub env_of : Lists → Env
env_of l = record { names = l.names; cycles = l.cycles }

-- what the numbers stand for in d, they stand for in e
pub record Kept (d e : Env) : Type 0 where
  pub names : (k : ℕ) (n : List ℕ) → NameIs d k n → NameIs e k n
  pub cycles : (k : ℕ) (c : CycleName) → CycleNameIs d k c → CycleNameIs e k c

-- no two names are the same, and no two cycle names
pub record Apart (e : Env) : Type 0 where
  pub names : (i j : ℕ) (n : List ℕ) → NameIs e i n → NameIs e j n → i ≡ j
  pub cycles : (i j : ℕ) (c : CycleName) → CycleNameIs e i c → CycleNameIs e j c → i ≡ j

-- tokens are a writing of one condition only
abbrev pub OneCondition : Type 0
OneCondition = (e : Env) → Apart e → (c d : Condition) (a : Words) → ConditionIs e c a → ConditionIs e d a → c ≡ d

-- `and` and `or` group from the right: what is written so is this condition, and no other
abbrev pub literal_test : Bool → Test
literal_test b = exists (boolean_literal b)

abbrev pub grouped : Condition
grouped = both (literal_test false) (either (literal_test false) (only (literal_test true)))

abbrev pub GroupsRight : Type 0
GroupsRight =
    (e : Env) →
    ConditionIs e grouped (tokens (codes "false and false or true")) × (Apart e → (c : Condition) → ConditionIs e c (tokens (codes "false and false or true")) → c ≡ grouped)

-- what is written stays so where names and cycle names keep their numbers
abbrev pub Monotone : Type 0
Monotone = (d e : Env) → Kept d e → (source : List ℕ) (t : Tree) (c f : Cut) → ElementsAre d source t c f → ElementsAre e source t c f

-- the tag that ends elements begins at f, and d is behind it; none at the end of the part
abbrev pub EndsBy : List ℕ → Option Tag → Cut → Cut → Type 0
EndsBy source None f d = (f ≡ no_pieces) × (d ≡ no_pieces)
EndsBy source (Some t) f d = (known_as t.name.bytes ≡ None) × TagAt source t.mark t.name.bytes t.ahead f d

-- what is read is derived, with the names that there are then; these are those that there were, and perhaps more, still apart
abbrev pub Derived : Type 0
Derived =
    (source : List ℕ) (end n r : ℕ) (c d : Cut) (l m : Lists) (y : Elements) → elements source end n r c l ≡ gives y d m →
    (f : Cut) × ElementsAre (env_of m) source y.tree c f × EndsBy source y.ending f d × Kept (env_of l) (env_of m) × (Apart (env_of l) → Apart (env_of m))

-- pieces are a writing of one tree only
abbrev pub OneWay : Type 0
OneWay =
    (e : Env) → Apart e → (source : List ℕ) (t u : Tree) (c d f : Cut) → ElementsAre e source t c d → ElementsAre e source u c f → (t ≡ u) × (d ≡ f)

-- so what is read is the only tree that the pieces are a writing of
abbrev pub OnlyTree : Type 0
OnlyTree =
    (source : List ℕ) (end n r : ℕ) (c d f : Cut) (l m : Lists) (y : Elements) (t : Tree) → elements source end n r c l ≡ gives y d m → Apart (env_of l) → ElementsAre (env_of m) source t c f → t ≡ y.tree

-- what is written up to the end of the part is read up to there, or refused by a limit
abbrev pub Accepted : Type 0
Accepted =
    (e : Env) (source : List ℕ) (end n r : ℕ) (c : Cut) (l : Lists) (t : Tree) → pieces c < n → ElementsAre e source t c no_pieces →
    ((p : ℕ) × (elements source end n r c l ≡ fails 2 p)) ⊎ ((y : Elements) × (m : Lists) × (elements source end n r c l ≡ gives y no_pieces m) × (y.ending ≡ None))

-- so where reading is refused, and not by a limit, no tree is written
abbrev pub NotWritten : Type 0
NotWritten =
    (source : List ℕ) (end n r : ℕ) (c : Cut) (l : Lists) (k p : ℕ) → pieces c < n → elements source end n r c l ≡ fails k p → k ≢ 2 → (e : Env) (t : Tree) → ElementsAre e source t c no_pieces → ⊥
