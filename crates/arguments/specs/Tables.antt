-- What the reader's tables say, and what its functions answer.
use Rattle.std.specs.Prelude.{◌≡◌, ℕ, ◌+◌, ◌<◌, ◌≤◌, true, false, List, map, length, take, drop, Some, None, Ok, Err, vec_items, Option, Result}
use Rattle.tray.specs.Parts.{cut}
use Rattle.cutter.specs.Ahead.{ahead}
use Rattle.cutter.specs.declared.places.Placed.{Placed}
use Rattle.nodes.specs.declared.exprs.Part.{Part}
use Rattle.nodes.specs.declared.exprs.Filter.{Filter}
use Rattle.nodes.specs.declared.exprs.Expr.{Expr}
use Rattle.nodes.specs.declared.table.Node.{Node}
use Rattle.nodes.specs.Exprs.{Pool}
use Rattle.nodes.specs.Wider.{Front, Wider}
use Rattle.arguments.specs.declared.reader.CycleName as code
use Rattle.arguments.specs.declared.reader.CycleName.TheVariants.{Given, Made}
use Rattle.arguments.specs.declared.reader.Reader.{Reader}
use Rattle.arguments.specs.declared.refusals.Stop.{Stop}
use Rattle.arguments.specs.declared.refusals.Stop.TheVariants.{Refused, Memory}
use Rattle.arguments.specs.Judging.{CycleName, Asked, Lists, State, state, Verdict, refuses, passes, Seen, seen}
use Rattle.arguments.specs.Names.{bytes_of}
use Rattle.arguments.specs.Refusals.{number_of}

-- the bytes of a part of the source
abbrev pub part_in : List ℕ → Part → List ℕ
part_in source p = cut source p.place p.len

-- a cycle name given in a tag, and one made of its values
abbrev pub given_name : List ℕ → CycleName
given_name b = record { given = true; bytes = b }

abbrev pub made_name : List ℕ → CycleName
made_name b = record { given = false; bytes = b }

abbrev pub cycle_of : code.CycleName → CycleName
cycle_of (Given b) = given_name (bytes_of b)
cycle_of (Made b) = made_name (bytes_of b)

abbrev pub asked_in : List ℕ → Filter → Asked
asked_in source f = record { place = f.name.place; name = part_in source f.name }

abbrev pub lists_of : Reader → Lists
lists_of d =
    record {
      names = map (part_in d.source.now) (vec_items d.names);
      cycles = map cycle_of (vec_items d.cycles);
      nodes = length (vec_items d.nodes);
      asked = map (asked_in d.source.now) (vec_items d.filters);
    }

abbrev pub pool_of : Reader → Pool
pool_of d =
    record {
      source = d.source.now;
      names = length (vec_items d.names);
      cycles = length (vec_items d.cycles);
      steps = vec_items d.steps;
      values = vec_items d.values;
      filters = vec_items d.filters;
    }

-- the same with other values
abbrev pub with_values : List Expr → Pool → Pool
with_values xs b = record { source = b.source; names = b.names; cycles = b.cycles; steps = b.steps; values = xs; filters = b.filters }

abbrev pub under : Reader → State
under d = state (ahead d.cursor) (lists_of d)

-- the definition's refusal, or want of memory
abbrev pub Refuses : {B : Type 0} → Stop → Verdict B → Type 0
Refuses (Refused k p) v = v ≡ refuses (number_of k) p
Refuses Memory v = Prim.Unit {0}

-- What was read, as D ties it to the definition's; or a refusal.
abbrev pub Said : {A B : Type 0} → Result A Stop → Verdict B → (A → B → Type 0) → State → Type 0
Said {A} {B} (Ok x) v D s = (y : B) × D x y × (v ≡ passes y s)
Said (Err e) v D s = Refuses e v

-- The tables have only grown, and the values, the nodes and the mark are the same.
pub record Grown (d e : Reader) : Type 0 where
  pub pool : Wider (pool_of d) (pool_of e)
  pub names : Front (vec_items d.names) (vec_items e.names)
  pub cycles : Front (vec_items d.cycles) (vec_items e.cycles)
  pub values : vec_items e.values ≡ vec_items d.values
  pub nodes : vec_items e.nodes ≡ vec_items d.nodes
  pub mark : e.mark ≡ d.mark

-- The tables have only grown, the values and the nodes too, and the mark is the same.
pub record Longer (d e : Reader) : Type 0 where
  pub pool : Wider (pool_of d) (pool_of e)
  pub names : Front (vec_items d.names) (vec_items e.names)
  pub cycles : Front (vec_items d.cycles) (vec_items e.cycles)
  pub nodes : Front (vec_items d.nodes) (vec_items e.nodes)
  pub mark : e.mark ≡ d.mark

-- The nodes are these, and nothing else has changed.
pub record Sets (d e : Reader) (ns : List Node) : Type 0 where
  pub nodes : vec_items e.nodes ≡ ns
  pub pool : pool_of e ≡ pool_of d
  pub names : vec_items e.names ≡ vec_items d.names
  pub cycles : vec_items e.cycles ≡ vec_items d.cycles
  pub cursor : e.cursor ≡ d.cursor
  pub mark : e.mark ≡ d.mark

-- bytes that stand in the source at a place
pub record Lies (source : List ℕ) (place : ℕ) (b : List ℕ) : Type 0 where
  pub to : place + length b ≤ length source
  pub is : b ≡ take (length b) (drop place source)

-- a token as the definition sees it
pub record Shown (source : List ℕ) (w : Placed) (y : Seen) : Type 0 where
  pub is : y ≡ seen w.place w.bytes.now
  pub lies : Lies source w.place w.bytes.now

-- nothing, or what D ties to the definition's
abbrev pub Perhaps : {A B : Type 0} → (A → B → Type 0) → Option A → Option B → Type 0
Perhaps {A} {B} D None y = y ≡ None
Perhaps {A} {B} D (Some x) y = (z : B) × D x z × (y ≡ Some z)

-- the value itself
abbrev pub Is : {A : Type 0} → A → A → Type 0
Is x y = y ≡ x

-- the value itself, a number below a limit
abbrev pub Below : ℕ → ℕ → ℕ → Type 0
Below limit x y = (y ≡ x) × (x < limit)
