-- What the tables of a book stand for.
use Rattle.std.specs.Prelude.{ℕ, List, map, length, take, drop}
use Rattle.nodes.specs.declared.exprs.Part.{Part}
use Rattle.nodes.specs.declared.book.Book.{Book}
use Rattle.nodes.specs.Exprs.{Pool}

abbrev pub pool_in : Book → Pool
pool_in b =
    record {
      source = b.source.now;
      names = length b.names.now;
      cycles = b.cycles;
      steps = b.steps.now;
      values = b.values.now;
      filters = b.filters.now;
    }

-- the bytes of a name; what lies past the end of the source is left out
abbrev pub spelled : List ℕ → Part → List ℕ
spelled source p = take p.len (drop p.place source)

abbrev pub names_in : Book → List (List ℕ)
names_in b = map (spelled b.source.now) b.names.now
