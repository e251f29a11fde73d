-- How long the tables are, and how they are cut back.
use Rattle.std.specs.Prelude.{◌≡◌, length, take, vec_items}
use Rattle.arguments.specs.declared.reader.Reader.{Reader}
use Rattle.arguments.specs.declared.reader.lengths.Lengths.{Lengths}

abbrev pub lengths_of : Reader → Lengths
lengths_of d =
    record {
      names = length (vec_items d.names);
      cycles = length (vec_items d.cycles);
      steps = length (vec_items d.steps);
      values = length (vec_items d.values);
      filters = length (vec_items d.filters);
      nodes = length (vec_items d.nodes);
    }

-- each table has its first entries, so many; nothing else has changed
pub record CutBack (d : Reader) (n : Lengths) (e : Reader) : Type 0 where
  pub source : e.source ≡ d.source
  pub names : vec_items e.names ≡ take n.names (vec_items d.names)
  pub cycles : vec_items e.cycles ≡ take n.cycles (vec_items d.cycles)
  pub steps : vec_items e.steps ≡ take n.steps (vec_items d.steps)
  pub values : vec_items e.values ≡ take n.values (vec_items d.values)
  pub filters : vec_items e.filters ≡ take n.filters (vec_items d.filters)
  pub nodes : vec_items e.nodes ≡ take n.nodes (vec_items d.nodes)
  pub mark : e.mark ≡ d.mark
  pub cursor : e.cursor ≡ d.cursor
