-- Held values are the values of their records: steps and rows are the same whether taken on records or on the trees of values.
use Rattle.std.specs.Prelude.{◌≡◌, List, map, Option}
use Rattle.std.specs.Option.{option_map, option_or}
use Rattle.tray.specs.Sound.{Sound}
use Rattle.values.specs.Value.{Value}
use Rattle.values.specs.Steps.{Step as TreeStep, number, name, stepped as tree_stepped}
use Rattle.values.specs.RowsOf.{items_of, pairs_of}
use Rattle.tree.specs.Expressions.{Step, index, key}
use Rattle.meaning.specs.Things.{Held}
use Rattle.meaning.specs.Hosts.{Host, value_of, read_again, stepped}
use Rattle.meaning.specs.Rows.{row}

abbrev pub tree_step : Step → TreeStep
tree_step (index z) = number z
tree_step (key k) = name k

-- the items of an array and of nil, or the entries of an object as pairs
abbrev pub tree_row : Value → Option (List Value)
tree_row v = option_or (items_of v) (pairs_of v)

abbrev pub StepsAgree : Type 0
StepsAgree =
    (h : Host) (v : Held) (s : Step) → Sound h.records h.letters →
    option_map (value_of h) (stepped h v s) ≡ tree_stepped (value_of h v) (tree_step s)

-- records that make a tray, and a held value whose records are there
pub record There (h : Host) (v : Held) : Type 0 where
  pub sound : Sound h.records h.letters
  pub read : read_again h v ≡ v

abbrev pub RowsAgree : Type 0
RowsAgree = (h : Host) (v : Held) → There h v → option_map (map (value_of h)) (row h v) ≡ tree_row (value_of h v)

-- what is read again in a tray is there
abbrev pub ReadAgainIsThere : Type 0
ReadAgainIsThere = (h : Host) (v : Held) → read_again h (read_again h v) ≡ read_again h v
