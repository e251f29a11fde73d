-- What items and rows stand for.
use Rattle.std.specs.Prelude.{List, [], ◌∷◌, map}
use Rattle.rows.specs.Counted as counted
use Rattle.values.specs.RowsOf.{stepping}
use Rattle.frames.specs.declared.item.Item.{Item}
use Rattle.frames.specs.declared.item.Item.TheVariants as item
use Rattle.frames.specs.declared.item.AnyRow.{AnyRow}
use Rattle.frames.specs.declared.item.AnyRow.TheVariants as row
use Rattle.meaning.specs.Things.{Held, nil, whole, pair}
use Rattle.meaning.specs.Hosts.{Host, record_at}

-- the value that an item stands for in a tray
abbrev pub item_of : Host → Item → Held
item_of h item.Nil = nil
item_of h (item.Record i) = record_at h i
item_of h (item.Pair i) = pair i
item_of h (item.Whole z) = whole z

-- the items of a row
abbrev pub items_in : AnyRow → List Item
items_in row.Nothing = []
items_in row.Once = item.Nil ∷ []
items_in (row.Items s) = map item.Record (stepping s.span.first 1 s.span.count)
items_in (row.Pairs s) = map item.Pair (stepping s.span.first 2 s.span.count)
items_in (row.Numbers s) = map item.Whole (counted.held s.from s.to)
items_in (row.Pair k v) = item.Record k ∷ item.Record v ∷ []
