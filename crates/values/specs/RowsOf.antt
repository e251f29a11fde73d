-- The values that a loop may go over, as lists.
use Rattle.std.specs.Prelude.{ℕ, zero, suc, ◌+◌, List, [], ◌∷◌, Some, None, Option}
use Rattle.tray.specs.declared.trays.Tray.{Tray}
use Rattle.values.specs.declared.rows_of.Parts.{Parts}
use Rattle.tray.specs.declared.records.Record.{Record}
use Rattle.tray.specs.declared.records.Record.TheVariants.{Nil, Boolean, Whole, Text, Array, Object}
use Rattle.tray.specs.Parts.{span}
use Rattle.values.specs.Value.{Value, nil, boolean, whole, text, array, object, Items, none, item, Entries, empty, entry}
use Rattle.values.specs.Meaning.{value_of}

-- n numbers, each d more than the one before
abbrev pub stepping : ℕ → ℕ → ℕ → List ℕ
stepping i d zero = []
stepping i d (suc n) = i ∷ stepping (i + d) d n

abbrev pub listed : Items → List Value
listed none = []
listed (item v vs) = v ∷ listed vs

-- a pair is an array of a key and its value
abbrev pub paired : Value → Value → Value
paired k v = array (item k (item v none))

-- the pair whose key is record i
abbrev pub pair_value : Tray → ℕ → Value
pair_value t i = paired (value_of t i) (value_of t (i + 1))

abbrev pub pairs_listed : Entries → List Value
pairs_listed empty = []
pairs_listed (entry k v rest) = paired (text k) v ∷ pairs_listed rest

-- the items of an array; nil has none, and other values are no row of items
abbrev pub items_of : Value → Option (List Value)
items_of nil = Some []
items_of (boolean b) = None
items_of (whole z) = None
items_of (text t) = None
items_of (array xs) = Some (listed xs)
items_of (object es) = None

-- the entries of an object as pairs; other values have none
abbrev pub pairs_of : Value → Option (List Value)
pairs_of nil = None
pairs_of (boolean b) = None
pairs_of (whole z) = None
pairs_of (text t) = None
pairs_of (array xs) = None
pairs_of (object es) = Some (pairs_listed es)

-- the rows of a record, by the span of what it holds
abbrev pub items_row : Record → Option (Parts 1)
items_row Nil = Some (record { span = span 0 0 })
items_row (Boolean b) = None
items_row (Whole z) = None
items_row (Text s) = None
items_row (Array s) = Some (record { span = s })
items_row (Object s) = None

abbrev pub pairs_row : Record → Option (Parts 2)
pairs_row Nil = None
pairs_row (Boolean b) = None
pairs_row (Whole z) = None
pairs_row (Text s) = None
pairs_row (Array s) = None
pairs_row (Object s) = Some (record { span = s })
