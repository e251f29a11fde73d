-- What the form of a value stands for.
use Rattle.std.specs.Prelude.{◌≡◌, ℕ}
use Rattle.tray.specs.declared.trays.Tray.{Tray}
use Rattle.values.specs.Value.{Value, Entries}
use Rattle.values.specs.Value as tree
use Rattle.values.specs.Meaning.{items_from, value_of}
use Rattle.comparisons.specs.declared.forms.Items.{Items}
use Rattle.comparisons.specs.declared.forms.Form.{Form}
use Rattle.comparisons.specs.declared.forms.Form.TheVariants.{Nil, Boolean, Whole, Text, Array, Object}

-- two items, the first by its number
abbrev pub pair_from : ℕ → Items
pair_from i = record { first = i; count = 2 }

-- record i is an object, and the value is that
pub record ObjectAt (t : Tray) (i : ℕ) (v : Value) : Type 0 where
  pub entries : Entries
  pub object : v ≡ tree.object entries
  pub at : v ≡ value_of t i

abbrev pub Means : Tray → Form → Value → Type 0
Means t Nil v = v ≡ tree.nil
Means t (Boolean b) v = v ≡ tree.boolean b
Means t (Whole z) v = v ≡ tree.whole z
Means t (Text s) v = v ≡ tree.text s.now
Means t (Array s) v = v ≡ tree.array (items_from (value_of t) s.first s.count)
Means t (Object i) v = ObjectAt t i v
