-- The value that a record of a tray stands for.
use Rattle.std.specs.Prelude.{ℕ, zero, suc, ◌+◌, ◌<◌, ◌≤◌, List, length, vec_items}
use Rattle.tray.specs.declared.records.Record.{Record}
use Rattle.tray.specs.declared.records.Record.TheVariants.{Nil, Boolean, Whole, Text, Array, Object}
use Rattle.tray.specs.declared.trays.Tray.{Tray}
use Rattle.tray.specs.Parts.{cut, key_of}
use Rattle.tray.specs.Sound.{at}
use Rattle.values.specs.Value.{Value, nil, boolean, whole, text, array, object, Items, none, item, Entries, empty, entry}

-- n items from the record i on
abbrev pub items_from : (ℕ → Value) → ℕ → ℕ → Items
items_from f i zero = none
items_from f i (suc n) = item (f i) (items_from f (i + 1) n)

-- n entries from the record i on: a key, then its value
abbrev pub entries_from : (ℕ → List ℕ) → (ℕ → Value) → ℕ → ℕ → Entries
entries_from key f i zero = empty
entries_from key f i (suc n) = entry (key i) (f (i + 1)) (entries_from key f (i + 2) n)

-- what a record stands for, by the keys and values that it holds
abbrev pub shape : List ℕ → (ℕ → List ℕ) → (ℕ → Value) → Record → Value
shape tx key f Nil = nil
shape tx key f (Boolean b) = boolean b
shape tx key f (Whole z) = whole z
shape tx key f (Text s) = text (cut tx s.first s.count)
shape tx key f (Array s) = array (items_from f s.first s.count)
shape tx key f (Object s) = object (entries_from key f s.first s.count)

abbrev pub key_at : List Record → List ℕ → ℕ → List ℕ
key_at rs tx i = key_of tx (at rs i)

-- to the depth k; what a record holds stands behind it, so the number of records is deep enough
abbrev pub value_to : ℕ → List Record → List ℕ → ℕ → Value
value_to zero rs tx i = nil
value_to (suc k) rs tx i = shape tx (key_at rs tx) (value_to k rs tx) (at rs i)

unfoldable pub value_at : List Record → List ℕ → ℕ → Value
value_at rs tx i = value_to (length rs) rs tx i

-- the value of record i of a tray; past the last record there is only nil
abbrev pub value_of : Tray → ℕ → Value
value_of t i = value_at (vec_items t.records) t.text.now i

-- the text of record i of a tray, where it is a text
abbrev pub text_at : Tray → ℕ → List ℕ
text_at t i = key_at (vec_items t.records) t.text.now i

-- how many records a tray has
abbrev pub count_of : Tray → ℕ
count_of t = length (vec_items t.records)

-- what the record h holds, `width` records from `from` on, stands behind it and is there
abbrev pub Below : ℕ → ℕ → ℕ → ℕ → Type 0
Below h from width all = (h < all) × (0 < width → (h < from) × (from + width ≤ all))
