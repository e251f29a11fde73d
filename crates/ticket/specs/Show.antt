-- What `show` prints for a host name.
use Rattle.std.specs.Prelude.{ℕ, cond, List, [], ◌∷◌, ◌++◌, vec_items, codes}
use Rattle.tray.specs.declared.records.Record.{Record}
use Rattle.tray.specs.declared.records.Record.TheVariants.{Nil, Boolean, Whole, Text, Array, Object}
use Rattle.tray.specs.Sound.{at}
use Rattle.tray.specs.declared.trays.Tray.{Tray}
use Rattle.values.specs.Meaning.{value_of, text_at}
use Rattle.values.specs.Value.{written}
use Rattle.ticket.specs.Names.{is_name}
use Rattle.ticket.specs.Quote.{quoted}

abbrev pub kind_word : Record → List ℕ
kind_word Nil = codes "nil"
kind_word (Boolean b) = codes "boolean"
kind_word (Whole z) = codes "number"
kind_word (Text s) = codes "text"
kind_word (Array s) = codes "array"
kind_word (Object s) = codes "object"

-- a name stands bare, any other text in quotes
abbrev pub shown_name : List ℕ → List ℕ
shown_name text = cond (is_name text) text (quoted text)

abbrev pub name_line : List ℕ → List ℕ → List ℕ → List ℕ
name_line name kind text = codes "show " ++ (shown_name name ++ (codes " " ++ (kind ++ (codes " text=" ++ (quoted text ++ (10 ∷ []))))))

-- the line of an entry of a tray, whose key and value are these records
abbrev pub entry_line : Tray → ℕ → ℕ → List ℕ
entry_line t key value = name_line (text_at t key) (kind_word (at (vec_items t.records) value)) (written (value_of t value))
