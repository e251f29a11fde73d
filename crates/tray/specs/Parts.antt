-- Parts of a text, and the text of a record.
use Rattle.std.specs.Prelude.{ℕ, Bool, List, [], take, drop}
use Rattle.std.specs.Str.{bytes_eq}
use Rattle.tray.specs.declared.records.Span.{Span}
use Rattle.tray.specs.declared.records.Record.{Record}
use Rattle.tray.specs.declared.records.Record.TheVariants.{Nil, Boolean, Whole, Text, Array, Object}

-- n of them, the first by its number
abbrev pub span : ℕ → ℕ → Span
span f n = record { first = f; count = n }

-- n bytes from the place p on; what lies past the end is left out
abbrev pub cut : List ℕ → ℕ → ℕ → List ℕ
cut text p n = take n (drop p text)

-- the bytes of a text record; of any other, none
abbrev pub key_of : List ℕ → Record → List ℕ
key_of text Nil = []
key_of text (Boolean b) = []
key_of text (Whole z) = []
key_of text (Text s) = cut text s.first s.count
key_of text (Array s) = []
key_of text (Object s) = []

-- whether two texts are the same, byte by byte
unfoldable pub same_text : List ℕ → List ℕ → Bool
same_text xs ys = bytes_eq xs ys
