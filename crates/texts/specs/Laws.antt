-- A law of text, in the words of a reader.
use Rattle.std.specs.Prelude.{◌≡◌, ℕ, List, [], ◌∷◌, ◌++◌, map}
use Rattle.values.specs.Value.{array, Items, written}
use Rattle.values.specs.RowsOf.{listed}

abbrev pub joined : List (List ℕ) → List ℕ
joined [] = []
joined (t ∷ ts) = t ++ joined ts

-- the text of an array is its items' texts joined
abbrev pub ArrayTextJoined : Type 0
ArrayTextJoined = (xs : Items) → written (array xs) ≡ joined (map written (listed xs))
