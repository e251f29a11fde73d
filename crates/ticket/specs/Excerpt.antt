-- The line of a template in which a place is marked.
use Rattle.std.specs.Prelude.{ℕ, ◌+◌, Bool, cond, List, [], ◌∷◌, ◌++◌, ◌==◌, nat_lt, length, map, take, drop, count_by, codes}
use Rattle.std.specs.Fmt.{decimal}
use Rattle.std.specs.List.{flat_map, before_first, after_last}
use Rattle.ticket.specs.Names.{between}

-- the byte that ends a line
abbrev pub is_end : ℕ → Bool
is_end b = b == 10

-- the number of the line of a place, its bytes before the place, and those from there on
abbrev pub line_of : ℕ → List ℕ → ℕ
line_of place text = count_by is_end (take place text) + 1

abbrev pub before_of : ℕ → List ℕ → List ℕ
before_of place text = after_last is_end (take place text)

abbrev pub behind_of : ℕ → List ℕ → List ℕ
behind_of place text = before_first is_end (drop place text)

-- a place, its line, and its column, behind so many bytes of the line
abbrev pub spot_words : ℕ → ℕ → ℕ → List ℕ
spot_words place line before = codes " place=" ++ (decimal place ++ (codes " line=" ++ (decimal line ++ (codes " column=" ++ decimal (before + 1)))))

abbrev pub place_words : ℕ → List ℕ → List ℕ
place_words place text = spot_words place (line_of place text) (length (before_of place text))

-- a control byte is shown as ?
abbrev pub plain : ℕ → ℕ
plain b = cond (nat_lt b 32) 63 (cond (b == 127) 63 b)

-- a blank for a byte that begins a character of UTF-8, none for one that goes on in it
abbrev pub blank : ℕ → List ℕ
blank b = cond (between 128 191 b) [] (32 ∷ [])

-- the line, of which these bytes stand before the place and those behind it, and a caret below the place
abbrev pub excerpt : List ℕ → List ℕ → List ℕ
excerpt before behind = codes "  " ++ (map plain before ++ (map plain behind ++ (10 ∷ (codes "  " ++ (flat_map blank before ++ (94 ∷ (10 ∷ [])))))))
