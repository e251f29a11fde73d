-- How a text is written as a JSON string.
use Rattle.std.specs.Prelude.{ℕ, ◌+◌, ◌/◌, ◌%◌, cond, List, [], ◌∷◌, ◌++◌, ◌==◌, nat_lt}
use Rattle.std.specs.List.{flat_map}

-- the lower-case hexadecimal digit of a number below 16
abbrev pub hex_digit : ℕ → ℕ
hex_digit d = cond (nat_lt d 10) (48 + d) (87 + d)

-- \u00 and two hexadecimal digits
abbrev pub by_code : ℕ → List ℕ
by_code b = 92 ∷ (117 ∷ (48 ∷ (48 ∷ (hex_digit (b / 16) ∷ (hex_digit (b % 16) ∷ [])))))

-- \ and a byte
abbrev pub slashed : ℕ → List ℕ
slashed b = 92 ∷ (b ∷ [])

-- One byte inside quotes: " and \ behind a \, the line ends and the tab as \n, \r, \t,
-- the other control bytes by their code, and any other byte as it is.
abbrev pub escaped : ℕ → List ℕ
escaped b =
    cond (b == 34) (slashed 34)
    (cond (b == 92) (slashed 92)
    (cond (b == 10) (slashed 110)
    (cond (b == 13) (slashed 114)
    (cond (b == 9) (slashed 116)
    (cond (nat_lt b 32) (by_code b)
    (cond (b == 127) (by_code b)
    (b ∷ [])))))))

abbrev pub all_escaped : List ℕ → List ℕ
all_escaped bs = flat_map escaped bs

abbrev pub quoted : List ℕ → List ℕ
quoted bs = 34 ∷ (all_escaped bs ++ (34 ∷ []))
