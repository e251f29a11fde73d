-- A name: a letter or an underscore, then letters, digits, underscores and hyphens.
use Rattle.std.specs.Prelude.{ℕ, Bool, true, false, cond, List, [], ◌∷◌, ◌==◌, nat_le}

-- whether a byte lies between two others, both included
abbrev pub between : ℕ → ℕ → ℕ → Bool
between low high b = cond (nat_le low b) (nat_le b high) false

abbrev pub begins : ℕ → Bool
begins b = cond (between 65 90 b) true (cond (b == 95) true (between 97 122 b))

abbrev pub goes_on : ℕ → Bool
goes_on b = cond (b == 45) true (cond (between 48 57 b) true (begins b))

abbrev pub all_go_on : List ℕ → Bool
all_go_on [] = true
all_go_on (b ∷ bs) = cond (goes_on b) (all_go_on bs) false

abbrev pub is_name : List ℕ → Bool
is_name [] = false
is_name (b ∷ bs) = cond (begins b) (all_go_on (b ∷ bs)) false
