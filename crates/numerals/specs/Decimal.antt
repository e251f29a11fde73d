-- The decimal text of a whole number, and the whole number that a text spells. A text is a list of bytes: `0` to `9` are 48 to 57, `+` is 43, `-` is 45.
use Rattle.std.specs.Prelude.{ℕ, zero, suc, ◌+◌, ◌-◌, ◌*◌, ◌/◌, ◌%◌, ◌^◌, Bool, true, cond, ◌&&◌, List, [], ◌∷◌, ◌++◌, ℤ, pos, negsuc, neg_ℤ, Some, None, Option, ◌==◌, int_le, int_lt, nat_le, nat_lt}
use Rattle.std.specs.Option.{option_map}

-- the decimal text of n, in at most k digits: the text of n / 10, then the last digit
abbrev pub digits_up_to : ℕ → ℕ → List ℕ
digits_up_to zero n = []
digits_up_to (suc k) n = cond (nat_lt n 10) ((48 + n) ∷ []) (digits_up_to k (n / 10) ++ ((48 + n % 10) ∷ []))

-- the decimal text of a natural number: n + 1 digits are always enough
unfoldable pub natural_text : ℕ → List ℕ
natural_text n = digits_up_to (suc n) n

-- the decimal text of a whole number
unfoldable pub whole_text : ℤ → List ℕ
whole_text (pos n) = natural_text n
whole_text (negsuc n) = 45 ∷ natural_text (suc n)

abbrev pub is_digit : ℕ → Bool
is_digit c = nat_le 48 c && nat_le c 57

abbrev pub are_digits : List ℕ → Bool
are_digits [] = true
are_digits (c ∷ cs) = is_digit c && are_digits cs

-- the value of digits, read from the left after others of the value n
abbrev pub value_after : ℕ → List ℕ → ℕ
value_after n [] = n
value_after n (c ∷ cs) = value_after (n * 10 + (c - 48)) cs

abbrev pub value_of : List ℕ → ℕ
value_of ds = value_after 0 ds

-- one or more digits, by their value
abbrev pub natural_of : List ℕ → Option ℕ
natural_of [] = None
natural_of (c ∷ cs) = cond (are_digits (c ∷ cs)) (Some (value_of (c ∷ cs))) None

-- the same after an optional sign
abbrev pub signed_of : List ℕ → Option ℤ
signed_of [] = None
signed_of (c ∷ cs) = cond (c == 45) (option_map (λ n. neg_ℤ (pos n)) (natural_of cs)) (option_map pos (cond (c == 43) (natural_of cs) (natural_of (c ∷ cs))))

-- a number of 64 signed bits
abbrev pub fits : ℤ → Bool
fits z = int_le (neg_ℤ (pos (2 ^ 63))) z && int_lt z (pos (2 ^ 63))

abbrev pub if_fits : Option ℤ → Option ℤ
if_fits None = None
if_fits (Some z) = cond (fits z) (Some z) None

-- the whole number of 64 signed bits that a text spells
unfoldable pub whole_of : List ℕ → Option ℤ
whole_of text = if_fits (signed_of text)
