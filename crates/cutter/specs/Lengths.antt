-- How long a token is that begins at a place of some bytes; 0 where none begins there.
use Rattle.std.specs.Prelude.{ℕ, zero, suc, ◌+◌, ◌-◌, Bool, cond, not, ◌&&◌, ◌||◌, List, [], ◌∷◌, length, drop, ℤ, Some, None, codes, Option, ◌==◌, nat_le, nat_lt, slice_index}
use Rattle.std.specs.Str.{bytes_eq}
use Rattle.numerals.specs.Decimal.{whole_of}
use Rattle.cutter.specs.Left.{slice}
use Rattle.cutter.specs.declared.lengths.Symbol.{Symbol}
use Rattle.cutter.specs.declared.lengths.Symbol.TheVariants.{Same, Differs, AtMost, AtLeast, Less, Greater, Colon, Comma, Assign, Bar}
use Rattle.cutter.specs.declared.lengths.Class.{Class}
use Rattle.cutter.specs.declared.lengths.Class.TheVariants.{Blank, Digit, Initial, Named, Quote, Is, Not}

abbrev pub is_blank : ℕ → Bool
is_blank b = b == 32 || b == 9 || b == 13 || b == 10

abbrev pub is_digit : ℕ → Bool
is_digit b = nat_le 48 b && nat_le b 57

abbrev pub is_initial : ℕ → Bool
is_initial b = (nat_le 97 b && nat_le b 122) || (nat_le 65 b && nat_le b 90) || b == 95

-- whether a byte is of a class
abbrev pub has : Class → ℕ → Bool
has Blank b = is_blank b
has Digit b = is_digit b
has Initial b = is_initial b
has Named b = is_initial b || is_digit b || b == 45
has Quote b = b == 39 || b == 34
has (Is c) b = b == c
has (Not c) b = not (b == c)

-- how many bytes of a class stand at the front
abbrev pub run : Class → List ℕ → ℕ
run c [] = 0
run c (b ∷ bs) = cond (has c b) (1 + run c bs) 0

-- a byte of the class stands at this place
abbrev pub stands : Class → List ℕ → ℕ → Bool
stands c src at = nat_lt at (length src) && has c (slice_index src at)

unfoldable pub run_at : Class → List ℕ → ℕ → ℕ
run_at c src at = run c (drop at src)

-- a length plus more, where there is one
abbrev pub longer : ℕ → ℕ → ℕ
longer more zero = 0
longer more (suc n) = more + suc n

-- the first length, or else the second
abbrev pub either : ℕ → ℕ → ℕ
either zero m = m
either (suc n) m = suc n

unfoldable pub name_length : List ℕ → ℕ → ℕ
name_length src at = cond (stands Initial src at) (1 + run_at Named src (at + 1)) 0

-- an optional sign and the digits behind it
unfoldable pub signed_length : List ℕ → ℕ → ℕ
signed_length src at = cond (stands (Is 45) src at) (1 + run_at Digit src (at + 1)) (run_at Digit src at)

abbrev pub if_number : Option ℤ → ℕ → ℕ
if_number None n = 0
if_number (Some z) n = n

unfoldable pub number_length : List ℕ → ℕ → ℕ
number_length src at = if_number (whole_of (slice src at (at + signed_length src at))) (signed_length src at)

-- up to the quote that opened it
unfoldable pub text_length : List ℕ → ℕ → ℕ
text_length src at =
    cond (stands Quote src at)
    (cond (nat_lt (at + (1 + run_at (Not (slice_index src at)) src (at + 1))) (length src)) (run_at (Not (slice_index src at)) src (at + 1) + 2) 0) 0

unfoldable pub key_length : List ℕ → ℕ → ℕ
key_length src at = either (number_length src at) (text_length src at)

-- a key of this length with a bracket behind it
abbrev pub bracketed : List ℕ → ℕ → ℕ → ℕ
bracketed src at n = cond (nat_lt 0 n && stands (Is 93) src (at + n)) (n + 2) 0

unfoldable pub step_length : List ℕ → ℕ → ℕ
step_length src at =
    cond (stands (Is 46) src at) (longer 1 (name_length src (at + 1)))
    (cond (stands (Is 91) src at) (bracketed src (at + 1) (key_length src (at + 1))) 0)

-- goes on behind n bytes, unless n is 0
abbrev pub onward : ℕ → (ℕ → ℕ) → ℕ
onward zero f = 0
onward (suc n) f = 1 + f n

-- all the steps from this place on, behind `rest` bytes of the step before; the list is what stands from the place on
abbrev pub steps : List ℕ → ℕ → ℕ → List ℕ → ℕ
steps src at rest [] = 0
steps src at (suc rest) (b ∷ bs) = 1 + steps src (at + 1) rest bs
steps src at zero (b ∷ bs) = onward (step_length src at) (λ rest. steps src (at + 1) rest bs)

unfoldable pub steps_length : List ℕ → ℕ → ℕ
steps_length src at = steps src at 0 (drop at src)

-- the words that are literals
unfoldable pub is_literal : List ℕ → Bool
is_literal word = bytes_eq word (codes "nil") || bytes_eq word (codes "true") || bytes_eq word (codes "false")

-- a name of this length, and its steps
abbrev pub with_steps : List ℕ → ℕ → ℕ → ℕ
with_steps src at n = cond (is_literal (slice src at (at + n))) n (n + steps_length src (at + n))

-- a path, or a word that is a literal
unfoldable pub path_length : List ℕ → ℕ → ℕ
path_length src at = cond (nat_lt 0 (name_length src at)) (with_steps src at (name_length src at)) 0

unfoldable pub value_length : List ℕ → ℕ → ℕ
value_length src at = either (path_length src at) (key_length src at)

-- a value of this length behind some blanks, and the blanks behind it
abbrev pub padded : List ℕ → ℕ → ℕ → ℕ → ℕ
padded src at blanks n = cond (nat_lt 0 n) (blanks + n + run_at Blank src (at + (blanks + n))) 0

unfoldable pub bound_length : List ℕ → ℕ → ℕ
bound_length src at = padded src at (run_at Blank src at) (value_length src (at + run_at Blank src at))

-- the second bound, behind the first of length n
abbrev pub closed : List ℕ → ℕ → ℕ → ℕ
closed src at n = cond (nat_lt 0 n && stands (Is 41) src (at + n)) (n + 1) 0

-- `..` and the second bound
unfoldable pub dots_length : List ℕ → ℕ → ℕ
dots_length src at = cond (stands (Is 46) src at && stands (Is 46) src (at + 1)) (longer 2 (closed src (at + 2) (bound_length src (at + 2)))) 0

-- the first bound of length n, and what follows
abbrev pub ranged : List ℕ → ℕ → ℕ → ℕ
ranged src at n = cond (nat_lt 0 n) (longer n (dots_length src (at + n))) 0

unfoldable pub range_length : List ℕ → ℕ → ℕ
range_length src at = cond (stands (Is 40) src at) (longer 1 (ranged src (at + 1) (bound_length src (at + 1)))) 0

abbrev pub width : Symbol → ℕ
width Same = 2
width Differs = 2
width AtMost = 2
width AtLeast = 2
width Less = 1
width Greater = 1
width Colon = 1
width Comma = 1
width Assign = 1
width Bar = 1

-- the symbol that two bytes begin with
abbrev pub symbol_of : ℕ → ℕ → Option Symbol
symbol_of a b =
    cond (a == 61) (cond (b == 61) (Some Same) (Some Assign))
    (cond (a == 33) (cond (b == 61) (Some Differs) None)
    (cond (a == 60) (cond (b == 62) (Some Differs) (cond (b == 61) (Some AtMost) (Some Less)))
    (cond (a == 62) (cond (b == 61) (Some AtLeast) (Some Greater))
    (cond (a == 58) (Some Colon) (cond (a == 44) (Some Comma) (cond (a == 124) (Some Bar) None))))))

-- its width, where that many bytes are left
abbrev pub fitting : ℕ → Option Symbol → ℕ
fitting left None = 0
fitting left (Some s) = cond (nat_le (width s) left) (width s) 0

unfoldable pub symbol_length : List ℕ → ℕ → ℕ
symbol_length src at = fitting (length src - at) (symbol_of (slice_index src at) (slice_index src (at + 1)))

unfoldable pub token_length : List ℕ → ℕ → ℕ
token_length src at = either (value_length src at) (either (range_length src at) (symbol_length src at))
