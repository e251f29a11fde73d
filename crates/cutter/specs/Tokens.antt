-- What a token as written stands for. `(` is 40.
use Rattle.std.specs.Prelude.{◌≡◌, ℕ, ◌+◌, ◌-◌, ◌^◌, ◌≤◌, min, Bool, true, false, cond, List, ◌++◌, length, take, drop, ℤ, Some, None, codes, Option, nat_lt, slice_index}
use Rattle.std.specs.Str.{bytes_eq}
use Rattle.numerals.specs.Decimal.{whole_of}
use Rattle.cutter.specs.Left.{slice}
use Rattle.cutter.specs.Lengths.{stands, run_at, name_length, value_length, bound_length, symbol_of}
use Rattle.cutter.specs.declared.lengths.Symbol.{Symbol}
use Rattle.cutter.specs.declared.lengths.Class.TheVariants.{Blank, Initial, Quote, Is}
use Rattle.cutter.specs.declared.tokens.Token.{Token}
use Rattle.cutter.specs.declared.tokens.Token.TheVariants as token

-- a literal with its value; a bare name; a path's first name and its steps as written; a range's two bounds, each with its place and as written; or a symbol
pub data Reading : Type 0 where
  is_nil : Reading
  is_boolean : Bool → Reading
  is_number : ℤ → Reading
  is_text : List ℕ → Reading
  is_name : List ℕ → Reading
  is_path : List ℕ → List ℕ → Reading
  is_range : ℕ → List ℕ → ℕ → List ℕ → Reading
  is_symbol : Symbol → Reading

-- all but the first byte and the last
abbrev pub inner : List ℕ → List ℕ
inner bs = take (length bs - 2) (drop 1 bs)

-- a word is a literal or a bare name
abbrev pub word_of : List ℕ → Reading
word_of bs =
    cond (bytes_eq bs (codes "nil")) is_nil
    (cond (bytes_eq bs (codes "true")) (is_boolean true)
    (cond (bytes_eq bs (codes "false")) (is_boolean false) (is_name bs)))

-- what begins with a name of n bytes: a word, or a path where there is more
abbrev pub name_of : List ℕ → ℕ → Reading
name_of bs n = cond (nat_lt n (length bs)) (is_path (take n bs) (drop n bs)) (word_of bs)

-- where a bound's value begins and ends, by the place of the bound's first byte
abbrev pub bound_from : List ℕ → ℕ → ℕ
bound_from bs i = i + run_at Blank bs i

abbrev pub bound_to : List ℕ → ℕ → ℕ
bound_to bs i = bound_from bs i + value_length bs (bound_from bs i)

abbrev pub bound_of : List ℕ → ℕ → List ℕ
bound_of bs i = slice bs (bound_from bs i) (bound_to bs i)

-- where the second bound begins: behind a bracket, the first bound and two dots
abbrev pub second : List ℕ → ℕ
second bs = min (bound_length bs 1 + 3) (length bs)

-- a place has 64 bits: behind the last there is no range
abbrev pub range_of : ℕ → List ℕ → Reading
range_of place bs =
    cond (nat_lt (place + length bs) (2 ^ 64))
    (is_range (place + bound_from bs 1) (bound_of bs 1) (place + bound_from bs (second bs)) (bound_of bs (second bs))) is_nil

-- a number or a symbol
abbrev pub plain_of : Option ℤ → Option Symbol → Reading
plain_of (Some z) s = is_number z
plain_of None (Some s) = is_symbol s
plain_of None None = is_nil

-- the reading of the token at this place with these bytes; nil for what is no token
unfoldable pub token_of : ℕ → List ℕ → Reading
token_of place bs =
    cond (stands Initial bs 0) (name_of bs (name_length bs 0))
    (cond (stands Quote bs 0) (is_text (inner bs))
    (cond (stands (Is 40) bs 0) (range_of place bs)
    (plain_of (whole_of bs) (symbol_of (slice_index bs 0) (slice_index bs 1)))))

abbrev pub reading : Token → Reading
reading token.Nil = is_nil
reading (token.Boolean b) = is_boolean b
reading (token.Number z) = is_number z
reading (token.Text t) = is_text t.now
reading (token.Name n) = is_name n.now
reading (token.Path n s) = is_path n.now s.now
reading (token.Range a b) = is_range a.place a.bytes.now b.place b.bytes.now
reading (token.Symbol s) = is_symbol s

-- the bytes b stand at place q, among the bytes bs from place p on
pub record Part (p : ℕ) (bs : List ℕ) (q : ℕ) (b : List ℕ) : Type 0 where
  pub from : p ≤ q
  pub to : q + length b ≤ p + length bs
  pub is : b ≡ take (length b) (drop (q - p) bs)

-- the texts of a reading are parts of the token as written: of a text behind its quote, of a path side by side
abbrev pub Parts : ℕ → List ℕ → Reading → Type 0
Parts p bs is_nil = Prim.Unit {0}
Parts p bs (is_boolean b) = Prim.Unit {0}
Parts p bs (is_number z) = Prim.Unit {0}
Parts p bs (is_text b) = (1 + length b ≤ length bs) × (b ≡ take (length b) (drop 1 bs))
Parts p bs (is_name b) = b ≡ bs
Parts p bs (is_path n s) = bs ≡ n ++ s
Parts p bs (is_range p1 b1 p2 b2) = Part p bs p1 b1 × Part p bs p2 b2
Parts p bs (is_symbol s) = Prim.Unit {0}

abbrev pub ReadsParts : Type 0
ReadsParts = (p : ℕ) (bs : List ℕ) → Parts p bs (token_of p bs)
