-- The tokens of some bytes from a place on, and that they fill them.
use Rattle.std.specs.Prelude.{◌≡◌, ℕ, zero, suc, ◌+◌, ◌<◌, ◌≤◌, Bool, true, cond, ◌&&◌, List, [], ◌∷◌, ◌++◌, length, drop, Some, None, Option}
use Rattle.cutter.specs.Left.{slice}
use Rattle.cutter.specs.Lengths.{is_blank, token_length}

-- the tokens in order, each with its place and its bytes as written; at last the end, or the place where no token begins
pub data Words : Type 0 where
  over : Words
  wrong : ℕ → Words
  word : ℕ → List ℕ → Words → Words

-- a token of this length, and what follows behind it
abbrev pub begun : List ℕ → ℕ → ℕ → (ℕ → Words) → Words
begun src at zero f = wrong at
begun src at (suc n) f = word at (slice src at (at + suc n)) (f n)

-- the tokens from this place on, behind `rest` bytes of the token before; the list is what stands from the place on
abbrev pub lex : List ℕ → ℕ → ℕ → List ℕ → Words
lex src at rest [] = over
lex src at (suc rest) (b ∷ bs) = lex src (at + 1) rest bs
lex src at zero (b ∷ bs) = cond (is_blank b) (lex src (at + 1) 0 bs) (begun src at (token_length src at) (λ rest. lex src (at + 1) rest bs))

unfoldable pub words_from : List ℕ → ℕ → Words
words_from src at = lex src at 0 (drop at src)

-- the tokens of an inside
abbrev pub tokens : List ℕ → Words
tokens inside = words_from inside 0

-- the place where no token begins, if there is one
abbrev pub verdict : Words → Option ℕ
verdict over = None
verdict (wrong place) = Some place
verdict (word place bytes rest) = verdict rest

abbrev pub all_blank : List ℕ → Bool
all_blank [] = true
all_blank (b ∷ bs) = is_blank b && all_blank bs

-- bytes from this place on are blanks, then a token as written, and so on; at the end, or before what is no token, blanks
abbrev pub Fills : ℕ → List ℕ → Words → Type 0
Fills at bytes over = all_blank bytes ≡ true
Fills at bytes (wrong place) = (gap : List ℕ) × (behind : List ℕ) × (bytes ≡ gap ++ behind) × (all_blank gap ≡ true) × (place ≡ at + length gap)
Fills at bytes (word place token rest) =
    (gap : List ℕ) × (behind : List ℕ) × (bytes ≡ gap ++ (token ++ behind)) × (all_blank gap ≡ true) × (place ≡ at + length gap) × (0 < length token) × Fills (place + length token) behind rest

-- the tokens and the blanks between them are the inside, up to where no token begins
abbrev pub TokensFill : Type 0
TokensFill = (inside : List ℕ) → Fills 0 inside (tokens inside)

-- the same of what stands from any place on
abbrev pub TokensFillFrom : Type 0
TokensFillFrom = (src : List ℕ) (at : ℕ) → Fills at (drop at src) (words_from src at)

-- the token stands at this place of src, at or behind `at`
pub record Standing (src : List ℕ) (at place : ℕ) (token : List ℕ) : Type 0 where
  pub from : at ≤ place
  pub to : place + length token ≤ length src
  pub is : token ≡ slice src place (place + length token)

-- each token stands behind the one before; so does the byte where none begins
abbrev pub Stand : List ℕ → ℕ → Words → Type 0
Stand src at over = Prim.Unit {0}
Stand src at (wrong place) = (at ≤ place) × (place < length src)
Stand src at (word place token rest) = Standing src at place token × Stand src (place + length token) rest

abbrev pub TokensStand : Type 0
TokensStand = (src : List ℕ) (at : ℕ) → Stand src at (words_from src at)
