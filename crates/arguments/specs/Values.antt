-- Values and chains of filters as arguments.
use Rattle.std.specs.Prelude.{ℕ, zero, suc, ◌+◌, Bool, true, false, cond, List, [], ◌∷◌, map, length, Some, None, codes, Option, ◌==◌, nat_le}
use Rattle.tray.specs.Parts.{same_text}
use Rattle.tray.specs.Sound.{reserved}
use Rattle.cutter.specs.declared.lengths.Symbol.{Symbol}
use Rattle.cutter.specs.declared.lengths.Symbol.TheVariants as symbol
use Rattle.cutter.specs.Tokens.{Reading, is_nil, is_boolean, is_number, is_text, is_name, is_path, is_range, is_symbol, token_of}
use Rattle.cutter.specs.Paths.{PlacedStep, at_index, at_key, steps_of}
use Rattle.tree.specs.Expressions.{Head, forloop, tablerowloop, named, Step, index, key, Expr, nil_literal, boolean_literal, number_literal, text_literal, path, Filter, Chain, Row, row_from, range}
use Rattle.arguments.specs.declared.words.Special.{Special}
use Rattle.arguments.specs.declared.words.Special.TheVariants.{Forloop, Tablerowloop, Barred, Free}
use Rattle.arguments.specs.Judging.{Judge, ◌next◌, pure, refuse, Seen, token, token_if, finished, enter, ask}

abbrev pub read : Seen → Reading
read w = token_of w.place w.bytes

abbrev pub tree_step_of : PlacedStep → Step
tree_step_of (at_index z) = index z
tree_step_of (at_key p k) = key k

abbrev pub special : List ℕ → Special
special n =
    cond (same_text n (codes "forloop")) Forloop
    (cond (same_text n (codes "tablerowloop")) Tablerowloop
    (cond (same_text n (codes "empty")) Barred (cond (same_text n (codes "blank")) Barred Free)))

abbrev pub headed : Special → ℕ → List ℕ → Judge Head
headed Forloop p n = pure forloop
headed Tablerowloop p n = pure tablerowloop
headed Barred p n = refuse 8 p
headed Free p n = enter p n next λ k. pure (named k)

-- the first name of a path: a loop object, or a name of the sheet; `empty` and `blank` head no path
abbrev pub head : ℕ → List ℕ → Judge Head
head p n = headed (special n) p n

-- a path has at most four steps
abbrev pub a_path : ℕ → List ℕ → List PlacedStep → Judge Expr
a_path p n ss = cond (nat_le (length ss) 4) (head p n next λ h. pure (path h (map tree_step_of ss))) (refuse 2 p)

-- the value that a token is, judged at place p; the token's own place is q
unfoldable pub value_as : ℕ → ℕ → Reading → Judge Expr
value_as p q is_nil = pure nil_literal
value_as p q (is_boolean b) = pure (boolean_literal b)
value_as p q (is_number z) = pure (number_literal z)
value_as p q (is_text t) = pure (text_literal t)
value_as p q (is_name n) = a_path p n []
value_as p q (is_path n ss) = a_path p n (steps_of (q + length n) ss)
value_as p q (is_range a x b y) = refuse 6 p
value_as p q (is_symbol s) = refuse 6 p

-- a token that may be a value, whatever else is wrong with it
abbrev pub is_value : Reading → Bool
is_value is_nil = true
is_value (is_boolean b) = true
is_value (is_number z) = true
is_value (is_text t) = true
is_value (is_name n) = true
is_value (is_path n ss) = true
is_value (is_range a x b y) = false
is_value (is_symbol s) = false

-- one value too many; what is none is refused as such
abbrev pub too_many : {A : Type 0} → Seen → Judge A
too_many w = cond (is_value (read w)) (refuse 2 w.place) (refuse 6 w.place)

-- a value, of a mark at place m
unfoldable pub value : ℕ → Judge Expr
value m = token m next λ w. value_as w.place w.place (read w)

-- what a loop goes over: a value, or a range, whose bounds are judged at its place
abbrev pub row_as : ℕ → Reading → Judge Row
row_as p is_nil = value_as p p is_nil next λ x. pure (row_from x)
row_as p (is_boolean b) = value_as p p (is_boolean b) next λ x. pure (row_from x)
row_as p (is_number z) = value_as p p (is_number z) next λ x. pure (row_from x)
row_as p (is_text t) = value_as p p (is_text t) next λ x. pure (row_from x)
row_as p (is_name n) = value_as p p (is_name n) next λ x. pure (row_from x)
row_as p (is_path n ss) = value_as p p (is_path n ss) next λ x. pure (row_from x)
row_as p (is_range a x b y) = value_as p a (token_of a x) next λ u. value_as p b (token_of b y) next λ v. pure (range u v)
row_as p (is_symbol s) = refuse 6 p

unfoldable pub a_row : ℕ → Judge Row
a_row m = token m next λ w. row_as w.place (read w)

-- a bare name
abbrev pub bare : Reading → Option (List ℕ)
bare is_nil = None
bare (is_boolean b) = None
bare (is_number z) = None
bare (is_text t) = None
bare (is_name n) = Some n
bare (is_path n ss) = None
bare (is_range a x b y) = None
bare (is_symbol s) = None

-- a token that a form asks for by name, as `in`
abbrev pub is_word : List ℕ → Option (List ℕ) → Bool
is_word w None = false
is_word w (Some n) = same_text n w

-- a token that is this bare name
abbrev pub is_the_word : List ℕ → Seen → Bool
is_the_word n w = is_word n (bare (read w))

-- a target or loop variable: a bare name that is not reserved
abbrev pub new_name : ℕ → Option (List ℕ) → Judge ℕ
new_name p None = refuse 6 p
new_name p (Some n) = cond (reserved n) (refuse 8 p) (enter p n)

unfoldable pub target : ℕ → Judge ℕ
target m = token m next λ w. new_name w.place (bare (read w))

abbrev pub symbol_in : Reading → Option Symbol
symbol_in is_nil = None
symbol_in (is_boolean b) = None
symbol_in (is_number z) = None
symbol_in (is_text t) = None
symbol_in (is_name n) = None
symbol_in (is_path n ss) = None
symbol_in (is_range a x b y) = None
symbol_in (is_symbol s) = Some s

-- symbols by number, to tell them apart
abbrev pub rank : Symbol → ℕ
rank symbol.Same = 0
rank symbol.Differs = 1
rank symbol.AtMost = 2
rank symbol.AtLeast = 3
rank symbol.Less = 4
rank symbol.Greater = 5
rank symbol.Colon = 6
rank symbol.Comma = 7
rank symbol.Assign = 8
rank symbol.Bar = 9

abbrev pub same_symbol : Symbol → Symbol → Bool
same_symbol a b = rank a == rank b

abbrev pub has_symbol : Symbol → Option Symbol → Bool
has_symbol s None = false
has_symbol s (Some t) = same_symbol s t

-- a token that is this symbol
abbrev pub is_the_symbol : Symbol → Seen → Bool
is_the_symbol s w = has_symbol s (symbol_in (read w))

abbrev pub placed_if : Bool → ℕ → Option ℕ
placed_if true p = Some p
placed_if false p = None

-- the same, by its place
abbrev pub symbol_at : Symbol → Seen → Option ℕ
symbol_at s w = placed_if (is_the_symbol s w) w.place

-- a filter's argument, behind a colon
abbrev pub argument_behind : ℕ → Option ℕ → Judge (Option Expr)
argument_behind m None = pure None
argument_behind m (Some p) = value m next λ x. pure (Some x)

abbrev pub named_filter : ℕ → ℕ → Option (List ℕ) → Judge Filter
named_filter m p None = refuse 6 p
named_filter m p (Some n) =
    token_if (symbol_at symbol.Colon) next λ c. argument_behind m c next λ a. ask p n next λ _.
    pure (record { filter = n; argument = a })

-- a filter: its name, and perhaps a colon and a value
unfoldable pub filter : ℕ → Judge Filter
filter m = token m next λ w. named_filter m w.place (bare (read w))

-- behind a bar stands a filter; else the mark must be at its end
abbrev pub if_barred : Option ℕ → (ℕ → Judge (List Filter)) → Judge (List Filter)
if_barred None k = finished next λ _. pure []
if_barred (Some p) k = k p

-- the filters up to the end of the mark, of which there are at most n
abbrev pub filters : ℕ → ℕ → Judge (List Filter)
filters zero m = token_if (symbol_at symbol.Bar) next λ b. if_barred b (λ p. refuse 2 p)
filters (suc n) m =
    token_if (symbol_at symbol.Bar) next λ b. if_barred b (λ p. filter m next λ f. filters n m next λ fs. pure (f ∷ fs))

-- a value and at most four filters, up to the end of the mark
unfoldable pub chain : ℕ → Judge Chain
chain m = value m next λ v. filters 4 m next λ fs. pure (record { value = v; filters = fs })
