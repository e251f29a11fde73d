-- The values and the name of a `cycle`. `,` is 44, a blank 32.
use Rattle.std.specs.Prelude.{ℕ, zero, suc, true, false, cond, List, [], ◌∷◌, ◌++◌, map, Some, None, codes, Option}
use Rattle.numerals.specs.Decimal.{whole_text}
use Rattle.cutter.specs.declared.lengths.Symbol.TheVariants.{Colon, Comma}
use Rattle.cutter.specs.Tokens.{Reading, is_nil, is_boolean, is_number, is_text, is_name, is_path, is_range, is_symbol}
use Rattle.tree.specs.Expressions.{Expr}
use Rattle.tree.specs.Elements.{Leaf, cycle}
use Rattle.arguments.specs.Judging.{Judge, ◌next◌, pure, refuse, Seen, token, token_if, finished, enter_cycle}
use Rattle.arguments.specs.Values.{read, value_as, is_the_symbol, symbol_at, too_many}

-- a value, and its bytes as written
pub record Written : Type 0 where
  pub bytes : List ℕ
  pub value : Expr

abbrev pub written : Seen → Expr → Written
written w x = record { bytes = w.bytes; value = x }

-- behind a comma, the values that follow
abbrev pub listed : Judge (List Written) → Written → Option ℕ → Judge (List Written)
listed k x None = finished next λ _. pure (x ∷ [])
listed k x (Some p) = k next λ xs. pure (x ∷ xs)

abbrev pub value_at : Judge (List Written) → Option Seen → Judge (List Written)
value_at k None = pure []
value_at k (Some w) = value_as w.place w.place (read w) next λ x. token_if (symbol_at Comma) next λ c. listed k (written w x) c

abbrev pub none_more : Option Seen → Judge (List Written)
none_more None = pure []
none_more (Some w) = too_many w

-- values up to the end of the mark, at most n, with a comma between them and perhaps one behind the last
abbrev pub values_of : ℕ → Judge (List Written)
values_of zero = token_if Some next λ w. none_more w
values_of (suc n) = token_if Some next λ w. value_at (values_of n) w

-- the name that a token gives: a bare name, or the text of a literal
abbrev pub given : Reading → Option (List ℕ)
given is_nil = Some []
given (is_boolean b) = Some (cond b (codes "true") (codes "false"))
given (is_number z) = Some (whole_text z)
given (is_text t) = Some t
given (is_name n) = Some n
given (is_path n ss) = None
given (is_range a x b y) = None
given (is_symbol s) = None

abbrev pub enter_given : ℕ → Option (List ℕ) → Judge ℕ
enter_given p None = refuse 6 p
enter_given p (Some n) = enter_cycle p (record { given = true; bytes = n })

-- the values as written, joined by a comma and a blank
abbrev pub joined_with : List ℕ → List Written → List ℕ
joined_with b [] = b
joined_with b (x ∷ xs) = b ++ (44 ∷ 32 ∷ joined_with x.bytes xs)

abbrev pub joined : List Written → List ℕ
joined [] = []
joined (x ∷ xs) = joined_with x.bytes xs

abbrev pub values_in : List Written → List Expr
values_in xs = map (λ x. x.value) xs

-- a cycle with a given name, whose first token is w
unfoldable pub named : Seen → Judge Leaf
named w = enter_given w.place (given (read w)) next λ c. values_of 16 next λ xs. pure (cycle c (values_in xs))

-- an unnamed cycle, which the values that it shows name
abbrev pub made : ℕ → List Written → Judge Leaf
made p xs = enter_cycle p (record { given = false; bytes = joined xs }) next λ c. pure (cycle c (values_in xs))

-- one whose first value is w
unfoldable pub unnamed : Seen → Judge Leaf
unnamed w = value_as w.place w.place (read w) next λ x. values_of 15 next λ xs. made w.place (written w x ∷ xs)

-- by the first token and the one behind it, which is taken
abbrev pub cycle_by : Seen → Option Seen → Judge Leaf
cycle_by w None = unnamed w
cycle_by w (Some v) = cond (is_the_symbol Colon v) (named w) (cond (is_the_symbol Comma v) (unnamed w) (refuse 6 v.place))

-- `cycle name: value, value`, or `cycle value, value`
unfoldable pub cycle_tag : ℕ → Judge Leaf
cycle_tag m = token m next λ w. token_if Some next λ v. cycle_by w v
