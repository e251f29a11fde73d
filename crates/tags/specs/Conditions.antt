-- Conditions of `if`, `unless` and `elsif`.
use Rattle.std.specs.Prelude.{ℕ, zero, suc, Some, None, codes, Option, cond}
use Rattle.cutter.specs.declared.lengths.Symbol.{Symbol}
use Rattle.cutter.specs.declared.lengths.Symbol.TheVariants as symbol
use Rattle.cutter.specs.Tokens.{Reading, is_nil, is_boolean, is_number, is_text, is_name, is_path, is_range, is_symbol}
use Rattle.tray.specs.Parts.{same_text}
use Rattle.tree.specs.Expressions.{Expr}
use Rattle.tree.specs.Conditions.{Comparison, equals, differs, is_less, is_more, at_most, at_least, contains, Test, exists, compares, Condition, only, both, either}
use Rattle.tags.specs.declared.stdlib.blocks.if_block.Joint.{Joint}
use Rattle.tags.specs.declared.stdlib.blocks.if_block.Joint.TheVariants.{And, Or}
use Rattle.arguments.specs.Judging.{Judge, ◌next◌, pure, refuse, Seen, token, token_if, finished, room_at, one_more}
use Rattle.arguments.specs.Values.{read, value_as, value, is_value, too_many, is_the_word}

abbrev pub comparison_by : Symbol → Option Comparison
comparison_by symbol.Same = Some equals
comparison_by symbol.Differs = Some differs
comparison_by symbol.AtMost = Some at_most
comparison_by symbol.AtLeast = Some at_least
comparison_by symbol.Less = Some is_less
comparison_by symbol.Greater = Some is_more
comparison_by symbol.Colon = None
comparison_by symbol.Comma = None
comparison_by symbol.Assign = None
comparison_by symbol.Bar = None

abbrev pub comparison_in : Reading → Option Comparison
comparison_in is_nil = None
comparison_in (is_boolean b) = None
comparison_in (is_number z) = None
comparison_in (is_text t) = None
comparison_in (is_name n) = cond (same_text n (codes "contains")) (Some contains) None
comparison_in (is_path n ss) = None
comparison_in (is_range a x b y) = None
comparison_in (is_symbol s) = comparison_by s

-- the comparison that a token is
abbrev pub comparison : Seen → Option Comparison
comparison w = comparison_in (read w)

-- a test is a node of its own: there must be room where its first value begins
abbrev pub first_as : ℕ → Reading → Judge Expr
first_as p r = cond (is_value r) (room_at p next λ _. value_as p p r) (refuse 6 p)

unfoldable pub first : ℕ → Judge Expr
first m = token m next λ w. first_as w.place (read w)

abbrev pub compared : ℕ → Expr → Option Comparison → Judge Test
compared m x None = pure (exists x)
compared m x (Some c) = value m next λ y. pure (compares x c y)

-- a value, or two with a comparison between them
unfoldable pub tested : ℕ → Judge Test
tested m = first m next λ x. token_if comparison next λ c. compared m x c

unfoldable pub a_test : ℕ → Judge Test
a_test m = tested m next λ t. one_more next λ _. pure t

abbrev pub joint : Seen → Option Joint
joint w =
    cond (is_the_word (codes "and") w) (Some (And w.place))
    (cond (is_the_word (codes "or") w) (Some (Or w.place)) None)

abbrev pub place_of : Joint → ℕ
place_of (And p) = p
place_of (Or p) = p

-- a node more, for an `and` or `or`
abbrev pub joining : Joint → Judge (Prim.Unit {0})
joining j = room_at (place_of j) next λ _. one_more

abbrev pub join : Joint → Test → Condition → Condition
join (And p) t c = both t c
join (Or p) t c = either t c

abbrev pub joined : Judge Condition → Test → Option Joint → Judge Condition
joined k t None = finished next λ _. pure (only t)
joined k t (Some j) = joining j next λ _. k next λ c. pure (join j t c)

-- tests with `and` and `or` between them, up to the end of the mark; of at most n of them, grouped from the right
abbrev pub condition_of : ℕ → ℕ → Judge Condition
condition_of zero m = token m next λ w. too_many w
condition_of (suc n) m = a_test m next λ t. token_if joint next λ j. joined (condition_of n m) t j

-- a condition: at most sixteen tests
unfoldable pub condition : ℕ → Judge Condition
condition m = condition_of 16 m
