-- The grammar of values, chains and conditions: which tokens are a writing of which tree.
use Rattle.std.specs.Prelude.{◌≡◌, ℕ, ◌+◌, false, ◌⊎◌, List, [], ◌∷◌, map, length, Some, None, codes, Option}
use Rattle.std.specs.List.{slice_get}
use Rattle.tray.specs.Sound.{reserved}
use Rattle.cutter.specs.declared.lengths.Symbol.{Symbol}
use Rattle.cutter.specs.declared.lengths.Symbol.TheVariants as symbol
use Rattle.cutter.specs.Words.{Words, over, word}
use Rattle.cutter.specs.Tokens.{Reading, is_nil, is_boolean, is_number, is_text, is_name, is_path, is_range, is_symbol, token_of}
use Rattle.cutter.specs.Paths.{steps_of}
use Rattle.tree.specs.Expressions.{Head, forloop, tablerowloop, named, Expr, nil_literal, boolean_literal, number_literal, text_literal, path, Filter, Chain, Row, row_from, range}
use Rattle.tree.specs.Conditions.{Comparison, equals, differs, is_less, is_more, at_most, at_least, contains, Test, exists, compares, Condition, only, both, either}
use Rattle.arguments.specs.declared.words.Special.{Special}
use Rattle.arguments.specs.declared.words.Special.TheVariants.{Forloop, Tablerowloop, Barred, Free}
use Rattle.arguments.specs.Judging.{CycleName, Seen}
use Rattle.arguments.specs.Values.{read, tree_step_of, special}

-- what the numbers in a tree stand for
pub record Env : Type 0 where
  pub names : List (List ℕ)
  pub cycles : List CycleName

-- the name with the number k
abbrev pub NameIs : Env → ℕ → List ℕ → Type 0
NameIs e k n = slice_get e.names k ≡ Some n

abbrev pub CycleNameIs : Env → ℕ → CycleName → Type 0
CycleNameIs e k c = slice_get e.cycles k ≡ Some c

-- the tokens a begin with such a token, and b is behind it
pub record Begins (P : Seen → Type 0) (a b : Words) : Type 0 where
  pub token : Seen
  pub is : a ≡ word token.place token.bytes b
  pub so : P token

-- this word, a bare name; and this symbol
abbrev pub TheWord : List ℕ → Seen → Type 0
TheWord n w = read w ≡ is_name n

abbrev pub TheSymbol : Symbol → Seen → Type 0
TheSymbol s w = read w ≡ is_symbol s

-- the first name of a path: a loop object, or a name of the sheet; `empty` and `blank` head no path
abbrev pub HeadBy : Special → Env → Head → List ℕ → Type 0
HeadBy Forloop e h n = h ≡ forloop
HeadBy Tablerowloop e h n = h ≡ tablerowloop
HeadBy Barred e h n = ⊥
HeadBy Free e h n = (k : ℕ) × NameIs e k n × (h ≡ named k)

abbrev pub HeadIs : Env → Head → List ℕ → Type 0
HeadIs e h n = HeadBy (special n) e h n

-- a token at this place that reads so is the value x
abbrev pub ReadsAs : Env → Expr → ℕ → Reading → Type 0
ReadsAs e x q is_nil = x ≡ nil_literal
ReadsAs e x q (is_boolean b) = x ≡ boolean_literal b
ReadsAs e x q (is_number z) = x ≡ number_literal z
ReadsAs e x q (is_text t) = x ≡ text_literal t
ReadsAs e x q (is_name n) = (h : Head) × HeadIs e h n × (x ≡ path h [])
ReadsAs e x q (is_path n s) = (h : Head) × HeadIs e h n × (x ≡ path h (map tree_step_of (steps_of (q + length n) s)))
ReadsAs e x q (is_range a l b u) = ⊥
ReadsAs e x q (is_symbol s) = ⊥

abbrev pub ValueIs : Env → Expr → Seen → Type 0
ValueIs e x w = ReadsAs e x w.place (read w)

-- value, or (value..value)
abbrev pub RowReads : Env → Row → ℕ → Reading → Type 0
RowReads e r q (is_range a l b u) = (x : Expr) × (y : Expr) × ReadsAs e x a (token_of a l) × ReadsAs e y b (token_of b u) × (r ≡ range x y)
RowReads e r q t = (x : Expr) × ReadsAs e x q t × (r ≡ row_from x)

abbrev pub RowIs : Env → Row → Seen → Type 0
RowIs e r w = RowReads e r w.place (read w)

-- a target or loop variable: a bare name that is not reserved
pub record TargetIs (e : Env) (k : ℕ) (w : Seen) : Type 0 where
  pub name : List ℕ
  pub bare : TheWord name w
  pub free : reserved name ≡ false
  pub is : NameIs e k name

-- : value
abbrev pub SettingIs : Env → Expr → Words → Words → Type 0
SettingIs e x a b = (c : Words) × Begins (TheSymbol symbol.Colon) a c × Begins (ValueIs e x) c b

-- [ : value ]
abbrev pub ArgumentIs : Env → Option Expr → Words → Words → Type 0
ArgumentIs e None a b = a ≡ b
ArgumentIs e (Some x) a b = SettingIs e x a b

-- name [ : value ]
abbrev pub FilterIs : Env → Filter → Words → Words → Type 0
FilterIs e f a b = (c : Words) × Begins (TheWord f.filter) a c × ArgumentIs e f.argument c b

-- { | filter }, up to the end
abbrev pub FiltersAre : Env → List Filter → Words → Type 0
FiltersAre e [] a = a ≡ over
FiltersAre e (f ∷ fs) a = (b : Words) × (c : Words) × Begins (TheSymbol symbol.Bar) a b × FilterIs e f b c × FiltersAre e fs c

-- value { | filter }
abbrev pub ChainIs : Env → Chain → Words → Type 0
ChainIs e c a = (b : Words) × Begins (ValueIs e c.value) a b × FiltersAre e c.filters b

abbrev pub ComparisonIs : Comparison → Seen → Type 0
ComparisonIs equals w = TheSymbol symbol.Same w
ComparisonIs differs w = TheSymbol symbol.Differs w
ComparisonIs is_less w = TheSymbol symbol.Less w
ComparisonIs is_more w = TheSymbol symbol.Greater w
ComparisonIs at_most w = TheSymbol symbol.AtMost w
ComparisonIs at_least w = TheSymbol symbol.AtLeast w
ComparisonIs contains w = TheWord (codes "contains") w

-- value [ comparison value ]
abbrev pub TestIs : Env → Test → Words → Words → Type 0
TestIs e (exists x) a b = Begins (ValueIs e x) a b
TestIs e (compares x c y) a b = (d : Words) × (f : Words) × Begins (ValueIs e x) a d × Begins (ComparisonIs c) d f × Begins (ValueIs e y) f b

-- test, or test and condition, or test or condition: one rank, grouped from the right
abbrev pub ConditionIs : Env → Condition → Words → Type 0
ConditionIs e (only t) a = TestIs e t a over
ConditionIs e (both t c) a = (b : Words) × (d : Words) × TestIs e t a b × Begins (TheWord (codes "and")) b d × ConditionIs e c d
ConditionIs e (either t c) a = (b : Words) × (d : Words) × TestIs e t a b × Begins (TheWord (codes "or")) b d × ConditionIs e c d

-- value { ( or | , ) value }
abbrev pub WhensAre : Env → List Expr → Words → Type 0
WhensAre e [] a = ⊥
WhensAre e (x ∷ []) a = Begins (ValueIs e x) a over
WhensAre e (x ∷ y ∷ ys) a =
    (b : Words) × (c : Words) × Begins (ValueIs e x) a b × Begins (λ w. TheWord (codes "or") w ⊎ TheSymbol symbol.Comma w) b c × WhensAre e (y ∷ ys) c
