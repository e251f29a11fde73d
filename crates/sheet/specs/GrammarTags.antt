-- The grammar of tags: which tokens behind a tag's name are a writing of what.
use Rattle.std.specs.Prelude.{◌≡◌, ℕ, true, ◌⊎◌, List, [], ◌∷◌, Some, codes}
use Rattle.cutter.specs.declared.lengths.Symbol.TheVariants as symbol
use Rattle.cutter.specs.Words.{Words, over}
use Rattle.tree.specs.Expressions.{Expr, Chain}
use Rattle.tree.specs.Conditions.{Condition}
use Rattle.tree.specs.Elements.{Leaf, assign, increment, decrement, cycle, break, continue, Block, if_block, capture_block, ifchanged_block, Guard, holds, fails, equals_one, has_items, always}
use Rattle.arguments.specs.Judging.{Seen}
use Rattle.arguments.specs.Values.{read}
use Rattle.arguments.specs.Tables.{given_name, made_name}
use Rattle.tags.specs.declared.stdlib.blocks.for_block.Loop.{Loop}
use Rattle.tags.specs.declared.stdlib.blocks.for_block.Loop.TheVariants.{For, Tablerow}
use Rattle.tags.specs.declared.stdlib.blocks.for_block.Attribute.{Attribute}
use Rattle.tags.specs.declared.stdlib.blocks.for_block.Attribute.TheVariants.{Cols, Limit, Offset, Reversed}
use Rattle.tags.specs.Cycles.{Written, given, joined, values_in}
use Rattle.tags.specs.Loops.{Attributes, no_attributes, Header, for_of, tablerow_of}
use Rattle.sheet.specs.declared.names.Simple.{Simple}
use Rattle.sheet.specs.declared.names.Simple.TheVariants as simple
use Rattle.sheet.specs.declared.names.Block as code
use Rattle.sheet.specs.declared.names.Block.TheVariants as kind
use Rattle.sheet.specs.Grammar.{Env, CycleNameIs, Begins, TheWord, TheSymbol, ValueIs, RowIs, TargetIs, SettingIs, ChainIs, ConditionIs, WhensAre}

-- the word of an attribute
abbrev pub word_of : Attribute → List ℕ
word_of Cols = codes "cols"
word_of Limit = codes "limit"
word_of Offset = codes "offset"
word_of Reversed = codes "reversed"

-- `cols` is of `tablerow` alone, `reversed` of `for`
abbrev pub BelongsTo : Loop → Attribute → Type 0
BelongsTo l Limit = Prim.Unit {0}
BelongsTo l Offset = Prim.Unit {0}
BelongsTo For Cols = ⊥
BelongsTo For Reversed = Prim.Unit {0}
BelongsTo Tablerow Cols = Prim.Unit {0}
BelongsTo Tablerow Reversed = ⊥

-- behind the word of an attribute: from the attributes x it makes y
abbrev pub Sets : Env → Attribute → Attributes → Attributes → Words → Words → Type 0
Sets e Cols x y a b = (v : Expr) × SettingIs e v a b × (y ≡ record x { cols = Some v })
Sets e Limit x y a b = (v : Expr) × SettingIs e v a b × (y ≡ record x { limit = Some v })
Sets e Offset x y a b = (v : Expr) × SettingIs e v a b × (y ≡ record x { offset = Some v })
Sets e Reversed x y a b = (a ≡ b) × (y ≡ record x { reversed = true })

-- attributes one after another, up to the end: from x they make y, so the last counts
abbrev pub AttributesAre : Env → Loop → List Attribute → Attributes → Attributes → Words → Type 0
AttributesAre e l [] x y a = (a ≡ over) × (y ≡ x)
AttributesAre e l (t ∷ ts) x y a = BelongsTo l t × ((b : Words) × (c : Words) × (z : Attributes) × Begins (TheWord (word_of t)) a b × Sets e t x z b c × AttributesAre e l ts z y c)

-- name in row { attribute }
pub record HeaderIs (e : Env) (l : Loop) (h : Header) (a : Words) : Type 0 where
  pub b : Words
  pub c : Words
  pub d : Words
  pub written : List Attribute
  pub variable : Begins (TargetIs e h.variable) a b
  pub word : Begins (TheWord (codes "in")) b c
  pub row : Begins (RowIs e h.row) c d
  pub attributes : AttributesAre e l written no_attributes h.attributes d

-- a comma; or the end
abbrev pub CommaOrEnd : Words → Words → Type 0
CommaOrEnd a b = Begins (TheSymbol symbol.Comma) a b ⊎ ((a ≡ over) × (b ≡ over))

-- a value of a cycle, with its bytes as written
abbrev pub WrittenIs : Env → Written → Seen → Type 0
WrittenIs e x w = (x.bytes ≡ w.bytes) × ValueIs e x.value w

-- [ value { , value } [ , ] ]
abbrev pub ListIs : Env → List Written → Words → Type 0
ListIs e [] a = a ≡ over
ListIs e (x ∷ xs) a = (b : Words) × (c : Words) × Begins (WrittenIs e x) a b × CommaOrEnd b c × ListIs e xs c

-- a given name: a bare name, or the text of a literal
abbrev pub GivenIs : Env → ℕ → Seen → Type 0
GivenIs e k w = (n : List ℕ) × (given (read w) ≡ Some n) × CycleNameIs e k (given_name n)

-- cyclename : values
abbrev pub NamedCycleIs : Env → ℕ → List Expr → Words → Type 0
NamedCycleIs e k xs a = (b : Words) × (c : Words) × (ws : List Written) × Begins (GivenIs e k) a b × Begins (TheSymbol symbol.Colon) b c × ListIs e ws c × (xs ≡ values_in ws)

-- values, which name the cycle; one at least
abbrev pub UnnamedCycleIs : Env → ℕ → List Expr → Words → Type 0
UnnamedCycleIs e k xs a = (w : Written) × (ws : List Written) × ListIs e (w ∷ ws) a × CycleNameIs e k (made_name (joined (w ∷ ws))) × (xs ≡ values_in (w ∷ ws))

abbrev pub CycleIs : Env → ℕ → List Expr → Words → Type 0
CycleIs e k xs a = NamedCycleIs e k xs a ⊎ UnnamedCycleIs e k xs a

-- name = chain
abbrev pub AssignIs : Env → ℕ → Chain → Words → Type 0
AssignIs e k c a = (b : Words) × (d : Words) × Begins (TargetIs e k) a b × Begins (TheSymbol symbol.Assign) b d × ChainIs e c d

-- the arguments of a tag that holds no elements
abbrev pub SimpleIs : Env → Simple → Leaf → Words → Type 0
SimpleIs e simple.Assign l a = (k : ℕ) × (c : Chain) × AssignIs e k c a × (l ≡ assign k c)
SimpleIs e simple.Increment l a = (k : ℕ) × Begins (TargetIs e k) a over × (l ≡ increment k)
SimpleIs e simple.Decrement l a = (k : ℕ) × Begins (TargetIs e k) a over × (l ≡ decrement k)
SimpleIs e simple.Cycle l a = (k : ℕ) × (xs : List Expr) × CycleIs e k xs a × (l ≡ cycle k xs)
SimpleIs e simple.Break l a = (a ≡ over) × (l ≡ break)
SimpleIs e simple.Continue l a = (a ≡ over) × (l ≡ continue)

-- the arguments of a tag that opens a block with a first arm; a `case` has none
abbrev pub OpensIs : Env → code.Block → Block → Guard → Words → Type 0
OpensIs e kind.If x g a = (c : Condition) × ConditionIs e c a × (x ≡ if_block) × (g ≡ holds c)
OpensIs e kind.Unless x g a = (c : Condition) × ConditionIs e c a × (x ≡ if_block) × (g ≡ fails c)
OpensIs e kind.Case x g a = ⊥
OpensIs e kind.For x g a = (h : Header) × HeaderIs e For h a × (x ≡ for_of h) × (g ≡ has_items)
OpensIs e kind.Tablerow x g a = (h : Header) × HeaderIs e Tablerow h a × (x ≡ tablerow_of h) × (g ≡ has_items)
OpensIs e kind.Capture x g a = (k : ℕ) × Begins (TargetIs e k) a over × (x ≡ capture_block k) × (g ≡ always)
OpensIs e kind.Ifchanged x g a = (a ≡ over) × (x ≡ ifchanged_block) × (g ≡ always)

-- a tag with the name n that begins a further arm: `elsif`, or `when`
abbrev pub FurtherIs : Env → code.Block → Guard → List ℕ → Words → Type 0
FurtherIs e kind.If g n a = (n ≡ codes "elsif") × ((c : Condition) × ConditionIs e c a × (g ≡ holds c))
FurtherIs e kind.Unless g n a = (n ≡ codes "elsif") × ((c : Condition) × ConditionIs e c a × (g ≡ holds c))
FurtherIs e kind.Case g n a = (n ≡ codes "when") × ((xs : List Expr) × WhensAre e xs a × (g ≡ equals_one xs))
FurtherIs e kind.For g n a = ⊥
FurtherIs e kind.Tablerow g n a = ⊥
FurtherIs e kind.Capture g n a = ⊥
FurtherIs e kind.Ifchanged g n a = ⊥

-- what may stand behind `else`
abbrev pub ElseIs : code.Block → Words → Type 0
ElseIs kind.If a = Prim.Unit {0}
ElseIs kind.Unless a = Prim.Unit {0}
ElseIs kind.Case a = a ≡ over
ElseIs kind.For a = a ≡ over
ElseIs kind.Tablerow a = ⊥
ElseIs kind.Capture a = ⊥
ElseIs kind.Ifchanged a = ⊥
