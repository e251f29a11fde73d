-- The arguments of `for` and `tablerow`.
use Rattle.std.specs.Prelude.{ℕ, zero, suc, Bool, true, false, cond, List, Some, None, codes, Option}
use Rattle.tray.specs.Parts.{same_text}
use Rattle.cutter.specs.Words.{Words, over, wrong, word}
use Rattle.cutter.specs.declared.lengths.Symbol.TheVariants as symbol
use Rattle.tree.specs.Expressions.{Expr, Row}
use Rattle.tree.specs.Elements.{Block, for_block, tablerow_block}
use Rattle.arguments.specs.Judging.{Judge, ◌next◌, pure, refuse, Seen, token_if, expect, finished}
use Rattle.arguments.specs.Values.{read, bare, value, target, a_row, is_the_word, is_the_symbol}
use Rattle.tags.specs.declared.stdlib.blocks.for_block.Loop.{Loop}
use Rattle.tags.specs.declared.stdlib.blocks.for_block.Loop.TheVariants.{For, Tablerow}
use Rattle.tags.specs.declared.stdlib.blocks.for_block.Attribute.{Attribute}
use Rattle.tags.specs.declared.stdlib.blocks.for_block.Attribute.TheVariants as attribute

-- what stands behind the row; of an attribute that stands twice, the last counts
pub record Attributes : Type 0 where
  pub cols : Option Expr
  pub limit : Option Expr
  pub offset : Option Expr
  pub reversed : Bool

abbrev pub no_attributes : Attributes
no_attributes = record { cols = None; limit = None; offset = None; reversed = false }

-- the attribute that is the loop's own: `reversed` of a `for`, `cols` of a `tablerow`
abbrev pub own : Loop → List ℕ → Option Attribute
own For n = cond (same_text n (codes "reversed")) (Some attribute.Reversed) None
own Tablerow n = cond (same_text n (codes "cols")) (Some attribute.Cols) None

abbrev pub attribute_named : Loop → List ℕ → Option Attribute
attribute_named l n =
    cond (same_text n (codes "limit")) (Some attribute.Limit)
    (cond (same_text n (codes "offset")) (Some attribute.Offset) (own l n))

abbrev pub attribute_of : Loop → Option (List ℕ) → Option Attribute
attribute_of l None = None
attribute_of l (Some n) = attribute_named l n

-- a colon, and a value
unfoldable pub setting : ℕ → Judge Expr
setting m = expect (is_the_symbol symbol.Colon) m next λ _. value m

abbrev pub with_attribute : ℕ → Attributes → Attribute → Judge Attributes
with_attribute m a attribute.Cols = setting m next λ x. pure (record { cols = Some x; limit = a.limit; offset = a.offset; reversed = a.reversed })
with_attribute m a attribute.Limit = setting m next λ x. pure (record { cols = a.cols; limit = Some x; offset = a.offset; reversed = a.reversed })
with_attribute m a attribute.Offset = setting m next λ x. pure (record { cols = a.cols; limit = a.limit; offset = Some x; reversed = a.reversed })
with_attribute m a attribute.Reversed = pure (record { cols = a.cols; limit = a.limit; offset = a.offset; reversed = true })

abbrev pub right_attribute : ℕ → ℕ → Attributes → Option Attribute → Judge Attributes
right_attribute m p a None = refuse 6 p
right_attribute m p a (Some t) = with_attribute m a t

abbrev pub attribute_at : Loop → ℕ → Attributes → (Attributes → Judge Attributes) → Option Seen → Judge Attributes
attribute_at l m a k None = pure a
attribute_at l m a k (Some w) = right_attribute m w.place a (attribute_of l (bare (read w))) next k

-- attributes up to the end of the mark, of which there are at most n
abbrev pub attributes_of : ℕ → Loop → ℕ → Attributes → Judge Attributes
attributes_of zero l m a = finished next λ _. pure a
attributes_of (suc n) l m a = token_if Some next λ w. attribute_at l m a (attributes_of n l m) w

abbrev pub count : Words → ℕ
count over = 0
count (wrong p) = 0
count (word p b rest) = suc (count rest)

-- as many as there are tokens
unfoldable pub attributes : Loop → ℕ → Judge Attributes
attributes l m s = attributes_of (count s.ahead) l m no_attributes s

pub record Header : Type 0 where
  pub variable : ℕ
  pub row : Row
  pub attributes : Attributes

-- `variable in row attributes`
unfoldable pub header : Loop → ℕ → Judge Header
header l m =
    target m next λ v. expect (is_the_word (codes "in")) m next λ _. a_row m next λ r. attributes l m next λ a.
    pure (record { variable = v; row = r; attributes = a })

-- the blocks of the two loops
abbrev pub for_of : Header → Block
for_of h = for_block h.variable h.row h.attributes.limit h.attributes.offset h.attributes.reversed

abbrev pub tablerow_of : Header → Block
tablerow_of h = tablerow_block h.variable h.row h.attributes.cols h.attributes.limit h.attributes.offset
