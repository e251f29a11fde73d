-- How blocks open, and what follows behind their elements.
use Rattle.std.specs.Prelude.{ℕ, cond, List, nat_lt}
use Rattle.cutter.specs.Words.{Words}
use Rattle.tree.specs.Expressions.{Expr}
use Rattle.tree.specs.Elements.{Leaf, Block, if_block, for_block, tablerow_block, capture_block, ifchanged_block, Guard, holds, fails as does_not_hold, equals_one, has_items, always}
use Rattle.arguments.specs.Judging.{Judge, ◌next◌, pure, refuse, Seen, finished, room_at, one_more}
use Rattle.arguments.specs.Values.{value}
use Rattle.tags.specs.Leaves.{assign_tag, increment_tag, decrement_tag, break_tag, continue_tag, only_target}
use Rattle.tags.specs.Conditions.{condition}
use Rattle.tags.specs.Whens.{whens}
use Rattle.tags.specs.Cycles.{cycle_tag}
use Rattle.tags.specs.Loops.{header}
use Rattle.tags.specs.declared.stdlib.blocks.for_block.Loop.TheVariants.{For as for_loop, Tablerow as tablerow_loop}
use Rattle.sheet.specs.Names.{end_tag, closer}
use Rattle.sheet.specs.declared.names.Simple.{Simple}
use Rattle.sheet.specs.declared.names.Simple.TheVariants as simple
use Rattle.sheet.specs.declared.names.Block as code
use Rattle.sheet.specs.declared.names.Block.TheVariants as kind
use Rattle.sheet.specs.declared.names.Closer.{Closer}
use Rattle.sheet.specs.declared.names.Closer.TheVariants as closing

-- a tag that begins no element: the place of its mark, its name, and the tokens behind the name
pub record Tag : Type 0 where
  pub mark : ℕ
  pub name : Seen
  pub ahead : Words

abbrev pub tag : ℕ → Seen → Words → Tag
tag m n w = record { mark = m; name = n; ahead = w }

-- an element without elements: room for its node, then its arguments
abbrev pub with_node : {A : Type 0} → ℕ → Judge A → Judge A
with_node p j = room_at p next λ _. j next λ x. one_more next λ _. pure x

-- room for a node, and the node
unfoldable pub held : ℕ → Judge (Prim.Unit {0})
held p = room_at p next λ _. one_more

-- the node first, then the arguments
abbrev pub behind_node : {A : Type 0} → ℕ → Judge A → Judge A
behind_node p j = held p next λ _. j

-- a block: room for it among the open blocks
abbrev pub opens : {A : Type 0} → ℕ → ℕ → Judge A → Judge A
opens r p j = cond (nat_lt 0 r) (behind_node p j) (refuse 2 p)

-- a tag at place p that holds no elements
abbrev pub leaf_tag : Simple → ℕ → Judge Leaf
leaf_tag simple.Assign p = assign_tag p
leaf_tag simple.Increment p = increment_tag p
leaf_tag simple.Decrement p = decrement_tag p
leaf_tag simple.Cycle p = cycle_tag p
leaf_tag simple.Break p = break_tag
leaf_tag simple.Continue p = continue_tag

-- A block that opens: with the guard of its first arm; or a `case`, with its target.
pub data Opened : Type 0 where
  with_arm : Block → Guard → Opened
  a_case : Expr → Opened

unfoldable pub opened_if : ℕ → Judge Opened
opened_if p = condition p next λ c. pure (with_arm if_block (holds c))

unfoldable pub opened_unless : ℕ → Judge Opened
opened_unless p = condition p next λ c. pure (with_arm if_block (does_not_hold c))

unfoldable pub opened_case : ℕ → Judge Opened
opened_case p = value p next λ x. finished next λ _. pure (a_case x)

unfoldable pub opened_for : ℕ → Judge Opened
opened_for p =
    header for_loop p next λ h.
    pure (with_arm (for_block h.variable h.row h.attributes.limit h.attributes.offset h.attributes.reversed) has_items)

unfoldable pub opened_tablerow : ℕ → Judge Opened
opened_tablerow p =
    header tablerow_loop p next λ h.
    pure (with_arm (tablerow_block h.variable h.row h.attributes.cols h.attributes.limit h.attributes.offset) has_items)

unfoldable pub opened_capture : ℕ → Judge Opened
opened_capture p = only_target p next λ n. pure (with_arm (capture_block n) always)

unfoldable pub opened_ifchanged : Judge Opened
opened_ifchanged = finished next λ _. pure (with_arm ifchanged_block always)

-- the arguments of the tag at place p that opens a block
abbrev pub opened : code.Block → ℕ → Judge Opened
opened kind.If p = opened_if p
opened kind.Unless p = opened_unless p
opened kind.Case p = opened_case p
opened kind.For p = opened_for p
opened kind.Tablerow p = opened_tablerow p
opened kind.Capture p = opened_capture p
opened kind.Ifchanged p = opened_ifchanged

-- What follows behind elements of a block: its end; an `else`; or another arm, with its guard.
pub data Following : Type 0 where
  the_end : Following
  an_else : Following
  an_arm : Guard → Following

abbrev pub ended : Judge Following
ended = finished next λ _. pure the_end

abbrev pub unknown : {A : Type 0} → Tag → Judge A
unknown t = refuse 5 t.name.place

-- the end tag
abbrev pub closed : Tag → Closer → Judge (Prim.Unit {0})
closed t closing.End = finished
closed t closing.Else = unknown t
closed t closing.Elsif = unknown t
closed t closing.When = unknown t
closed t closing.Other = unknown t

-- nothing but the end tag
abbrev pub only_end : Tag → Closer → Judge Following
only_end t c = closed t c next λ _. pure the_end

-- an `else` without arguments
abbrev pub bare_else : Judge Following
bare_else = finished next λ _. pure an_else

-- an `elsif`, whose mark is at this place
unfoldable pub elsif : ℕ → Judge Following
elsif m = behind_node m (condition m) next λ c. pure (an_arm (holds c))

-- a `when`, whose mark is at this place
unfoldable pub when : ℕ → Judge Following
when m = behind_node m (whens m) next λ xs. pure (an_arm (equals_one xs))

-- `if` and `unless`: `elsif`, `else`, whose arguments do not matter, or the end tag
unfoldable pub in_if : Tag → Closer → Judge Following
in_if t closing.End = ended
in_if t closing.Else = pure an_else
in_if t closing.Elsif = elsif t.mark
in_if t closing.When = unknown t
in_if t closing.Other = unknown t

-- `case`: `when`, `else`, or the end tag
unfoldable pub in_case : Tag → Closer → Judge Following
in_case t closing.End = ended
in_case t closing.Else = bare_else
in_case t closing.Elsif = unknown t
in_case t closing.When = when t.mark
in_case t closing.Other = unknown t

-- `for`: `else`, or the end tag
unfoldable pub in_for : Tag → Closer → Judge Following
in_for t closing.End = ended
in_for t closing.Else = bare_else
in_for t closing.Elsif = unknown t
in_for t closing.When = unknown t
in_for t closing.Other = unknown t

abbrev pub following : code.Block → Tag → Closer → Judge Following
following kind.If t c = in_if t c
following kind.Unless t c = in_if t c
following kind.Case t c = in_case t c
following kind.For t c = in_for t c
following kind.Tablerow t c = only_end t c
following kind.Capture t c = only_end t c
following kind.Ifchanged t c = only_end t c

-- the tag behind elements of a block of this kind
unfoldable pub follows : code.Block → Tag → Judge Following
follows b t = following b t (closer (end_tag b) t.name.bytes)

-- the tag that ends a block, behind its `else`
unfoldable pub closes : code.Block → Tag → Judge (Prim.Unit {0})
closes b t = closed t (closer (end_tag b) t.name.bytes)
