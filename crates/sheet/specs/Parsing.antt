-- The elements of a part, and the blocks among them.
use Rattle.std.specs.Prelude.{ℕ, zero, suc, ◌-◌, List, Some, None, Option}
use Rattle.cutter.specs.Words.{Words, over, verdict}
use Rattle.cutter.specs.Cuts.{Cut, done as no_pieces, unclosed, text, mark}
use Rattle.cutter.specs.declared.state.Kind.{Kind}
use Rattle.cutter.specs.declared.state.Kind.TheVariants.{Tag as is_tag, Output as is_output}
use Rattle.tree.specs.Elements.{Leaf, plain, Block, case_block, Guard, always, Tree, done, leaf, block, Arms, no_arms, arm}
use Rattle.arguments.specs.Judging.{state, Verdict, refuses, passes, pure, Seen, noted}
use Rattle.arguments.specs.Marks.{inside}
use Rattle.tags.specs.Leaves.{output_of}
use Rattle.sheet.specs.Steps.{fails, gives, Step, ◌then◌, give, fail, judged}
use Rattle.sheet.specs.Names.{known_as, tag_name}
use Rattle.sheet.specs.Blocks.{Tag, tag, with_node, opens, leaf_tag, Opened, with_arm, a_case, opened, Following, the_end, an_else, an_arm, follows, closes}
use Rattle.sheet.specs.declared.names.Simple.{Simple}
use Rattle.sheet.specs.declared.names.Block as code
use Rattle.sheet.specs.declared.names.Block.TheVariants as kind
use Rattle.sheet.specs.declared.names.Known.{Known}
use Rattle.sheet.specs.declared.names.Known.TheVariants as known

-- an element, with its place; or a tag that begins none
pub data Found : Type 0 where
  a_leaf : ℕ → Leaf → Found
  a_block : ℕ → Block → Arms → Found
  other : Tag → Found

-- elements, and the tag that ends them; none at the end of the part
pub record Elements : Type 0 where
  pub tree : Tree
  pub ending : Option Tag

-- the elements of a block, and the tag that ends them
pub record Inner : Type 0 where
  pub tree : Tree
  pub ending : Tag

abbrev pub elements_are : Tree → Option Tag → Elements
elements_are t e = record { tree = t; ending = e }

unfoldable pub a_text : ℕ → List ℕ → Step Found
a_text p b = judged (with_node p (pure (plain b))) over then λ x. give (a_leaf p x)

unfoldable pub an_output : ℕ → Words → Step Found
an_output p w = judged (with_node p (output_of p)) w then λ x. give (a_leaf p x)

unfoldable pub a_simple : Simple → ℕ → Words → Step Found
a_simple s p w = judged (with_node p (leaf_tag s p)) w then λ x. give (a_leaf p x)

-- The place where the part ends; elements of a block, and what follows behind them by the tag that ends them.
module _ (end : ℕ) (go : Step Elements) where
  abbrev pub within : Tree → Option Tag → Step Inner
  within t None = fail 7 end
  within t (Some e) = give (record { tree = t; ending = e })

  -- the elements of a block, which the end of the part must not end
  unfoldable pub inner : Step Inner
  inner = go then λ x. within x.tree x.ending

  -- an arm, and the arms behind it
  unfoldable pub arm_of : Guard → (Tag → Step Arms) → Step Arms
  arm_of g rest = inner then λ b. rest b.ending then λ a. give (arm g b.tree a)

  unfoldable pub last_of : code.Block → Tag → Step Arms
  last_of b t = judged (closes b t) t.ahead then λ _. give no_arms

  abbrev pub continued : code.Block → (Tag → Step Arms) → Following → Step Arms
  continued b rest the_end = give no_arms
  continued b rest an_else = arm_of always (last_of b)
  continued b rest (an_arm g) = arm_of g rest

  -- what follows in a block of this kind
  unfoldable pub rest_of : code.Block → (Tag → Step Arms) → Tag → Step Arms
  rest_of b rest t = judged (follows b t) t.ahead then λ x. continued b rest x

  -- elements before the first `when`: they are judged, but their nodes are dropped
  unfoldable pub dropped : Step Tag
  dropped c l = (inner then λ b c' l'. gives b.ending c' (noted l.nodes l')) c l

  abbrev pub filled : ℕ → (code.Block → Tag → Step Arms) → code.Block → Opened → Step Found
  filled p rests b (with_arm x g) = arm_of g (rests b) then λ a. give (a_block p x a)
  filled p rests b (a_case x) = dropped then λ t. rests b t then λ a. give (a_block p (case_block x) a)

  -- a block at place p, with room for r blocks in one another, and with the tokens w ahead
  unfoldable pub block_at : ℕ → ℕ → (code.Block → Tag → Step Arms) → code.Block → Words → Step Found
  block_at r p rests b w = judged (opens r p (opened b p)) w then λ x. filled p rests b x

module _ (end r : ℕ) (go : Step Elements) (rests : code.Block → Tag → Step Arms) (p : ℕ) where
  abbrev pub tag_by : Option Known → Seen → Words → Step Found
  tag_by None n w = give (other (tag p n w))
  tag_by (Some (known.Simple s)) n w = a_simple s p w
  tag_by (Some (known.Block b)) n w = block_at end go r p rests b w

  abbrev pub named : Verdict Seen → Step Found
  named (refuses n q) c l = fails n q
  named (passes n s) c l = tag_by (known_as n.bytes) n s.ahead c s.lists

  -- a tag with these tokens inside
  unfoldable pub a_tag : Words → Step Found
  a_tag w c l = named (tag_name p (state w l)) c l

  abbrev pub marked : Kind → Words → Step Found
  marked is_output w = an_output p w
  marked is_tag w = a_tag w

  abbrev pub cut_whole : Option ℕ → Kind → Words → Step Found
  cut_whole None k w = marked k w
  cut_whole (Some q) k w = fail 4 q

  -- a mark, which is cut into tokens before anything in it is judged
  unfoldable pub a_mark : Kind → Words → Step Found
  a_mark k w = cut_whole (verdict w) k w

-- an element and those that follow
abbrev pub behind : Step Elements → Found → Step Elements
behind go (a_leaf p x) = go then λ y. give (elements_are (leaf p x y.tree) y.ending)
behind go (a_block p x a) = go then λ y. give (elements_are (block p x a y.tree) y.ending)
behind go (other t) = give (elements_are done (Some t))

-- the part of this source that ends there
module _ (source : List ℕ) (end : ℕ) where
  -- Elements with room for r blocks in one another, and what follows behind those of a block; n is above the number of pieces.
  abbrev mutual
    pub elements : ℕ → ℕ → Step Elements
    elements zero r c l = fails 0 0
    elements (suc n) r no_pieces l = gives (elements_are done None) no_pieces l
    elements (suc n) r (unclosed p) l = fails 3 p
    elements (suc n) r (text p b c) l = (a_text p b then λ x. behind (elements n r) x) c l
    elements (suc n) r (mark k p b c) l =
        (a_mark end r (elements n (r - 1)) (λ q t. rests n (r - 1) q t) p k (inside source p b) then λ x. behind (elements n r) x) c l

    pub rests : ℕ → ℕ → code.Block → Tag → Step Arms
    rests zero r b t c l = fails 0 0
    rests (suc n) r b t c l = rest_of end (elements n r) b (λ u. rests n r b u) t c l
