-- What is written stays so where names and cycle names keep their numbers.
use Rattle.std.proofs.Common.{ℕ, inl, inr, List, [], ◌∷◌, Some, None, Option}
use Rattle.cutter.specs.Words.{Words, over}
use Rattle.cutter.specs.Tokens.{Reading, is_nil, is_boolean, is_number, is_text, is_name, is_path, is_range, is_symbol, token_of}
use Rattle.cutter.specs.Cuts.{Cut}
use Rattle.tree.specs.Expressions.{Head, Expr, Filter, Chain, Row}
use Rattle.tree.specs.Conditions.{Test, exists, compares, Condition, only, both, either}
use Rattle.tree.specs.Elements.{Leaf, Block, Guard, Tree, Arms}
use Rattle.arguments.specs.declared.words.Special.{Special}
use Rattle.arguments.specs.declared.words.Special.TheVariants.{Forloop, Tablerowloop, Barred, Free}
use Rattle.arguments.specs.Values.{read, special}
use Rattle.arguments.specs.Tables.{given_name, made_name}
use Rattle.tags.specs.declared.stdlib.blocks.for_block.Loop.{Loop}
use Rattle.tags.specs.declared.stdlib.blocks.for_block.Attribute.{Attribute}
use Rattle.tags.specs.declared.stdlib.blocks.for_block.Attribute.TheVariants.{Cols, Limit, Offset, Reversed}
use Rattle.tags.specs.Cycles.{Written, joined}
use Rattle.tags.specs.Loops.{Attributes, Header}
use Rattle.sheet.specs.declared.names.Simple.{Simple}
use Rattle.sheet.specs.declared.names.Simple.TheVariants as simple
use Rattle.sheet.specs.declared.names.Block as code
use Rattle.sheet.specs.declared.names.Block.TheVariants as kind
use Rattle.sheet.specs.Grammar.{Env, Begins, HeadBy, ReadsAs, ValueIs, RowReads, RowIs, TargetIs, SettingIs, ArgumentIs, FilterIs, FiltersAre, ChainIs, TestIs, ConditionIs, WhensAre}
use Rattle.sheet.specs.GrammarTags.{Sets, AttributesAre, HeaderIs, WrittenIs, ListIs, GivenIs, CycleIs, AssignIs, SimpleIs, OpensIs, FurtherIs}
use Rattle.sheet.specs.GrammarElements.{LeafIs, is_text, is_chain, is_simple, ElementsAre, no_more, a_leaf, a_block, BlockIs, opens, opens_case, ArmsAre, the_end, an_else, further}
use Rattle.sheet.specs.GrammarLaws.{Kept, Monotone}
use Rattle.sheet.proofs.GrammarReads.{begins_as}

module _ (d e : Env) (k : Kept d e) where
  head_kept : (s : Special) (h : Head) (n : List ℕ) → HeadBy s d h n → HeadBy s e h n
  head_kept Forloop h n i = i
  head_kept Tablerowloop h n i = i
  head_kept Barred h n i = i
  head_kept Free h n (j, i, q) = (j, k.names j n i, q)

  reads_kept : (x : Expr) (q : ℕ) (r : Reading) → ReadsAs d x q r → ReadsAs e x q r
  reads_kept x q is_nil h = h
  reads_kept x q (is_boolean b) h = h
  reads_kept x q (is_number z) h = h
  reads_kept x q (is_text t) h = h
  reads_kept x q (is_name n) (h, i, o) = (h, head_kept (special n) h n i, o)
  reads_kept x q (is_path n s) (h, i, o) = (h, head_kept (special n) h n i, o)
  reads_kept x q (is_range a l b u) h = h
  reads_kept x q (is_symbol s) h = h

  value_kept : (x : Expr) (a b : Words) → Begins (ValueIs d x) a b → Begins (ValueIs e x) a b
  value_kept x a b h = begins_as (ValueIs d x) (ValueIs e x) a b (λ w i. reads_kept x w.place (read w) i) h

  row_by : (r : Row) (q : ℕ) (t : Reading) → RowReads d r q t → RowReads e r q t
  row_by r q is_nil (x, h, o) = (x, reads_kept x q is_nil h, o)
  row_by r q (is_boolean b) (x, h, o) = (x, reads_kept x q (is_boolean b) h, o)
  row_by r q (is_number z) (x, h, o) = (x, reads_kept x q (is_number z) h, o)
  row_by r q (is_text t) (x, h, o) = (x, reads_kept x q (is_text t) h, o)
  row_by r q (is_name n) (x, h, o) = (x, reads_kept x q (is_name n) h, o)
  row_by r q (is_path n s) (x, h, o) = (x, reads_kept x q (is_path n s) h, o)
  row_by r q (is_range a l b u) (x, y, h, i, o) = (x, y, reads_kept x a (token_of a l) h, reads_kept y b (token_of b u) i, o)
  row_by r q (is_symbol s) (x, h, o) = (x, reads_kept x q (is_symbol s) h, o)

  row_kept : (r : Row) (a b : Words) → Begins (RowIs d r) a b → Begins (RowIs e r) a b
  row_kept r a b h = begins_as (RowIs d r) (RowIs e r) a b (λ w i. row_by r w.place (read w) i) h

  target_kept : (i : ℕ) (a b : Words) → Begins (TargetIs d i) a b → Begins (TargetIs e i) a b
  target_kept i a b h = begins_as (TargetIs d i) (TargetIs e i) a b (λ w t. record { name = t.name; bare = t.bare; free = t.free; is = k.names i t.name t.is }) h

  setting_kept : (x : Expr) (a b : Words) → SettingIs d x a b → SettingIs e x a b
  setting_kept x a b (c, h, i) = (c, h, value_kept x c b i)

  argument_kept : (o : Option Expr) (a b : Words) → ArgumentIs d o a b → ArgumentIs e o a b
  argument_kept None a b h = h
  argument_kept (Some x) a b h = setting_kept x a b h

  filter_kept : (f : Filter) (a b : Words) → FilterIs d f a b → FilterIs e f a b
  filter_kept f a b (c, h, i) = (c, h, argument_kept f.argument c b i)

  filters_kept : (fs : List Filter) (a : Words) → FiltersAre d fs a → FiltersAre e fs a
  filters_kept [] a h = h
  filters_kept (f ∷ fs) a (b, c, h, i, r) = (b, c, h, filter_kept f b c i, filters_kept fs c r)

  chain_kept : (c : Chain) (a : Words) → ChainIs d c a → ChainIs e c a
  chain_kept c a (b, h, i) = (b, value_kept c.value a b h, filters_kept c.filters b i)

  test_kept : (t : Test) (a b : Words) → TestIs d t a b → TestIs e t a b
  test_kept (exists x) a b h = value_kept x a b h
  test_kept (compares x c y) a b (f, g, h, i, j) = (f, g, value_kept x a f h, i, value_kept y g b j)

  condition_kept : (c : Condition) (a : Words) → ConditionIs d c a → ConditionIs e c a
  condition_kept (only t) a h = test_kept t a over h
  condition_kept (both t c) a (b, f, h, i, r) = (b, f, test_kept t a b h, i, condition_kept c f r)
  condition_kept (either t c) a (b, f, h, i, r) = (b, f, test_kept t a b h, i, condition_kept c f r)

  whens_kept : (xs : List Expr) (a : Words) → WhensAre d xs a → WhensAre e xs a
  whens_kept [] a h = h
  whens_kept (x ∷ []) a h = value_kept x a over h
  whens_kept (x ∷ y ∷ ys) a (b, c, h, i, r) = (b, c, value_kept x a b h, i, whens_kept (y ∷ ys) c r)

  sets_kept : (t : Attribute) (x y : Attributes) (a b : Words) → Sets d t x y a b → Sets e t x y a b
  sets_kept Cols x y a b (v, h, o) = (v, setting_kept v a b h, o)
  sets_kept Limit x y a b (v, h, o) = (v, setting_kept v a b h, o)
  sets_kept Offset x y a b (v, h, o) = (v, setting_kept v a b h, o)
  sets_kept Reversed x y a b h = h

  attributes_kept : (l : Loop) (ts : List Attribute) (x y : Attributes) (a : Words) → AttributesAre d l ts x y a → AttributesAre e l ts x y a
  attributes_kept l [] x y a h = h
  attributes_kept l (t ∷ ts) x y a (i, (b, c, z, h, s, r)) = (i, (b, c, z, h, sets_kept t x z b c s, attributes_kept l ts z y c r))

  header_kept : (l : Loop) (h : Header) (a : Words) → HeaderIs d l h a → HeaderIs e l h a
  header_kept l h a i =
      record {
        b = i.b;
        c = i.c;
        d = i.d;
        written = i.written;
        variable = target_kept h.variable a i.b i.variable;
        word = i.word;
        row = row_kept h.row i.c i.d i.row;
        attributes = attributes_kept l i.written _ h.attributes i.d i.attributes;
      }

  list_kept : (xs : List Written) (a : Words) → ListIs d xs a → ListIs e xs a
  list_kept [] a h = h
  list_kept (x ∷ xs) a (b, c, h, i, r) = (b, c, begins_as (WrittenIs d x) (WrittenIs e x) a b (λ w j. (j.0, reads_kept x.value w.place (read w) j.1)) h, i, list_kept xs c r)

  cycle_kept : (j : ℕ) (xs : List Expr) (a : Words) → CycleIs d j xs a → CycleIs e j xs a
  cycle_kept j xs a (inl (b, c, ws, g, h, i, o)) = inl (b, c, ws, begins_as (GivenIs d j) (GivenIs e j) a b (λ w z. (z.0, z.1, k.cycles j (given_name z.0) z.2)) g, h, list_kept ws c i, o)
  cycle_kept j xs a (inr (w, ws, h, i, o)) = inr (w, ws, list_kept (w ∷ ws) a h, k.cycles j (made_name (joined (w ∷ ws))) i, o)

  assign_kept : (j : ℕ) (c : Chain) (a : Words) → AssignIs d j c a → AssignIs e j c a
  assign_kept j c a (b, f, h, i, r) = (b, f, target_kept j a b h, i, chain_kept c f r)

  simple_kept : (s : Simple) (l : Leaf) (a : Words) → SimpleIs d s l a → SimpleIs e s l a
  simple_kept simple.Assign l a (j, c, h, o) = (j, c, assign_kept j c a h, o)
  simple_kept simple.Increment l a (j, h, o) = (j, target_kept j a over h, o)
  simple_kept simple.Decrement l a (j, h, o) = (j, target_kept j a over h, o)
  simple_kept simple.Cycle l a (j, xs, h, o) = (j, xs, cycle_kept j xs a h, o)
  simple_kept simple.Break l a h = h
  simple_kept simple.Continue l a h = h

  opens_kept : (b : code.Block) (x : Block) (g : Guard) (a : Words) → OpensIs d b x g a → OpensIs e b x g a
  opens_kept kind.If x g a (c, h, o, q) = (c, condition_kept c a h, o, q)
  opens_kept kind.Unless x g a (c, h, o, q) = (c, condition_kept c a h, o, q)
  opens_kept kind.Case x g a h = h
  opens_kept kind.For x g a (i, h, o, q) = (i, header_kept _ i a h, o, q)
  opens_kept kind.Tablerow x g a (i, h, o, q) = (i, header_kept _ i a h, o, q)
  opens_kept kind.Capture x g a (j, h, o, q) = (j, target_kept j a over h, o, q)
  opens_kept kind.Ifchanged x g a h = h

  further_kept : (b : code.Block) (g : Guard) (n : List ℕ) (a : Words) → FurtherIs d b g n a → FurtherIs e b g n a
  further_kept kind.If g n a (i, (c, h, o)) = (i, (c, condition_kept c a h, o))
  further_kept kind.Unless g n a (i, (c, h, o)) = (i, (c, condition_kept c a h, o))
  further_kept kind.Case g n a (i, (xs, h, o)) = (i, (xs, whens_kept xs a h, o))
  further_kept kind.For g n a h = h
  further_kept kind.Tablerow g n a h = h
  further_kept kind.Capture g n a h = h
  further_kept kind.Ifchanged g n a h = h

  module _ (source : List ℕ) where
    leaf_kept : (p : ℕ) (l : Leaf) (c f : Cut) → LeafIs d source p l c f → LeafIs e source p l c f
    leaf_kept p l c f (is_text b h o) = is_text b h o
    leaf_kept p l c f (is_chain b x h w i o) = is_chain b x h w (chain_kept x _ i) o
    leaf_kept p l c f (is_simple s n a q h i) = is_simple s n a q h (simple_kept s l a i)

    mutual
      elements_kept : {t : Tree} {c f : Cut} → ElementsAre d source t c f → ElementsAre e source t c f
      elements_kept (no_more h) = no_more h
      elements_kept (a_leaf h i) = a_leaf (leaf_kept _ _ _ _ h) (elements_kept i)
      elements_kept (a_block h i) = a_block (block_kept h) (elements_kept i)

      block_kept : {p : ℕ} {x : Block} {more : Arms} {c f : Cut} → BlockIs d source p x more c f → BlockIs e source p x more c f
      block_kept (opens b n a q at o els arms) = opens b n a q at (opens_kept b _ _ a o) (elements_kept els) (arms_kept arms)
      block_kept (opens_case n a q at o els arms) = opens_case n a q at (value_kept _ a over o) (elements_kept els) (arms_kept arms)

      arms_kept : {b : code.Block} {more : Arms} {c f : Cut} → ArmsAre d source b more c f → ArmsAre e source b more c f
      arms_kept (the_end h) = the_end h
      arms_kept (an_else p a at s els close) = an_else p a at s (elements_kept els) close
      arms_kept (further {b = b} {g = g} p n a at s els arms) = further p n a at (further_kept b g n a s) (elements_kept els) (arms_kept arms)

pub monotone : Monotone
monotone d e k source t c f h = elements_kept d e k source h
