-- The tokens behind a tag's name are a writing of one thing only.
use Rattle.std.proofs.Common.{◌≡◌, ℕ, cond, inl, inr, List, [], ◌∷◌, Some, codes, refl, sym, ap, ap₂, ◌∙◌, subst}
use Rattle.tray.specs.Parts.{same_text}
use Rattle.cutter.specs.declared.lengths.Symbol.TheVariants as symbol
use Rattle.cutter.specs.Words.{Words, over}
use Rattle.cutter.specs.Tokens.{is_symbol}
use Rattle.tree.specs.Expressions.{Expr, Chain, Row}
use Rattle.tree.specs.Elements.{Leaf, assign, increment, decrement, cycle, Block, capture_block, Guard, holds, fails, equals_one}
use Rattle.arguments.specs.Judging.{Seen}
use Rattle.arguments.specs.Values.{read}
use Rattle.arguments.specs.Tables.{given_name, made_name}
use Rattle.tags.specs.declared.stdlib.blocks.for_block.Loop.{Loop}
use Rattle.tags.specs.declared.stdlib.blocks.for_block.Loop.TheVariants.{For, Tablerow}
use Rattle.tags.specs.declared.stdlib.blocks.for_block.Attribute.{Attribute}
use Rattle.tags.specs.declared.stdlib.blocks.for_block.Attribute.TheVariants.{Cols, Limit, Offset, Reversed}
use Rattle.tags.specs.Cycles.{Written, joined, values_in}
use Rattle.tags.specs.Loops.{Attributes, no_attributes, Header, for_of, tablerow_of}
use Rattle.sheet.specs.declared.names.Simple.{Simple}
use Rattle.sheet.specs.declared.names.Simple.TheVariants as simple
use Rattle.sheet.specs.declared.names.Block as code
use Rattle.sheet.specs.declared.names.Block.TheVariants as kind
use Rattle.sheet.specs.Grammar.{Env, CycleNameIs, Begins, TheWord, TheSymbol, RowIs, ChainIs}
use Rattle.sheet.specs.GrammarTags.{word_of, Sets, AttributesAre, HeaderIs, CommaOrEnd, WrittenIs, ListIs, GivenIs, NamedCycleIs, UnnamedCycleIs, CycleIs, AssignIs, SimpleIs, OpensIs, FurtherIs}
use Rattle.sheet.specs.GrammarLaws.{Apart}
use Rattle.sheet.proofs.GrammarOnly.{same_begins, no_begins, names_same, reads_one, row_one, target_one, setting_one, chain_one, condition_one, whens_one}

-- the attribute with this word
attribute_for : List ℕ → Attribute
attribute_for n = cond (same_text n (codes "cols")) Cols (cond (same_text n (codes "limit")) Limit (cond (same_text n (codes "offset")) Offset Reversed))

word_back : (t : Attribute) → attribute_for (word_of t) ≡ t
unfolding attribute_for same_text
word_back Cols = refl
word_back Limit = refl
word_back Offset = refl
word_back Reversed = refl

attribute_one : (t u : Attribute) → word_of t ≡ word_of u → t ≡ u
attribute_one t u h = sym (word_back t) ∙ ap attribute_for h ∙ word_back u

module _ (e : Env) (apart : Apart e) where
  sets_one : (t : Attribute) (x y z : Attributes) (a b c : Words) → Sets e t x y a b → Sets e t x z a c → (y ≡ z) × (b ≡ c)
  sets_one Cols x y z a b c h k = let (p, q) = setting_one e apart h.0 k.0 a b c h.1 k.1 in let f : Expr → Attributes = λ v. record x { cols = Some v } in (h.2 ∙ ap f p ∙ sym k.2, q)
  sets_one Limit x y z a b c h k = let (p, q) = setting_one e apart h.0 k.0 a b c h.1 k.1 in let f : Expr → Attributes = λ v. record x { limit = Some v } in (h.2 ∙ ap f p ∙ sym k.2, q)
  sets_one Offset x y z a b c h k = let (p, q) = setting_one e apart h.0 k.0 a b c h.1 k.1 in let f : Expr → Attributes = λ v. record x { offset = Some v } in (h.2 ∙ ap f p ∙ sym k.2, q)
  sets_one Reversed x y z a b c h k = (h.1 ∙ sym k.1, sym h.0 ∙ k.0)

  attributes_one : (l : Loop) (ts us : List Attribute) (x y z : Attributes) (a : Words) → AttributesAre e l ts x y a → AttributesAre e l us x z a → y ≡ z
  attributes_one l [] [] x y z a h k = h.1 ∙ sym k.1
  attributes_one l [] (u ∷ us) x y z a h k = let (b, c, m, i, s, r) = k.1 in absurd (no_begins (TheWord (word_of u)) a b h.0 i)
  attributes_one l (t ∷ ts) [] x y z a h k = let (b, c, m, i, s, r) = h.1 in absurd (no_begins (TheWord (word_of t)) a b k.0 i)
  attributes_one l (t ∷ ts) (u ∷ us) x y z a h k =
      let (b, c, m, i, s, r) = h.1 in
      let (d, f, n, j, v, o) = k.1 in
      let (w, p, q, g) = same_begins (TheWord (word_of t)) (TheWord (word_of u)) a b d i j in
      let same : t ≡ u = attribute_one t u (names_same (word_of t) (word_of u) (sym p ∙ q)) in
      let (at, behind) = sets_one u x m n d c f (subst (λ y. Sets e u x m y c) g (subst (λ y. Sets e y x m b c) same s)) v in
      attributes_one l ts us n y z f (subst (λ q. AttributesAre e l ts n y q) behind (subst (λ q. AttributesAre e l ts q y c) at r)) o

  pub header_one : (l : Loop) (h g : Header) (a : Words) → HeaderIs e l h a → HeaderIs e l g a → h ≡ g
  header_one l h g a i j =
      let (p, q) = target_one e apart h.variable g.variable a i.b j.b i.variable j.variable in
      let (w, m, n, r) = same_begins (TheWord (codes "in")) (TheWord (codes "in")) j.b i.c j.c (subst (λ z. Begins (TheWord (codes "in")) z i.c) q i.word) j.word in
      let (s, t) = row_one e apart h.row g.row j.c i.d j.d (subst (λ z. Begins (RowIs e h.row) z i.d) r i.row) j.row in
      let u = attributes_one l i.written j.written no_attributes h.attributes g.attributes j.d (subst (AttributesAre e l i.written no_attributes h.attributes) t i.attributes) j.attributes in
      let made : ℕ → Row → Attributes → Header = λ v x y. record { variable = v; row = x; attributes = y } in
      ap₂ (λ v x. made v x h.attributes) p s ∙ ap (made g.variable g.row) u

  comma_one : (a b c : Words) → CommaOrEnd a b → CommaOrEnd a c → b ≡ c
  comma_one a b c (inl h) (inl k) = (same_begins (TheSymbol symbol.Comma) (TheSymbol symbol.Comma) a b c h k).3
  comma_one a b c (inl h) (inr k) = absurd (no_begins (TheSymbol symbol.Comma) a b k.0 h)
  comma_one a b c (inr h) (inl k) = absurd (no_begins (TheSymbol symbol.Comma) a c h.0 k)
  comma_one a b c (inr h) (inr k) = h.1 ∙ sym k.1

  written_one : (x y : Written) (w : Seen) → WrittenIs e x w → WrittenIs e y w → x ≡ y
  written_one x y w h k =
      let made : List ℕ → Expr → Written = λ b v. record { bytes = b; value = v } in
      ap₂ made (h.0 ∙ sym k.0) (reads_one e apart x.value y.value w.place (read w) h.1 k.1)

  list_one : (xs ys : List Written) (a : Words) → ListIs e xs a → ListIs e ys a → xs ≡ ys
  list_one [] [] a h k = refl
  list_one [] (y ∷ ys) a h k = absurd (no_begins (WrittenIs e y) a k.0 h k.2)
  list_one (x ∷ xs) [] a h k = absurd (no_begins (WrittenIs e x) a h.0 k h.2)
  list_one (x ∷ xs) (y ∷ ys) a h k =
      let (w, i, j, q) = same_begins (WrittenIs e x) (WrittenIs e y) a h.0 k.0 h.2 k.2 in
      let r = comma_one k.0 h.1 k.1 (subst (λ z. CommaOrEnd z h.1) q h.3) k.3 in
      ap₂ (λ z zs. z ∷ zs) (written_one x y w i j) (list_one xs ys k.1 (subst (ListIs e xs) r h.4) k.4)

  comma_no_colon : (w : Seen) → TheSymbol symbol.Comma w → TheSymbol symbol.Colon w → ⊥
  comma_no_colon w h k = let q : is_symbol symbol.Comma ≡ is_symbol symbol.Colon = sym h ∙ k in cc

  named_unnamed : (k j : ℕ) (xs ys : List Expr) (a : Words) → NamedCycleIs e k xs a → UnnamedCycleIs e j ys a → ⊥
  named_unnamed k j xs ys a (b, c, ws, g, s, x, q) (w, vs, (d, f, h, m, y), n, r) =
      let (u, i, o, p) = same_begins (GivenIs e k) (WrittenIs e w) a b d g h in
      by m (subst (λ z. Begins (TheSymbol symbol.Colon) z c) p s)
    where
      by : CommaOrEnd d f → Begins (TheSymbol symbol.Colon) d c → ⊥
      by (inl l) t = let (u, i, o, p) = same_begins (TheSymbol symbol.Comma) (TheSymbol symbol.Colon) d f c l t in comma_no_colon u i o
      by (inr l) t = no_begins (TheSymbol symbol.Colon) d c l.0 t

  given_one : (k j : ℕ) (w : Seen) → GivenIs e k w → GivenIs e j w → k ≡ j
  given_one k j w h i =
      let q : Some h.0 ≡ Some i.0 = sym h.1 ∙ i.1 in
      let r : h.0 ≡ i.0 = cc in
      apart.cycles k j (given_name h.0) h.2 (subst (λ n. CycleNameIs e j (given_name n)) (sym r) i.2)

  pub cycle_one : (k j : ℕ) (xs ys : List Expr) (a : Words) → CycleIs e k xs a → CycleIs e j ys a → (k ≡ j) × (xs ≡ ys)
  cycle_one k j xs ys a (inl (b, c, ws, g, s, x, q)) (inl (d, f, vs, h, t, y, r)) =
      let (w, i, o, p) = same_begins (GivenIs e k) (GivenIs e j) a b d g h in
      let (u, m, n, z) = same_begins (TheSymbol symbol.Colon) (TheSymbol symbol.Colon) d c f (subst (λ z. Begins (TheSymbol symbol.Colon) z c) p s) t in
      (given_one k j w i o, q ∙ ap values_in (list_one ws vs f (subst (ListIs e ws) z x) y) ∙ sym r)
  cycle_one k j xs ys a (inl h) (inr i) = absurd (named_unnamed k j xs ys a h i)
  cycle_one k j xs ys a (inr h) (inl i) = absurd (named_unnamed j k ys xs a i h)
  cycle_one k j xs ys a (inr (w, ws, x, n, q)) (inr (v, vs, y, m, r)) =
      let same : w ∷ ws ≡ v ∷ vs = list_one (w ∷ ws) (v ∷ vs) a x y in
      (apart.cycles k j (made_name (joined (w ∷ ws))) n (subst (λ z. CycleNameIs e j (made_name (joined z))) (sym same) m), q ∙ ap values_in same ∙ sym r)

  assign_one : (k j : ℕ) (c d : Chain) (a : Words) → AssignIs e k c a → AssignIs e j d a → (k ≡ j) × (c ≡ d)
  assign_one k j c d a (b, f, h, s, x) (g, i, m, t, y) =
      let (p, q) = target_one e apart k j a b g h m in
      let (w, u, v, r) = same_begins (TheSymbol symbol.Assign) (TheSymbol symbol.Assign) g f i (subst (λ z. Begins (TheSymbol symbol.Assign) z f) q s) t in
      (p, chain_one e apart c d i (subst (ChainIs e c) r x) y)

  pub simple_one : (s : Simple) (l m : Leaf) (a : Words) → SimpleIs e s l a → SimpleIs e s m a → l ≡ m
  simple_one simple.Assign l m a (k, c, x, q) (j, d, y, r) = let (i, o) = assign_one k j c d a x y in q ∙ ap₂ assign i o ∙ sym r
  simple_one simple.Increment l m a (k, x, q) (j, y, r) = q ∙ ap increment (target_one e apart k j a over over x y).0 ∙ sym r
  simple_one simple.Decrement l m a (k, x, q) (j, y, r) = q ∙ ap decrement (target_one e apart k j a over over x y).0 ∙ sym r
  simple_one simple.Cycle l m a (k, xs, x, q) (j, ys, y, r) = let (i, o) = cycle_one k j xs ys a x y in q ∙ ap₂ cycle i o ∙ sym r
  simple_one simple.Break l m a h k = h.1 ∙ sym k.1
  simple_one simple.Continue l m a h k = h.1 ∙ sym k.1

  pub opens_one : (b : code.Block) (x y : Block) (g h : Guard) (a : Words) → OpensIs e b x g a → OpensIs e b y h a → (x ≡ y) × (g ≡ h)
  opens_one kind.If x y g h a (c, m, p, q) (d, n, r, s) = (p ∙ sym r, q ∙ ap holds (condition_one e apart c d a m n) ∙ sym s)
  opens_one kind.Unless x y g h a (c, m, p, q) (d, n, r, s) = (p ∙ sym r, q ∙ ap fails (condition_one e apart c d a m n) ∙ sym s)
  opens_one kind.Case x y g h a m n = absurd m
  opens_one kind.For x y g h a (c, m, p, q) (d, n, r, s) = (p ∙ ap for_of (header_one For c d a m n) ∙ sym r, q ∙ sym s)
  opens_one kind.Tablerow x y g h a (c, m, p, q) (d, n, r, s) = (p ∙ ap tablerow_of (header_one Tablerow c d a m n) ∙ sym r, q ∙ sym s)
  opens_one kind.Capture x y g h a (k, m, p, q) (j, n, r, s) = (p ∙ ap capture_block (target_one e apart k j a over over m n).0 ∙ sym r, q ∙ sym s)
  opens_one kind.Ifchanged x y g h a (m, p, q) (n, r, s) = (p ∙ sym r, q ∙ sym s)

  pub further_one : (b : code.Block) (g h : Guard) (m n : List ℕ) (a : Words) → FurtherIs e b g m a → FurtherIs e b h n a → g ≡ h
  further_one kind.If g h m n a (p, (c, x, q)) (r, (d, y, s)) = q ∙ ap holds (condition_one e apart c d a x y) ∙ sym s
  further_one kind.Unless g h m n a (p, (c, x, q)) (r, (d, y, s)) = q ∙ ap holds (condition_one e apart c d a x y) ∙ sym s
  further_one kind.Case g h m n a (p, (c, x, q)) (r, (d, y, s)) = q ∙ ap equals_one (whens_one e apart c d a x y) ∙ sym s
  further_one kind.For g h m n a x y = absurd x
  further_one kind.Tablerow g h m n a x y = absurd x
  further_one kind.Capture g h m n a x y = absurd x
  further_one kind.Ifchanged g h m n a x y = absurd x
