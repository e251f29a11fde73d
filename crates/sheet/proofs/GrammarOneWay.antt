-- Pieces are a writing of one tree only.
use Rattle.std.proofs.Common.{◌≡◌, ℕ, inl, inr, List, Some, None, codes, Option, refl, sym, ap, ap₂, ◌∙◌, subst}
use Rattle.tray.specs.Parts.{same_text}
use Rattle.cutter.specs.Words.{Words, over}
use Rattle.cutter.specs.Cuts.{Cut, text, mark}
use Rattle.cutter.specs.declared.state.Kind.TheVariants.{Tag as is_tag, Output as is_output}
use Rattle.tree.specs.Elements.{Leaf, plain, output, Block, case_block, Guard, always, Tree, leaf, block, Arms, no_arms, arm}
use Rattle.arguments.specs.Marks.{inside}
use Rattle.sheet.specs.declared.names.Block as code
use Rattle.sheet.specs.declared.names.Block.TheVariants as kind
use Rattle.sheet.specs.declared.names.Known.{Known}
use Rattle.sheet.specs.declared.names.Known.TheVariants as known
use Rattle.sheet.specs.Names.{known_as}
use Rattle.sheet.specs.Names.{end_tag}
use Rattle.sheet.specs.Grammar.{Env, Begins, TheWord, ValueIs, ChainIs}
use Rattle.sheet.specs.GrammarTags.{SimpleIs, OpensIs, FurtherIs}
use Rattle.sheet.specs.GrammarElements.{TagAt, LeafIs, is_text, is_chain, is_simple, Ends, ElementsAre, no_more, a_leaf, a_block, BlockIs, opens, opens_case, ArmsAre, the_end, an_else, further}
use Rattle.sheet.specs.GrammarLaws.{env_of, Apart, OneWay, OnlyTree}
use Rattle.sheet.proofs.GrammarOnly.{same_begins, other_word, names_same, value_one, chain_one}
use Rattle.sheet.proofs.GrammarTagsOnly.{simple_one, opens_one, further_one}
use Rattle.sheet.proofs.GrammarDerived.{derived}

-- words that differ
end_no_else : (b : code.Block) → end_tag b ≡ codes "else" → ⊥
unfolding same_text
end_no_else kind.If h = other_word _ _ refl h
end_no_else kind.Unless h = other_word _ _ refl h
end_no_else kind.Case h = other_word _ _ refl h
end_no_else kind.For h = other_word _ _ refl h
end_no_else kind.Tablerow h = other_word _ _ refl h
end_no_else kind.Capture h = other_word _ _ refl h
end_no_else kind.Ifchanged h = other_word _ _ refl h

further_no_else : (e : Env) (b : code.Block) (g : Guard) (n : List ℕ) (a : Words) → FurtherIs e b g n a → n ≡ codes "else" → ⊥
unfolding same_text
further_no_else e kind.If g n a h q = other_word (codes "elsif") (codes "else") refl (sym h.0 ∙ q)
further_no_else e kind.Unless g n a h q = other_word (codes "elsif") (codes "else") refl (sym h.0 ∙ q)
further_no_else e kind.Case g n a h q = other_word (codes "when") (codes "else") refl (sym h.0 ∙ q)
further_no_else e kind.For g n a h q = absurd h
further_no_else e kind.Tablerow g n a h q = absurd h
further_no_else e kind.Capture g n a h q = absurd h
further_no_else e kind.Ifchanged g n a h q = absurd h

further_no_end : (e : Env) (b : code.Block) (g : Guard) (n : List ℕ) (a : Words) → FurtherIs e b g n a → n ≡ end_tag b → ⊥
unfolding same_text
further_no_end e kind.If g n a h q = other_word (codes "elsif") (codes "endif") refl (sym h.0 ∙ q)
further_no_end e kind.Unless g n a h q = other_word (codes "elsif") (codes "endunless") refl (sym h.0 ∙ q)
further_no_end e kind.Case g n a h q = other_word (codes "when") (codes "endcase") refl (sym h.0 ∙ q)
further_no_end e kind.For g n a h q = absurd h
further_no_end e kind.Tablerow g n a h q = absurd h
further_no_end e kind.Capture g n a h q = absurd h
further_no_end e kind.Ifchanged g n a h q = absurd h

-- a tag is one tag
module _ (source : List ℕ) where
  pub tag_one : (p q : ℕ) (n m : List ℕ) (a b : Words) (c d f : Cut) → TagAt source p n a c d → TagAt source q m b c f → (p ≡ q) × (n ≡ m) × (a ≡ b) × (d ≡ f)
  tag_one p q n m a b c d f h k =
      let e : mark is_tag p h.bytes d ≡ mark is_tag q k.bytes f = sym h.is ∙ k.is in
      let i : p ≡ q = cc in
      let j : h.bytes ≡ k.bytes = cc in
      let o : d ≡ f = cc in
      let (w, u, v, r) = same_begins (TheWord n) (TheWord m) (inside source q k.bytes) a b (subst (λ z. Begins (TheWord n) z a) (ap₂ (inside source) i j) h.begins) k.begins in
      (i, names_same n m (sym u ∙ v), r, o)

  known_one : (p q : ℕ) (n m : List ℕ) (a b : Words) (c d f : Cut) (o r : Option Known) → TagAt source p n a c d → TagAt source q m b c f → known_as n ≡ o → known_as m ≡ r → o ≡ r
  known_one p q n m a b c d f o r h k i j = let (x, y, z, w) = tag_one p q n m a b c d f h k in sym i ∙ ap known_as y ∙ j

  -- a tag that is known begins a list of elements, and no end
  no_end : (p : ℕ) (n : List ℕ) (a : Words) (c d : Cut) (k : Known) → TagAt source p n a c d → known_as n ≡ Some k → Ends source c → ⊥
  no_end p n a c d k h q (inl e) = let i = h.is in cc
  no_end p n a c d k h q (inr o) = let r : Some k ≡ None = known_one p o.place n o.name a o.a c d o.d (Some k) None h o.tag q o.unknown in cc

  text_no_end : (p : ℕ) (b : List ℕ) (c d : Cut) → c ≡ text p b d → Ends source c → ⊥
  text_no_end p b c d h (inl e) = cc
  text_no_end p b c d h (inr o) = let i = o.tag.is in cc

  output_no_end : (p : ℕ) (b : List ℕ) (c d : Cut) → c ≡ mark is_output p b d → Ends source c → ⊥
  output_no_end p b c d h (inl e) = cc
  output_no_end p b c d h (inr o) = let i = o.tag.is in cc

  module _ (e : Env) (apart : Apart e) where
    leaf_no_end : (p : ℕ) (l : Leaf) (c d : Cut) → LeafIs e source p l c d → Ends source c → ⊥
    leaf_no_end p l c d (is_text b h q) o = text_no_end p b c d h o
    leaf_no_end p l c d (is_chain b x h w i q) o = output_no_end p b c d h o
    leaf_no_end p l c d (is_simple s n a k h i) o = no_end p n a c d (known.Simple s) h k o

    leaf_one : (p q : ℕ) (l m : Leaf) (c d f : Cut) → LeafIs e source p l c d → LeafIs e source q m c f → (p ≡ q) × (l ≡ m) × (d ≡ f)
    leaf_one p q l m c d f (is_text b h i) (is_text v k j) =
        let o : text p b d ≡ text q v f = sym h ∙ k in
        let r : b ≡ v = cc in
        (cc, i ∙ ap plain r ∙ sym j, cc)
    leaf_one p q l m c d f (is_text b h i) (is_chain v y k w g j) = cc
    leaf_one p q l m c d f (is_text b h i) (is_simple s n a k g j) = let r = g.is in cc
    leaf_one p q l m c d f (is_chain b x h w g i) (is_text v k j) = cc
    leaf_one p q l m c d f (is_chain b x h w g i) (is_chain v y k z o j) =
        let r : mark is_output p b d ≡ mark is_output q v f = sym h ∙ k in
        let s : p ≡ q = cc in
        let t : b ≡ v = cc in
        (s, i ∙ ap output (chain_one e apart x y (inside source q v) (subst (ChainIs e x) (ap₂ (inside source) s t) g) o) ∙ sym j, cc)
    leaf_one p q l m c d f (is_chain b x h w g i) (is_simple s n a k o j) = let r = o.is in cc
    leaf_one p q l m c d f (is_simple s n a k g j) (is_text b h i) = let r = g.is in cc
    leaf_one p q l m c d f (is_simple s n a k g j) (is_chain b x h w o i) = let r = g.is in cc
    leaf_one p q l m c d f (is_simple s n a k g j) (is_simple t o b r h i) =
        let (x, y, z, w) = tag_one p q n o a b c d f g h in
        let u : Some (known.Simple s) ≡ Some (known.Simple t) = known_one p q n o a b c d f _ _ g h k r in
        let v : s ≡ t = cc in
        (x, simple_one e apart t l m b (subst (λ z. SimpleIs e z l b) v (subst (SimpleIs e s l) z j)) i, w)

    -- the tag that a block begins with
    block_tag : (p : ℕ) (x : Block) (more : Arms) (c d : Cut) → BlockIs e source p x more c d → (b : code.Block) × (n : List ℕ) × (a : Words) × (f : Cut) × TagAt source p n a c f × (known_as n ≡ Some (known.Block b))
    block_tag p x more c d (opens {d = f} b n a k at o els arms) = (b, n, a, f, at, k)
    block_tag p x more c d (opens_case {d = f} n a k at o els arms) = (kind.Case, n, a, f, at, k)

    block_no_end : (p : ℕ) (x : Block) (more : Arms) (c d : Cut) → BlockIs e source p x more c d → Ends source c → ⊥
    block_no_end p x more c d h o = let (b, n, a, f, at, k) = block_tag p x more c d h in no_end p n a c f (known.Block b) at k o

    leaf_no_block : (p q : ℕ) (l : Leaf) (x : Block) (more : Arms) (c d f : Cut) → LeafIs e source p l c d → BlockIs e source q x more c f → ⊥
    leaf_no_block p q l x more c d f h k = let (b, n, a, g, at, i) = block_tag q x more c f k in by b n a g at i h
      where
        by : (b : code.Block) (n : List ℕ) (a : Words) (g : Cut) → TagAt source q n a c g → known_as n ≡ Some (known.Block b) → LeafIs e source p l c d → ⊥
        by b n a g at i (is_text v o r) = let t = at.is in cc
        by b n a g at i (is_chain v y o w u r) = let t = at.is in cc
        by b n a g at i (is_simple s m v j o r) = let t : Some (known.Simple s) ≡ Some (known.Block b) = known_one p q m n v a c d g _ _ o at j i in cc

    mutual
      elements_one : {t u : Tree} {c d f : Cut} → ElementsAre e source t c d → ElementsAre e source u c f → (t ≡ u) × (d ≡ f)
      elements_one (no_more h) (no_more k) = (refl, refl)
      elements_one (no_more h) (a_leaf {p = p} {l = l} {c = c} {d = d} k i) = absurd (leaf_no_end p l c d k h)
      elements_one (no_more h) (a_block {p = p} {x = x} {more = more} {c = c} {d = d} k i) = absurd (block_no_end p x more c d k h)
      elements_one (a_leaf {p = p} {l = l} {c = c} {d = d} h i) (no_more k) = absurd (leaf_no_end p l c d h k)
      elements_one (a_leaf {p = p} {l = l} {t = t} {c = c} {d = d} {f = f} h i) (a_leaf {p = q} {l = m} {t = u} {d = g} {f = o} k j) =
          let (x, y, z) = leaf_one p q l m c d g h k in
          let (v, w) = elements_one i (subst (λ s. ElementsAre e source u s o) (sym z) j) in
          (ap₂ (λ r s. leaf r s t) x y ∙ ap (leaf q m) v, w)
      elements_one (a_leaf {p = p} {l = l} {c = c} {d = d} h i) (a_block {p = q} {x = x} {more = more} {d = g} k j) = absurd (leaf_no_block p q l x more c d g h k)
      elements_one (a_block {p = p} {x = x} {more = more} {c = c} {d = d} h i) (no_more k) = absurd (block_no_end p x more c d h k)
      elements_one (a_block {p = p} {x = x} {more = more} {c = c} {d = d} h i) (a_leaf {p = q} {l = l} {d = g} k j) = absurd (leaf_no_block q p l x more c g d k h)
      elements_one (a_block {p = p} {x = x} {more = more} {t = t} h i) (a_block {p = q} {x = y} {more = others} {t = u} {f = o} k j) =
          let (r, s, v, w) = block_one h k in
          let (m, n) = elements_one i (subst (λ z. ElementsAre e source u z o) (sym w) j) in
          (ap₂ (λ a b. block a b more t) r s ∙ ap₂ (block q y) v m, n)

      block_one : {p q : ℕ} {x y : Block} {more others : Arms} {c d f : Cut} → BlockIs e source p x more c d → BlockIs e source q y others c f → (p ≡ q) × (x ≡ y) × (more ≡ others) × (d ≡ f)
      block_one (opens {p = p} {x = x} {g = g} {t = t} {more = more} {c = c} {d = d} {f = f} b n a k at o els arms) (opens {p = q} {x = y} {g = h} {t = u} {more = others} {d = d2} {f = f2} {h = z} b2 n2 a2 k2 at2 o2 els2 arms2) =
          let (i, j, l, m) = tag_one p q n n2 a a2 c d d2 at at2 in
          let r : Some (known.Block b) ≡ Some (known.Block b2) = known_one p q n n2 a a2 c d d2 _ _ at at2 k k2 in
          let s : b ≡ b2 = cc in
          let (v, w) = opens_one e apart b2 x y g h a2 (subst (λ z. OpensIs e z x g a2) s (subst (OpensIs e b x g) l o)) o2 in
          let (ts, fs) = elements_one els (subst (λ z. ElementsAre e source u z f2) (sym m) els2) in
          let (ms, ends) = arms_one arms (subst (λ i. ArmsAre e source b others i z) (sym fs) (subst (λ i. ArmsAre e source i others f2 z) (sym s) arms2)) in
          (i, v, ap₂ (λ j l. arm j l more) w ts ∙ ap (arm h u) ms, ends)
      block_one (opens {p = p} {x = x} {g = g} {c = c} {d = d} b n a k at o els arms) (opens_case {p = q} {d = d2} n2 a2 k2 at2 o2 els2 arms2) =
          let r : Some (known.Block b) ≡ Some (known.Block kind.Case) = known_one p q n n2 a a2 c d d2 _ _ at at2 k k2 in
          let s : b ≡ kind.Case = cc in
          absurd (subst (λ z. OpensIs e z x g a) s o)
      block_one (opens_case {p = p} {c = c} {d = d} n a k at o els arms) (opens {p = q} {x = y} {g = h} {d = d2} b2 n2 a2 k2 at2 o2 els2 arms2) =
          let r : Some (known.Block kind.Case) ≡ Some (known.Block b2) = known_one p q n n2 a a2 c d d2 _ _ at at2 k k2 in
          let s : b2 ≡ kind.Case = cc in
          absurd (subst (λ z. OpensIs e z y h a2) s o2)
      block_one (opens_case {p = p} {y = x} {t = t} {c = c} {d = d} {f = f} n a k at o els arms) (opens_case {p = q} {y = y} {t = u} {more = others} {d = d2} {f = f2} {h = z} n2 a2 k2 at2 o2 els2 arms2) =
          let (i, j, l, m) = tag_one p q n n2 a a2 c d d2 at at2 in
          let (v, w) = value_one e apart x y a2 over over (subst (λ z. Begins (ValueIs e x) z over) l o) o2 in
          let (ts, fs) = elements_one els (subst (λ z. ElementsAre e source u z f2) (sym m) els2) in
          let (ms, ends) = arms_one arms (subst (λ i. ArmsAre e source kind.Case others i z) (sym fs) arms2) in
          (i, ap case_block v, ms, ends)

      arms_one : {b : code.Block} {more others : Arms} {c d f : Cut} → ArmsAre e source b more c d → ArmsAre e source b others c f → (more ≡ others) × (d ≡ f)
      arms_one (the_end {b = b} {c = c} {d = d} (p, at)) (the_end {d = f} (q, at2)) = let (i, j, l, m) = tag_one p q (end_tag b) (end_tag b) over over c d f at at2 in (refl, m)
      arms_one (the_end {b = b} {c = c} {d = d} (p, at)) (an_else {d = d2} q a2 at2 s2 els2 close2) = let (i, j, l, m) = tag_one p q (end_tag b) (codes "else") over a2 c d d2 at at2 in absurd (end_no_else b j)
      arms_one (the_end {b = b} {c = c} {d = d} (p, at)) (further {g = g} {d = d2} q n2 a2 at2 s2 els2 arms2) =
          let (i, j, l, m) = tag_one p q (end_tag b) n2 over a2 c d d2 at at2 in absurd (further_no_end e b g n2 a2 s2 (sym j))
      arms_one (an_else {b = b} {c = c} {d = d} p a at s els close) (the_end {d = d2} (q, at2)) = let (i, j, l, m) = tag_one p q (codes "else") (end_tag b) a over c d d2 at at2 in absurd (end_no_else b (sym j))
      arms_one (an_else {b = b} {t = t} {c = c} {d = d} {f = f} {h = h} p a at s els close) (an_else {t = u} {d = d2} {f = f2} {h = h2} q a2 at2 s2 els2 close2) =
          let (i, j, l, m) = tag_one p q (codes "else") (codes "else") a a2 c d d2 at at2 in
          let (ts, fs) = elements_one els (subst (λ z. ElementsAre e source u z f2) (sym m) els2) in
          let (x, y, v, w) = tag_one close.0 close2.0 (end_tag b) (end_tag b) over over f h h2 close.1 (subst (λ z. TagAt source close2.0 (end_tag b) over z h2) (sym fs) close2.1) in
          (ap (λ z. arm always z no_arms) ts, w)
      arms_one (an_else {b = b} {c = c} {d = d} p a at s els close) (further {g = g} {d = d2} q n2 a2 at2 s2 els2 arms2) =
          let (i, j, l, m) = tag_one p q (codes "else") n2 a a2 c d d2 at at2 in absurd (further_no_else e b g n2 a2 s2 (sym j))
      arms_one (further {b = b} {g = g} {c = c} {d = d} p n a at s els arms) (the_end {d = d2} (q, at2)) =
          let (i, j, l, m) = tag_one p q n (end_tag b) a over c d d2 at at2 in absurd (further_no_end e b g n a s j)
      arms_one (further {b = b} {g = g} {c = c} {d = d} p n a at s els arms) (an_else {d = d2} q a2 at2 s2 els2 close2) =
          let (i, j, l, m) = tag_one p q n (codes "else") a a2 c d d2 at at2 in absurd (further_no_else e b g n a s j)
      arms_one (further {b = b} {g = g} {t = t} {more = more} {c = c} {d = d} {f = f} p n a at s els arms) (further {g = g2} {t = u} {more = others} {d = d2} {f = f2} {h = h2} q n2 a2 at2 s2 els2 arms2) =
          let (i, j, l, m) = tag_one p q n n2 a a2 c d d2 at at2 in
          let v = further_one e apart b g g2 n n2 a2 (subst (FurtherIs e b g n) l s) s2 in
          let (ts, fs) = elements_one els (subst (λ z. ElementsAre e source u z f2) (sym m) els2) in
          let (ms, ends) = arms_one arms (subst (λ z. ArmsAre e source b others z h2) (sym fs) arms2) in
          (ap₂ (λ x y. arm x y more) v ts ∙ ap (arm g2 u) ms, ends)

pub one_way : OneWay
one_way e apart source t u c d f h k = elements_one source e apart h k

pub only_tree : OnlyTree
only_tree source end n r c d f l m y t e apart h =
    let (g, els, ends, kept, still) = derived source end n r c d l m y e in
    (elements_one source (env_of m) (still apart) h els).0
