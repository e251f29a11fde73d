-- The arguments of loops.
use Rattle.std.proofs.Common.{◌≡◌, ℕ, zero, suc, ◌≤◌, false, ltb, Some, None, refl, sym, ap, ◌∙◌, subst, arith}
use Rattle.cutter.specs.Ahead.{ahead}
use Rattle.cutter.specs.Words.{Words, over, wrong, word}
use Rattle.cutter.specs.declared.lengths.Symbol.TheVariants.{Colon}
use Rattle.tree.specs.Expressions.{Expr}
use Rattle.tree.specs.Elements.{for_block, tablerow_block}
use Rattle.nodes.specs.declared.table.Block.TheVariants as block
use Rattle.nodes.specs.Exprs.{Pool, ◌so◌, only, if_any, expr_of}
use Rattle.nodes.specs.Trees.{block_of}
use Rattle.nodes.specs.Wider.{Wider}
use Rattle.nodes.proofs.Options.{keeps_if_any}
use Rattle.nodes.proofs.Widens.{keeps_expr}
use Rattle.arguments.specs.declared.reader.Reader.{Reader}
use Rattle.arguments.specs.declared.refusals.Stop.{Stop}
use Rattle.arguments.specs.declared.refusals.Stop.TheVariants.{Refused, Memory}
use Rattle.arguments.specs.Refusals.{number_of}
use Rattle.arguments.specs.Judging.{Lists, State, state, refuses, passes, went, ◌next◌, pure, Seen, token_if, taken_if, expect, finished, none_left}
use Rattle.arguments.specs.Values.{read, bare, is_the_symbol, value}
use Rattle.arguments.specs.Tables.{pool_of, under, Refuses, Grown}
use Rattle.arguments.proofs.Chaining.{grown_refl, grown_then, refuses_went}
use Rattle.arguments.proofs.Follows.{along_pure, along_next, along_expect, along_value}
use Rattle.tags.specs.declared.stdlib.blocks.for_block.Loop.{Loop}
use Rattle.tags.specs.declared.stdlib.blocks.for_block.Attribute.{Attribute}
use Rattle.tags.specs.declared.stdlib.blocks.for_block.Attribute.TheVariants as attribute
use Rattle.tags.specs.declared.stdlib.blocks.for_block.Attributes.{Attributes as CodeAttributes}
use Rattle.tags.specs.declared.stdlib.blocks.for_block.Header.{Header as CodeHeader}
use Rattle.tags.specs.Loops.{Attributes, no_attributes, attribute_of, setting, with_attribute, right_attribute, attribute_at, attributes_of, count, attributes, Header, for_of, tablerow_of}
use Rattle.tags.specs.Reading.{Settings, Headers}
use Rattle.tags.proofs.Leaves.{numbered_there}

pub settings_wider : (b c : Pool) → Wider b c → (x : CodeAttributes) (y : Attributes) → Settings b x y → Settings c x y
settings_wider b c w x y h =
    let keeps = keeps_if_any (expr_of b) (expr_of c) (keeps_expr b c w) in
    record { cols = keeps x.cols y.cols h.cols; limit = keeps x.limit y.limit h.limit; offset = keeps x.offset y.offset h.offset; reversed = h.reversed }

module _ (b : Pool) (x : CodeHeader) (y : Header) (h : Headers b x y) where
  pub for_stands : block_of b (block.For x.variable x.row x.attributes.limit x.attributes.offset x.attributes.reversed) ≡ Some (for_of y)
  unfolding block_of
  for_stands =
      let v = x.variable in
      let z = x.attributes in
      ap (λ o. o so λ r. if_any (expr_of b) z.limit so λ l. if_any (expr_of b) z.offset so λ f. only (ltb v b.names) (for_block v r l f z.reversed)) h.row
      ∙ ap (λ o. o so λ l. if_any (expr_of b) z.offset so λ f. only (ltb v b.names) (for_block v y.row l f z.reversed)) h.attributes.limit
      ∙ ap (λ o. o so λ f. only (ltb v b.names) (for_block v y.row y.attributes.limit f z.reversed)) h.attributes.offset
      ∙ numbered_there v b.names _ h.there
      ∙ ap (λ n. Some (for_block n y.row y.attributes.limit y.attributes.offset z.reversed)) (sym h.variable)
      ∙ ap (λ t. Some (for_block y.variable y.row y.attributes.limit y.attributes.offset t)) (sym h.attributes.reversed)

  pub tablerow_stands : block_of b (block.Tablerow x.variable x.row x.attributes.cols x.attributes.limit x.attributes.offset) ≡ Some (tablerow_of y)
  unfolding block_of
  tablerow_stands =
      let v = x.variable in
      let z = x.attributes in
      ap (λ o. o so λ r. if_any (expr_of b) z.cols so λ c. if_any (expr_of b) z.limit so λ l. if_any (expr_of b) z.offset so λ f. only (ltb v b.names) (tablerow_block v r c l f)) h.row
      ∙ ap (λ o. o so λ c. if_any (expr_of b) z.limit so λ l. if_any (expr_of b) z.offset so λ f. only (ltb v b.names) (tablerow_block v y.row c l f)) h.attributes.cols
      ∙ ap (λ o. o so λ l. if_any (expr_of b) z.offset so λ f. only (ltb v b.names) (tablerow_block v y.row y.attributes.cols l f)) h.attributes.limit
      ∙ ap (λ o. o so λ f. only (ltb v b.names) (tablerow_block v y.row y.attributes.cols y.attributes.limit f)) h.attributes.offset
      ∙ numbered_there v b.names _ h.there
      ∙ ap (λ n. Some (tablerow_block n y.row y.attributes.cols y.attributes.limit y.attributes.offset)) (sym h.variable)

-- no more tokens are ahead than before
abbrev Fewer : State → State → Type 0
Fewer s t = count t.ahead ≤ count s.ahead

fewer_then : (s t u : State) → Fewer s t → Fewer t u → Fewer s u
fewer_then s t u h k = omega (arith, h, k)

setting_fewer : (m : ℕ) (s : State) (y : Expr) (t : State) → setting m s ≡ passes y t → Fewer s t
unfolding setting
setting_fewer m =
    along_next Fewer (λ u. omega arith) fewer_then (λ p b rest l. omega arith) (expect (is_the_symbol Colon) m) (λ u. value m)
    (along_expect Fewer (λ u. omega arith) fewer_then (λ p b rest l. omega arith) (is_the_symbol Colon) m)
    (λ u. along_value Fewer (λ v. omega arith) fewer_then (λ p b rest l. omega arith) (λ n v. omega arith) m)

setting_then_fewer : (m : ℕ) (f : Expr → Attributes) (s : State) (z : Attributes) (u : State) → (setting m next λ x. pure (f x)) s ≡ passes z u → Fewer s u
setting_then_fewer m f = along_next Fewer (λ u. omega arith) fewer_then (λ p b rest l. omega arith) (setting m) _ (setting_fewer m) (λ x. along_pure Fewer (λ u. omega arith) fewer_then (λ p b rest l. omega arith) (f x))

pub attribute_fewer : (m : ℕ) (y : Attributes) (t : Attribute) (s : State) (z : Attributes) (u : State) → with_attribute m y t s ≡ passes z u → Fewer s u
attribute_fewer m y attribute.Cols = setting_then_fewer m _
attribute_fewer m y attribute.Limit = setting_then_fewer m _
attribute_fewer m y attribute.Offset = setting_then_fewer m _
attribute_fewer m y attribute.Reversed = along_pure Fewer (λ u. omega arith) fewer_then (λ p b rest l. omega arith) _

-- by what stands ahead of attributes
none_over : (a : Words) (l : Lists) (t : State) → taken_if Some a l ≡ passes None t → none_left a l ≡ passes tt t
none_over over l t e = let h : state over l ≡ t = cc in ap (passes tt) h
none_over (wrong p) l t e = cc
none_over (word p b rest) l t e = cc

none_wrong : (k p : ℕ) (a : Words) (l : Lists) → taken_if Some a l ≡ refuses k p → none_left a l ≡ refuses k p
none_wrong k p over l e = cc
none_wrong k p (wrong q) l e = cc
none_wrong k p (word q b rest) l e = cc

one_fewer : (a : Words) (l : Lists) (w : Seen) (t : State) → taken_if Some a l ≡ passes (Some w) t → count a ≡ suc (count t.ahead)
one_fewer over l w t e = cc
one_fewer (wrong p) l w t e = cc
one_fewer (word p b rest) l w t e = let h : state rest l ≡ t = cc in ap (λ u. suc (count u.ahead)) h

module _ (l : Loop) (m : ℕ) (y : Attributes) (s : State) where
  pub attributes_end : (room : ℕ) (t : State) → token_if Some s ≡ passes None t → attributes_of room l m y s ≡ passes y t
  unfolding token_if finished
  attributes_end zero t e = ap (λ v. went v (λ u. pure y)) (none_over s.ahead s.lists t e)
  attributes_end (suc n) t e = ap (λ v. went v (λ w. attribute_at l m y (attributes_of n l m) w)) e

  pub attributes_wrong : (room : ℕ) (x : Stop) → Refuses x (token_if Some s) → Refuses x (attributes_of room l m y s)
  unfolding token_if finished
  attributes_wrong room Memory h = tt
  attributes_wrong zero (Refused k p) h = ap (λ v. went v (λ u. pure y)) (none_wrong (number_of k) p s.ahead s.lists h)
  attributes_wrong (suc n) (Refused k p) h = ap (λ v. went v (λ w. attribute_at l m y (attributes_of n l m) w)) h

  pub attributes_more : (room : ℕ) (w : Seen) (t : State) → token_if Some s ≡ passes (Some w) t → count s.ahead ≤ room →
      (k : ℕ) × (count t.ahead ≤ k) × (attributes_of room l m y s ≡ went (right_attribute m w.place y (attribute_of l (bare (read w))) t) (attributes_of k l m))
  unfolding token_if
  attributes_more zero w t e h = absurd (omega (arith, one_fewer s.ahead s.lists w t e))
  attributes_more (suc k) w t e h = (k, omega (arith, one_fewer s.ahead s.lists w t e), ap (λ v. went v (λ o. attribute_at l m y (attributes_of k l m) o)) e)

pub token_fewer : (s t : State) (w : Seen) → token_if Some s ≡ passes (Some w) t → count s.ahead ≡ suc (count t.ahead)
unfolding token_if
token_fewer s t w e = one_fewer s.ahead s.lists w t e

-- the attributes x so far: m is the reader now
pub record Attributing (l : Loop) (d m : Reader) (x : CodeAttributes) : Type 0 where
  pub found : Attributes
  pub is : Settings (pool_of m) x found
  pub room : ℕ
  pub enough : count (ahead m.cursor) ≤ room
  pub grown : Grown d m
  pub says : attributes l d.mark (under d) ≡ attributes_of room l d.mark found (under m)

pub attributing_none : (l : Loop) (d : Reader) → Attributing l d d (record { cols = None; limit = None; offset = None; reversed = false })
unfolding attributes
attributing_none l d =
    record { found = no_attributes; is = record { cols = refl; limit = refl; offset = refl; reversed = refl }; room = count (ahead d.cursor); enough = omega arith; grown = grown_refl d; says = refl }

module _ (l : Loop) (d m n : Reader) (x : CodeAttributes) (f : Attributing l d m x) (grown : Grown m n) where
  pub attributing_end : token_if Some (under m) ≡ passes None (under n) → (y : Attributes) × Settings (pool_of n) x y × (attributes l d.mark (under d) ≡ passes y (under n))
  attributing_end e = (f.found, settings_wider (pool_of m) (pool_of n) grown.pool x f.found f.is, f.says ∙ attributes_end l d.mark f.found (under m) f.room (under n) e)

  pub attributing_wrong : (s : Stop) → Refuses s (token_if Some (under m)) → Refuses s (attributes l d.mark (under d))
  attributing_wrong s h = subst (Refuses s) (sym f.says) (attributes_wrong l d.mark f.found (under m) f.room s h)

  -- the token w is taken
  module _ (w : Seen) (taken : token_if Some (under m) ≡ passes (Some w) (under n)) where
    -- and names no attribute
    pub attributing_none_named : attribute_of l (bare (read w)) ≡ None → attributes l d.mark (under d) ≡ refuses 6 w.place
    attributing_none_named e =
        let (k, enough, says) = attributes_more l d.mark f.found (under m) f.room w (under n) taken f.enough in
        f.says ∙ says ∙ ap (λ o. went (right_attribute d.mark w.place f.found o (under n)) (attributes_of k l d.mark)) e

    -- and names the attribute t
    module _ (t : Attribute) (named : attribute_of l (bare (read w)) ≡ Some t) where
      named_says : (k : ℕ) × (count (ahead n.cursor) ≤ k) × (attributes l d.mark (under d) ≡ went (with_attribute n.mark f.found t (under n)) (attributes_of k l d.mark))
      named_says =
          let (k, enough, says) = attributes_more l d.mark f.found (under m) f.room w (under n) taken f.enough in (
            k,
            enough,
            f.says ∙ says ∙ ap (λ o. went (right_attribute d.mark w.place f.found o (under n)) (attributes_of k l d.mark)) named
                ∙ ap (λ i. went (with_attribute i f.found t (under n)) (attributes_of k l d.mark)) (sym (grown.mark ∙ f.grown.mark)),
          )

      pub attributing_stop : (s : Stop) → Refuses s (with_attribute n.mark f.found t (under n)) → Refuses s (attributes l d.mark (under d))
      attributing_stop s h =
          let (k, enough, says) = named_says in
          subst (Refuses s) (sym says) (refuses_went s (with_attribute n.mark f.found t (under n)) (attributes_of k l d.mark) h)

      pub attributing_more : (e : Reader) (z : CodeAttributes) (y : Attributes) → Grown n e → Settings (pool_of e) z y → with_attribute n.mark f.found t (under n) ≡ passes y (under e) → Attributing l d e z
      attributing_more e z y g is with =
          let (k, enough, says) = named_says in
          record {
            found = y;
            is = is;
            room = k;
            enough = omega (arith, enough, attribute_fewer n.mark f.found t (under n) y (under e) with);
            grown = grown_then d m e f.grown (grown_then m n e grown g);
            says = says ∙ ap (λ v. went v (attributes_of k l d.mark)) with;
          }
