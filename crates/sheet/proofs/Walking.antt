-- The elements read so far, and those that are left.
use Rattle.std.proofs.Common.{◌≡◌, ℕ, zero, suc, ◌+◌, ◌<◌, ◌≤◌, List, length, Some, None, Ok, Err, vec_items, Option, Result, refl, sym, ap, ap₂, ◌∙◌, subst, arith}
use Rattle.cutter.specs.Cuts.{Cut, done as no_pieces, unclosed, text, mark}
use Rattle.cutter.specs.declared.places.Placed.{Placed}
use Rattle.cutter.specs.declared.pieces.Piece.{Piece}
use Rattle.cutter.specs.declared.pieces.Piece.TheVariants.{Text, Mark}
use Rattle.tree.specs.Elements.{Tree, done, leaf, block}
use Rattle.nodes.specs.Wider.{Wider, Front}
use Rattle.nodes.specs.Built.{Body, Leads}
use Rattle.nodes.proofs.Options.{front_refl}
use Rattle.nodes.proofs.Widens.{wider_refl}
use Rattle.nodes.proofs.Builds.{agree_front, body_done, leads_none, leads_wider}
use Rattle.arguments.specs.declared.refusals.Stop.{Stop}
use Rattle.arguments.specs.declared.refusals.Stop.TheVariants.{Refused, Memory}
use Rattle.arguments.specs.Refusals.{number_of}
use Rattle.arguments.specs.Tables.{pool_of, lists_of}
use Rattle.sheet.specs.declared.parser.Parser.{Parser}
use Rattle.sheet.specs.Steps.{Outcome, fails, gives, Step, give, followed, pieces}
use Rattle.sheet.specs.Parsing.{Elements, elements_are, Found, a_leaf, a_block, other, elements, within, inner, behind}
use Rattle.sheet.specs.Answers.{source_of, nodes_of, count, cut_of, taken, Fails, Did, Went, Takes, Bodies, ElementsRead, InnerRead, tag_in, Finds, found, ElementRead}
use Rattle.sheet.proofs.Chaining.{went_refl, went_then, front_length, fails_followed, did_followed, leads_then}

abbrev pub prefixed : (Tree → Tree) → Outcome Elements → Outcome Elements
prefixed f v = followed v (λ y. give (elements_are (f y.tree) y.ending))

-- what is left at q, of what was to be read at p by n
pub record Left (room n : ℕ) (p q : Parser) : Type 0 where
  pub fuel : ℕ
  pub put : Tree → Tree
  pub enough : pieces (cut_of q) < fuel
  pub leads : Leads (pool_of q.reader) (nodes_of q) room (count p) (count q) put
  pub is : taken (elements (source_of p) p.end n room) p ≡ prefixed put (taken (elements (source_of p) p.end fuel room) q)

pub record Walking (room : ℕ) (p q : Parser) : Type 0 where
  pub went : Went p q
  pub left : (n : ℕ) → pieces (cut_of p) < n → Left room n p q

prefixed_none : (v : Outcome Elements) → v ≡ prefixed (λ t. t) v
prefixed_none (fails n p) = refl
prefixed_none (gives y c l) = refl

prefixed_twice : (f g : Tree → Tree) (v : Outcome Elements) → prefixed f (prefixed g v) ≡ prefixed (λ t. f (g t)) v
prefixed_twice f g (fails n p) = refl
prefixed_twice f g (gives y c l) = refl

pub walking_none : (room : ℕ) (p : Parser) → Walking room p p
walking_none room p =
    record {
      went = went_refl p;
      left = λ n h. record { fuel = n; put = λ t. t; enough = h; leads = leads_none (pool_of p.reader) (nodes_of p) room (count p); is = prefixed_none _ };
    }

-- the same elements, where the pieces are those
elements_at : (source : List ℕ) (end room m : ℕ) (c d : Cut) (q : Parser) → c ≡ d → elements source end m room c (lists_of q.reader) ≡ elements source end m room d (lists_of q.reader)
elements_at source end room m c d q e = ap (λ x. elements source end m room x (lists_of q.reader)) e

-- a piece that was taken at q, and what was found by it
next_is : (room m : ℕ) (source : List ℕ) (end : ℕ) (piece : Piece) (q s : Parser) → Takes q (Ok (Some piece)) s → s.reader ≡ q.reader →
    taken (elements source end (suc m) room) q ≡ followed (taken (found source end m room piece) s) (behind (elements source end m room))
next_is room m source end (Text t) q s h r =
    elements_at source end room (suc m) (cut_of q) (text t.place t.bytes.now (cut_of s)) q h.0
    ∙ ap (λ x. elements source end (suc m) room (text t.place t.bytes.now (cut_of s)) (lists_of x)) (sym r)
next_is room m source end (Mark k p) q s h r =
    elements_at source end room (suc m) (cut_of q) (mark k p.place p.bytes.now (cut_of s)) q h
    ∙ ap (λ x. elements source end (suc m) room (mark k p.place p.bytes.now (cut_of s)) (lists_of x)) (sym r)

pub fewer : (piece : Piece) (q s : Parser) → Takes q (Ok (Some piece)) s → pieces (cut_of q) ≡ suc (pieces (cut_of s))
fewer (Text t) q s h = ap pieces h.0
fewer (Mark k p) q s h = ap pieces h

-- what is taken changes no table
no_more : (q s : Parser) → pieces (cut_of s) ≤ pieces (cut_of q) → s.reader ≡ q.reader → s.end ≡ q.end → Went q s
no_more q s l r e =
    record {
      pool = subst (λ x. Wider (pool_of q.reader) (pool_of x)) (sym r) (wider_refl _);
      names = subst (λ x. Front (vec_items q.reader.names) (vec_items x.names)) (sym r) (front_refl _);
      cycles = subst (λ x. Front (vec_items q.reader.cycles) (vec_items x.cycles)) (sym r) (front_refl _);
      nodes = subst (λ x. Front (vec_items q.reader.nodes) (vec_items x.nodes)) (sym r) (front_refl _);
      end = e;
      pieces = l;
    }

taken_went : (piece : Piece) (q s : Parser) → Takes q (Ok (Some piece)) s → s.reader ≡ q.reader → s.end ≡ q.end → Went q s
taken_went piece q s h r e = no_more q s (omega (arith, fewer piece q s h)) r e

pub same_went : (q s : Parser) (r : Result (Option Piece) Stop) → Takes q r s → s.reader ≡ q.reader → s.end ≡ q.end → Went q s
same_went q s (Ok (Some piece)) h r e = taken_went piece q s h r e
same_went q s (Ok None) h r e = no_more q s (omega (arith, ap pieces h.0, ap pieces h.1)) r e
same_went q s (Err (Refused k place)) h r e = no_more q s (omega (arith, ap pieces h.2)) r e
same_went q s (Err Memory) h r e = absurd h

module _ (room : ℕ) (piece : Piece) (p q s t : Parser) (w : Walking room p q) (h : Takes q (Ok (Some piece)) s) (r : s.reader ≡ q.reader) (e : s.end ≡ q.end) where
  source_is : source_of s ≡ source_of p
  source_is = ap (λ x. x.source.now) r ∙ w.went.pool.source

  end_is : s.end ≡ p.end
  end_is = e ∙ w.went.end

  went_taken : Went p s
  went_taken = went_then p q s w.went (taken_went piece q s h r e)

  -- what the definition says of the element, in the words of the beginning
  element_is : (m : ℕ) → taken (found (source_of s) s.end m room piece) s ≡ taken (found (source_of p) p.end m room piece) s
  element_is m = ap₂ (λ x y. taken (found x y m room piece) s) source_is end_is

  behind_is : (m : ℕ) (y : Found) → taken (found (source_of s) s.end m room piece) s ≡ gives y (cut_of t) (lists_of t.reader) →
      taken (elements (source_of p) p.end (suc m) room) q ≡ behind (elements (source_of p) p.end m room) y (cut_of t) (lists_of t.reader)
  behind_is m y g = next_is room m (source_of p) p.end piece q s h r ∙ ap (λ v. followed v (behind (elements (source_of p) p.end m room))) (sym (element_is m) ∙ g)

  grown : Went s t → (f : Tree → Tree) → Leads (pool_of q.reader) (nodes_of q) room (count p) (count q) f → Leads (pool_of t.reader) (nodes_of t) room (count p) (count q) f
  grown k f l =
      let g = went_then q s t (taken_went piece q s h r e) k in
      leads_wider (pool_of q.reader) (nodes_of q) (pool_of t.reader) (nodes_of t) room (count p) (count q) f g.pool (agree_front (nodes_of q) (nodes_of t) (count p) (count q) (omega arith) g.nodes) l

  same_count : count s ≡ count q
  same_count = ap (λ x. length (vec_items x.nodes)) r

  joined : Went s t → (f g : Tree → Tree) → Leads (pool_of q.reader) (nodes_of q) room (count p) (count q) f → Leads (pool_of t.reader) (nodes_of t) room (count s) (count t) g →
      Leads (pool_of t.reader) (nodes_of t) room (count p) (count t) (λ x. f (g x))
  joined k f g l m =
      leads_then (pool_of t.reader) (nodes_of t) room (count p) (count q) (count t) f g (front_length _ _ w.went.nodes) (omega (arith, front_length _ _ k.nodes, same_count)) (grown k f l)
      (subst (λ i. Leads (pool_of t.reader) (nodes_of t) room i (count t) g) same_count m)

  -- one element more
  further : Went s t → (n : ℕ) (l : Left room n p q) (m : ℕ) → l.fuel ≡ suc m → (y : Found) → Finds room s t None y → taken (found (source_of s) s.end m room piece) s ≡ gives y (cut_of t) (lists_of t.reader) → Left room n p t
  further k n l m fuel (a_leaf at x) d g =
      record {
        fuel = m;
        put = λ u. l.put (leaf at x u);
        enough = omega (arith, l.enough, fuel, fewer piece q s h, k.pieces);
        leads = joined k l.put (λ u. leaf at x u) l.leads d;
        is = l.is ∙ ap (λ i. prefixed l.put (taken (elements (source_of p) p.end i room) q)) fuel ∙ ap (prefixed l.put) (behind_is m (a_leaf at x) g) ∙ prefixed_twice l.put (λ u. leaf at x u) (taken (elements (source_of p) p.end m room) t);
      }
  further k n l m fuel (a_block at x a) d g =
      record {
        fuel = m;
        put = λ u. l.put (block at x a u);
        enough = omega (arith, l.enough, fuel, fewer piece q s h, k.pieces);
        leads = joined k l.put (λ u. block at x a u) l.leads d;
        is = l.is ∙ ap (λ i. prefixed l.put (taken (elements (source_of p) p.end i room) q)) fuel ∙ ap (prefixed l.put) (behind_is m (a_block at x a) g) ∙ prefixed_twice l.put (λ u. block at x a u) (taken (elements (source_of p) p.end m room) t);
      }
  further k n l m fuel (other u) d g = absurd d

  -- there is fuel for one more
  fuelled : (n : ℕ) (l : Left room n p q) → (m : ℕ) × (l.fuel ≡ suc m) × (pieces (cut_of s) < m)
  fuelled n l = go l.fuel refl
    where
      go : (k : ℕ) → l.fuel ≡ k → (m : ℕ) × (l.fuel ≡ suc m) × (pieces (cut_of s) < m)
      go zero z = absurd (omega (arith, l.enough, z))
      go (suc m) z = (m, z, omega (arith, l.enough, z, fewer piece q s h))

  pub walking_more : Went s t → ElementRead room piece s (Ok None) t → Walking room p t
  walking_more k d =
      record {
        went = went_then p s t went_taken k;
        left = λ n b.
            let l = w.left n b in
            let (m, fuel, enough) = fuelled n l in
            let (y, is, g) = d m enough in
            further k n l m fuel y is g;
      }

  -- a tag that begins none
  pub walking_met : Went s t → (v : Placed) → ElementRead room piece s (Ok (Some v)) t → ElementsRead room p (Ok (Some v)) t
  walking_met k v d n b =
      let l = w.left n b in
      let (m, fuel, enough) = fuelled n l in
      let (y, is, g) = d m enough in
      met l m fuel y is g
    where
      met : (l : Left room n p q) (m : ℕ) → l.fuel ≡ suc m → (y : Found) → Finds room s t (Some v) y → taken (found (source_of s) s.end m room piece) s ≡ gives y (cut_of t) (lists_of t.reader) →
          Did (Ok (Some v)) (taken (elements (source_of p) p.end n room) p) (Bodies room p t) t
      met l m fuel (a_leaf at x) d g = absurd d
      met l m fuel (a_block at x a) d g = absurd d
      met l m fuel (other u) d g =
          let long : count t ≡ count q = ap length d.1 ∙ same_count in (
            elements_are (l.put done) (Some u),
            (subst (λ j. Body (pool_of t.reader) (nodes_of t) room (count p) j (l.put done)) (sym long) (body_done (pool_of t.reader) (nodes_of t) room (count p) (count q) l.put (front_length _ _ w.went.nodes) (grown k l.put l.leads)), ap Some d.0),
            l.is ∙ ap (λ i. prefixed l.put (taken (elements (source_of p) p.end i room) q)) fuel ∙ ap (prefixed l.put) (behind_is m (other u) g),
          )

  -- an element is refused
  pub walking_refused : (x : Stop) → ElementRead room piece s (Err x) t → ElementsRead room p (Err x) t
  walking_refused x d n b =
      let l = w.left n b in
      let (m, fuel, enough) = fuelled n l in
      let v = taken (found (source_of s) s.end m room piece) s in
      let is : taken (elements (source_of p) p.end n room) p ≡ prefixed l.put (followed v (behind (elements (source_of p) p.end m room))) =
      l.is ∙ ap (λ i. prefixed l.put (taken (elements (source_of p) p.end i room) q)) fuel
      ∙ ap (prefixed l.put) (next_is room m (source_of p) p.end piece q s h r ∙ ap (λ o. followed o (behind (elements (source_of p) p.end m room))) (sym (element_is m))) in
      subst (Fails x) (sym is) (fails_followed x _ (λ y. give (elements_are (l.put y.tree) y.ending)) (fails_followed x v (behind (elements (source_of p) p.end m room)) (d m enough)))

module _ (room : ℕ) (p q s : Parser) (w : Walking room p q) where
  none_left : (source : List ℕ) (end m : ℕ) → cut_of q ≡ no_pieces → 0 < m → taken (elements source end m room) q ≡ gives (elements_are done None) no_pieces (lists_of q.reader)
  none_left source end zero c b = absurd (omega (arith, b))
  none_left source end (suc m) c b = elements_at source end room (suc m) (cut_of q) no_pieces q c

  -- the end of the part
  pub walking_over : Takes q (Ok None) s → s.reader ≡ q.reader → ElementsRead room p (Ok None) s
  walking_over h r n b =
      let l = w.left n b in
      let long : count s ≡ count q = ap (λ x. length (vec_items x.nodes)) r in
      let body = body_done (pool_of q.reader) (nodes_of q) room (count p) (count q) l.put (front_length _ _ w.went.nodes) l.leads in (
        elements_are (l.put done) None,
        (subst (λ x. Body (pool_of x) (vec_items x.nodes) room (count p) (length (vec_items x.nodes)) (l.put done)) (sym r) body, refl),
        l.is ∙ ap (prefixed l.put) (none_left (source_of p) p.end l.fuel h.0 (omega (arith, l.enough)))
            ∙ ap (λ c. gives (elements_are (l.put done) None) c (lists_of q.reader)) (sym h.1) ∙ ap (λ x. gives (elements_are (l.put done) None) (cut_of s) (lists_of x)) (sym r),
      )

  not_closed : (source : List ℕ) (end m place : ℕ) → cut_of q ≡ unclosed place → 0 < m → taken (elements source end m room) q ≡ fails 3 place
  not_closed source end zero place c b = absurd (omega (arith, b))
  not_closed source end (suc m) place c b = elements_at source end room (suc m) (cut_of q) (unclosed place) q c

  pub walking_unclosed : (x : Stop) → Takes q (Err x) s → ElementsRead room p (Err x) s
  walking_unclosed (Refused k place) h n b =
      let l = w.left n b in
      l.is ∙ ap (prefixed l.put) (not_closed (source_of p) p.end l.fuel place h.0 (omega (arith, l.enough))) ∙ ap (λ x. fails (number_of x) place) (sym h.1)
  walking_unclosed Memory h n b = tt

-- elements of a block
pub inner_some : (room : ℕ) (p q : Parser) (w : Placed) → ElementsRead room p (Ok (Some w)) q → InnerRead room p (Ok w) q
unfolding inner
inner_some room p q w r n h =
    let (y, d, g) = r n h in
    (record { tree = y.tree; ending = tag_in q w }, (d.0, refl), ap (λ v. followed v (λ x. within p.end (elements (source_of p) p.end n room) x.tree x.ending)) g ∙ ap (λ e. within p.end (elements (source_of p) p.end n room) y.tree e (cut_of q) (lists_of q.reader)) d.1)

pub inner_none : (room : ℕ) (p q : Parser) → q.end ≡ p.end → ElementsRead room p (Ok None) q → (n : ℕ) → pieces (cut_of p) < n → taken (inner p.end (elements (source_of p) p.end n room)) p ≡ fails 7 q.end
unfolding inner
inner_none room p q e r n h =
    let (y, d, g) = r n h in
    ap (λ v. followed v (λ x. within p.end (elements (source_of p) p.end n room) x.tree x.ending)) g ∙ ap (λ e. within p.end (elements (source_of p) p.end n room) y.tree e (cut_of q) (lists_of q.reader)) d.1 ∙ ap (λ x. fails 7 x) (sym e)
