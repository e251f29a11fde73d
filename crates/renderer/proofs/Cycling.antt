-- What `cycle` comes to.
use Rattle.std.proofs.Common.{◌≡◌, ℕ, zero, suc, ◌+◌, ◌%◌, ◌<◌, ◌≤◌, false, ltb, get_or, List, [], ◌∷◌, length, take, drop, Some, None, Ok, Err, Option, refl, ap, sym, ◌∙◌, subst, arith}
use Rattle.std.specs.Prelude.{Result, ◌==◌}
use Rattle.std.specs.Option.{is_some, IfSome}
use Rattle.std.specs.List.{slice_get}
use Rattle.std.specs.Borrow.{Bor}
use Rattle.std.proofs.lemmas.Bool.{ltb-true, ltb-false}
use Rattle.std.proofs.lemmas.Option.{slice_get_past, slice_get_read}
use Rattle.banks.specs.Meaning.{Meaning}
use Rattle.evaluation.specs.Values.{Evaluated}
use Rattle.frames.specs.declared.stack.Frames as code
use Rattle.frames.specs.Views.{around_in}
use Rattle.held.specs.declared.faults.Fault.{Fault}
use Rattle.held.specs.declared.faults.Fault.TheVariants.{NoValues, PastValues}
use Rattle.held.specs.declared.scenes.Scene.{Scene}
use Rattle.held.specs.declared.value.Value.{Value}
use Rattle.held.specs.Records.{held_in}
use Rattle.held.specs.Scenes.{host_in, pool_of}
use Rattle.nodes.specs.declared.exprs.Expr as code_expr
use Rattle.nodes.specs.declared.exprs.Span.{Span}
use Rattle.nodes.specs.declared.table.Leaf.TheVariants.{Cycle}
use Rattle.nodes.specs.Exprs.{◌so◌, each, entries, expr_of, values_of}
use Rattle.nodes.specs.Trees.{leaf_of, numbered}
use Rattle.nodes.proofs.Options.{only_parts, so_parts, some_is, none_some}
use Rattle.pages.specs.Pieces.{Emits, text_in}
use Rattle.tree.specs.Elements as tree
use Rattle.tree.specs.Expressions as tree_expr
use Rattle.meaning.specs.Things.{Drawers, cycle_name, altered, with_position}
use Rattle.meaning.specs.Frames.{Frames}
use Rattle.meaning.specs.Acts.{still, look, alter, ◌and_then◌}
use Rattle.meaning.specs.Looking.{World, eval, text_of}
use Rattle.meaning.specs.Leaves.{onward, write, cycle_value, cycled, leaf_act}
use Rattle.renderer.specs.Acts.{world, Does}
use Rattle.renderer.specs.Leaves.{Few, LeafDone}
use Rattle.renderer.proofs.Doing.{then_does, then_stops, wrote_does, below}

-- the entries of a list, and what they stand for
each_long : {A B : Type 0} (f : A → Option B) (xs : List A) (ys : List B) → each f xs ≡ Some ys → length ys ≡ length xs
each_long f [] ys h = ap length (sym (some_is [] ys h))
each_long {A} {B} f (x ∷ xs) ys h =
    let last : B → List B → Option (List B) = λ y zs. Some (y ∷ zs) in
    let (y, a, q) = so_parts (f x) (λ y. each f xs so last y) ys h in
    let (zs, b, r) = so_parts (each f xs) (last y) ys q in
    ap length (sym (some_is (y ∷ zs) ys r)) ∙ ap suc (each_long f xs zs b)

each_at : {A B : Type 0} (f : A → Option B) (xs : List A) (ys : List B) (i : ℕ) (x : A) → each f xs ≡ Some ys → slice_get xs i ≡ Some x →
    (y : B) × (f x ≡ Some y) × (slice_get ys i ≡ Some y)
each_at f [] ys i x h g = none_some x g
each_at {A} {B} f (z ∷ xs) ys zero x h g =
    let last : B → List B → Option (List B) = λ y zs. Some (y ∷ zs) in
    let (y, a, q) = so_parts (f z) (λ y. each f xs so last y) ys h in
    let (zs, b, r) = so_parts (each f xs) (last y) ys q in
    (y, ap f (sym (some_is z x g)) ∙ a, ap (λ l. slice_get l 0) (sym (some_is (y ∷ zs) ys r)))
each_at {A} {B} f (z ∷ xs) ys (suc i) x h g =
    let last : B → List B → Option (List B) = λ y zs. Some (y ∷ zs) in
    let (y, a, q) = so_parts (f z) (λ y. each f xs so last y) ys h in
    let (zs, b, r) = so_parts (each f xs) (last y) ys q in
    let (u, k, is) = each_at f xs zs i x b g in
    (u, k, ap (λ l. slice_get l (suc i)) (sym (some_is (y ∷ zs) ys r)) ∙ is)

pub is_many : (n : ℕ) → (n == 0) ≡ false → 0 < n
is_many zero h = let z : ◌≡◌ {A = ℕ} 0 1 = cc in absurd (omega arith)
is_many (suc n) h = omega arith

-- what stands at a place, as it is read
pub read_there : {X : Type 0} (xs : List X) (i : ℕ) (o : Option (Bor X)) (x : Bor X) → is_some o ≡ ltb i (length xs) → IfSome o (λ x. x.now ≡ get_or xs i x.now) → o ≡ Some x → slice_get xs i ≡ Some x.now
read_there xs i o x a b h = slice_get_read xs (length xs) i x.now refl (ltb-true i (length xs) (sym a ∙ ap is_some h)) (subst (λ o. IfSome o (λ x. x.now ≡ get_or xs i x.now)) h b)

pub read_past : {X : Type 0} (xs : List X) (i : ℕ) (o : Option (Bor X)) → is_some o ≡ ltb i (length xs) → o ≡ None → slice_get xs i ≡ None
read_past xs i o a h = slice_get_past xs i (ltb-false i (length xs) (sym a ∙ ap is_some h))

-- The values of a `cycle`, and the position of its name, which is advanced.
pub record Turned (s : Scene) (n : ℕ) (span : Span) (d after : Drawers) (values : List code_expr.Expr) (position : ℕ) : Type 0 where
  pub are : values ≡ take span.count (drop span.from s.book.values.now)
  pub many : 0 < length values
  pub was : position ≡ (d (cycle_name n)).position
  pub set : n < 32 → after ≡ altered (cycle_name n) (with_position ((position + 1) % length values)) d

module _ (s : Scene) (fs : code.Frames) (m : Meaning) (filled : ℕ) (old : List ℕ) (n : ℕ) (span : Span) where
  abbrev w : World
  w = world s m (length old)

  abbrev e : Frames
  e = around_in (host_in s) fs

  cycle_parts : (t : tree.Leaf) → leaf_of (pool_of s) (Cycle n span) ≡ Some t → Few s →
      (xs : List tree_expr.Expr) × (each (expr_of (pool_of s)) (take span.count (drop span.from s.book.values.now)) ≡ Some xs) × (n < 32) × (tree.cycle n xs ≡ t)
  unfolding leaf_of values_of
  cycle_parts t given few =
      let b = pool_of s in
      let (xs, a, q) = so_parts (values_of b span) (λ xs. numbered b n b.cycles (tree.cycle n xs)) t given in
      let (ys, g, r) = so_parts (entries b.values span) (λ xs. each (expr_of b) xs) xs a in
      let (low, is) = only_parts _ _ t q in
      (xs, ap (each (expr_of b)) ((only_parts _ _ ys g).1) ∙ r, below n s.book.cycles 32 low few.cycles, is)

  pub cycle_none : (d : Drawers) (values : List code_expr.Expr) → values ≡ take span.count (drop span.from s.book.values.now) → length values ≡ 0 →
      LeafDone s fs m d d filled old old (Err NoValues) (Cycle n span)
  unfolding leaf_act still
  cycle_none d values are none t p given few l =
      let (xs, a, low, q) = cycle_parts t given few in
      let empty : length xs ≡ 0 = each_long (expr_of (pool_of s)) (take span.count (drop span.from s.book.values.now)) xs a ∙ ap length (sym are) ∙ none in
      subst (λ t. Does (leaf_act w t p e) onward p e d d filled old old (Err NoValues)) q (go xs empty p l)
    where
      go : (xs : List tree_expr.Expr) → length xs ≡ 0 → (p : ℕ) → filled ≤ length old → Does (cycled w n xs p e) onward p e d d filled old old (Err NoValues)
      go [] h p l = record { long = refl; within = l; did = refl }
      go (x ∷ xs) h p l = absurd (omega (arith, h))

  module _ (d after : Drawers) (values : List code_expr.Expr) (position : ℕ) (h : Turned s n span d after values position) where
    turned_does : (xs : List tree_expr.Expr) (p : ℕ) (new : List ℕ) (r : Result ℕ Fault) → length xs ≡ length values → n < 32 →
        Does (cycle_value w (slice_get xs position) p e) onward p e after after filled old new r → Does (cycled w n xs p e) onward p e d after filled old new r
    unfolding look alter ◌and_then◌
    turned_does [] p new r long low k = absurd (omega (arith, long, h.many))
    turned_does (x ∷ xs) p new r long low k =
        let o = take filled old in
        let c = d (cycle_name n) in
        let moved : altered (cycle_name n) (with_position ((c.position + 1) % length (x ∷ xs))) d ≡ after =
        ap (λ q. altered (cycle_name n) (with_position ((q + 1) % length (x ∷ xs))) d) (sym h.was)
        ∙ ap (λ q. altered (cycle_name n) (with_position ((position + 1) % q)) d) long ∙ sym (h.set low) in
        record {
          long = k.long;
          within = k.within;
          did =
              ap (λ q. cycle_value w (slice_get (x ∷ xs) c.position) p e q o) moved
              ∙ ap (λ q. cycle_value w (slice_get (x ∷ xs) q) p e after o) (sym h.was) ∙ k.did;
        }

    -- the value at the position decides
    decides : (xs : List tree_expr.Expr) → each (expr_of (pool_of s)) (take span.count (drop span.from s.book.values.now)) ≡ Some xs → each (expr_of (pool_of s)) values ≡ Some xs
    decides xs a = ap (each (expr_of (pool_of s))) h.are ∙ a

    pub cycle_past : slice_get values position ≡ None → LeafDone s fs m d after filled old old (Err PastValues) (Cycle n span)
    unfolding leaf_act still
    cycle_past none t p given few l =
        let (xs, a, low, q) = cycle_parts t given few in
        let long = each_long (expr_of (pool_of s)) values xs (decides xs a) in
        let past : slice_get xs position ≡ None = slice_get_past xs position (omega (arith, long, past_end values position none)) in
        subst (λ t. Does (leaf_act w t p e) onward p e d after filled old old (Err PastValues)) q
        (turned_does xs p old (Err PastValues) long low
        (record { long = refl; within = l; did = ap (λ v. cycle_value w v p e after (take filled old)) past }))
      where
        past_end : (ys : List code_expr.Expr) (i : ℕ) → slice_get ys i ≡ None → length ys ≤ i
        past_end [] i g = omega arith
        past_end (y ∷ ys) zero g = none_some y (sym g)
        past_end (y ∷ ys) (suc i) g = omega (arith, past_end ys i g)

    pub cycle_stops : (x : code_expr.Expr) (k : Fault) → slice_get values position ≡ Some x → Evaluated s fs after x (Err k) → LeafDone s fs m d after filled old old (Err k) (Cycle n span)
    unfolding leaf_act
    cycle_stops x k at eval_so t p given few l =
        let (xs, a, low, q) = cycle_parts t given few in
        let long = each_long (expr_of (pool_of s)) values xs (decides xs a) in
        let (y, g, is) = each_at (expr_of (pool_of s)) values xs position x (decides xs a) at in
        subst (λ t. Does (leaf_act w t p e) onward p e d after filled old old (Err k)) q
        (turned_does xs p old (Err k) long low
        (subst (λ v. Does (cycle_value w v p e) onward p e after after filled old old (Err k)) (sym is)
        (then_stops (eval w y p e) (λ v. write w (text_of w v) p e) held_in k onward p e after after filled old
        (eval_so w y p (take filled old) (record { names = refl; host = refl }) g) l)))

    pub cycle_done : (x : code_expr.Expr) (v : Value (Bor (List ℕ))) (new : List ℕ) (r : Result ℕ Fault) → slice_get values position ≡ Some x → Evaluated s fs after x (Ok v) →
        Emits (text_in s.tray.now (held_in v)) filled old new r → LeafDone s fs m d after filled old new r (Cycle n span)
    unfolding leaf_act
    cycle_done x v new r at eval_so emits t p given few l =
        let (xs, a, low, q) = cycle_parts t given few in
        let long = each_long (expr_of (pool_of s)) values xs (decides xs a) in
        let (y, g, is) = each_at (expr_of (pool_of s)) values xs position x (decides xs a) at in
        subst (λ t. Does (leaf_act w t p e) onward p e d after filled old new r) q
        (turned_does xs p new r long low
        (subst (λ v. Does (cycle_value w v p e) onward p e after after filled old new r) (sym is)
        (then_does (eval w y p e) (λ v. write w (text_of w v) p e) (held_in v) onward p e after after after filled old new r
        (eval_so w y p (take filled old) (record { names = refl; host = refl }) g)
        (wrote_does w (text_of w (held_in v)) p e after filled old new r refl emits l))))
