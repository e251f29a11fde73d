-- The values of a `when`, one by one.
use Rattle.std.proofs.Common.{◌≡◌, ℕ, Bool, true, false, cond, List, [], ◌∷◌, length, take, drop, Some, Ok, Err, refl, ap, ◌∙◌, sym, arith}
use Rattle.nodes.specs.declared.exprs.Expr.{Expr}
use Rattle.nodes.specs.declared.exprs.Span.{Span}
use Rattle.nodes.specs.Exprs.{each, entries, expr_of, values_of}
use Rattle.nodes.proofs.Options.{some_is, so_parts, only_parts}
use Rattle.std.specs.Borrow.{Bor}
use Rattle.held.specs.declared.faults.Fault.{Fault}
use Rattle.held.specs.declared.scenes.Scene.{Scene}
use Rattle.held.specs.declared.value.Value.{Value}
use Rattle.held.specs.Records.{held_in}
use Rattle.held.specs.Scenes.{host_in, pool_of, Fits}
use Rattle.frames.specs.declared.stack.Frames as code
use Rattle.frames.specs.Views.{around_in}
use Rattle.evaluation.specs.Values.{Evaluated}
use Rattle.tree.specs.Expressions as tree
use Rattle.meaning.specs.Things.{Drawers, Held}
use Rattle.meaning.specs.Frames.{Frames}
use Rattle.meaning.specs.Acts.{step, gives, go_on, still, pure, ◌and_then◌}
use Rattle.meaning.specs.Looking.{World}
use Rattle.meaning.specs.Tests.{same}
use Rattle.meaning.specs.Blocks.{one_equal}
use Rattle.renderer.specs.Guards.{Answered}

module _ (s : Scene) (fs : code.Frames) (d : Drawers) (v : Held) where
  abbrev e : Frames
  e = around_in (host_in s) fs

  -- the values that are left come to what all come to
  pub record Unequal (left : List Expr) (all : List tree.Expr) : Type 0 where
    pub rest : List tree.Expr
    pub is : each (expr_of (pool_of s)) left ≡ Some rest
    pub same : (w : World) (p : ℕ) (o : List ℕ) → Fits w s → one_equal w all v p e d o ≡ one_equal w rest v p e d o

  pub unequal_all : (l : Span) (left : List Expr) (all : List tree.Expr) → left ≡ take l.count (drop l.from s.book.values.now) → values_of (pool_of s) l ≡ Some all → Unequal left all
  unfolding values_of
  unequal_all l left all is given =
      let (xs, a, q) = so_parts (entries s.book.values.now l) (each (expr_of (pool_of s))) all given in
      record { rest = all; is = ap (each (expr_of (pool_of s))) (is ∙ (only_parts _ _ _ a).1) ∙ q; same = λ w p o fits. refl }

  -- the first of the values that are left
  first : (x : Expr) (xs : List Expr) (ts : List tree.Expr) → each (expr_of (pool_of s)) (x ∷ xs) ≡ Some ts → (u : tree.Expr) × (us : List tree.Expr) × (expr_of (pool_of s) x ≡ Some u) × (each (expr_of (pool_of s)) xs ≡ Some us) × (u ∷ us ≡ ts)
  first x xs ts h =
      let (u, a, q) = so_parts _ _ ts h in
      let (us, b, r) = so_parts _ _ ts q in
      (u, us, a, b, some_is _ _ r)

  pub unequal_fault : (left : List Expr) (x : Expr) (xs : List Expr) (all : List tree.Expr) (k : Fault) → Unequal left all → left ≡ x ∷ xs → Evaluated s fs d x (Err k) → Answered s fs d (λ w. one_equal w all v) (Err k)
  unfolding ◌and_then◌
  unequal_fault left x xs all k l is got w p o fits =
      let (u, us, a, b, q) = first x xs l.rest (ap (each (expr_of (pool_of s))) (sym is) ∙ l.is) in
      l.same w p o fits ∙ ap (λ ts. one_equal w ts v p e d o) (sym q)
      ∙ ap (λ z. go_on z (λ y. cond (same w y v) (pure true) (one_equal w us v p e))) (got w u p o fits a)

  pub unequal_step : (left : List Expr) (x : Expr) (xs : List Expr) (all : List tree.Expr) (y : Value (Bor (List ℕ))) (b : Bool) → Unequal left all → left ≡ x ∷ xs → Evaluated s fs d x (Ok y) →
      ((w : World) → Fits w s → b ≡ same w (held_in y) v) → (us : List tree.Expr) × (each (expr_of (pool_of s)) xs ≡ Some us) ×
      ((w : World) (p : ℕ) (o : List ℕ) → Fits w s → one_equal w all v p e d o ≡ cond b (step d o (gives true)) (one_equal w us v p e d o))
  unfolding ◌and_then◌ still
  unequal_step left x xs all y b l is got eq =
      let (u, us, a, r, q) = first x xs l.rest (ap (each (expr_of (pool_of s))) (sym is) ∙ l.is) in (
        us,
        r,
        λ w p o fits.
            l.same w p o fits ∙ ap (λ ts. one_equal w ts v p e d o) (sym q)
            ∙ ap (λ z. go_on z (λ y. cond (same w y v) (pure true) (one_equal w us v p e))) (got w u p o fits a)
            ∙ ap (λ t. cond t (pure true) (one_equal w us v p e) d o) (sym (eq w fits)) ∙ by w p o us b,
      )
    where
      by : (w : World) (p : ℕ) (o : List ℕ) (us : List tree.Expr) (b : Bool) → cond b (pure true) (one_equal w us v p e) d o ≡ cond b (step d o (gives true)) (one_equal w us v p e d o)
      by w p o us true = refl
      by w p o us false = refl

  pub unequal_found : (left : List Expr) (x : Expr) (xs : List Expr) (all : List tree.Expr) (y : Value (Bor (List ℕ))) (b : Bool) → Unequal left all → left ≡ x ∷ xs → Evaluated s fs d x (Ok y) →
      ((w : World) → Fits w s → b ≡ same w (held_in y) v) → b ≡ true → Answered s fs d (λ w. one_equal w all v) (Ok true)
  unequal_found left x xs all y b l is got eq passed w p o fits =
      let (us, r, q) = unequal_step left x xs all y b l is got eq in
      q w p o fits ∙ ap (λ t. cond t (step d o (gives true)) (one_equal w us v p e d o)) passed

  pub unequal_more : (left : List Expr) (x : Expr) (xs : List Expr) (all : List tree.Expr) (y : Value (Bor (List ℕ))) (b : Bool) → Unequal left all → left ≡ x ∷ xs → Evaluated s fs d x (Ok y) →
      ((w : World) → Fits w s → b ≡ same w (held_in y) v) → b ≡ false → Unequal xs all
  unequal_more left x xs all y b l is got eq failed =
      let (us, r, q) = unequal_step left x xs all y b l is got eq in
      record { rest = us; is = r; same = λ w p o fits. q w p o fits ∙ ap (λ t. cond t (step d o (gives true)) (one_equal w us v p e d o)) failed }

  pub unequal_none : (left : List Expr) (all : List tree.Expr) → Unequal left all → length left ≡ 0 → Answered s fs d (λ w. one_equal w all v) (Ok false)
  unfolding still
  unequal_none [] all l none w p o fits = l.same w p o fits ∙ ap (λ ts. one_equal w ts v p e d o) (sym (some_is _ _ l.is))
  unequal_none (x ∷ xs) all l none w p o fits = absurd (omega (arith, none))
