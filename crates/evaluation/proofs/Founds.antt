-- What the acts that look and evaluate come to.
use Rattle.std.proofs.Common.{◌≡◌, ℕ, List, [], ◌∷◌, ℤ, Some, None, Ok, Err, Option, Result, refl, ap, ap₂, map, take, drop, length, nat_le, ◌+◌, ◌∙◌, sym}
use Rattle.std.specs.Option.{option_map, option_or, ok_or}
use Rattle.std.specs.Borrow.{Bor}
use Rattle.nodes.specs.declared.exprs.Head.{Head}
use Rattle.nodes.specs.declared.exprs.Head.TheVariants as head
use Rattle.nodes.specs.Exprs.{head_of, step_of, expr_of, each, entries, ◌so◌}
use Rattle.nodes.proofs.Options.{only_parts, so_parts, mapped_parts, some_is}
use Rattle.held.specs.declared.scenes.Scene.{Scene}
use Rattle.held.specs.declared.value.Value.{Value}
use Rattle.held.specs.Records.{held_in}
use Rattle.held.specs.Scenes.{Fits, host_in, pool_of}
use Rattle.frames.specs.declared.stack.Frames as code
use Rattle.frames.specs.declared.met.Met.{Met}
use Rattle.frames.specs.declared.met.Met.TheVariants as met
use Rattle.frames.specs.declared.met.Loop.{Loop}
use Rattle.frames.specs.Views.{around_in, loop_of, met_of}
use Rattle.tree.specs.Expressions as tree
use Rattle.meaning.specs.Things.{Drawers, Held, name, text}
use Rattle.meaning.specs.Frames.{Frames, nearest_for, nearest_table, bound, value, loop}
use Rattle.meaning.specs.Acts.{step, gives, still, look, ◌and_then◌, go_on, pure}
use Rattle.meaning.specs.Looking.{World, find, outside, reach, walked, eval, number_of}
use Rattle.evaluation.specs.Values.{needed, Found, Reached, Evaluated, NumberFound}
use Rattle.evaluation.specs.Steps.{step_in}
use Rattle.evaluation.specs.Literals.{literal_of}
use Rattle.nodes.specs.declared.exprs.Span.{Span}
use Rattle.nodes.specs.declared.exprs.Step.{Step}
use Rattle.nodes.specs.declared.exprs.Step.TheVariants as code_step
use Rattle.nodes.specs.declared.exprs.Expr.{Expr}
use Rattle.nodes.specs.declared.exprs.Expr.TheVariants as expr
use Rattle.held.specs.declared.faults.Fault.{Fault}
use Rattle.held.specs.declared.faults.Fault.TheVariants.{NoNumber}
use Rattle.held.specs.Faults.{ended}
use Rattle.meaning.specs.Frames as met_
use Rattle.meaning.specs.Openings.{whole_number}

module _ (s : Scene) (fs : code.Frames) (d : Drawers) where
  abbrev e : Frames
  e = around_in (host_in s) fs

  looped : (l : Option Loop) → option_map loop (option_map (loop_of e) l) ≡ option_map (met_of e) (option_map met.Loop l)
  looped None = refl
  looped (Some l) = refl

  valued : (v : Option (Value (Bor (List ℕ)))) → option_map value (option_map held_in v) ≡ option_map (met_of e) (option_map met.Value v)
  valued None = refl
  valued (Some v) = refl

  pub found_for : (l : Option Loop) (r : Option Met) → option_map (loop_of e) l ≡ nearest_for e → r ≡ option_map met.Loop l → Found s fs d head.Forloop r
  unfolding find still
  found_for l r h is w t o fits given =
      ap (λ t. find w e t d o) (sym (some_is _ _ given)) ∙ ap (λ x. step d o (gives (option_map loop x))) (sym h) ∙ ap (λ x. step d o (gives x)) (looped l ∙ ap (option_map (met_of e)) (sym is))

  pub found_table : (l : Option Loop) (r : Option Met) → option_map (loop_of e) l ≡ nearest_table e → r ≡ option_map met.Loop l → Found s fs d head.Tablerowloop r
  unfolding find still
  found_table l r h is w t o fits given =
      ap (λ t. find w e t d o) (sym (some_is _ _ given)) ∙ ap (λ x. step d o (gives (option_map loop x))) (sym h) ∙ ap (λ x. step d o (gives x)) (looped l ∙ ap (option_map (met_of e)) (sym is))

  -- outside and inside the frames
  sought_is : (w : World) (n : ℕ) (o : List ℕ) (b : Option Held) → Rattle.meaning.specs.Looking.sought w n b d o ≡ step d o (gives (option_map value (option_or b (outside w n (d (name n))))))
  unfolding still look ◌and_then◌
  sought_is w n o None = refl
  sought_is w n o (Some v) = refl

  pub found_name : (n : ℕ) (v : Option (Value (Bor (List ℕ)))) (r : Option Met) → ((w : World) → Fits w s → option_map held_in v ≡ option_or (bound e n) (outside w n (d (name n)))) → r ≡ option_map met.Value v → Found s fs d (head.Name n) r
  unfolding find
  found_name n v r h is w t o fits given =
      ap (λ t. find w e t d o) (sym ((only_parts _ _ _ given).1)) ∙ sought_is w n o (bound e n) ∙ ap (λ x. step d o (gives (option_map value x))) (sym (h w fits)) ∙ ap (λ x. step d o (gives x)) (valued v ∙ ap (option_map (met_of e)) (sym is))

  -- steps as they are read are those of the tree
  pub steps_are : (xs : List Step) (ts : List tree.Step) → each (step_of (pool_of s)) xs ≡ Some ts → map (step_in s.book.source.now) xs ≡ ts
  steps_are [] ts given = some_is _ _ given
  steps_are (x ∷ xs) ts given =
      let (t, a, q) = so_parts _ _ _ given in
      let (us, b, r) = so_parts _ _ _ q in
      ap₂ (λ y ys. y ∷ ys) (step_is x t a) (steps_are xs us b) ∙ some_is _ _ r
    where
      step_is : (x : Step) (t : tree.Step) → step_of (pool_of s) x ≡ Some t → step_in s.book.source.now x ≡ t
      step_is (code_step.Index z) t h = some_is _ _ h
      step_is (code_step.Key p) t h =
          let (b, is, r) = mapped_parts _ _ _ h in
          ap tree.key ((only_parts _ _ _ is).1) ∙ r

  -- a value that is no path is itself
  pub reached_literal : (x : Expr) (v : Value (Bor (List ℕ))) → ((h : Head) (k : Span) → x ≡ expr.Path h k → ⊥) → held_in v ≡ literal_of s.book.source.now x → Reached s fs d x (Some (met.Value v))
  unfolding expr_of reach still
  reached_literal expr.Nil v n is w t o fits given = ap (λ t. reach w t e d o) (sym (some_is _ _ given)) ∙ ap (λ y. step d o (gives (Some (value y)))) (sym is)
  reached_literal (expr.Boolean b) v n is w t o fits given = ap (λ t. reach w t e d o) (sym (some_is _ _ given)) ∙ ap (λ y. step d o (gives (Some (value y)))) (sym is)
  reached_literal (expr.Number z) v n is w t o fits given = ap (λ t. reach w t e d o) (sym (some_is _ _ given)) ∙ ap (λ y. step d o (gives (Some (value y)))) (sym is)
  reached_literal (expr.Text p) v n is w t o fits given =
      let (x, h, r) = mapped_parts _ _ _ given in
      ap (λ t. reach w t e d o) (sym r) ∙ ap (λ y. step d o (gives (Some (value (text y))))) (sym ((only_parts _ _ _ h).1)) ∙ ap (λ y. step d o (gives (Some (value y)))) (sym is)
  reached_literal (expr.Path h k) v n is w t o fits given = absurd (n h k refl)

  -- a path: what it begins at, and the steps from there
  path_is : (h : Head) (k : Span) (w : World) (t : tree.Expr) (o : List ℕ) → expr_of (pool_of s) (expr.Path h k) ≡ Some t →
      (u : tree.Head) × (us : List tree.Step) × (head_of (pool_of s) h ≡ Some u) × (map (step_in s.book.source.now) (take k.count (drop k.from s.book.steps.now)) ≡ us) × (t ≡ tree.path u us)
  unfolding expr_of
  path_is h k w t o given =
      let b = pool_of s in
      let last : tree.Head → List tree.Step → Option tree.Expr = λ u ts. Some (tree.path u ts) in
      let then : tree.Head → List Step → Option tree.Expr = λ u xs. each (step_of b) xs so last u in
      let (u, a, q) = so_parts (head_of b h) (λ u. entries b.steps k so then u) t given in
      let (xs, c, r) = so_parts (entries b.steps k) (then u) t q in
      let (us, g, v) = so_parts (each (step_of b) xs) (last u) t r in
      let all : take k.count (drop k.from s.book.steps.now) ≡ xs = (only_parts (nat_le (k.from + k.count) (length s.book.steps.now)) (take k.count (drop k.from s.book.steps.now)) xs c).1 in
      (u, us, a, ap (map (step_in s.book.source.now)) all ∙ steps_are xs us g, sym (some_is (tree.path u us) t v))

  go : (w : World) (u : tree.Head) (us : List tree.Step) (o : List ℕ) (m : Option met_.Met) → find w e u d o ≡ step d o (gives m) → reach w (tree.path u us) e d o ≡ step d o (gives (walked w m us))
  unfolding reach still ◌and_then◌
  go w u us o m h = ap (λ q. go_on q (λ m. pure (walked w m us))) h

  pub reached_path : (h : Head) (k : Span) (m r : Option Met) (xs : List Step) → Found s fs d h m → xs ≡ take k.count (drop k.from s.book.steps.now) →
      ((w : World) → Fits w s → walked w (option_map (met_of e) m) (map (step_in s.book.source.now) xs) ≡ option_map (met_of e) r) → Reached s fs d (expr.Path h k) r
  reached_path h k m r xs found is walk w t o fits given =
      let (u, us, a, b, q) = path_is h k w t o given in
      ap (λ t. reach w t e d o) q ∙ go w u us o (option_map (met_of e) m) (found w u o fits a)
      ∙ ap (λ x. step d o (gives x)) (ap (λ l. walked w (option_map (met_of e) m) l) (sym b ∙ ap (map (step_in s.book.source.now)) (sym is)) ∙ walk w fits)

  needs : (w : World) (p : ℕ) (o : List ℕ) (m : Option Met) → Rattle.meaning.specs.Looking.needed w p e (option_map (met_of e) m) d o ≡ step d o (ended held_in (needed m) p e)
  unfolding still
  needs w p o None = refl
  needs w p o (Some (met.Value v)) = refl
  needs w p o (Some (met.Loop l)) = refl

  -- what is asked for a value
  pub asked : (x : Expr) (m : Option Met) (r : Result (Value (Bor (List ℕ))) Fault) → Reached s fs d x m → r ≡ needed m → Evaluated s fs d x r
  unfolding eval ◌and_then◌
  asked x m r reached is w t p o fits given =
      ap (λ q. go_on q (λ m. Rattle.meaning.specs.Looking.needed w p e m)) (reached w t o fits given) ∙ needs w p o m ∙ ap (λ q. step d o (ended held_in q p e)) (sym is)

  -- the number of a value
  pub numbered : (x : Expr) (v : Value (Bor (List ℕ))) (r : Result ℤ Fault) → Evaluated s fs d x (Ok v) → r ≡ ok_or (number_of (held_in v)) NoNumber → NumberFound s fs d x r
  unfolding still ◌and_then◌
  numbered x v r got is w t p o fits given =
      ap (λ q. go_on q (λ v. whole_number p e (number_of v))) (got w t p o fits given) ∙ read (number_of (held_in v)) ∙ ap (λ q. step d o (ended (λ z. z) q p e)) (sym is)
    where
      read : (z : Option ℤ) → whole_number p e z d o ≡ step d o (ended (λ z. z) (ok_or z NoNumber) p e)
      read None = refl
      read (Some z) = refl

  pub unnumbered : (x : Expr) (k : Fault) → Evaluated s fs d x (Err k) → NumberFound s fs d x (Err k)
  unfolding still ◌and_then◌
  unnumbered x k got w t p o fits given = ap (λ q. go_on q (λ v. whole_number p e (number_of v))) (got w t p o fits given)
