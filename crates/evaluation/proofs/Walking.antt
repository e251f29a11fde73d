-- Steps that are left.
use Rattle.std.proofs.Common.{◌≡◌, List, [], ◌∷◌, map, length, Some, None, Option, refl, ap, ◌∙◌, sym, arith}
use Rattle.tree.specs.Expressions as tree
use Rattle.nodes.specs.declared.exprs.Step.{Step}
use Rattle.meaning.specs.Frames.{Met}
use Rattle.meaning.specs.Looking.{World, met_step, walked}

module _ (w : World) (f : Step → tree.Step) where
  pub walked_nowhere : (xs : List Step) → walked w None (map f xs) ≡ None
  walked_nowhere [] = refl
  walked_nowhere (x ∷ xs) = refl

  pub walked_on : (m : Met) (xs ys : List Step) (x : Step) (r : Option Met) → xs ≡ x ∷ ys → r ≡ met_step w m (f x) → walked w (Some m) (map f xs) ≡ walked w r (map f ys)
  walked_on m xs ys x r e s = ap (λ l. walked w (Some m) (map f l)) e ∙ ap (λ q. walked w q (map f ys)) (sym s)

  pub walked_off : (m : Met) (xs ys : List Step) (x : Step) (r : Option Met) → xs ≡ x ∷ ys → r ≡ met_step w m (f x) → r ≡ None → walked w (Some m) (map f xs) ≡ None
  walked_off m xs ys x r e s n = walked_on m xs ys x r e s ∙ ap (λ q. walked w q (map f ys)) n ∙ walked_nowhere ys

  nil : (xs : List Step) → length xs ≡ 0 → xs ≡ []
  nil [] h = refl
  nil (x ∷ xs) h = absurd (omega (arith, h))

  pub walked_through : (m : Met) (xs : List Step) → length xs ≡ 0 → walked w (Some m) (map f xs) ≡ Some m
  walked_through m xs h = ap (λ l. walked w (Some m) (map f l)) (nil xs h)
