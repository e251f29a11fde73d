-- Acts that leave drawers and text alone, one after the other.
use Rattle.std.proofs.Common.{ℕ, Ok, Err, ap, ◌∙◌}
use Rattle.std.specs.Prelude.{Result}
use Rattle.held.specs.declared.faults.Fault.{Fault}
use Rattle.meaning.specs.Frames.{Frames}
use Rattle.meaning.specs.Things.{Drawers}
use Rattle.meaning.specs.Acts.{Act, ◌and_then◌, go_on}
use Rattle.renderer.specs.Openings.{Answers}

module _ {A B C D : Type 0} (e : Frames) (d : Drawers) (m : ℕ → Act B) (f : A → B) (k : B → ℕ → Act D) (g : C → D) where
  -- the first gives an answer, and the other goes on with it
  pub then_on : (x : A) (r : Result C Fault) → Answers m f e d (Ok x) → Answers (k (f x)) g e d r → Answers (λ p. m p and_then λ y. k y p) g e d r
  unfolding ◌and_then◌
  then_on x r a b p o = ap (λ q. go_on q (λ y. k y p)) (a p o) ∙ b p o

  -- the first is a fault
  pub then_off : (c : Fault) → Answers m f e d (Err c) → Answers (λ p. m p and_then λ y. k y p) g e d (Err c)
  unfolding ◌and_then◌
  then_off c a p o = ap (λ q. go_on q (λ y. k y p)) (a p o)
