-- A text sought in another, place by place.
use Rattle.std.proofs.Common.{◌≡◌, ℕ, suc, nat_eq, add-one, ◌+◌, ◌<◌, ◌≤◌, eqb, Bool, true, false, ◌&&◌, ◌||◌, List, [], ◌∷◌, length, get_or, drop, sym, refl, ap, ◌∙◌, arith, drop-cons}
use Rattle.std.specs.List.{starts_with}
use Rattle.std.proofs.lemmas.List.{at_drop_all}
use Rattle.std.proofs.lemmas.Bool.Decides.{nat_tests}
use Rattle.meaning.specs.Tests.{begins, stands_in}

pub starts_begins : (s t : List ℕ) → starts_with eqb t s ≡ begins s t
starts_begins [] t = refl
starts_begins (x ∷ xs) [] = refl
starts_begins (x ∷ xs) (y ∷ ys) = ap (λ b. eqb x y && b) (starts_begins xs ys)

-- at place i, or behind it
stand_more : (s t : List ℕ) (i : ℕ) → i < length t → stands_in s (drop i t) ≡ (begins s (drop i t) || stands_in s (drop (i + 1) t))
stand_more s t i l = let e : drop i t ≡ get_or t i 0 ∷ drop (suc i) t = drop-cons t i 0 l in rw (add-one, e) refl

-- it does not begin before place i
pub record Seeks (s t : List ℕ) (i : ℕ) : Type 0 where
  pub is : stands_in s t ≡ stands_in s (drop i t)

module _ {s t : List ℕ} {i : ℕ} where
  pub seek_here : Seeks s t i → i < length t → (b : Bool) → b ≡ begins s (drop i t) → b ≡ true → true ≡ stands_in s t
  seek_here h l b e y = sym (h.is ∙ stand_more s t i l ∙ ap (λ x. x || stands_in s (drop (i + 1) t)) (sym e ∙ y))

  pub seek_more : Seeks s t i → i < length t → (b : Bool) → b ≡ begins s (drop i t) → b ≡ false → Seeks s t (i + 1)
  seek_more h l b e n = record { is = h.is ∙ stand_more s t i l ∙ ap (λ x. x || stands_in s (drop (i + 1) t)) (sym e ∙ n) }

  pub seek_all : Seeks s t i → length t ≤ i → stands_in s t ≡ begins s []
  seek_all h l = h.is ∙ at_drop_all (stands_in s) t i l

pub empty_begins : (s : List ℕ) → nat_eq (length s) 0 ≡ begins s []
empty_begins [] = refl
empty_begins (x ∷ xs) = grind (arith, nat_tests)
