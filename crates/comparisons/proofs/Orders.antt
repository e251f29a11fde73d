-- The order of two texts is that of the library, and an order turned round.
use Rattle.std.proofs.Common.{◌≡◌, ℕ, Bool, false, List, ℤ, sym, refl, arith}
use Rattle.std.specs.Ordering.{nat_cmp, is_lt, is_some_and}
use Rattle.std.specs.Prelude.{Some}
use Rattle.std.specs.Cmp.Lexicographic.{slice_partial_cmp}
use Rattle.std.proofs.lemmas.Cmp.{same_from_slice_cmp_tested}
use Rattle.std.proofs.lemmas.Bool.Decides.{nat_tests}
use Rattle.meaning.specs.Things.{Held, nil, boolean, whole, text, array, object, pair}
use Rattle.meaning.specs.Tests.{text_less, whole_before, text_before, ordered}

pub less_is : (xs ys : List ℕ) (r : Bool) → r ≡ is_some_and is_lt (slice_partial_cmp (λ x y. Some (nat_cmp x y)) xs ys) → r ≡ text_less xs ys
less_is = same_from_slice_cmp_tested nat_cmp is_lt text_less refl (λ _ _. refl) (λ _ _. refl) (λ x y xs ys o h. grind (arith, nat_tests))

module _ (f : ℤ → ℤ → Bool) (g : List ℕ → List ℕ → Bool) where
  -- no value has an order with one that is no number and no text
  unordered : (b : Held) → ((z : ℤ) → whole_before z b f ≡ false) → ((s : List ℕ) → text_before s b g ≡ false) → (a : Held) → false ≡ ordered f g a b
  unordered b n t nil = refl
  unordered b n t (boolean x) = refl
  unordered b n t (whole z) = sym (n z)
  unordered b n t (text s) = sym (t s)
  unordered b n t (array i) = refl
  unordered b n t (object i) = refl
  unordered b n t (pair i) = refl

  pub turned : (a b : Held) → ordered f g b a ≡ ordered (λ x y. f y x) (λ s t. g t s) a b
  turned nil b = sym (unordered nil (λ _. refl) (λ _. refl) b)
  turned (boolean x) b = sym (unordered (boolean x) (λ _. refl) (λ _. refl) b)
  turned (whole z) nil = refl
  turned (whole z) (boolean x) = refl
  turned (whole z) (whole y) = refl
  turned (whole z) (text t) = refl
  turned (whole z) (array i) = refl
  turned (whole z) (object i) = refl
  turned (whole z) (pair i) = refl
  turned (text s) nil = refl
  turned (text s) (boolean x) = refl
  turned (text s) (whole z) = refl
  turned (text s) (text t) = refl
  turned (text s) (array i) = refl
  turned (text s) (object i) = refl
  turned (text s) (pair i) = refl
  turned (array i) b = sym (unordered (array i) (λ _. refl) (λ _. refl) b)
  turned (object i) b = sym (unordered (object i) (λ _. refl) (λ _. refl) b)
  turned (pair i) b = sym (unordered (pair i) (λ _. refl) (λ _. refl) b)
