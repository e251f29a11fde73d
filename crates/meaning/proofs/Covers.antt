-- Lists of things inside a set.
use Rattle.std.proofs.Common.{List, [], ◌∷◌, ◌++◌, refl, inl, inr}
use Rattle.meaning.specs.Things.{Thing}
use Rattle.meaning.specs.Calls.{In}

-- each element of the list is in the set
abbrev pub Covers : (Thing → Type 0) → List Thing → Type 0
Covers X l = (t : Thing) → In t l → X t

pub in_left : {A : Type 0} (x : A) (xs ys : List A) → In x xs → In x (xs ++ ys)
in_left x (y ∷ xs) ys (inl e) = inl e
in_left x (y ∷ xs) ys (inr h) = inr (in_left x xs ys h)
in_left x [] ys h = absurd h

pub in_right : {A : Type 0} (x : A) (xs ys : List A) → In x ys → In x (xs ++ ys)
in_right x [] ys h = h
in_right x (y ∷ xs) ys h = inr (in_right x xs ys h)

module _ {X : Thing → Type 0} where
  pub first : (t : Thing) (l : List Thing) → Covers X (t ∷ l) → X t
  first t l h = h t (inl refl)

  pub others : (t : Thing) (l : List Thing) → Covers X (t ∷ l) → Covers X l
  others t l h u i = h u (inr i)

  pub left : (k l : List Thing) → Covers X (k ++ l) → Covers X k
  left k l h u i = h u (in_left u k l i)

  pub right : (k l : List Thing) → Covers X (k ++ l) → Covers X l
  right k l h u i = h u (in_right u k l i)
