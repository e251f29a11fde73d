-- The first item that passes a test.
use Rattle.std.specs.Prelude.{◌≡◌, ℕ, ◌+◌, ◌<◌, Bool, true, false, cond, List, [], ◌∷◌, Some, None, Option}
use Rattle.std.specs.List.{slice_get}

-- its place, where the first item's place is n
abbrev pub first_from : {X : Type 0} → (X → Bool) → ℕ → List X → Option ℕ
first_from p n [] = None
first_from p n (x ∷ xs) = cond (p x) (Some n) (first_from p (n + 1) xs)

-- no item before place k passes
abbrev pub NoneBefore : {X : Type 0} → (X → Bool) → List X → ℕ → Type 0
NoneBefore {X} p xs k = (j : ℕ) (y : X) → j < k → slice_get xs j ≡ Some y → p y ≡ false

-- the item at place k passes, and none before it
pub record FirstAt {X : Type 0} (p : X → Bool) (xs : List X) (k : ℕ) : Type 0 where
  pub item : X
  pub at : slice_get xs k ≡ Some item
  pub passes : p item ≡ true
  pub before : NoneBefore p xs k

-- no item passes
abbrev pub NoneAt : {X : Type 0} → (X → Bool) → List X → Type 0
NoneAt {X} p xs = (j : ℕ) (y : X) → slice_get xs j ≡ Some y → p y ≡ false
