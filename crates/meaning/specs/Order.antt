-- The order theorem: calls may be made in any order that keeps the order of those that clash.
use Rattle.std.specs.Prelude.{◌≡◌, ℕ, ◌<◌, List, length, Some}
use Rattle.std.specs.List.{slice_get}
use Rattle.banks.specs.Meaning.{Meaning}
use Rattle.meaning.specs.Things.{Thing, Drawers}
use Rattle.meaning.specs.Calls.{Sheet, Call, Clash, run}

-- `p` has each index below `n` at exactly one place, and nothing else
pub record Arrangement (n : ℕ) (p : List ℕ) : Type 0 where
  pub below : (k i : ℕ) → slice_get p k ≡ Some i → i < n
  pub every : (i : ℕ) → i < n → (k : ℕ) × (slice_get p k ≡ Some i)
  pub only : (k l i : ℕ) → slice_get p k ≡ Some i → slice_get p l ≡ Some i → k ≡ l

-- `ys` is `xs` in the order `p`: as long as `p`, and its element at `k` is that of `xs` at the index that `p` has at `k`
pub record Follows {A : Type 0} (xs : List A) (p : List ℕ) (ys : List A) : Type 0 where
  pub as_many : length ys ≡ length p
  pub from : (k i : ℕ) → slice_get p k ≡ Some i → slice_get ys k ≡ slice_get xs i

-- of two calls that clash, the earlier one of `A` stands before the other in `p`
abbrev pub KeepsClashes : Sheet → List Call → List ℕ → Type 0
KeepsClashes s A p =
    (i j : ℕ) (a b : Call) → i < j → slice_get A i ≡ Some a → slice_get A j ≡ Some b → Clash s a b →
    (k l : ℕ) → slice_get p k ≡ Some i → slice_get p l ≡ Some j → k < l

-- Let `B` be the run `A` in another order `p`, in which every two calls that clash keep their order. Then each call has the same result in both, and both leave the same in every drawer.
abbrev pub OrderFree : Type 0
OrderFree =
    (s : Sheet) (bank : Meaning) (d : Drawers) (A B : List Call) (p : List ℕ) →
    Arrangement (length A) p → Follows A p B → KeepsClashes s A p →
    Follows (run s bank A d).0 p (run s bank B d).0 ×
    ((t : Thing) → (run s bank B d).1 t ≡ (run s bank A d).1 t)
