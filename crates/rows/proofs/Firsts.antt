-- What `find` says of the places of a row, and the first item that passes.
use Rattle.std.proofs.Common.{◌≡◌, ℕ, zero, suc, ◌+◌, ◌<◌, ◌≤◌, Bool, true, false, ◌⊎◌, List, [], ◌∷◌, length, Some, None, Option, MatchOption, sym, refl, ap, ◌∙◌, inl, inr, arith}
use Rattle.std.specs.List.{slice_get}
use Rattle.std.proofs.lemmas.Option.{slice_get_past}
use Rattle.std.proofs.lemmas.Bool.{cases_lt, cond-true, cond-false, false≢true}
use Rattle.rows.specs.First.{first_from, NoneBefore, FirstAt, NoneAt}

-- whether an item, if there is one, passes
abbrev pub test_of : {X : Type 0} → (X → Bool) → Option X → Bool
test_of p None = false
test_of p (Some x) = p x

module _ {X : Type 0} (p : X → Bool) where
  first_none : (m : ℕ) (xs : List X) → ((k : ℕ) → k < length xs → test_of p (slice_get xs k) ≡ false) → first_from p m xs ≡ None
  first_none m [] h = refl
  first_none m (x ∷ xs) h = cond-false (p x) _ _ (h 0 (omega arith)) ∙ first_none (m + 1) xs (λ k l. h (suc k) (omega arith))

  first_some : (m : ℕ) (xs : List X) (i j : ℕ) → j ≡ m + i → test_of p (slice_get xs i) ≡ true → ((k : ℕ) → k < i → test_of p (slice_get xs k) ≡ false) → first_from p m xs ≡ Some j
  first_some m [] i j q e h = absurd (false≢true e)
  first_some m (x ∷ xs) zero j q e h = cond-true (p x) _ _ e ∙ ap Some (let r : m ≡ j = omega arith in r)
  first_some m (x ∷ xs) (suc i) j q e h = cond-false (p x) _ _ (h 0 (omega arith)) ∙ first_some (m + 1) xs i j (omega arith) e (λ k l. h (suc k) (omega arith))

  fails_before : (xs : List X) (i : ℕ) → ((k : ℕ) → k < i → test_of p (slice_get xs k) ≡ false) → NoneBefore p xs i
  fails_before xs i h j y l e = sym (ap (test_of p) e) ∙ h j l

  fails_at : (xs : List X) → ((k : ℕ) → k < length xs → test_of p (slice_get xs k) ≡ false) → NoneAt p xs
  fails_at xs h j y e = go (cases_lt j (length xs))
    where
      go : (j < length xs) ⊎ (length xs ≤ j) → p y ≡ false
      go (inl l) = fails_before xs (length xs) h j y l e
      go (inr l) = let n = slice_get_past xs j l in cc

  passes_first : (xs : List X) (i : ℕ) → test_of p (slice_get xs i) ≡ true → NoneBefore p xs i → FirstAt p xs i
  passes_first xs i e b = go (slice_get xs i) refl
    where
      go : (o : Option X) → slice_get xs i ≡ o → FirstAt p xs i
      go None q = absurd (false≢true (sym (ap (test_of p) q) ∙ e))
      go (Some x) q = record { item = x; at = q; passes = sym (ap (test_of p) q) ∙ e; before = b }

  pub found : (xs : List X) (n : ℕ) (r : Option ℕ) → n ≡ length xs → MatchOption r ((k : ℕ) → 0 ≤ k → k < n → test_of p (slice_get xs k) ≡ false) (λ i. (0 ≤ i) × (i < n) × (test_of p (slice_get xs i) ≡ true) × ((k : ℕ) → 0 ≤ k → k < i → test_of p (slice_get xs k) ≡ false)) → (r ≡ first_from p 0 xs) × MatchOption r (NoneAt p xs) (FirstAt p xs)
  found xs n None e h =
      let f = λ (k : ℕ) (l : k < length xs). h k (omega arith) (omega arith) in
      (sym (first_none 0 xs f), fails_at xs f)
  found xs n (Some i) e h =
      let f = λ (k : ℕ) (l : k < i). h.3 k (omega arith) l in
      (sym (first_some 0 xs i i (omega arith) h.2 f), passes_first xs i h.2 (fails_before xs i f))
