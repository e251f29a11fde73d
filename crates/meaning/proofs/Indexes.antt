-- Lists by their indexes, and lists whose elements have tags.
use Rattle.std.proofs.Common.{◌≡◌, ℕ, zero, suc, ◌+◌, ◌<◌, List, [], ◌∷◌, length, Some, sym, refl, ap, subst, inl, inr, arith}
use Rattle.std.specs.List.{slice_get}
use Rattle.meaning.specs.Calls.{In}

module _ {A : Type 0} where
  pub at_in : (xs : List A) (k : ℕ) (x : A) → slice_get xs k ≡ Some x → In x xs
  at_in [] k x e = let z : ◌≡◌ {A = ℕ} 0 1 = cc in absurd (omega arith)
  at_in (y ∷ xs) zero x e = let q : x ≡ y = cc in inl q
  at_in (y ∷ xs) (suc k) x e = inr (at_in xs k x e)

  pub in_at : (xs : List A) (x : A) → In x xs → (k : ℕ) × (slice_get xs k ≡ Some x)
  in_at [] x i = absurd i
  in_at (y ∷ xs) x (inl e) = (zero, ap Some (sym e))
  in_at (y ∷ xs) x (inr i) = let h = in_at xs x i in (suc h.0, h.1)

  pub at_below : (xs : List A) (k : ℕ) (x : A) → slice_get xs k ≡ Some x → k < length xs
  at_below [] k x e = let z : ◌≡◌ {A = ℕ} 0 1 = cc in absurd (omega arith)
  at_below (y ∷ xs) zero x e = omega arith
  at_below (y ∷ xs) (suc k) x e = let h = at_below xs k x e in omega arith

  -- R of each two elements, the later one first
  abbrev pub Pairs : (A → A → Type 0) → List A → Type 0
  Pairs R [] = Unit {0}
  Pairs R (y ∷ v) = ((x : A) → In x v → R x y) × Pairs R v

  pub pairs : (R : A → A → Type 0) (xs : List A) →
      ((k l : ℕ) (x y : A) → k < l → slice_get xs k ≡ Some y → slice_get xs l ≡ Some x → R x y) → Pairs R xs
  pairs R [] h = tt
  pairs R (y ∷ v) h = (
    (λ x i. let j = in_at v x i in h zero (suc j.0) x y (omega arith) refl j.1),
    pairs R v (λ k l x z lt e f. h (suc k) (suc l) x z (omega arith) e f),
  )

  -- each element with its index, from `m` on
  abbrev pub numbered : ℕ → List A → List (ℕ × A)
  numbered m [] = []
  numbered m (x ∷ xs) = (m, x) ∷ numbered (suc m) xs

  pub numbered_at : (m : ℕ) (xs : List A) (i : ℕ) (x : A) → slice_get xs i ≡ Some x → In (m + i, x) (numbered m xs)
  numbered_at m [] i x e = let z : ◌≡◌ {A = ℕ} 0 1 = cc in absurd (omega arith)
  numbered_at m (y ∷ xs) zero x e =
      let q : x ≡ y = cc in
      let s : m + zero ≡ m = omega arith in
      inl (λ i. (s i, q i))
  numbered_at m (y ∷ xs) (suc i) x e =
      let s : suc m + i ≡ m + suc i = omega arith in
      inr (subst (λ (n : ℕ). In (n, x) (numbered (suc m) xs)) s (numbered_at (suc m) xs i x e))

  pub numbered_in : (m : ℕ) (xs : List A) (x : ℕ × A) → In x (numbered m xs) → (i : ℕ) × (x.0 ≡ m + i) × (slice_get xs i ≡ Some x.1)
  numbered_in m [] x h = absurd h
  numbered_in m (y ∷ xs) x (inl e) =
      let p : x.0 ≡ m = ap (λ (q : ℕ × A). q.0) e in
      (zero, omega arith, ap (λ (q : ℕ × A). Some q.1) (sym e))
  numbered_in m (y ∷ xs) x (inr h) = let j = numbered_in (suc m) xs x h in (suc j.0, omega arith, j.2)

  -- a list of indexes beside a list of elements
  abbrev pub beside : List ℕ → List A → List (ℕ × A)
  beside [] ys = []
  beside (i ∷ p) [] = []
  beside (i ∷ p) (y ∷ ys) = (i, y) ∷ beside p ys

  pub beside_at : (p : List ℕ) (ys : List A) (k i : ℕ) (y : A) → slice_get p k ≡ Some i → slice_get ys k ≡ Some y → slice_get (beside p ys) k ≡ Some (i, y)
  beside_at [] ys k i y e f = let z : ◌≡◌ {A = ℕ} 0 1 = cc in absurd (omega arith)
  beside_at (j ∷ p) [] k i y e f = let z : ◌≡◌ {A = ℕ} 0 1 = cc in absurd (omega arith)
  beside_at (j ∷ p) (x ∷ ys) zero i y e f = let q : j ≡ i = cc in let r : x ≡ y = cc in λ t. Some (q t, r t)
  beside_at (j ∷ p) (x ∷ ys) (suc k) i y e f = beside_at p ys k i y e f

  pub beside_back : (p : List ℕ) (ys : List A) (k : ℕ) (x : ℕ × A) → slice_get (beside p ys) k ≡ Some x →
      (slice_get p k ≡ Some x.0) × (slice_get ys k ≡ Some x.1)
  beside_back [] ys k x e = let z : ◌≡◌ {A = ℕ} 0 1 = cc in absurd (omega arith)
  beside_back (j ∷ p) [] k x e = let z : ◌≡◌ {A = ℕ} 0 1 = cc in absurd (omega arith)
  beside_back (j ∷ p) (y ∷ ys) zero x e =
      let q : ◌≡◌ {A = ℕ × A} (j, y) x = cc in (ap (λ (r : ℕ × A). Some r.0) q, ap (λ (r : ℕ × A). Some r.1) q)
  beside_back (j ∷ p) (y ∷ ys) (suc k) x e = beside_back p ys k x e

  -- where one list has an element, so has another as long
  pub there : (p : List ℕ) (ys : List A) → length ys ≡ length p → (k i : ℕ) → slice_get p k ≡ Some i → (y : A) × (slice_get ys k ≡ Some y)
  there [] ys l k i e = let z : ◌≡◌ {A = ℕ} 0 1 = cc in absurd (omega arith)
  there (j ∷ p) [] l k i e = absurd (omega arith)
  there (j ∷ p) (y ∷ ys) l zero i e = (y, refl)
  there (j ∷ p) (y ∷ ys) l (suc k) i e = there p ys (omega arith) k i e
