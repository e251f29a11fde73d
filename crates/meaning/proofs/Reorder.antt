-- The order theorem.
use Rattle.std.proofs.Common.{◌≡◌, ℕ, suc, ◌<◌, ◌≤◌, ◌⊎◌, List, [], ◌∷◌, length, Some, sym, refl, ap, ◌∙◌, subst, inl, inr, zero-add, arith}
use Rattle.std.specs.List.{slice_get}
use Rattle.banks.specs.Meaning.{Meaning}
use Rattle.meaning.specs.Things.{Drawers}
use Rattle.meaning.specs.Calls.{Sheet, In, Clash, Call, Result, perform, run}
use Rattle.meaning.specs.Order.{Arrangement, Follows, KeepsClashes, OrderFree}
use Rattle.meaning.proofs.Commute.{commute}
use Rattle.meaning.proofs.Indexes.{at_in, in_at, at_below, Pairs, pairs, numbered, numbered_at, numbered_in}
use Rattle.meaning.proofs.Indexes.{beside, beside_at, beside_back, there}

-- `c ∷ v` becomes the second list as `c` moves behind some that it does not clash with
data Slides (sheet : Sheet) (c : ℕ × Call) : List (ℕ × Call) → List (ℕ × Call) → Type 0 where
  here : {v : List (ℕ × Call)} → Slides sheet c v (c ∷ v)
  past : {y : ℕ × Call} {v w : List (ℕ × Call)} → ¬ (Clash sheet c.1 y.1) → Slides sheet c v w → Slides sheet c (y ∷ v) (y ∷ w)

data Rearranged (sheet : Sheet) : List (ℕ × Call) → List (ℕ × Call) → Type 0 where
  same : Rearranged sheet [] []
  front : {c : ℕ × Call} {u v w : List (ℕ × Call)} → Rearranged sheet u v → Slides sheet c v w → Rearranged sheet (c ∷ u) w

module _ (sheet : Sheet) (bank : Meaning) where
  -- runs of calls with tags
  abbrev tagged : List (ℕ × Call) → Drawers → List (ℕ × Result)
  tagged [] d = []
  tagged (x ∷ xs) d = (x.0, (perform sheet bank x.1 d).0) ∷ tagged xs (perform sheet bank x.1 d).1

  abbrev left : List (ℕ × Call) → Drawers → Drawers
  left [] d = d
  left (x ∷ xs) d = left xs (perform sheet bank x.1 d).1

  -- the run of the second list ends as that of the first, and has no other results
  abbrev Within : List (ℕ × Call) → List (ℕ × Call) → Drawers → Type 0
  Within xs ys d = (left ys d ≡ left xs d) × ((r : ℕ × Result) → In r (tagged ys d) → In r (tagged xs d))

  slide : (c : ℕ × Call) {v w : List (ℕ × Call)} → Slides sheet c v w → (d : Drawers) → Within (c ∷ v) w d
  slide c here d = (refl, λ r i. i)
  slide c (past {y = y} {v = v} n s) d =
      let h = slide c s (perform sheet bank y.1 d).1 in
      let q = commute sheet bank c.1 y.1 n d in (
        h.0 ∙ ap (left v) q.drawers,
        λ r i. elim i [
          | inl e ↦ inr (inl (e ∙ ap {B = ℕ × Result} (λ z. (y.0, z)) (sym q.second)))
          | inr j ↦ (elim (h.1 r j) [
            | inl e ↦ inl (e ∙ ap {B = ℕ × Result} (λ z. (c.0, z)) q.first)
            | inr k ↦ inr (inr (subst (λ (D : Drawers). In r (tagged v D)) q.drawers k))
          ])
        ],
      )

  rearranged : {u v : List (ℕ × Call)} → Rearranged sheet u v → (d : Drawers) → Within u v d
  rearranged same d = (refl, λ r i. i)
  rearranged (front {c = c} r s) d =
      let h = slide c s d in
      let k = rearranged r (perform sheet bank c.1 d).1 in (
        h.0 ∙ k.0,
        λ x i. elim (h.1 x i) [ inl e ↦ inl e | inr j ↦ inr (k.1 x j) ],
      )

  tagged_numbered : (m : ℕ) (A : List Call) (d : Drawers) → tagged (numbered m A) d ≡ numbered m (run sheet bank A d).0
  tagged_numbered m [] d = refl
  tagged_numbered m (c ∷ A) d = ap (λ l. (m, (perform sheet bank c d).0) ∷ l) (tagged_numbered (suc m) A (perform sheet bank c d).1)

  left_numbered : (m : ℕ) (A : List Call) (d : Drawers) → left (numbered m A) d ≡ (run sheet bank A d).1
  left_numbered m [] d = refl
  left_numbered m (c ∷ A) d = left_numbered (suc m) A (perform sheet bank c d).1

  tagged_beside : (p : List ℕ) (B : List Call) (d : Drawers) → tagged (beside p B) d ≡ beside p (run sheet bank B d).0
  tagged_beside [] B d = refl
  tagged_beside (i ∷ p) [] d = refl
  tagged_beside (i ∷ p) (c ∷ B) d = ap (λ l. (i, (perform sheet bank c d).0) ∷ l) (tagged_beside p B (perform sheet bank c d).1)

  left_beside : (p : List ℕ) (B : List Call) → length B ≡ length p → (d : Drawers) → left (beside p B) d ≡ (run sheet bank B d).1
  left_beside [] [] l d = refl
  left_beside [] (c ∷ B) l d = absurd (omega arith)
  left_beside (i ∷ p) [] l d = absurd (omega arith)
  left_beside (i ∷ p) (c ∷ B) l d = left_beside p B (omega arith) (perform sheet bank c d).1

  length_results : (A : List Call) (d : Drawers) → length (run sheet bank A d).0 ≡ length A
  length_results [] d = refl
  length_results (c ∷ A) d = ap suc (length_results A (perform sheet bank c d).1)

-- x stands after y: their tags differ, and if x has the lesser tag they do not clash
abbrev After : Sheet → ℕ × Call → ℕ × Call → Type 0
After sheet x y = (¬ (x.0 ≡ y.0)) × (x.0 < y.0 → ¬ (Clash sheet x.1 y.1))

module _ (sheet : Sheet) where
  -- takes `c` out of a list in which it has the least tag
  pull : (c : ℕ × Call) (w : List (ℕ × Call)) → In c w → ((x : ℕ × Call) → In x w → c.0 ≤ x.0) → Pairs (After sheet) w →
      (v : List (ℕ × Call)) × Slides sheet c v w
  pull c [] i h k = absurd i
  pull c (y ∷ w) (inl e) h k = (w, subst (λ (z : ℕ × Call). Slides sheet c w (z ∷ w)) e here)
  pull c (y ∷ w) (inr i) h k =
      let le : c.0 ≤ y.0 = h y (inl refl) in
      let ne : ¬ (c.0 ≡ y.0) = (k.0 c i).0 in
      let r = pull c w i (λ x j. h x (inr j)) k.1 in
      (y ∷ r.0, past ((k.0 c i).1 (omega arith)) r.1)

  module _ (c : ℕ × Call) where
    kept_in : {v w : List (ℕ × Call)} → Slides sheet c v w → (x : ℕ × Call) → In x v → In x w
    kept_in here x i = inr i
    kept_in (past n s) x (inl e) = inl e
    kept_in (past n s) x (inr i) = inr (kept_in s x i)

    back_in : {v w : List (ℕ × Call)} → Slides sheet c v w → (x : ℕ × Call) → In x w → (x ≡ c) ⊎ In x v
    back_in here x i = i
    back_in (past n s) x (inl e) = inr (inl e)
    back_in (past n s) x (inr i) = elim (back_in s x i) [ inl e ↦ inl e | inr j ↦ inr (inr j) ]

    c_in : {v w : List (ℕ × Call)} → Slides sheet c v w → In c w
    c_in here = inl refl
    c_in (past n s) = inr (c_in s)

    pairs_left : {v w : List (ℕ × Call)} → Slides sheet c v w → Pairs (After sheet) w → Pairs (After sheet) v
    pairs_left here k = k.1
    pairs_left (past n s) k = ((λ x i. k.0 x (kept_in s x i)), pairs_left s k.1)

    tag_gone : {v w : List (ℕ × Call)} → Slides sheet c v w → Pairs (After sheet) w → (x : ℕ × Call) → In x v → ¬ (x.0 ≡ c.0)
    tag_gone here k x i e = (k.0 x i).0 e
    tag_gone (past n s) k x (inl q) e = (k.0 c (c_in s)).0 (sym e ∙ ap (λ (z : ℕ × Call). z.0) q)
    tag_gone (past n s) k x (inr i) e = tag_gone s k.1 x i e

  build : (m : ℕ) (A : List Call) (w : List (ℕ × Call)) →
      ((x : ℕ × Call) → In x (numbered m A) → In x w) → ((x : ℕ × Call) → In x w → In x (numbered m A)) →
      Pairs (After sheet) w → Rearranged sheet (numbered m A) w
  build m [] [] h g k = same
  build m [] (y ∷ w) h g k = absurd (g y (inl refl))
  build m (c ∷ A) w h g k =
      let low : (x : ℕ × Call) → In x w → m ≤ x.0 = λ x i. let j = numbered_in m (c ∷ A) x (g x i) in omega arith in
      let r = pull (m, c) w (h (m, c) (inl refl)) low k in
      let s = r.1 in
      front
      (build (suc m) A r.0
      (λ x i. elim (back_in (m, c) s x (h x (inr i))) [
        | inl e ↦ (let j = numbered_in (suc m) A x i in let q : x.0 ≡ m = ap (λ (z : ℕ × Call). z.0) e in absurd (omega arith))
        | inr j ↦ j
      ])
      (λ x i. elim (g x (kept_in (m, c) s x i))
      [ inl e ↦ absurd (tag_gone (m, c) s k x i (ap (λ (z : ℕ × Call). z.0) e)) | inr j ↦ j ])
      (pairs_left (m, c) s k))
      s

in_numbered : {A : Type 0} (xs : List A) (i : ℕ) (x : A) → slice_get xs i ≡ Some x → In (i, x) (numbered 0 xs)
in_numbered xs i x e = subst (λ (n : ℕ). In (n, x) (numbered 0 xs)) (zero-add i) (numbered_at 0 xs i x e)

of_numbered : {A : Type 0} (xs : List A) (x : ℕ × A) → In x (numbered 0 xs) → slice_get xs x.0 ≡ Some x.1
of_numbered xs x i =
    let j = numbered_in 0 xs x i in
    let q : j.0 ≡ x.0 = omega arith in
    subst (λ (n : ℕ). slice_get xs n ≡ Some x.1) q j.2

module _ (sheet : Sheet) (A B : List Call) (p : List ℕ)
    (arr : Arrangement (length A) p) (fol : Follows A p B) (keeps : KeepsClashes sheet A p) where
  all_there : (x : ℕ × Call) → In x (numbered 0 A) → In x (beside p B)
  all_there x i =
      let e = of_numbered A x i in
      let k = arr.every x.0 (at_below A x.0 x.1 e) in
      at_in (beside p B) k.0 x (beside_at p B k.0 x.0 x.1 k.1 (fol.from k.0 x.0 k.1 ∙ e))

  of_A : (k : ℕ) (x : ℕ × Call) → slice_get (beside p B) k ≡ Some x → slice_get A x.0 ≡ Some x.1
  of_A k x e = let b = beside_back p B k x e in sym (fol.from k x.0 b.0) ∙ b.1

  none_else : (x : ℕ × Call) → In x (beside p B) → In x (numbered 0 A)
  none_else x i = let k = in_at (beside p B) x i in in_numbered A x.0 x.1 (of_A k.0 x k.1)

  in_order : Pairs (After sheet) (beside p B)
  in_order = pairs (After sheet) (beside p B) after
    where
      after : (k l : ℕ) (x y : ℕ × Call) → k < l → slice_get (beside p B) k ≡ Some y → slice_get (beside p B) l ≡ Some x → After sheet x y
      after k l x y lt f e =
          let bx = (beside_back p B l x e).0 in
          let by = (beside_back p B k y f).0 in (
            (λ q. let z = arr.only k l y.0 by (bx ∙ ap Some q) in omega arith),
            (λ less clash.
                let z = keeps x.0 y.0 x.1 y.1 less (of_A l x e) (of_A k y f) clash l k bx by in omega arith),
          )

  is_rearranged : Rearranged sheet (numbered 0 A) (beside p B)
  is_rearranged = build sheet 0 A (beside p B) all_there none_else in_order

pub order_free : OrderFree
order_free sheet bank d A B p arr fol keeps =
    let w = rearranged sheet bank (is_rearranged sheet A B p arr fol keeps) d in
    let many : length (run sheet bank B d).0 ≡ length p = length_results sheet bank B d ∙ fol.as_many in (
      record {
        as_many = many;
        from = λ k i e.
            let r = there p (run sheet bank B d).0 many k i e in
            let b = at_in (beside p (run sheet bank B d).0) k (i, r.0) (beside_at p (run sheet bank B d).0 k i r.0 e r.1) in
            let t = w.1 (i, r.0) (subst (λ l. In (i, r.0) l) (sym (tagged_beside sheet bank p B d)) b) in
            r.1 ∙ sym (of_numbered (run sheet bank A d).0 (i, r.0)
            (subst (λ l. In (i, r.0) l) (tagged_numbered sheet bank 0 A d) t));
      },
      λ t. ap (λ (D : Drawers). D t)
          (sym (left_beside sheet bank p B fol.as_many d) ∙ w.0 ∙ left_numbered sheet bank 0 A d),
    )
