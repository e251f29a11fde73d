-- Calls that are made one after the other.
use Rattle.std.proofs.Common.{◌≡◌, ℕ, zero, suc, ◌+◌, ◌<◌, ◌≤◌, List, [], ◌∷◌, ◌++◌, length, map, take, drop, refl, ap, sym, ◌∙◌, arith, slice_set, get_or}
use Rattle.std.proofs.lemmas.List.{append_assoc, append-nil}
use Rattle.banks.specs.Meaning.{Meaning}
use Rattle.meaning.specs.Things.{Drawers}
use Rattle.meaning.specs.Calls.{Sheet, Call, Result, perform, run}

-- All calls come to what stands in front, of those that are made, and what the others come to from here.
pub record Ran (s : Sheet) (m : Meaning) (all : List Call) (d now : Drawers) (i : ℕ) (made : List Result) : Type 0 where
  pub is : run s m all d ≡ (made ++ (run s m (drop i all) now).0, (run s m (drop i all) now).1)

module _ (s : Sheet) (m : Meaning) (all : List Call) (d : Drawers) where
  pub ran_none : Ran s m all d d 0 []
  ran_none = record { is = refl }

  pub ran_more : (now after : Drawers) (i : ℕ) (made : List Result) (c : Call) (r : Result) → Ran s m all d now i made → drop i all ≡ c ∷ drop (i + 1) all → perform s m c now ≡ (r, after) → Ran s m all d after (i + 1) (made ++ (r ∷ []))
  ran_more now after i made c r h e p =
      let rest = drop (i + 1) all in
      let one : run s m (drop i all) now ≡ (r ∷ (run s m rest after).0, (run s m rest after).1) = ap (λ l. run s m l now) e ∙ ap (λ q. (q.0 ∷ (run s m rest q.1).0, (run s m rest q.1).1)) p in
      record { is = h.is ∙ ap (λ q. (made ++ q.0, q.1)) one ∙ ap (λ l. (l, (run s m rest after).1)) (sym (append_assoc made (r ∷ []) (run s m rest after).0)) }

  nothing_left : {A : Type 0} (xs : List A) (i : ℕ) → length xs ≤ i → drop i xs ≡ []
  nothing_left [] zero l = refl
  nothing_left [] (suc i) l = refl
  nothing_left (x ∷ xs) zero l = absurd (omega arith)
  nothing_left (x ∷ xs) (suc i) l = nothing_left xs i (omega (arith, l))

  pub ran_all : (now : Drawers) (i : ℕ) (made : List Result) → Ran s m all d now i made → length all ≤ i → run s m all d ≡ (made, now)
  ran_all now i made h l =
      h.is ∙ ap (λ cs. (made ++ (run s m cs now).0, (run s m cs now).1)) (nothing_left all i l) ∙ ap (λ rs. (rs, now)) (append-nil made)

-- a list of which one element is another
module _ {A B : Type 0} (f : A → B) where
  dropped : (xs : List A) (i : ℕ) (x : A) → i < length xs → x ≡ get_or xs i x → drop i (map f xs) ≡ f x ∷ drop (suc i) (map f xs)
  dropped [] i x l e = absurd (omega arith)
  dropped (y ∷ xs) zero x l e = ap (λ z. f z ∷ map f xs) (sym e)
  dropped (y ∷ xs) (suc i) x l e = dropped xs i x (omega arith) e

  taken : (xs : List A) (i : ℕ) (y : A) → i < length xs → map f (take (suc i) (slice_set xs i y)) ≡ map f (take i xs) ++ (f y ∷ [])
  taken [] i y l = absurd (omega arith)
  taken (x ∷ xs) zero y l = refl
  taken (x ∷ xs) (suc i) y l = ap (λ t. f x ∷ t) (taken xs i y (omega arith))

  pub same_set : (xs : List A) (i : ℕ) (x y : A) → x ≡ get_or xs i x → f y ≡ f x → map f (slice_set xs i y) ≡ map f xs
  same_set [] i x y e h = refl
  same_set (z ∷ xs) zero x y e h = ap (λ b. b ∷ map f xs) (h ∙ ap f e)
  same_set (z ∷ xs) (suc i) x y e h = ap (λ t. f z ∷ t) (same_set xs i x y e h)

  pub dropped_at : (xs : List A) (i : ℕ) (x : A) → i < length xs → x ≡ get_or xs i x → drop i (map f xs) ≡ f x ∷ drop (i + 1) (map f xs)
  dropped_at xs i x l e = dropped xs i x l e ∙ ap (λ j. f x ∷ drop j (map f xs)) (let q : suc i ≡ i + 1 = omega arith in q)

  pub taken_at : (xs : List A) (i : ℕ) (y : A) → i < length xs → map f (take (i + 1) (slice_set xs i y)) ≡ map f (take i xs) ++ (f y ∷ [])
  taken_at xs i y l = ap (λ j. map f (take j (slice_set xs i y))) (let q : i + 1 ≡ suc i = omega arith in q) ∙ taken xs i y l
