-- The open frames, the innermost first, as one of a table is opened, closed or changed.
use Rattle.std.proofs.Common.{◌≡◌, ℕ, zero, suc, ◌+◌, ◌-◌, ◌<◌, ◌≤◌, List, [], ◌∷◌, map, reverse, length, get_or, take, drop, sym, refl, ap, ◌∙◌, arith}
use Rattle.std.proofs.lemmas.List.{take_more, reverse-append, length-reverse, length-take-le}

-- the first k of a table, the last of them first
abbrev pub opened : {X : Type 0} → ℕ → List X → List X
opened k t = reverse (take k t)

module _ {X : Type 0} where
  pub opened_more : (t : List X) (k : ℕ) (d : X) → k < length t → opened (k + 1) t ≡ get_or t k d ∷ opened k t
  opened_more t k d l = ap reverse (take_more t k d l) ∙ reverse-append (take k t) (get_or t k d ∷ [])

  pub opened_length : (t : List X) (k : ℕ) → k ≤ length t → length (opened k t) ≡ k
  opened_length t k l = length-reverse (take k t) ∙ length-take-le k t l

  pub opened_last : (t : List X) (n : ℕ) (d : X) → 0 < n → n ≤ length t → opened n t ≡ get_or t (n - 1) d ∷ opened (n - 1) t
  opened_last t n d p l = ap (λ k. opened k t) (let e : n ≡ n - 1 + 1 = omega arith in e) ∙ opened_more t (n - 1) d (omega arith)

  pub opened_less : (t : List X) (n : ℕ) → n ≤ length t → opened (n - 1) t ≡ drop 1 (opened n t)
  opened_less t zero l = refl
  opened_less [] (suc n) l = absurd (omega arith)
  opened_less (x ∷ t) (suc n) l = ap (drop 1) (sym (opened_last (x ∷ t) (suc n) x (omega arith) l))

pub opened_drop : {X Y : Type 0} (f : X → Y) (t : List X) (i m n : ℕ) → i + n ≡ m → m ≤ length t → drop i (map f (opened m t)) ≡ map f (opened n t)
opened_drop f t zero m n e l = ap (λ k. map f (opened k t)) (let q : m ≡ n = omega arith in q)
opened_drop f [] (suc i) m n e l = absurd (omega arith)
opened_drop f (x ∷ t) (suc i) m n e l =
    ap (λ fs. drop (suc i) (map f fs)) (opened_last (x ∷ t) m x (omega arith) l) ∙ opened_drop f (x ∷ t) i (m - 1) n (omega arith) (omega arith)
