-- Each token stands in the source at its place.
use Rattle.std.proofs.Common.{◌≡◌, ℕ, zero, suc, ◌+◌, ◌-◌, ◌<◌, ◌≤◌, ◌⊎◌, List, length, take, drop, sym, refl, ap, ◌∙◌, subst, inl, inr, arith}
use Rattle.std.proofs.lemmas.List.{length-take, length-drop}
use Rattle.std.proofs.lemmas.Bool.{cases_lt}
use Rattle.cutter.specs.Left.{slice}
use Rattle.cutter.specs.Lengths.{run_at, token_length}
use Rattle.cutter.specs.declared.lengths.Class.TheVariants.{Blank}
use Rattle.cutter.specs.Words.{words_from, Standing, Stand, TokensStand}
use Rattle.cutter.proofs.Filled.{ends, over_there, no_token, token}
use Rattle.cutter.proofs.Parts.{front_is}

module _ (src : List ℕ) where
  standing : (at p n : ℕ) → at ≤ p → p < length src → Standing src at p (slice src p (p + n))
  standing at p n h l =
      let k = length (slice src p (p + n)) in
      record { from = h; to = omega (arith, length-take (p + n - p) (drop p src), length-drop p src); is = front_is (p + n - p) (drop p src) ∙ ap (λ m. take m (drop p src)) (let e : k ≡ p + k - p = omega arith in e) }

  behind : (p n : ℕ) → Stand src (p + n) (words_from src (p + n)) → Stand src (p + length (slice src p (p + n))) (words_from src (p + n))
  behind p n s = go (cases_lt (length src) (p + n))
    where
      go : (length src < p + n) ⊎ (p + n ≤ length src) → Stand src (p + length (slice src p (p + n))) (words_from src (p + n))
      go (inl h) = subst (Stand src (p + length (slice src p (p + n)))) (sym (ends src (p + n) (omega arith))) tt
      go (inr h) =
          subst (λ (m : ℕ). Stand src (p + m) (words_from src (p + n)))
          (let e : n ≡ length (slice src p (p + n)) = omega (arith, length-take (p + n - p) (drop p src), length-drop p src) in e) s

  stand : (fuel at : ℕ) → length src ≤ at + fuel → Stand src at (words_from src at)
  stand zero at h = subst (Stand src at) (sym (ends src at (omega arith))) tt
  stand (suc fuel) at h = go (cases_lt p (length src)) (cases_lt 0 (token_length src p)) (λ p l. stand fuel p l)
    where
      p : ℕ
      p = at + run_at Blank src at

      go : (p < length src) ⊎ (length src ≤ p) → (0 < token_length src p) ⊎ (token_length src p ≤ 0) → ((p : ℕ) → length src ≤ p + fuel → Stand src p (words_from src p)) → Stand src at (words_from src at)
      go (inr l) t ih = subst (Stand src at) (sym (over_there src at p refl l)) tt
      go (inl l) (inr t) ih = subst (Stand src at) (sym (no_token src at p refl l (omega arith))) (omega arith, l)
      go (inl l) (inl t) ih =
          let n = token_length src p in
          subst (Stand src at) (sym (token src at p refl l t))
          (standing at p n (omega arith) l, behind p n (ih (p + n) (omega arith)))

pub tokens_stand : TokensStand
tokens_stand src at = stand src (length src) at (omega arith)
