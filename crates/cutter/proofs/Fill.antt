-- The tokens as written and the blanks between them are the inside.
use Rattle.std.proofs.Common.{◌≡◌, ℕ, zero, suc, ◌+◌, ◌-◌, ◌<◌, ◌≤◌, min, Bool, true, false, cond, ◌⊎◌, List, [], ◌∷◌, ◌++◌, length, take, drop, sym, refl, ap, ◌∙◌, subst, inl, inr, arith}
use Rattle.std.proofs.lemmas.List.{take-append-drop, drop-drop, drop_all, length-take-le, length-take, length-drop, append-nil}
use Rattle.std.proofs.lemmas.Bool.{and_from, cases_lt}
use Rattle.cutter.specs.Left.{slice}
use Rattle.cutter.specs.Lengths.{is_blank, run, run_at, token_length}
use Rattle.cutter.specs.declared.lengths.Class.TheVariants.{Blank}
use Rattle.cutter.specs.Words.{Words, over, words_from, all_blank, Fills, TokensFill, TokensFillFrom}
use Rattle.cutter.proofs.Filled.{ends, over_there, no_token, token}
use Rattle.cutter.proofs.Parts.{run_short}

blank_run : (bs : List ℕ) → all_blank (take (run Blank bs) bs) ≡ true
blank_run [] = refl
blank_run (b ∷ bs) = go (is_blank b) refl (blank_run bs)
  where
    go : (t : Bool) → is_blank b ≡ t → all_blank (take (run Blank bs) bs) ≡ true → all_blank (take (cond t (1 + run Blank bs) 0) (b ∷ bs)) ≡ true
    go true e ih =
        let g : suc (run Blank bs) ≡ 1 + run Blank bs = omega arith in
        ap (λ n. all_blank (take n (b ∷ bs))) (sym g) ∙ and_from (is_blank b) (all_blank (take (run Blank bs) bs)) e ih
    go false e ih = refl

module _ (src : List ℕ) where
  abbrev gap : ℕ → List ℕ
  gap at = take (run_at Blank src at) (drop at src)

  gap_blank : (at : ℕ) → all_blank (gap at) ≡ true
  unfolding run_at
  gap_blank at = blank_run (drop at src)

  gap_length : (at : ℕ) → length (gap at) ≡ run_at Blank src at
  unfolding run_at
  gap_length at = length-take-le (run Blank (drop at src)) (drop at src) (run_short Blank (drop at src))

  gap_joins : (at : ℕ) → drop at src ≡ gap at ++ drop (at + run_at Blank src at) src
  gap_joins at = sym (take-append-drop (run_at Blank src at) (drop at src)) ∙ ap (λ l. gap at ++ l) (drop-drop (run_at Blank src at) at src)

  token_joins : (p n : ℕ) → drop p src ≡ slice src p (p + n) ++ drop (p + n) src
  token_joins p n =
      let e : n ≡ p + n - p = omega arith in
      sym (take-append-drop n (drop p src)) ∙ ap (λ l. take n (drop p src) ++ l) (drop-drop n p src) ∙ ap (λ m. take m (drop p src) ++ drop (p + n) src) e

  token_length_lem : (p n : ℕ) → length (slice src p (p + n)) ≡ min n (length src - p)
  token_length_lem p n =
      let e : p + n - p ≡ n = omega arith in
      ap (λ m. length (take m (drop p src))) e ∙ length-take n (drop p src) ∙ ap (λ m. min n m) (length-drop p src)

  over_fills : (at : ℕ) → length src ≤ at + run_at Blank src at → Fills at (drop at src) over
  over_fills at h =
      subst (λ (l : List ℕ). all_blank l ≡ true) (sym (gap_joins at ∙ ap (λ l. gap at ++ l) (drop_all (at + run_at Blank src at) src h) ∙ append-nil (gap at))) (gap_blank at)

  behind_fills : (p n : ℕ) → Fills (p + n) (drop (p + n) src) (words_from src (p + n)) → Fills (p + length (slice src p (p + n))) (drop (p + n) src) (words_from src (p + n))
  behind_fills p n f = go (cases_lt (length src) (p + n))
    where
      go : (length src < p + n) ⊎ (p + n ≤ length src) → Fills (p + length (slice src p (p + n))) (drop (p + n) src) (words_from src (p + n))
      go (inr h) = subst (λ (m : ℕ). Fills (p + m) (drop (p + n) src) (words_from src (p + n))) (let e : n ≡ length (slice src p (p + n)) = omega (arith, token_length_lem p n) in e) f
      go (inl h) = subst (λ (w : Words). Fills (p + length (slice src p (p + n))) (drop (p + n) src) w) (sym (ends src (p + n) (omega arith))) (ap all_blank (drop_all (p + n) src (omega arith)))

  fills : (fuel at : ℕ) → length src ≤ at + fuel → Fills at (drop at src) (words_from src at)
  fills zero at h = subst (λ (w : Words). Fills at (drop at src) w) (sym (ends src at (omega arith))) (ap all_blank (drop_all at src (omega arith)))
  fills (suc fuel) at h = go (cases_lt p (length src)) (cases_lt 0 (token_length src p)) (λ p l. fills fuel p l)
    where
      p : ℕ
      p = at + run_at Blank src at

      go : (p < length src) ⊎ (length src ≤ p) → (0 < token_length src p) ⊎ (token_length src p ≤ 0) → ((p : ℕ) → length src ≤ p + fuel → Fills p (drop p src) (words_from src p)) → Fills at (drop at src) (words_from src at)
      go (inr l) t ih = subst (λ (w : Words). Fills at (drop at src) w) (sym (over_there src at p refl l)) (over_fills at l)
      go (inl l) (inr t) ih =
          subst (λ (w : Words). Fills at (drop at src) w) (sym (no_token src at p refl l (omega arith)))
          (gap at, drop p src, gap_joins at, gap_blank at, ap (λ n. at + n) (sym (gap_length at)))
      go (inl l) (inl t) ih =
          let n = token_length src p in
          subst (λ (w : Words). Fills at (drop at src) w) (sym (token src at p refl l t))
          (gap at, drop (p + n) src, gap_joins at ∙ ap (λ l. gap at ++ l) (token_joins p n), gap_blank at, ap (λ n. at + n) (sym (gap_length at)), omega (arith, token_length_lem p n), behind_fills p n (ih (p + n) (omega arith)))

pub tokens_fill_from : TokensFillFrom
tokens_fill_from src at = fills src (length src) at (omega arith)

-- the laws at place 0
pub tokens_fill : TokensFill
tokens_fill inside = tokens_fill_from inside 0
