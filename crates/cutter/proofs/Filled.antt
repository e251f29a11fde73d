-- Blanks, a token and the end, at a place of an inside.
use Rattle.std.proofs.Common.{◌≡◌, ℕ, zero, suc, ◌+◌, ◌<◌, ◌≤◌, min, Bool, true, false, cond, ◌⊎◌, List, [], ◌∷◌, length, get_or, drop, sym, refl, ap, ◌∙◌, inl, inr, arith}
use Rattle.std.proofs.lemmas.List.{at_drop_more, at_drop_all, drop-drop}
use Rattle.std.proofs.lemmas.Bool.{cond-true, cond-false, cases_lt}
use Rattle.cutter.specs.Left.{slice}
use Rattle.cutter.specs.Lengths.{is_blank, run, run_at, token_length}
use Rattle.cutter.specs.declared.lengths.Class.TheVariants.{Blank}
use Rattle.cutter.specs.Words.{Words, over, wrong, word, begun, lex, words_from}
use Rattle.cutter.proofs.Runs.{run_stops}

-- the blanks at the front are passed over
past : (src : List ℕ) (at : ℕ) (bs : List ℕ) → lex src at 0 bs ≡ lex src (at + run Blank bs) 0 (drop (run Blank bs) bs)
past src at [] = refl
past src at (b ∷ bs) = go (is_blank b) refl (past src (at + 1) bs)
  where
    go : (t : Bool) → is_blank b ≡ t → lex src (at + 1) 0 bs ≡ lex src (at + 1 + run Blank bs) 0 (drop (run Blank bs) bs) → lex src at 0 (b ∷ bs) ≡ lex src (at + cond t (1 + run Blank bs) 0) 0 (drop (cond t (1 + run Blank bs) 0) (b ∷ bs))
    go true e ih =
        let f : at + 1 + run Blank bs ≡ at + (1 + run Blank bs) = omega arith in
        let g : suc (run Blank bs) ≡ 1 + run Blank bs = omega arith in
        cond-true (is_blank b) _ _ e ∙ ih ∙ ap (λ n. lex src n 0 (drop (run Blank bs) bs)) f ∙ ap (λ n. lex src (at + (1 + run Blank bs)) 0 (drop n (b ∷ bs))) g
    go false e ih = let f : at ≡ at + 0 = omega arith in ap (λ n. lex src n 0 (b ∷ bs)) f

pub blanks_past : (src : List ℕ) (at : ℕ) → words_from src at ≡ words_from src (at + run_at Blank src at)
unfolding words_from run_at
blanks_past src at = past src at (drop at src) ∙ ap (λ l. lex src (at + run Blank (drop at src)) 0 l) (drop-drop (run Blank (drop at src)) at src)

pub ends : (src : List ℕ) (at : ℕ) → length src ≤ at → words_from src at ≡ over
unfolding words_from
ends src at h = at_drop_all (lex src at 0) src at h

-- a place behind the end has no token, as the end has none
pub starts : (src : List ℕ) (place from : ℕ) → from ≡ min place (length src) → words_from src from ≡ words_from src place
starts src place from e = go (cases_lt place (length src))
  where
    go : (place < length src) ⊎ (length src ≤ place) → words_from src from ≡ words_from src place
    go (inl h) = ap (λ n. words_from src n) (let f : from ≡ place = omega arith in f)
    go (inr h) = ends src from (omega arith) ∙ sym (ends src place h)

skip : (src : List ℕ) (at k : ℕ) (bs : List ℕ) → lex src at k bs ≡ lex src (at + k) 0 (drop k bs)
skip src at zero bs = let f : at ≡ at + 0 = omega arith in ap (λ n. lex src n 0 bs) f
skip src at (suc k) [] = refl
skip src at (suc k) (b ∷ bs) = let f : at + 1 + k ≡ at + suc k = omega arith in skip src (at + 1) k bs ∙ ap (λ n. lex src n 0 (drop k bs)) f

-- from `at` on, with the first byte that is no blank at p
module _ (src : List ℕ) (at p : ℕ) (is : p ≡ at + run_at Blank src at) where
  pub start : words_from src at ≡ words_from src p
  start = blanks_past src at ∙ ap (words_from src) (sym is)

  pub over_there : length src ≤ p → words_from src at ≡ over
  over_there h = start ∙ ends src p h

  here : p < length src → words_from src p ≡ begun src p (token_length src p) (λ rest. lex src (p + 1) rest (drop (p + 1) src))
  unfolding words_from
  here h = at_drop_more (lex src p 0) src p 0 h ∙ cond-false (is_blank (get_or src p 0)) _ _ (run_stops Blank src p at is h)

  pub no_token : p < length src → token_length src p ≡ 0 → words_from src at ≡ wrong p
  no_token h z = start ∙ here h ∙ ap (λ n. begun src p n (λ rest. lex src (p + 1) rest (drop (p + 1) src))) z

  pub token : p < length src → 0 < token_length src p → words_from src at ≡ word p (slice src p (p + token_length src p)) (words_from src (p + token_length src p))
  unfolding words_from
  token h l = start ∙ here h ∙ go (token_length src p) refl
    where
      go : (n : ℕ) → n ≡ token_length src p → begun src p n (λ rest. lex src (p + 1) rest (drop (p + 1) src)) ≡ word p (slice src p (p + n)) (lex src (p + n) 0 (drop (p + n) src))
      go zero e = absurd (omega (arith, l, e))
      go (suc n) e =
          let f : p + 1 + n ≡ p + suc n = omega arith in
          ap (word p (slice src p (p + suc n))) (skip src (p + 1) n (drop (p + 1) src) ∙ ap (λ l. lex src (p + 1 + n) 0 l) (drop-drop n (p + 1) src) ∙ ap (λ n. lex src n 0 (drop n src)) f)

-- how many tokens are ahead
abbrev pub word_count : Words → ℕ
word_count over = 0
word_count (wrong place) = 0
word_count (word place bytes rest) = suc (word_count rest)
