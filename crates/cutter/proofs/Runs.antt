-- What begins at a place of some bytes: runs, numbers, texts and steps.
use Rattle.std.proofs.Common.{◌≡◌, ℕ, zero, suc, ◌+◌, ◌-◌, ◌<◌, ◌≤◌, true, false, cond, ltb, ◌⊎◌, inl, inr, List, [], ◌∷◌, length, get_or, take, drop, ℤ, Some, None, sym, refl, ap, ◌∙◌, arith}
use Rattle.std.proofs.lemmas.List.{at_drop_more, length-drop, drop-drop, get_or-drop}
use Rattle.std.proofs.lemmas.Bool.{and_parts, ltb-true, cases_lt}
use Rattle.std.proofs.lemmas.Bool.Decides.{nat_tests}
use Rattle.std.proofs.lemmas.List.Sums.{prefix_len_stops}
use Rattle.std.proofs.lemmas.Option.{none-some}
use Rattle.std.specs.List.{prefix_len}
use Rattle.numerals.specs.Decimal.{whole_of}
use Rattle.cutter.specs.Left.{slice}
use Rattle.cutter.specs.Lengths.{has, run, run_at, if_number, signed_length, number_length, onward, steps, step_length, steps_length, stands}
use Rattle.cutter.specs.declared.lengths.Class.{Class}
use Rattle.cutter.specs.declared.lengths.Class.TheVariants.{Is, Not}

-- numbers
some_digits : (src : List ℕ) (at n : ℕ) (z : ℤ) → Some z ≡ whole_of (slice src at (at + n)) → 0 < n
unfolding whole_of
some_digits src at zero z h =
    let none : whole_of (slice src at (at + 0)) ≡ None = ap (λ n. whole_of (take n (drop at src))) (let e : at + 0 - at ≡ 0 = omega arith in e) in
    absurd (none-some z (sym none ∙ sym h))
some_digits src at (suc n) z h = omega arith

pub number_some : (src : List ℕ) (at end : ℕ) (z : ℤ) → end ≡ at + signed_length src at → Some z ≡ whole_of (slice src at end) → (0 < number_length src at) × (end ≡ at + number_length src at)
unfolding number_length
number_some src at end z e h =
    let read : Some z ≡ whole_of (slice src at (at + signed_length src at)) = h ∙ ap (λ k. whole_of (slice src at k)) e in
    let all : number_length src at ≡ signed_length src at = ap (λ o. if_number o (signed_length src at)) (sym read) in
    (omega (arith, all, some_digits src at (signed_length src at) z read), omega (arith, e, all))

pub number_none : (src : List ℕ) (at end : ℕ) → end ≡ at + signed_length src at → None ≡ whole_of (slice src at end) → number_length src at ≡ 0
unfolding number_length
number_none src at end e h = ap (λ o. if_number o (signed_length src at)) (sym (h ∙ ap (λ k. whole_of (slice src at k)) e))

-- steps
skipped : (src : List ℕ) (at k : ℕ) (bs : List ℕ) → k ≤ length bs → steps src at k bs ≡ k + steps src (at + k) 0 (drop k bs)
skipped src at zero [] h = refl
skipped src at (suc k) [] h = absurd (omega arith)
skipped src at zero (b ∷ bs) h =
    let e : at ≡ at + 0 = omega arith in
    let f : steps src at 0 (b ∷ bs) ≡ steps src (at + 0) 0 (b ∷ bs) = ap (λ n. steps src n 0 (b ∷ bs)) e in
    omega (arith, f)
skipped src at (suc k) (b ∷ bs) h =
    let e : at + 1 + k ≡ at + suc k = omega arith in
    let f = skipped src (at + 1) k bs (omega arith) ∙ ap (λ n. k + steps src n 0 (drop k bs)) e in
    ap (λ n. 1 + n) f ∙ (let g : 1 + (k + steps src (at + suc k) 0 (drop k bs)) ≡ suc k + steps src (at + suc k) 0 (drop k bs) = omega arith in g)

-- one step on, and where there is none
pub steps_more : (src : List ℕ) (at : ℕ) → 0 < step_length src at → at + step_length src at ≤ length src → steps_length src at ≡ step_length src at + steps_length src (at + step_length src at)
unfolding steps_length
steps_more src at p h = go (step_length src at) refl p h
  where
    go : (n : ℕ) → n ≡ step_length src at → 0 < n → at + n ≤ length src → steps src at 0 (drop at src) ≡ n + steps src (at + n) 0 (drop (at + n) src)
    go zero e p h = absurd (omega arith)
    go (suc n) e p h =
        let lt : at < length src = omega arith in
        let e' : at + 1 + n ≡ at + suc n = omega arith in
        at_drop_more (steps src at 0) src at 0 lt
        ∙ ap (λ k. onward k (λ rest. steps src (at + 1) rest (drop (at + 1) src))) (sym e)
        ∙ ap (λ k. 1 + k) (skipped src (at + 1) n (drop (at + 1) src) (omega (arith, length-drop (at + 1) src)) ∙ ap (λ l. n + steps src (at + 1 + n) 0 l) (drop-drop n (at + 1) src) ∙ ap (λ k. n + steps src k 0 (drop k src)) e')
        ∙ (let g : 1 + (n + steps src (at + suc n) 0 (drop (at + suc n) src)) ≡ suc n + steps src (at + suc n) 0 (drop (at + suc n) src) = omega arith in g)

pub steps_none : (src : List ℕ) (at : ℕ) → step_length src at ≡ 0 → steps_length src at ≡ 0
unfolding steps_length
steps_none src at e = go (drop at src)
  where
    go : (bs : List ℕ) → steps src at 0 bs ≡ 0
    go [] = refl
    go (b ∷ bs) = ap (λ k. onward k (λ rest. steps src (at + 1) rest bs)) e

pub stands_within : (c : Class) (src : List ℕ) (at : ℕ) → true ≡ stands c src at → at < length src
stands_within c src at e = ltb-true at (length src) (and_parts (ltb at (length src)) (has c (get_or src at 0)) (sym e)).0

-- a run is the front that passes the test
pub run_is : (c : Class) (bs : List ℕ) → run c bs ≡ prefix_len (has c) bs
run_is c [] = refl
run_is c (b ∷ bs) = ap (λ n. cond (has c b) (1 + n) 0) (run_is c bs)

-- behind a run stands no byte of its class
pub run_stops : (c : Class) (src : List ℕ) (p at : ℕ) → p ≡ at + run_at c src at → p < length src → has c (get_or src p 0) ≡ false
unfolding run_at
run_stops c src p at e l =
    let n = prefix_len (has c) (drop at src) in
    let place : p ≡ at + n = e ∙ ap (λ k. at + k) (run_is c (drop at src)) in
    ap (λ k. has c (get_or src k 0)) place ∙ ap (has c) (sym (get_or-drop at src n 0)) ∙ prefix_len_stops (has c) (drop at src) 0 (omega (arith, place, length-drop at src))

-- behind all bytes but quotes stands a quote, if anything does
pub text_end : (q : ℕ) (src : List ℕ) (p at : ℕ) → p ≡ at + run_at (Not q) src at → stands (Is q) src p ≡ ltb p (length src)
text_end q src p at e = go (cases_lt p (length src))
  where
    go : (p < length src) ⊎ (length src ≤ p) → stands (Is q) src p ≡ ltb p (length src)
    go (inl l) = let stop = run_stops (Not q) src p at e l in grind (arith, nat_tests)
    go (inr l) = grind (arith, nat_tests)
