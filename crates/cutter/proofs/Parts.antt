-- The texts of a token's reading are parts of the token as written.
use Rattle.std.proofs.Common.{◌≡◌, ℕ, zero, suc, ◌+◌, ◌-◌, ◌^◌, ◌<◌, ◌≤◌, ltb, List, [], ◌∷◌, length, get_or, take, drop, ℤ, Some, None, codes, Option, sym, refl, ap, ◌∙◌, arith}
use Rattle.std.specs.Str.{bytes_eq}
use Rattle.std.proofs.lemmas.List.{take-append-drop, length-take, length-drop}
use Rattle.std.proofs.lemmas.List.Sums.{prefix_len-le-length}
use Rattle.std.proofs.lemmas.Bool.{cond_both}
use Rattle.numerals.specs.Decimal.{whole_of}
use Rattle.cutter.specs.Left.{slice}
use Rattle.cutter.specs.Lengths.{has, stands, run, run_at, name_length, symbol_of}
use Rattle.cutter.specs.Tokens.{is_nil, is_text, is_path, word_of, name_of, bound_from, bound_to, second, range_of, plain_of, token_of, Part, Parts, ReadsParts}
use Rattle.cutter.specs.declared.lengths.Symbol.{Symbol}
use Rattle.cutter.specs.declared.lengths.Class.{Class}
use Rattle.cutter.specs.declared.lengths.Class.TheVariants.{Blank, Initial, Quote, Is}
use Rattle.cutter.proofs.Runs.{stands_within, run_is}

pub run_short : (c : Class) (bs : List ℕ) → run c bs ≤ length bs
run_short c bs = omega (arith, run_is c bs, prefix_len-le-length (has c) bs)

pub runs_within : (c : Class) (bs : List ℕ) (at : ℕ) → at ≤ length bs → at + run_at c bs at ≤ length bs
unfolding run_at
runs_within c bs at h = omega (arith, run_short c (drop at bs), length-drop at bs)

-- a front is what its length takes
pub front_is : (n : ℕ) (l : List ℕ) → take n l ≡ take (length (take n l)) l
front_is zero l = refl
front_is (suc n) [] = refl
front_is (suc n) (b ∷ l) = ap (λ t. b ∷ t) (front_is n l)

pub slice_part : (p : ℕ) (bs : List ℕ) (i j : ℕ) → i ≤ length bs → Part p bs (p + i) (slice bs i j)
slice_part p bs i j h =
    record { from = omega arith; to = omega (arith, length-take (j - i) (drop i bs), length-drop i bs); is = front_is (j - i) (drop i bs) ∙ ap (λ n. take (length (slice bs i j)) (drop n bs)) (let e : i ≡ p + i - p = omega arith in e) }

word_parts : (p : ℕ) (bs : List ℕ) → Parts p bs (word_of bs)
word_parts p bs =
    cond_both (bytes_eq bs (codes "nil")) _ _ (Parts p bs) (λ _. tt)
    (λ _. cond_both (bytes_eq bs (codes "true")) _ _ (Parts p bs) (λ _. tt)
    (λ _. cond_both (bytes_eq bs (codes "false")) _ _ (Parts p bs) (λ _. tt) (λ _. refl)))

name_parts : (p : ℕ) (bs : List ℕ) (n : ℕ) → Parts p bs (name_of bs n)
name_parts p bs n =
    cond_both (ltb n (length bs)) (is_path (take n bs) (drop n bs)) (word_of bs) (Parts p bs) (λ _. sym (take-append-drop n bs)) (λ _. word_parts p bs)

range_parts : (p : ℕ) (bs : List ℕ) → 0 < length bs → Parts p bs (range_of p bs)
range_parts p bs h =
    cond_both (ltb (p + length bs) (2 ^ 64)) _ is_nil (Parts p bs)
    (λ _. (slice_part p bs (bound_from bs 1) (bound_to bs 1) (runs_within Blank bs 1 (omega arith)), slice_part p bs (bound_from bs (second bs)) (bound_to bs (second bs)) (runs_within Blank bs (second bs) (omega arith))))
    (λ _. tt)

plain_parts : (p : ℕ) (bs : List ℕ) (n : Option ℤ) (s : Option Symbol) → Parts p bs (plain_of n s)
plain_parts p bs (Some z) s = tt
plain_parts p bs None (Some s) = tt
plain_parts p bs None None = tt

pub reads_parts : ReadsParts
unfolding token_of
reads_parts p bs =
    cond_both (stands Initial bs 0) _ _ (Parts p bs) (λ _. name_parts p bs (name_length bs 0))
    (λ _. cond_both (stands Quote bs 0) _ _ (Parts p bs) (λ e. text (stands_within Quote bs 0 (sym e)))
    (λ _. cond_both (stands (Is 40) bs 0) _ _ (Parts p bs) (λ e. range_parts p bs (stands_within (Is 40) bs 0 (sym e)))
    (λ _. plain_parts p bs (whole_of bs) (symbol_of (get_or bs 0 0) (get_or bs 1 0)))))
  where
    text : 0 < length bs → Parts p bs (is_text (take (length bs - 2) (drop 1 bs)))
    text h = (omega (arith, length-take (length bs - 2) (drop 1 bs), length-drop 1 bs), front_is (length bs - 2) (drop 1 bs))
