-- The tokens of a mark.
use Rattle.std.proofs.Common.{◌≡◌, ℕ, ◌+◌, ◌-◌, ◌<◌, ◌≤◌, ◌⊎◌, inl, inr, true, leb, List, length, take, drop, min, sym, refl, ap, ◌∙◌, subst, arith}
use Rattle.std.proofs.lemmas.Bool.{le-leb, and_from, cases_lt}
use Rattle.std.proofs.lemmas.List.{length-take, take-take, drop-take, take_min}
use Rattle.std.proofs.lemmas.Slice.Eq.{bytes_eq-Decides}
use Rattle.std.specs.Str.{bytes_eq}
use Rattle.cutter.specs.Left.{slice}
use Rattle.cutter.specs.Words.{Words, over, wrong, word, words_from, Stand, TokensStand}
use Rattle.cutter.proofs.Filled.{ends}
use Rattle.arguments.specs.Standing.{stands_at, standing}
use Rattle.arguments.specs.Marks.{inside}

-- places past the largest number are past the source too
pub inside_is : (source : List ℕ) (p : ℕ) (b : List ℕ) (top from sum to : ℕ) → length source ≤ top → from ≡ min (p + 2) top → sum ≡ min (from + length b) top → to ≡ min sum (length source) →
    words_from (take to source) from ≡ inside source p b
inside_is source p b top from sum to h f s t = go (cases_lt top (p + 2))
  where
    front : take to source ≡ take (p + 2 + length b) source
    front = ap (λ n. take n source) (let e : to ≡ min (p + 2 + length b) (length source) = omega (arith, h, f, s, t) in e) ∙ take_min (p + 2 + length b) source

    past : (n : ℕ) → length source ≤ n → words_from (take (p + 2 + length b) source) n ≡ over
    past n l = ends (take (p + 2 + length b) source) n (omega (arith, l, length-take (p + 2 + length b) source))

    go : (top < p + 2) ⊎ (p + 2 ≤ top) → words_from (take to source) from ≡ inside source p b
    go (inl l) = ap (λ x. words_from x from) front ∙ past from (omega (arith, h, f, l)) ∙ sym (past (p + 2) (omega (arith, h, l)))
    go (inr l) = ap (λ x. words_from x from) front ∙ ap (words_from (take (p + 2 + length b) source)) (let e : from ≡ p + 2 = omega (arith, f, l) in e)

-- what stands in the front of a source stands in the source
pub front_stands : (source : List ℕ) (n at : ℕ) (w : Words) → Stand (take n source) at w → standing source w ≡ true
front_stands source n at over h = refl
front_stands source n at (wrong p) h = refl
front_stands source n at (word p b rest) h =
    let s = h.0 in
    let m = length b in
    let long : length (take n source) ≡ min n (length source) = length-take n source in
    let fits : p + m ≤ length source = omega (arith, long, s.to) in
    let there : b ≡ take m (drop p source) =
    s.is ∙ ap (λ k. take k (drop p (take n source))) (let e : p + m - p ≡ m = omega arith in e)
    ∙ ap (λ k. take m (drop p (take k source))) (let e : n ≡ p + (n - p) = omega (arith, long, s.to) in e)
    ∙ ap (take m) (drop-take p (n - p) source) ∙ take-take m (n - p) (drop p source) (omega (arith, long, s.to)) in
    and_from (stands_at source p b) (standing source rest)
    (and_from (leb (p + m) (length source)) (bytes_eq b (take m (drop p source))) (le-leb (p + m) (length source) fits) ((bytes_eq-Decides b (take m (drop p source))).1 there))
    (front_stands source n (p + m) rest h.1)

pub marks_stand : TokensStand → (source : List ℕ) (n at : ℕ) → standing source (words_from (take n source) at) ≡ true
marks_stand law source n at = front_stands source n at (words_from (take n source) at) (law (take n source) at)
