-- The whole numbers between two, by place.
use Rattle.std.proofs.Common.{◌≡◌, ℕ, ◌<◌, ◌≤◌, min, ◌⊎◌, length, ℤ, pos, negsuc, ◌+ℤ◌, ◌-ℤ◌, ◌≤ℤ◌, ◌<ℤ◌, Some, refl, ap, ◌∙◌, inl, inr, arith}
use Rattle.std.specs.List.{slice_get}
use Rattle.std.proofs.lemmas.List.FromFn.{length-map-range_with_len}
use Rattle.std.proofs.lemmas.Int.{ints}
use Rattle.std.proofs.lemmas.Bool.{cases_lt}
use Rattle.rows.specs.Counted.{natural_part, numbers_from, how_many, between, held, Counts}
use Rattle.rows.proofs.Cuts.{nth_counted, nth_uncounted}

-- the item at a place
at : (from : ℤ) (n k : ℕ) (z : ℤ) → slice_get (numbers_from from n) k ≡ Some z → (k < n) × (z ≡ from +ℤ pos k)
at from n k z e = go (cases_lt k n)
  where
    go : (k < n) ⊎ (n ≤ k) → (k < n) × (z ≡ from +ℤ pos k)
    go (inl l) = let h = nth_counted (λ i. from +ℤ pos i) n k l in (l, let q : z ≡ from +ℤ pos k = cc in q)
    go (inr l) = let h = nth_uncounted (λ i. from +ℤ pos i) n k l in let q : ◌≡◌ {A = ℕ} 0 1 = cc in absurd (omega arith)

natural_lt : (z : ℤ) (k : ℕ) → k < natural_part z → pos k <ℤ z
natural_lt (pos n) k l = omega (arith, ints)
natural_lt (negsuc n) k l = absurd (omega arith)

natural_is : (z : ℤ) → pos 0 ≤ℤ z → pos (natural_part z) ≡ z
natural_is (pos n) h = refl
natural_is (negsuc n) h = absurd (omega (arith, ints))

natural_mono : (y z : ℤ) → pos 0 ≤ℤ y → y <ℤ z → natural_part y < natural_part z
natural_mono y z h l = let a = natural_is y h in let b = natural_is z (omega (arith, ints)) in omega (arith, ints)

pub held_length : (from to : ℤ) → length (held from to) ≡ min (how_many from to) 4096
held_length from to = length-map-range_with_len (λ k. from +ℤ pos k) 0 (min (how_many from to) 4096)

pub held_at : (from to : ℤ) (k : ℕ) → k < length (held from to) → (slice_get (held from to) k ≡ Some (from +ℤ pos k)) × (pos k <ℤ ((to -ℤ from) +ℤ pos 1)) × (k < 4096)
held_at from to k l =
    let h : k < min (how_many from to) 4096 = omega (arith, held_length from to) in
    (nth_counted (λ i. from +ℤ pos i) (min (how_many from to) 4096) k h, natural_lt ((to -ℤ from) +ℤ pos 1) k (omega arith), omega arith)

pub numbers_between : (from to : ℤ) → Counts from to (between from to)
numbers_between from to =
    record {
      inside = λ k z e. (let a = at from (how_many from to) k z e in let l = natural_lt ((to -ℤ from) +ℤ pos 1) k a.0 in (omega (arith, ints, a.1), omega (arith, ints, a.1)));
      each = λ z p q. (
          let d = natural_is (z -ℤ from) (omega (arith, ints)) in
          let l = natural_mono (z -ℤ from) ((to -ℤ from) +ℤ pos 1) (omega (arith, ints)) (omega (arith, ints)) in
          (natural_part (z -ℤ from), nth_counted (λ i. from +ℤ pos i) (how_many from to) (natural_part (z -ℤ from)) l ∙ ap Some (let e : from +ℤ pos (natural_part (z -ℤ from)) ≡ z = omega (arith, ints) in e)));
      rising = λ j k y z l e f. (let a = at from (how_many from to) j y e in let b = at from (how_many from to) k z f in omega (arith, ints, a.1, b.1));
    }
