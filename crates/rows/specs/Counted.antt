-- The whole numbers between two.
use Rattle.std.specs.Prelude.{◌≡◌, ℕ, ◌<◌, min, List, map, ℤ, pos, negsuc, ◌+ℤ◌, ◌-ℤ◌, ◌≤ℤ◌, ◌<ℤ◌, Some}
use Rattle.std.specs.List.{range_with_len, slice_get}

-- a whole number, or 0 where it is below 0
abbrev pub natural_part : ℤ → ℕ
natural_part (pos n) = n
natural_part (negsuc n) = 0

-- from, from + 1, .., in all n numbers
abbrev pub numbers_from : ℤ → ℕ → List ℤ
numbers_from from n = map (λ k. from +ℤ pos k) (range_with_len 0 n)

-- how many whole numbers lie from .. to, both counted
abbrev pub how_many : ℤ → ℤ → ℕ
how_many from to = natural_part ((to -ℤ from) +ℤ pos 1)

-- the whole numbers from .. to, both counted; none where to is below from
abbrev pub between : ℤ → ℤ → List ℤ
between from to = numbers_from from (how_many from to)

-- the first 4,096 of them at most
abbrev pub held : ℤ → ℤ → List ℤ
held from to = numbers_from from (min (how_many from to) 4096)

-- xs holds just the whole numbers from .. to, in rising order
pub record Counts (from to : ℤ) (xs : List ℤ) : Type 0 where
  pub inside : (k : ℕ) (z : ℤ) → slice_get xs k ≡ Some z → (from ≤ℤ z) × (z ≤ℤ to)
  pub each : (z : ℤ) → from ≤ℤ z → z ≤ℤ to → (k : ℕ) × (slice_get xs k ≡ Some z)
  pub rising : (j k : ℕ) (y z : ℤ) → j < k → slice_get xs j ≡ Some y → slice_get xs k ≡ Some z → y <ℤ z
