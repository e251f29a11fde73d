-- Tokens that stand in the source at their places.
use Rattle.std.specs.Prelude.{ℕ, ◌+◌, Bool, true, ◌&&◌, List, length, take, drop, nat_le}
use Rattle.std.specs.Str.{bytes_eq}
use Rattle.cutter.specs.Words.{Words, over, wrong, word}

abbrev pub stands_at : List ℕ → ℕ → List ℕ → Bool
stands_at source p b = nat_le (p + length b) (length source) && bytes_eq b (take (length b) (drop p source))

-- so does each token ahead
abbrev pub standing : List ℕ → Words → Bool
standing source over = true
standing source (wrong p) = true
standing source (word p b rest) = stands_at source p b && standing source rest
