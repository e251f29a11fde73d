-- What the digits read so far may come to.
use Rattle.std.specs.Prelude.{ℕ, cond, Some, None, Option, nat_le}

abbrev pub at_most : ℕ → Option ℕ → Option ℕ
at_most most None = None
at_most most (Some n) = cond (nat_le n most) (Some n) None
