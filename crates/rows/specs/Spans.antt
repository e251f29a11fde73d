-- Where a window over n items begins and ends, as places from 0 to n.
use Rattle.std.specs.Prelude.{ℕ, min, ℤ, ◌+ℤ◌, Some, None, Option}
use Rattle.rows.specs.Counted.{natural_part}

abbrev pub start_of : ℤ → ℕ → ℕ
start_of offset n = min (natural_part offset) n

abbrev pub end_of : ℤ → Option ℤ → ℕ → ℕ
end_of offset None n = n
end_of offset (Some limit) n = min (natural_part (offset +ℤ limit)) n
