-- A window shows no more items than its row has.
use Rattle.std.proofs.Common.{◌≤◌, Bool, List, length, ℤ, Some, None, Option, refl, arith}
use Rattle.rows.specs.Spans.{start_of, end_of}
use Rattle.rows.specs.Windows.{windowed}
use Rattle.rows.proofs.Segments.{window_length}

end_within : {X : Type 0} (o : ℤ) (l : Option ℤ) (xs : List X) → end_of o l (length xs) ≤ length xs
end_within o None xs = omega arith
end_within o (Some m) xs = omega arith

pub window_within : {X : Type 0} (o : ℤ) (l : Option ℤ) (r : Bool) (xs : List X) → length (windowed o l r xs) ≤ length xs
window_within o l r xs =
    let n = window_length o l r xs {a = start_of o (length xs)} {b = end_of o l (length xs)} refl refl in
    let e = end_within o l xs in
    omega arith
