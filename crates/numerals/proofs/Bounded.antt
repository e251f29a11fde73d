-- A size beyond 2^63 fits with neither sign, so a bound on it changes nothing.
use Rattle.std.proofs.Common.{◌≡◌, ℕ, ◌^◌, ◌<◌, Bool, true, false, cond, leb, ℤ, Some, None, Option, sym, refl}
use Rattle.std.specs.Option.{option_map}
use Rattle.std.proofs.lemmas.Bool.{leb-false, cond-false}
use Rattle.numerals.specs.Decimal.{fits, if_fits}
use Rattle.numerals.specs.Bounds.{at_most}

pub at_most_lem : (f : ℕ → ℤ) → ((n : ℕ) → 2 ^ 63 < n → fits (f n) ≡ false) → (o : Option ℕ) → if_fits (option_map f (at_most (2 ^ 63) o)) ≡ if_fits (option_map f o)
at_most_lem f h None = refl
at_most_lem f h (Some n) = go (leb n (2 ^ 63)) refl
  where
    go : (b : Bool) → leb n (2 ^ 63) ≡ b → if_fits (option_map f (cond b (Some n) None)) ≡ if_fits (Some (f n))
    go true e = refl
    go false e = sym (cond-false (fits (f n)) (Some (f n)) None (h n (leb-false n (2 ^ 63) e)))
