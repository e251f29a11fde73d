-- Places in a part of a list.
use Rattle.std.proofs.Common.{◌≡◌, ℕ, zero, suc, ◌+◌, ◌-◌, ◌<◌, ◌≤◌, List, [], ◌∷◌, map, reverse, length, take, drop, Some, None, sym, refl, ap, ◌∙◌, zero-add, arith}
use Rattle.std.specs.List.{range_with_len, slice_get}
use Rattle.std.proofs.lemmas.List.FromFn.{length-map-range_with_len, get_or-map-range_with_len}
use Rattle.std.proofs.lemmas.List.{length-reverse, get_or-reverse}
use Rattle.std.proofs.lemmas.Option.{slice_get-get_or, slice_get_past}

pub nth_drop : {X : Type 0} (n : ℕ) (xs : List X) (i : ℕ) → slice_get (drop n xs) i ≡ slice_get xs (n + i)
nth_drop zero xs i = ap (slice_get xs) (sym (zero-add i))
nth_drop (suc n) [] i = refl
nth_drop (suc n) (x ∷ xs) i = nth_drop n xs i ∙ ap (slice_get (x ∷ xs)) (let e : suc (n + i) ≡ suc n + i = omega arith in e)

pub nth_take : {X : Type 0} (n : ℕ) (xs : List X) (i : ℕ) → i < n → slice_get (take n xs) i ≡ slice_get xs i
nth_take zero xs i l = absurd (omega arith)
nth_take (suc n) [] i l = refl
nth_take (suc n) (x ∷ xs) zero l = refl
nth_take (suc n) (x ∷ xs) (suc i) l = nth_take n xs i (omega arith)

pub nth_reverse : {X : Type 0} (xs : List X) (i j : ℕ) → i < length xs → j ≡ length xs - 1 - i → slice_get (reverse xs) i ≡ slice_get xs j
nth_reverse [] i j l e = absurd (omega arith)
nth_reverse (x ∷ xs) i j l e =
    slice_get-get_or (reverse (x ∷ xs)) i x (omega (arith, length-reverse (x ∷ xs))) ∙ ap Some (get_or-reverse (x ∷ xs) i x l)
    ∙ sym (ap (slice_get (x ∷ xs)) e ∙ slice_get-get_or (x ∷ xs) (length (x ∷ xs) - 1 - i) x (omega arith))

pub nth_counted : {X : Type 0} (f : ℕ → X) (n i : ℕ) → i < n → slice_get (map f (range_with_len 0 n)) i ≡ Some (f i)
nth_counted f n i l = slice_get-get_or (map f (range_with_len 0 n)) i (f 0) (omega (arith, length-map-range_with_len f 0 n)) ∙ ap Some (get_or-map-range_with_len f 0 n i i (f 0) l (omega arith))

pub nth_uncounted : {X : Type 0} (f : ℕ → X) (n i : ℕ) → n ≤ i → slice_get (map f (range_with_len 0 n)) i ≡ None
nth_uncounted f n i l = slice_get_past (map f (range_with_len 0 n)) i (omega (arith, length-map-range_with_len f 0 n))
