-- A window over a list is a segment of it.
use Rattle.std.proofs.Common.{◌≡◌, ℕ, zero, suc, ◌+◌, ◌-◌, ◌<◌, ◌≤◌, max, Bool, true, false, cond, ◌⊎◌, List, [], ◌∷◌, reverse, length, take, drop, ℤ, pos, negsuc, ◌+ℤ◌, Some, None, Option, sym, refl, ap, ◌∙◌, inl, inr, arith}
use lib.Signed.{le_z, lt_z}
use Rattle.std.specs.List.{slice_get}
use Rattle.std.proofs.lemmas.List.{length-take, length-drop, length-reverse}
use Rattle.std.proofs.lemmas.Option.{slice_get_past}
use Rattle.std.proofs.lemmas.Bool.{cases_lt, le-leb, lt-leb, lt-ltb, le-ltb, and_from, and_left, and_right}
use Rattle.rows.specs.Spans.{start_of, end_of}
use Rattle.rows.specs.Windows.{in_window, kept_from, turned, windowed, WorkedWindows}
use Rattle.rows.proofs.Cuts.{nth_drop, nth_take, nth_reverse}

-- a test that passes just the places a .. b of n
record Passes (p : ℕ → Bool) (a b n : ℕ) : Type 0 where
  inside : (j : ℕ) → j < n → a ≤ j → j < b → p j ≡ true
  before : (j : ℕ) → j < n → j < a → p j ≡ false
  behind : (j : ℕ) → j < n → b ≤ j → p j ≡ false

keep : {X : Type 0} (p : ℕ → Bool) (k : ℕ) (x : X) (xs : List X) → p k ≡ true → kept_from p k (x ∷ xs) ≡ x ∷ kept_from p (k + 1) xs
keep p k x xs e = ap (λ t. cond t (x ∷ kept_from p (k + 1) xs) (kept_from p (k + 1) xs)) e

skip : {X : Type 0} (p : ℕ → Bool) (k : ℕ) (x : X) (xs : List X) → p k ≡ false → kept_from p k (x ∷ xs) ≡ kept_from p (k + 1) xs
skip p k x xs e = ap (λ t. cond t (x ∷ kept_from p (k + 1) xs) (kept_from p (k + 1) xs)) e

take_nil : {X : Type 0} (n m : ℕ) → take {A = X} n (drop m []) ≡ []
take_nil zero zero = refl
take_nil zero (suc m) = refl
take_nil (suc n) zero = refl
take_nil (suc n) (suc m) = refl

take_none : {X : Type 0} (n : ℕ) (xs : List X) → n ≡ 0 → take n xs ≡ []
take_none n xs e = ap (λ m. take m xs) e

segment : {X : Type 0} (p : ℕ → Bool) (a b n k : ℕ) (xs : List X) → Passes p a b n → k + length xs ≡ n → kept_from p k xs ≡ take (b - max a k) (drop (a - k) xs)
segment p a b n k [] h e = sym (take_nil (b - max a k) (a - k))
segment {X} p a b n k (x ∷ xs) h e = go (segment p a b n (k + 1) xs h (omega arith)) (cases_lt k a) (cases_lt k b)
  where
    go : kept_from p (k + 1) xs ≡ take (b - max a (k + 1)) (drop (a - (k + 1)) xs) → (k < a) ⊎ (a ≤ k) → (k < b) ⊎ (b ≤ k) → kept_from p k (x ∷ xs) ≡ take (b - max a k) (drop (a - k) (x ∷ xs))
    go rest (inl l) s =
        skip p k x xs (h.before k (omega arith) l) ∙ rest
        ∙ ap (λ m. take m (drop (a - (k + 1)) xs)) (let q : b - max a (k + 1) ≡ b - max a k = omega arith in q)
        ∙ ap (λ m. take (b - max a k) (drop m (x ∷ xs))) (let q : suc (a - (k + 1)) ≡ a - k = omega arith in q)
    go rest (inr l) (inl s) =
        keep p k x xs (h.inside k (omega arith) l s) ∙ ap (λ ys. x ∷ ys) (rest ∙ ap (λ m. take (b - max a (k + 1)) (drop m xs)) (let q : a - (k + 1) ≡ 0 = omega arith in q))
        ∙ ap (λ m. take m (x ∷ xs)) (let q : suc (b - max a (k + 1)) ≡ b - max a k = omega arith in q)
        ∙ ap (λ m. take (b - max a k) (drop m (x ∷ xs))) (let q : 0 ≡ a - k = omega arith in q)
    go rest (inr l) (inr s) =
        skip p k x xs (h.behind k (omega arith) s) ∙ rest
        ∙ take_none (b - max a (k + 1)) (drop (a - (k + 1)) xs) (omega arith)
        ∙ sym (take_none (b - max a k) (drop (a - k) (x ∷ xs)) (omega arith))

-- a whole number against a place
from_at : (z : ℤ) (n j : ℕ) → j < n → start_of z n ≤ j → le_z z (pos j) ≡ true
from_at (pos a) n j l h = le-leb a j (omega arith)
from_at (negsuc a) n j l h = refl

from_not : (z : ℤ) (n j : ℕ) → j < n → j < start_of z n → le_z z (pos j) ≡ false
from_not (pos a) n j l h = lt-leb a j (omega arith)
from_not (negsuc a) n j l h = absurd (omega arith)

to_at : (z : ℤ) (n j : ℕ) → j < n → j < start_of z n → lt_z (pos j) z ≡ true
to_at (pos a) n j l h = lt-ltb j a (omega arith)
to_at (negsuc a) n j l h = absurd (omega arith)

to_not : (z : ℤ) (n j : ℕ) → j < n → start_of z n ≤ j → lt_z (pos j) z ≡ false
to_not (pos a) n j l h = le-ltb j a (omega arith)
to_not (negsuc a) n j l h = refl

passes : (o : ℤ) (l : Option ℤ) (n : ℕ) → Passes (in_window o l) (start_of o n) (end_of o l n) n
passes o None n =
    record { inside = λ j l a b. from_at o n j l a; before = λ j l a. from_not o n j l a; behind = λ j l b. absurd (omega arith) }
passes o (Some m) n =
    record {
      inside = λ j l a b. and_from (le_z o (pos j)) (lt_z (pos j) (o +ℤ m)) (from_at o n j l a) (to_at (o +ℤ m) n j l b);
      before = λ j l a. and_left (le_z o (pos j)) (lt_z (pos j) (o +ℤ m)) (from_not o n j l a);
      behind = λ j l b. and_right (le_z o (pos j)) (lt_z (pos j) (o +ℤ m)) (to_not (o +ℤ m) n j l b);
    }

end_le : (o : ℤ) (l : Option ℤ) (n : ℕ) → end_of o l n ≤ n
end_le o None n = omega arith
end_le o (Some m) n = omega arith

-- the window's list by places of the row's: a and b are where it begins and ends
module _ {X : Type 0} (o : ℤ) (l : Option ℤ) (rev : Bool) (xs : List X) {a b : ℕ} (is_a : a ≡ start_of o (length xs)) (is_b : b ≡ end_of o l (length xs)) where
  kept_is : kept_from (in_window o l) 0 xs ≡ take (b - a) (drop a xs)
  kept_is =
      let n = length xs in
      segment (in_window o l) (start_of o n) (end_of o l n) n 0 xs (passes o l n) (omega arith)
      ∙ ap (λ m. take m (drop (start_of o n - 0) xs)) (let q : end_of o l n - max (start_of o n) 0 ≡ b - a = omega arith in q)
      ∙ ap (λ m. take (b - a) (drop m xs)) (let q : start_of o n - 0 ≡ a = omega arith in q)

  part_length : length (take (b - a) (drop a xs)) ≡ b - a
  part_length = length-take (b - a) (drop a xs) ∙ omega (arith, length-drop a xs, end_le o l (length xs))

  length_turned : (r : Bool) (ys : List X) → length (turned r ys) ≡ length ys
  length_turned true ys = length-reverse ys
  length_turned false ys = refl

  pub window_length : length (windowed o l rev xs) ≡ b - a
  unfolding windowed
  window_length = length_turned rev (kept_from (in_window o l) 0 xs) ∙ ap length kept_is ∙ part_length

  pub window_past : (k : ℕ) → b - a ≤ k → slice_get (windowed o l rev xs) k ≡ None
  window_past k h = slice_get_past (windowed o l rev xs) k (omega (arith, window_length))

  part_at : (k : ℕ) → k < b - a → slice_get (take (b - a) (drop a xs)) k ≡ slice_get xs (a + k)
  part_at k h = nth_take (b - a) (drop a xs) k h ∙ nth_drop a xs k

  pub window_ahead : (k : ℕ) → rev ≡ false → k < b - a → slice_get (windowed o l rev xs) k ≡ slice_get xs (a + k)
  unfolding windowed
  window_ahead k e h = ap (λ r. slice_get (turned r (kept_from (in_window o l) 0 xs)) k) e ∙ ap (λ ys. slice_get ys k) kept_is ∙ part_at k h

  pub window_back : (k : ℕ) → rev ≡ true → k < b - a → slice_get (windowed o l rev xs) k ≡ slice_get xs (b - 1 - k)
  unfolding windowed
  window_back k e h =
      ap (λ r. slice_get (turned r (kept_from (in_window o l) 0 xs)) k) e ∙ ap (λ ys. slice_get (reverse ys) k) kept_is
      ∙ nth_reverse (take (b - a) (drop a xs)) k (b - a - 1 - k) (omega (arith, part_length)) (omega (arith, part_length))
      ∙ part_at (b - a - 1 - k) (omega arith) ∙ ap (slice_get xs) (let q : a + (b - a - 1 - k) ≡ b - 1 - k = omega arith in q)

pub worked : {X : Type 0} → WorkedWindows X
unfolding windowed
worked a b c = record { cut_off = refl; backwards = refl; past = refl; limit_0 = refl; limit_below_0 = refl; offset_below_0 = refl }
