-- Names that enter.
use Rattle.std.proofs.Common.{◌≡◌, ℕ, ◌+◌, ◌<◌, ◌≤◌, Bool, true, false, cond, ◌&&◌, ◌⊎◌, inl, inr, ltb, leb, List, [], ◌∷◌, map, length, Some, None, Option, refl, ap, subst, ◌∙◌}
use Rattle.std.specs.Option.{IsSome}
use Rattle.std.proofs.lemmas.Bool.{false≢true, leb-true, leb-false, le-leb, lt-leb, lt-ltb, le-ltb, and_left, and_right, and_from}
use Rattle.std.specs.List.{position_from}
use Rattle.rows.specs.First.{first_from}
use Rattle.tray.specs.Parts.{same_text}
use Rattle.arguments.specs.Judging.{CycleName, State, state, refuses, passes, with_name, entered, enter, with_cycle, same_cycle, cycle_entered, enter_cycle}

pub first_map : {A B : Type 0} (p : B → Bool) (f : A → B) (n : ℕ) (xs : List A) → first_from p n (map f xs) ≡ first_from (λ x. p (f x)) n xs
first_map p f n [] = refl
first_map p f n (x ∷ xs) = ap (cond (p (f x)) (Some n)) (first_map p f (n + 1) xs)

-- the library's word for it
pub first_position : {A : Type 0} (p : A → Bool) (n : ℕ) (xs : List A) → position_from p n xs ≡ first_from p n xs
first_position p n [] = refl
first_position p n (x ∷ xs) = ap (cond (p x) (Some n)) (first_position p (n + 1) xs)

module _ (p : ℕ) (n : List ℕ) (s : State) where
  pub enter_found : (k : ℕ) → first_from (λ m. same_text m n) 0 s.lists.names ≡ Some k → enter p n s ≡ passes k s
  unfolding enter
  enter_found k e = ap (λ o. entered p n o s) e

  pub enter_refused : first_from (λ m. same_text m n) 0 s.lists.names ≡ None → (32 < length n) ⊎ (128 ≤ length s.lists.names) → enter p n s ≡ refuses 2 p
  unfolding enter
  enter_refused e h =
      ap (λ o. entered p n o s) e
      ∙ ap (λ b. cond b (passes (length s.lists.names) (state s.ahead (with_name n s.lists))) (refuses 2 p)) (no_room h)
    where
      no_room : (32 < length n) ⊎ (128 ≤ length s.lists.names) → (leb (length n) 32 && ltb (length s.lists.names) 128) ≡ false
      no_room (inl a) = and_left (leb (length n) 32) (ltb (length s.lists.names) 128) (lt-leb (length n) 32 a)
      no_room (inr a) = and_right (leb (length n) 32) (ltb (length s.lists.names) 128) (le-ltb (length s.lists.names) 128 a)

  pub enter_new : first_from (λ m. same_text m n) 0 s.lists.names ≡ None → length n ≤ 32 → length s.lists.names < 128 → enter p n s ≡ passes (length s.lists.names) (state s.ahead (with_name n s.lists))
  unfolding enter
  enter_new e h k =
      ap (λ o. entered p n o s) e
      ∙ ap (λ b. cond b (passes (length s.lists.names) (state s.ahead (with_name n s.lists))) (refuses 2 p)) (and_from (leb (length n) 32) (ltb (length s.lists.names) 128) (le-leb (length n) 32 h) (lt-ltb (length s.lists.names) 128 k))

-- the same of cycle names
module _ (p : ℕ) (c : CycleName) (s : State) where
  pub cycle_found : length c.bytes ≤ 128 → (k : ℕ) → first_from (λ d. same_cycle d c) 0 s.lists.cycles ≡ Some k → enter_cycle p c s ≡ passes k s
  unfolding enter_cycle
  cycle_found h k e =
      ap (λ b. cond b (cycle_entered p c (first_from (λ d. same_cycle d c) 0 s.lists.cycles) s) (refuses 2 p)) (le-leb (length c.bytes) 128 h) ∙ ap (λ o. cycle_entered p c o s) e

  pub cycle_long : 128 < length c.bytes → enter_cycle p c s ≡ refuses 2 p
  unfolding enter_cycle
  cycle_long h = ap (λ b. cond b (cycle_entered p c (first_from (λ d. same_cycle d c) 0 s.lists.cycles) s) (refuses 2 p)) (lt-leb (length c.bytes) 128 h)

  pub cycle_full : length c.bytes ≤ 128 → first_from (λ d. same_cycle d c) 0 s.lists.cycles ≡ None → 32 ≤ length s.lists.cycles → enter_cycle p c s ≡ refuses 2 p
  unfolding enter_cycle
  cycle_full h e k =
      ap (λ b. cond b (cycle_entered p c (first_from (λ d. same_cycle d c) 0 s.lists.cycles) s) (refuses 2 p)) (le-leb (length c.bytes) 128 h)
      ∙ ap (λ o. cycle_entered p c o s) e
      ∙ ap (λ b. cond b (passes (length s.lists.cycles) (state s.ahead (with_cycle c s.lists))) (refuses 2 p)) (le-ltb (length s.lists.cycles) 32 k)

  pub cycle_new : length c.bytes ≤ 128 → first_from (λ d. same_cycle d c) 0 s.lists.cycles ≡ None → length s.lists.cycles < 32 →
      enter_cycle p c s ≡ passes (length s.lists.cycles) (state s.ahead (with_cycle c s.lists))
  unfolding enter_cycle
  cycle_new h e k =
      ap (λ b. cond b (cycle_entered p c (first_from (λ d. same_cycle d c) 0 s.lists.cycles) s) (refuses 2 p)) (le-leb (length c.bytes) 128 h)
      ∙ ap (λ o. cycle_entered p c o s) e
      ∙ ap (λ b. cond b (passes (length s.lists.cycles) (state s.ahead (with_cycle c s.lists))) (refuses 2 p)) (lt-ltb (length s.lists.cycles) 32 k)

-- what does not fit in so many places is longer
pub too_long : {T : Type 0} (o : Option T) (n k : ℕ) → o ≡ None → (n ≤ k → IsSome o) → k < n
too_long o n k e h = by_test (leb n k) refl
  where
    by_test : (b : Bool) → leb n k ≡ b → k < n
    by_test true t = absurd (false≢true (subst IsSome e (h (leb-true n k t))))
    by_test false t = leb-false n k t
