-- A value sought among items.
use Rattle.std.proofs.Common.{◌≡◌, ℕ, zero, suc, ◌+◌, Bool, true, false, cond, ◌||◌, map, Some, Option, Bor, List, refl, ap, ap₂, ◌∙◌, arith}
use Rattle.std.specs.Option.{is_some}
use Rattle.std.specs.List.{range_with_len}
use Rattle.rows.specs.First.{first_from}
use Rattle.tray.specs.declared.trays.Tray.{Tray}
use Rattle.values.specs.Value.{Value, equal}
use Rattle.values.specs.Meaning.{value_of, items_from}
use Rattle.held.specs.declared.value.Value as held
use Rattle.held.specs.declared.value.Value.TheVariants.{Array}
use Rattle.held.specs.Records.{held_in}
use Rattle.held.specs.Scenes.{host_of}
use Rattle.meaning.specs.Hosts.{value_of as tree_of}
use Rattle.meaning.specs.Tests.{among}
use Rattle.comparisons.specs.Members.{number_in, members, equal_in}
use Rattle.comparisons.proofs.Records.{cut_is}

some_either : (b : Bool) (m : ℕ) (r : Option ℕ) → is_some (cond b (Some m) r) ≡ (b || is_some r)
some_either true m r = refl
some_either false m r = refl

module _ {X : Type 0} (p : X → Bool) (g : ℕ → X) (f : ℕ → Value) (v : Value) (first : ℕ) (h : (k : ℕ) → p (g k) ≡ equal (f (first + k)) v) where
  from_place : (m j n : ℕ) → is_some (first_from p m (map g (range_with_len j n))) ≡ among v (items_from f (first + j) n)
  from_place m j zero = refl
  from_place m j (suc n) =
      let q : first + (j + 1) ≡ first + j + 1 = omega arith in
      some_either (p (g j)) m (first_from p (m + 1) (map g (range_with_len (j + 1) n))) ∙ ap₂ (λ x y. x || y) (h j) (from_place (m + 1) (j + 1) n ∙ ap (λ i. among v (items_from f i n)) q)

pub found_among : (t : Tray) (s : held.Value (Bor (List ℕ))) (first n : ℕ) → is_some (first_from (λ x. equal_in t x s) 0 (members first n)) ≡ among (tree_of (host_of t) (held_in s)) (items_from (value_of t) first n)
found_among t s first n =
    let v = tree_of (host_of t) (held_in s) in
    let q : first + 0 ≡ first = omega arith in
    from_place (λ x. equal_in t x s) (λ k. Array (number_in first k)) (value_of t) v first (λ k. ap (λ x. equal x v) (cut_is t (first + k) (number_in first k) refl)) 0 0 n ∙ ap (λ i. among v (items_from (value_of t) i n)) q
