-- Guards by what they ask.
use Rattle.std.proofs.Common.{◌≡◌, ℕ, zero, suc, ◌+◌, ◌<◌, ◌≤◌, min, nat_lt, ◌==◌, Bool, not, Some, Ok, Err, Result, ap, ◌∙◌, sym, arith}
use Rattle.std.proofs.lemmas.Bool.Decides.{nat_tests}
use Rattle.nodes.specs.declared.exprs.Span.{Span}
use Rattle.nodes.specs.declared.table.Arm.{Arm}
use Rattle.nodes.specs.declared.table.Guard.TheVariants as guard
use Rattle.nodes.specs.Trees.{condition_of, guard_of}
use Rattle.nodes.proofs.Options.{none_some, where_parts, only_parts, mapped_parts}
use Rattle.held.specs.declared.faults.Fault.{Fault}
use Rattle.held.specs.declared.scenes.Scene.{Scene}
use Rattle.held.specs.Records.{held_in}
use Rattle.held.specs.Scenes.{host_in, pool_of}
use Rattle.frames.specs.declared.stack.Frames as code
use Rattle.frames.specs.Views.{around_in}
use Rattle.tree.specs.Conditions.{Condition}
use Rattle.tree.specs.Elements as tree
use Rattle.meaning.specs.Things.{Drawers}
use Rattle.meaning.specs.Frames.{Frames}
use Rattle.meaning.specs.Acts.{step, gives, go_on, still, pure, ◌and_then◌}
use Rattle.meaning.specs.Blocks.{passes, one_equal}
use Rattle.renderer.specs.declared.guards.Seen.{Seen}
use Rattle.renderer.specs.Guards.{Judged, OneEqual, Passed}

module _ (s : Scene) (fs : code.Frames) (d : Drawers) where
  abbrev e : Frames
  e = around_in (host_in s) fs

  begins : (k i end : ℕ) (c : Condition) → condition_of (pool_of s) s.book.nodes.now k i end ≡ Some c → i < end
  begins zero i end c h = none_some c h
  begins (suc k) i end c h = let l = (where_parts (nat_lt i end) _ c h).0 in grind (arith, nat_tests)

  -- a condition begins at a number of 64 bits, if it ends at one
  pub judged_from : (from i end : ℕ) (r : Result Bool Fault) → from ≡ min (i + 1) 18446744073709551615 → end ≤ 18446744073709551615 → Judged s fs d from end r → Judged s fs d (i + 1) end r
  judged_from from i end r is small h k c given =
      let l = begins k (i + 1) end c given in
      let same : i + 1 ≡ from = omega arith in
      h k c (ap (λ x. condition_of (pool_of s) s.book.nodes.now k x end) (sym same) ∙ given)

  module _ (a : Arm) (i : ℕ) (v : Seen) where
    pub passed_holds : (r : Result Bool Fault) → a.guard ≡ guard.Holds → Judged s fs d (i + 1) a.body r → Passed s fs d a i v r
    unfolding passes
    passed_holds r is h g o given sees w p t fits =
        let (c, q, m) = mapped_parts tree.holds _ g (ap (λ x. guard_of (pool_of s) s.book.nodes.now i a x) (sym is) ∙ given) in
        ap (λ g. passes w g o p e d t) (sym m) ∙ h a.body c q w p t fits

    pub passed_fails : (y : Bool) → a.guard ≡ guard.Fails → Judged s fs d (i + 1) a.body (Ok y) → Passed s fs d a i v (Ok (not y))
    unfolding passes ◌and_then◌ still
    passed_fails y is h g o given sees w p t fits =
        let (c, q, m) = mapped_parts tree.fails _ g (ap (λ x. guard_of (pool_of s) s.book.nodes.now i a x) (sym is) ∙ given) in
        ap (λ g. passes w g o p e d t) (sym m) ∙ ap (λ z. go_on z (λ y. pure (not y))) (h a.body c q w p t fits)

    pub faulted_fails : (k : Fault) → a.guard ≡ guard.Fails → Judged s fs d (i + 1) a.body (Err k) → Passed s fs d a i v (Err k)
    unfolding passes ◌and_then◌
    faulted_fails k is h g o given sees w p t fits =
        let (c, q, m) = mapped_parts tree.fails _ g (ap (λ x. guard_of (pool_of s) s.book.nodes.now i a x) (sym is) ∙ given) in
        ap (λ g. passes w g o p e d t) (sym m) ∙ ap (λ z. go_on z (λ y. pure (not y))) (h a.body c q w p t fits)

    pub passed_equals : (l : Span) (r : Result Bool Fault) → a.guard ≡ guard.Equals l → OneEqual s fs d l (held_in v.target) r → Passed s fs d a i v r
    unfolding passes
    passed_equals l r is h g o given sees w p t fits =
        let (z, x) = where_parts (i + 1 == a.body) _ g (ap (λ x. guard_of (pool_of s) s.book.nodes.now i a x) (sym is) ∙ given) in
        let (xs, q, m) = mapped_parts tree.equals_one _ g x in
        ap (λ g. passes w g o p e d t) (sym m) ∙ ap (λ u. one_equal w xs u p e d t) (sym sees.target) ∙ h xs q w p t fits

    pub passed_items : a.guard ≡ guard.HasItems → Passed s fs d a i v (Ok v.filled)
    unfolding passes still
    passed_items is g o given sees w p t fits =
        let (z, m) = only_parts (i + 1 == a.body) tree.has_items g (ap (λ x. guard_of (pool_of s) s.book.nodes.now i a x) (sym is) ∙ given) in
        ap (λ g. passes w g o p e d t) (sym m) ∙ ap (λ b. step d t (gives b)) (sym sees.filled)

    pub passed_always : a.guard ≡ guard.Always → Passed s fs d a i v (Ok Bool.true)
    unfolding passes still
    passed_always is g o given sees w p t fits =
        let (z, m) = only_parts (i + 1 == a.body) tree.always g (ap (λ x. guard_of (pool_of s) s.book.nodes.now i a x) (sym is) ∙ given) in
        ap (λ g. passes w g o p e d t) (sym m)
