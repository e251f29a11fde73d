-- Tests, and conditions from the left.
use Rattle.std.proofs.Common.{◌≡◌, ℕ, zero, suc, ◌+◌, ◌==◌, nat_lt, Bool, true, false, not, cond, List, Some, None, Ok, Err, Option, Result, refl, ap, ◌∙◌, sym, arith}
use Rattle.std.specs.Option.{option_map}
use Rattle.std.specs.List.{slice_get}
use Rattle.std.proofs.lemmas.Bool.Decides.{nat_tests}
use Rattle.nodes.specs.declared.exprs.Comparison.{Comparison}
use Rattle.nodes.specs.declared.exprs.Expr.{Expr}
use Rattle.nodes.specs.declared.table.Node.{Node}
use Rattle.nodes.specs.declared.table.Node.TheVariants as node
use Rattle.nodes.specs.Exprs.{◌so◌, where_so, expr_of, comparison_of}
use Rattle.nodes.specs.Trees.{test_of, join_of, condition_of}
use Rattle.nodes.proofs.Options.{none_some, some_is, so_parts, where_parts, mapped_parts}
use Rattle.held.specs.declared.faults.Fault.{Fault}
use Rattle.held.specs.declared.scenes.Scene.{Scene}
use Rattle.held.specs.declared.value.Value.{Value}
use Rattle.held.specs.Faults.{ended}
use Rattle.held.specs.Records.{held_in}
use Rattle.held.specs.Scenes.{host_in, host_of, pool_of, Fits}
use Rattle.std.specs.Borrow.{Bor}
use Rattle.frames.specs.declared.stack.Frames as code
use Rattle.frames.specs.declared.met.Met.{Met}
use Rattle.frames.specs.Views.{around_in, met_of}
use Rattle.evaluation.specs.Values.{Reached, Evaluated}
use Rattle.comparisons.specs.Ends.{Ends}
use Rattle.tree.specs.Conditions.{Test, exists, Condition, only as lone}
use Rattle.meaning.specs.Things.{Drawers}
use Rattle.meaning.specs.Frames.{Frames}
use Rattle.meaning.specs.Acts.{step, gives, go_on, still, pure, ◌and_then◌}
use Rattle.meaning.specs.Looking.{World, eval}
use Rattle.meaning.specs.Tests.{there, compared, tested, judged}
use Rattle.renderer.specs.Guards.{Answered, Compared, Tested}

module _ (s : Scene) (fs : code.Frames) (d : Drawers) where
  abbrev e : Frames
  e = around_in (host_in s) fs

  -- a comparison whose left side is a fault, whose right side is one, and which is made
  pub compared_left : (x : Expr) (c : Comparison) (y : Expr) (k : Fault) → Evaluated s fs d x (Err k) → Compared s fs d x c y (Err k)
  unfolding tested ◌and_then◌
  compared_left x c y k h t u a b w p o fits =
      ap (λ q. go_on q (λ v. eval w u p e and_then λ z. compared w (comparison_of c) v z p e)) (h w t p o fits a)

  pub compared_right : (x : Expr) (c : Comparison) (y : Expr) (v : Value (Bor (List ℕ))) (k : Fault) → Evaluated s fs d x (Ok v) → Evaluated s fs d y (Err k) → Compared s fs d x c y (Err k)
  unfolding tested ◌and_then◌
  compared_right x c y v k h g t u a b w p o fits =
      ap (λ q. go_on q (λ v. eval w u p e and_then λ z. compared w (comparison_of c) v z p e)) (h w t p o fits a)
      ∙ ap (λ q. go_on q (λ z. compared w (comparison_of c) (held_in v) z p e)) (g w u p o fits b)

  pub compared_both : (x : Expr) (c : Comparison) (y : Expr) (v z : Value (Bor (List ℕ))) (r : Result Bool Fault) → Evaluated s fs d x (Ok v) → Evaluated s fs d y (Ok z) →
      ((w : World) → w.host ≡ host_of s.tray.now → Ends (compared w (comparison_of c) (held_in v) (held_in z)) r) → Compared s fs d x c y r
  unfolding tested ◌and_then◌
  compared_both x c y v z r h g m t u a b w p o fits =
      ap (λ q. go_on q (λ v. eval w u p e and_then λ z. compared w (comparison_of c) v z p e)) (h w t p o fits a)
      ∙ ap (λ q. go_on q (λ z. compared w (comparison_of c) (held_in v) z p e)) (g w u p o fits b)
      ∙ m w fits.host p e d o

  pub tested_there : (x : Expr) (m : Option Met) (y : Bool) → Reached s fs d x m → ((e : Frames) → y ≡ there (option_map (met_of e) m)) → Tested s fs d (node.Exists x) (Ok y)
  unfolding tested ◌and_then◌ still
  tested_there x m y h is t given w p o fits =
      let (u, a, q) = mapped_parts exists (expr_of (pool_of s) x) t given in
      ap (λ t. tested w t p e d o) (sym q) ∙ ap (λ q. go_on q (λ m. pure (there m))) (h w u o fits a) ∙ ap (λ b. step d o (gives b)) (sym (is e))

  pub tested_compared : (x : Expr) (c : Comparison) (y : Expr) (r : Result Bool Fault) → Compared s fs d x c y r → Tested s fs d (node.Compares x c y) r
  tested_compared x c y r h t given w p o fits =
      let (u, a, q) = so_parts _ _ _ given in
      let (v, b, z) = so_parts _ _ _ q in
      ap (λ t. tested w t p e d o) (sym (some_is _ _ z)) ∙ h u v a b w p o fits

  -- what stands behind the first test of a condition: its end, or a join and the condition behind it
  data Follows (i end : ℕ) (t : Test) (c : Condition) : Type 0 where
    last : i + 1 ≡ end → c ≡ lone t → Follows i end t c
    joins : (j : Node) (k : ℕ) (b : Condition) → (i + 1 ≡ end → ⊥) → slice_get s.book.nodes.now (i + 1) ≡ Some j → condition_of (pool_of s) s.book.nodes.now k (i + 2) end ≡ Some b → join_of (pool_of s) j t b ≡ Some c → Follows i end t c

  equal : (a b : ℕ) → true ≡ (a == b) → a ≡ b
  equal a b h = grind (arith, nat_tests)

  apart : (a b : ℕ) → false ≡ (a == b) → a ≡ b → ⊥
  apart a b h q = grind (arith, nat_tests)

  follows : (k i end : ℕ) (c : Condition) (n : Node) → condition_of (pool_of s) s.book.nodes.now k i end ≡ Some c → slice_get s.book.nodes.now i ≡ Some n → (t : Test) × (test_of (pool_of s) n ≡ Some t) × Follows i end t c
  follows zero i end c n h at = none_some c h
  follows (suc k) i end c n h at =
      let (l, g) = where_parts _ _ c h in
      let (m, there, q) = so_parts _ _ c g in
      let (t, is, z) = so_parts _ _ c q in
      let same : m ≡ n = some_is _ _ (sym there ∙ at) in
      (t, ap (test_of (pool_of s)) (sym same) ∙ is, split t (i + 1 == end) refl z)
    where
      split : (t : Test) (b : Bool) → b ≡ (i + 1 == end) →
          cond b (Some (lone t)) (where_so (nat_lt (i + 1) end) (slice_get s.book.nodes.now (i + 1) so λ j. condition_of (pool_of s) s.book.nodes.now k (i + 2) end so λ c. join_of (pool_of s) j t c)) ≡ Some c → Follows i end t c
      split t true b z = last (equal (i + 1) end b) (sym (some_is _ _ z))
      split t false b z =
          let (l, g) = where_parts _ _ c z in
          let (j, at, q) = so_parts _ _ c g in
          let (r, is, v) = so_parts _ _ c q in
          joins j k r (apart (i + 1) end b) at is v

  -- a condition whose first test came out as y, where the join asks for the tests behind it by g
  joined : (w : World) (p : ℕ) (o : List ℕ) (j : Node) (t : Test) (b c : Condition) (y g : Bool) → join_of (pool_of s) j t b ≡ Some c → tested w t p e d o ≡ step d o (gives y) →
      (j ≡ node.And → g ≡ y) × (j ≡ node.Or → g ≡ not y) → judged w c p e d o ≡ cond g (judged w b p e d o) (step d o (gives y))
  unfolding ◌and_then◌ still
  joined w p o (node.Leaf x l) t b c y g is h m = none_some c is
  joined w p o (node.Open x k a end) t b c y g is h m = none_some c is
  joined w p o (node.Case x v n end) t b c y g is h m = none_some c is
  joined w p o (node.Arm a) t b c y g is h m = none_some c is
  joined w p o (node.Exists x) t b c y g is h m = none_some c is
  joined w p o (node.Compares x v z) t b c y g is h m = none_some c is
  joined w p o node.And t b c y g is h m =
      ap (λ c. judged w c p e d o) (sym (some_is _ _ is)) ∙ ap (λ q. go_on q (λ y. cond y (judged w b p e) (pure false))) h
      ∙ needed y ∙ ap (λ g. cond g (judged w b p e d o) (step d o (gives y))) (sym (m.0 refl))
    where
      needed : (y : Bool) → cond y (judged w b p e) (pure false) d o ≡ cond y (judged w b p e d o) (step d o (gives y))
      needed true = refl
      needed false = refl
  joined w p o node.Or t b c y g is h m =
      ap (λ c. judged w c p e d o) (sym (some_is _ _ is)) ∙ ap (λ q. go_on q (λ y. cond y (pure true) (judged w b p e))) h
      ∙ needed y ∙ ap (λ g. cond g (judged w b p e d o) (step d o (gives y))) (sym (m.1 refl))
    where
      needed : (y : Bool) → cond y (pure true) (judged w b p e) d o ≡ cond (not y) (judged w b p e d o) (step d o (gives y))
      needed true = refl
      needed false = refl

  -- a condition whose first test is a fault
  faulted : (w : World) (p : ℕ) (o : List ℕ) (j : Node) (t : Test) (b c : Condition) (k : Fault) → join_of (pool_of s) j t b ≡ Some c → tested w t p e d o ≡ step d o (ended (λ y. y) (Err k) p e) →
      judged w c p e d o ≡ step d o (ended (λ y. y) (Err k) p e)
  unfolding ◌and_then◌
  faulted w p o (node.Leaf x l) t b c k is h = none_some c is
  faulted w p o (node.Open x y a end) t b c k is h = none_some c is
  faulted w p o (node.Case x v n end) t b c k is h = none_some c is
  faulted w p o (node.Arm a) t b c k is h = none_some c is
  faulted w p o (node.Exists x) t b c k is h = none_some c is
  faulted w p o (node.Compares x v z) t b c k is h = none_some c is
  faulted w p o node.And t b c k is h =
      ap (λ c. judged w c p e d o) (sym (some_is _ _ is)) ∙ ap (λ q. go_on q (λ y. cond y (judged w b p e) (pure false))) h
  faulted w p o node.Or t b c k is h =
      ap (λ c. judged w c p e d o) (sym (some_is _ _ is)) ∙ ap (λ q. go_on q (λ y. cond y (pure true) (judged w b p e))) h

  -- the condition of the nodes from i comes to what c comes to
  pub record Left (i end : ℕ) (c : Condition) : Type 0 where
    pub steps : ℕ
    pub rest : Condition
    pub is : condition_of (pool_of s) s.book.nodes.now steps i end ≡ Some rest
    pub same : (w : World) (p : ℕ) (o : List ℕ) → Fits w s → judged w c p e d o ≡ judged w rest p e d o

  pub left_more : (i end : ℕ) (c : Condition) (n j : Node) (y g : Bool) → Left i end c → slice_get s.book.nodes.now i ≡ Some n → Tested s fs d n (Ok y) →
      slice_get s.book.nodes.now (i + 1) ≡ Some j → (i + 1 ≡ end → ⊥) → (j ≡ node.And → g ≡ y) × (j ≡ node.Or → g ≡ not y) → g ≡ true → Left (i + 2) end c
  left_more i end c n j y g l at tested there goes m is =
      let (t, a, f) = follows l.steps i end l.rest n l.is at in
      go t a f
    where
      go : (t : Test) → test_of (pool_of s) n ≡ Some t → Follows i end t l.rest → Left (i + 2) end c
      go t a (last q r) = absurd (goes q)
      go t a (joins x k b q r u v) =
          let same : x ≡ j = some_is _ _ (sym r ∙ there) in
          let h : join_of (pool_of s) j t b ≡ Some l.rest = ap (λ x. join_of (pool_of s) x t b) (sym same) ∙ v in
          record {
            steps = k;
            rest = b;
            is = u;
            same = λ w p o fits. l.same w p o fits ∙ joined w p o j t b l.rest y g h (tested t a w p o fits) m ∙ ap (λ g. cond g (judged w b p e d o) (step d o (gives y))) is;
          }

  pub left_short : (i end : ℕ) (c : Condition) (n j : Node) (y g : Bool) → Left i end c → slice_get s.book.nodes.now i ≡ Some n → Tested s fs d n (Ok y) →
      slice_get s.book.nodes.now (i + 1) ≡ Some j → (j ≡ node.And → g ≡ y) × (j ≡ node.Or → g ≡ not y) → g ≡ false → Answered s fs d (λ w. judged w c) (Ok y)
  left_short i end c n j y g l at tested there m is w p o fits =
      let (t, a, f) = follows l.steps i end l.rest n l.is at in
      l.same w p o fits ∙ go t a f
    where
      go : (t : Test) → test_of (pool_of s) n ≡ Some t → Follows i end t l.rest → judged w l.rest p e d o ≡ step d o (gives y)
      go t a (last q r) = ap (λ c. judged w c p e d o) r ∙ tested t a w p o fits
      go t a (joins x k b q r u v) =
          let same : x ≡ j = some_is _ _ (sym r ∙ there) in
          let h : join_of (pool_of s) j t b ≡ Some l.rest = ap (λ x. join_of (pool_of s) x t b) (sym same) ∙ v in
          joined w p o j t b l.rest y g h (tested t a w p o fits) m ∙ ap (λ g. cond g (judged w b p e d o) (step d o (gives y))) is

  -- nothing follows the test
  pub left_last : (i end : ℕ) (c : Condition) (n : Node) (y : Bool) → Left i end c → slice_get s.book.nodes.now i ≡ Some n → Tested s fs d n (Ok y) →
      ((j : Node) → slice_get s.book.nodes.now (i + 1) ≡ Some j → i + 1 ≡ end) → Answered s fs d (λ w. judged w c) (Ok y)
  left_last i end c n y l at tested alone w p o fits =
      let (t, a, f) = follows l.steps i end l.rest n l.is at in
      l.same w p o fits ∙ go t a f
    where
      go : (t : Test) → test_of (pool_of s) n ≡ Some t → Follows i end t l.rest → judged w l.rest p e d o ≡ step d o (gives y)
      go t a (last q r) = ap (λ c. judged w c p e d o) r ∙ tested t a w p o fits
      go t a (joins x k b q r u v) = absurd (q (alone x r))

  pub left_fault : (i end : ℕ) (c : Condition) (n : Node) (k : Fault) → Left i end c → slice_get s.book.nodes.now i ≡ Some n → Tested s fs d n (Err k) → Answered s fs d (λ w. judged w c) (Err k)
  left_fault i end c n k l at tested w p o fits =
      let (t, a, f) = follows l.steps i end l.rest n l.is at in
      l.same w p o fits ∙ go t a f
    where
      go : (t : Test) → test_of (pool_of s) n ≡ Some t → Follows i end t l.rest → judged w l.rest p e d o ≡ step d o (ended (λ y. y) (Err k) p e)
      go t a (last q r) = ap (λ c. judged w c p e d o) r ∙ tested t a w p o fits
      go t a (joins x m b q r u v) = faulted w p o x t b l.rest k v (tested t a w p o fits)

  -- where no node is, no condition begins
  pub left_nowhere : {A : Type 0} (i end : ℕ) (c : Condition) → Left i end c → slice_get s.book.nodes.now i ≡ None → A
  left_nowhere i end c l none = begins l.steps l.is
    where
      begins : {A : Type 0} (k : ℕ) → condition_of (pool_of s) s.book.nodes.now k i end ≡ Some l.rest → A
      begins zero h = none_some _ h
      begins (suc k) h =
          let (t, g) = where_parts _ _ l.rest h in
          let (m, there, q) = so_parts _ _ l.rest g in
          none_some m (sym none ∙ there)
