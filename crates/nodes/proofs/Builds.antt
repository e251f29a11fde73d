-- The tree that nodes stand for, from the trees of their parts.
use Rattle.std.proofs.Common.{◌≡◌, ℕ, suc, ◌+◌, ◌-◌, ◌*◌, ◌<◌, ◌≤◌, true, false, ◌&&◌, eqb, ltb, leb, List, length, get_or, Some, inl, inr, sym, refl, ap, ◌∙◌, arith, length-append}
use Rattle.std.proofs.lemmas.Bool.{lt-ltb, le-leb, ne_eqb, eq-eqb}
use Rattle.std.proofs.lemmas.Option.{slice_get-get_or, slice_get_cases}
use Rattle.std.proofs.Math.ListN.{get_or-append}
use Rattle.std.specs.List.{slice_get}
use Rattle.std.specs.Option.{option_map}
use Rattle.tree.specs.Elements.{Tree, done, leaf, block, Arms, no_arms, arm}
use Rattle.tree.specs.Elements as tree
use Rattle.tree.specs.Expressions as tree_expr
use Rattle.tree.specs.Conditions.{Test, Condition, only as lone}
use Rattle.nodes.specs.declared.exprs.Expr.{Expr}
use Rattle.nodes.specs.declared.exprs.Span.{Span}
use Rattle.nodes.specs.declared.table.Leaf.{Leaf}
use Rattle.nodes.specs.declared.table.Block.{Block}
use Rattle.nodes.specs.declared.table.Guard.TheVariants.{Holds, Fails, Equals, HasItems, Always}
use Rattle.nodes.specs.declared.table.Next.{Next}
use Rattle.nodes.specs.declared.table.Next.TheVariants as next
use Rattle.nodes.specs.declared.table.Arm.{Arm}
use Rattle.nodes.specs.declared.table.Node.{Node}
use Rattle.nodes.specs.declared.table.Node.TheVariants as node
use Rattle.nodes.specs.Exprs.{Pool, expr_of, values_of}
use Rattle.nodes.specs.Trees.{leaf_of, block_of, test_of, join_of, condition_of, guard_of, arm_of, element_at, elements_of, arms_of, tree_at}
use Rattle.nodes.specs.Wider.{Front, Wider, Agree}
use Rattle.nodes.specs.Built.{Body, ArmsIn, ArmIn, Leads}
use Rattle.nodes.proofs.Options.{where_is, only_is}
use Rattle.nodes.proofs.Widens.{wider_refl, wider_then, keeps_expr, keeps_leaf, keeps_block, keeps_condition, keeps_arm, keeps_elements, keeps_arms}

-- an element within the list
some_at : (xs : List Node) (k : ℕ) → k < length xs → (x : Node) × (slice_get xs k ≡ Some x) × (get_or xs k x ≡ x)
some_at xs k h = elim (slice_get_cases xs k).1 [ inl p ↦ (p.0, p.2, p.3) | inr q ↦ absurd (omega (arith, q.0)) ]

-- nodes with more behind them
pub agree_front : (ns ms : List Node) (i e : ℕ) → e ≤ length ns → Front ns ms → Agree ns ms i e
agree_front ns ms i e le h k ik ke =
    let in_ns : k < length ns = omega arith in
    let long : length ms ≡ length ns + length h.more = ap length h.is ∙ length-append ns h.more in
    let in_ms : k < length ms = omega arith in
    let (x, a, b) = some_at ns k in_ns in
    slice_get-get_or ms k x in_ms ∙ ap Some (ap (λ l. get_or l k x) h.is ∙ get_or-append ns h.more x k in_ns) ∙ sym (slice_get-get_or ns k x in_ns)

pub agree_refl : (ns : List Node) (i e : ℕ) → Agree ns ns i e
agree_refl ns i e k ik ke = refl

pub agree_within : (ns ms : List Node) (i j k e : ℕ) → i ≤ j → k ≤ e → Agree ns ms i e → Agree ns ms j k
agree_within ns ms i j k e ij ke h m jm mk = h m (omega arith) (omega arith)

pub agree_then : (ns ms ps : List Node) (i e : ℕ) → Agree ns ms i e → Agree ms ps i e → Agree ns ps i e
agree_then ns ms ps i e h g k ik ke = g k ik ke ∙ h k ik ke

module _ (b : Pool) (ns : List Node) where
  -- the elements that begin with a node
  first_element : (k room j e : ℕ) (n : Node) → j < e → slice_get ns j ≡ Some n →
      elements_of b ns (suc k) room j e ≡ element_at b ns (λ r a z. elements_of b ns k r a z) (λ x r a z. arms_of b ns k x r a z) room j e n
  first_element k room j e n lt at =
      let same : eqb j e ≡ false = ne_eqb j e (λ p. omega arith) in
      let less : ltb j e ≡ true = lt-ltb j e lt in
      rw (same, less, at) refl

  -- the same, with the steps that a list of elements up to e is given
  first_of_body : (room j e : ℕ) (n : Node) → j < e → slice_get ns j ≡ Some n →
      elements_of b ns (2 * (e - j)) room j e
      ≡ element_at b ns (λ r a z. elements_of b ns (2 * (e - j) - 1) r a z) (λ x r a z. arms_of b ns (2 * (e - j) - 1) x r a z) room j e n
  first_of_body room j e n lt at =
      let some : 2 * (e - j) ≡ suc (2 * (e - j) - 1) = omega arith in
      ap (λ k. elements_of b ns k room j e) some ∙ first_element (2 * (e - j) - 1) room j e n lt at

-- an arm, and those behind it, with more steps, in wider tables
more_arm : (b c : Pool) → Wider b c → (ns ms : List Node) (k room i e : ℕ) → 2 * (e - i) - 1 ≤ k → Agree ns ms i e → (a : Arm) (r : Arms) → ArmIn b ns room i e a r →
    arm_of c ms (λ q x z. elements_of c ms k q x z) (λ n q x z. arms_of c ms k n q x z) room i e a ≡ Some r
more_arm b c w ns ms k room i e le g a r h =
    let l = 2 * (e - i) - 1 in
    keeps_arm b c w ns ms l k (keeps_elements b c w ns ms l k le) (keeps_arms b c w ns ms l k le) room i e g a r h

module _ (b : Pool) (ns : List Node) where
  -- the elements that lead, and no more
  pub body_done : (room i j : ℕ) (f : Tree → Tree) → i ≤ j → Leads b ns room i j f → Body b ns room i j (f done)
  body_done room i j f le h =
      let none : 2 * (j - j) ≡ 0 = omega arith in
      h b ns (wider_refl b) (agree_refl ns i j) j done (omega arith) (ap (λ k. elements_of b ns k room j j) none ∙ only_is (eqb j j) done (eq-eqb j j refl))

  pub leads_none : (room i : ℕ) → Leads b ns room i i (λ t. t)
  leads_none room i c ms w g e t le h = h

  -- one more element that leads: a leaf, a block with an arm of its own, a `case`
  pub leads_leaf : (room i j : ℕ) (f : Tree → Tree) (p : ℕ) (l : Leaf) (x : tree.Leaf) → i ≤ j → slice_get ns j ≡ Some (node.Leaf p l) → leaf_of b l ≡ Some x →
      Leads b ns room i j f → Leads b ns room i (j + 1) (λ t. f (leaf p x t))
  leads_leaf room i j f p l x le at is h c ms w g e t je rest =
      let k = 2 * (e - j) - 1 in
      let there : slice_get ms j ≡ Some (node.Leaf p l) = g j le (omega arith) ∙ at in
      let more : elements_of c ms k room (j + 1) e ≡ Some t =
      keeps_elements c c (wider_refl c) ms ms (2 * (e - (j + 1))) k (omega arith) room (j + 1) e (agree_refl ms (j + 1) e) t rest in
      h c ms w (λ m a z. g m a (omega arith)) e (leaf p x t) (omega arith)
      (first_of_body c ms room j e (node.Leaf p l) (omega arith) there ∙ rw (keeps_leaf b c w l x is, more) refl)

  pub leads_wider : (c : Pool) (ms : List Node) (room i j : ℕ) (f : Tree → Tree) → Wider b c → Agree ns ms i j → Leads b ns room i j f → Leads c ms room i j f
  leads_wider c ms room i j f w g h d ps v u = h d ps (wider_then b c d w v) (agree_then ns ms ps i j g u)

  pub leads_open : (room i j end : ℕ) (f : Tree → Tree) (p : ℕ) (k : Block) (a : Arm) (x : tree.Block) (r : Arms) → i ≤ j → j < end → 0 < room →
      slice_get ns j ≡ Some (node.Open p k a end) → block_of b k ≡ Some x → ArmIn b ns (room - 1) j end a r →
      Leads b ns room i j f → Leads b ns room i end (λ t. f (block p x r t))
  leads_open room i j end f p k a x r le lt some at is in_block h c ms w g e t ends rest =
      let m = 2 * (e - j) - 1 in
      let there : slice_get ms j ≡ Some (node.Open p k a end) = g j le lt ∙ at in
      let first : (ltb 0 room && (ltb j end && leb end e)) ≡ true = rw (lt-ltb 0 room some, lt-ltb j end lt, le-leb end e ends) refl in
      let more : elements_of c ms m room end e ≡ Some t =
      keeps_elements c c (wider_refl c) ms ms (2 * (e - end)) m (omega arith) room end e (agree_refl ms end e) t rest in
      let arms : arm_of c ms (λ q x z. elements_of c ms m q x z) (λ n q x z. arms_of c ms m n q x z) (room - 1) j end a ≡ Some r =
      more_arm b c w ns ms m (room - 1) j end (omega arith) (λ q ja qe. g q (omega arith) qe) a r in_block in
      h c ms w (λ q ia qj. g q ia (omega arith)) e (block p x r t) (omega arith)
      (first_of_body c ms room j e (node.Open p k a end) (omega arith) there ∙ rw (first, keeps_block b c w k x is, arms, more) refl)

  pub leads_case : (room i j end : ℕ) (f : Tree → Tree) (p : ℕ) (x : Expr) (n : Next) (y : tree_expr.Expr) (r : Arms) → i ≤ j → j < end → 0 < room →
      slice_get ns j ≡ Some (node.Case p x n end) → expr_of b x ≡ Some y → ArmsIn b ns n (room - 1) (j + 1) end r →
      Leads b ns room i j f → Leads b ns room i end (λ t. f (block p (tree.case_block y) r t))
  leads_case room i j end f p x n y r le lt some at is in_block h c ms w g e t ends rest =
      let m = 2 * (e - j) - 1 in
      let there : slice_get ms j ≡ Some (node.Case p x n end) = g j le lt ∙ at in
      let first : (ltb 0 room && (ltb j end && leb end e)) ≡ true = rw (lt-ltb 0 room some, lt-ltb j end lt, le-leb end e ends) refl in
      let more : elements_of c ms m room end e ≡ Some t =
      keeps_elements c c (wider_refl c) ms ms (2 * (e - end)) m (omega arith) room end e (agree_refl ms end e) t rest in
      let arms : arms_of c ms m n (room - 1) (j + 1) end ≡ Some r =
      keeps_arms b c w ns ms (2 * (end - (j + 1)) + 1) m (omega arith) n (room - 1) (j + 1) end (λ q ja qe. g q (omega arith) qe) r in_block in
      h c ms w (λ q ia qj. g q ia (omega arith)) e (block p (tree.case_block y) r t) (omega arith)
      (first_of_body c ms room j e (node.Case p x n end) (omega arith) there ∙ rw (first, keeps_expr b c w x y is, arms, more) refl)

  -- an arm: its guard, its body and what stands behind it
  pub arm_in : (room i e : ℕ) (a : Arm) (g : tree.Guard) (t : Tree) (r : Arms) → i < a.body → a.body ≤ a.next → a.next ≤ e → guard_of b ns i a a.guard ≡ Some g →
      Body b ns room a.body a.next t → ArmsIn b ns a.then room a.next e r → ArmIn b ns room i e a (arm g t r)
  arm_in room i e a g t r l0 l1 l2 is body rest =
      let k = 2 * (e - i) - 1 in
      let fits : (ltb i a.body && (leb a.body a.next && leb a.next e)) ≡ true = rw (lt-ltb i a.body l0, le-leb a.body a.next l1, le-leb a.next e l2) refl in
      let elements : elements_of b ns k room a.body a.next ≡ Some t =
      keeps_elements b b (wider_refl b) ns ns (2 * (a.next - a.body)) k (omega arith) room a.body a.next (agree_refl ns a.body a.next) t body in
      let arms : arms_of b ns k a.then room a.next e ≡ Some r =
      keeps_arms b b (wider_refl b) ns ns (2 * (e - a.next) + 1) k (omega arith) a.then room a.next e (agree_refl ns a.next e) r rest in
      rw (fits, is, elements, arms) refl

  -- what stands behind an arm: nothing, an `else`, an arm with a node of its own
  pub arms_nothing : (room i : ℕ) → ArmsIn b ns next.Nothing room i i no_arms
  arms_nothing room i = only_is (eqb i i) no_arms (eq-eqb i i refl)

  pub arms_else : (room i e : ℕ) (t : Tree) → i ≤ e → Body b ns room i e t → ArmsIn b ns next.Else room i e (arm tree.always t no_arms)
  arms_else room i e t le h =
      let some : 2 * (e - i) + 1 ≡ suc (2 * (e - i)) = omega arith in
      ap (λ k. arms_of b ns k next.Else room i e) some ∙ rw h refl

  pub arms_node : (room i e : ℕ) (a : Arm) (r : Arms) → i < e → slice_get ns i ≡ Some (node.Arm a) → ArmIn b ns room i e a r → ArmsIn b ns next.Arm room i e r
  arms_node room i e a r lt at h =
      let some : 2 * (e - i) + 1 ≡ suc (2 * (e - i)) = omega arith in
      let arms : arm_of b ns (λ q x z. elements_of b ns (2 * (e - i)) q x z) (λ n q x z. arms_of b ns (2 * (e - i)) n q x z) room i e a ≡ Some r =
      more_arm b b (wider_refl b) ns ns (2 * (e - i)) room i e (omega arith) (agree_refl ns i e) a r h in
      ap (λ k. arms_of b ns k next.Arm room i e) some ∙ rw (lt-ltb i e lt, at) arms

  -- the same in tables that have grown
  pub body_wider : (c : Pool) (ms : List Node) (room i e : ℕ) (t : Tree) → Wider b c → Agree ns ms i e → Body b ns room i e t → Body c ms room i e t
  body_wider c ms room i e t w g h = keeps_elements b c w ns ms (2 * (e - i)) (2 * (e - i)) (omega arith) room i e g t h

  pub arms_wider : (c : Pool) (ms : List Node) (n : Next) (room i e : ℕ) (r : Arms) → Wider b c → Agree ns ms i e → ArmsIn b ns n room i e r → ArmsIn c ms n room i e r
  arms_wider c ms n room i e r w g h = keeps_arms b c w ns ms (2 * (e - i) + 1) (2 * (e - i) + 1) (omega arith) n room i e g r h

  pub arm_wider : (c : Pool) (ms : List Node) (room i e : ℕ) (a : Arm) (r : Arms) → Wider b c → Agree ns ms i e → ArmIn b ns room i e a r → ArmIn c ms room i e a r
  arm_wider c ms room i e a r w g h = more_arm b c w ns ms (2 * (e - i) - 1) room i e (omega arith) g a r h

  -- the guards
  pub guard_holds : (k i : ℕ) (a : Arm) (c : Condition) → k ≤ a.body → condition_of b ns k (i + 1) a.body ≡ Some c → guard_of b ns i a Holds ≡ Some (tree.holds c)
  guard_holds k i a c le h =
      ap (option_map tree.holds) (keeps_condition b b (wider_refl b) ns ns k a.body le (i + 1) a.body (agree_refl ns (i + 1) a.body) c h)

  pub guard_fails : (k i : ℕ) (a : Arm) (c : Condition) → k ≤ a.body → condition_of b ns k (i + 1) a.body ≡ Some c → guard_of b ns i a Fails ≡ Some (tree.fails c)
  guard_fails k i a c le h =
      ap (option_map tree.fails) (keeps_condition b b (wider_refl b) ns ns k a.body le (i + 1) a.body (agree_refl ns (i + 1) a.body) c h)

  pub guard_equals : (i : ℕ) (a : Arm) (s : Span) (xs : List tree_expr.Expr) → i + 1 ≡ a.body → values_of b s ≡ Some xs → guard_of b ns i a (Equals s) ≡ Some (tree.equals_one xs)
  guard_equals i a s xs at h = rw (eq-eqb (i + 1) a.body at, h) refl

  pub guard_has_items : (i : ℕ) (a : Arm) → i + 1 ≡ a.body → guard_of b ns i a HasItems ≡ Some tree.has_items
  guard_has_items i a at = only_is (eqb (i + 1) a.body) tree.has_items (eq-eqb (i + 1) a.body at)

  pub guard_always : (i : ℕ) (a : Arm) → i + 1 ≡ a.body → guard_of b ns i a Always ≡ Some tree.always
  guard_always i a at = only_is (eqb (i + 1) a.body) tree.always (eq-eqb (i + 1) a.body at)

  -- a condition of one test; a test, and what joins it with the condition behind
  pub condition_one : (i : ℕ) (n : Node) (t : Test) → slice_get ns i ≡ Some n → test_of b n ≡ Some t → condition_of b ns 1 i (i + 1) ≡ Some (lone t)
  condition_one i n t at is = rw (lt-ltb i (i + 1) (omega arith), at, is, eq-eqb (i + 1) (i + 1) refl) refl

  pub condition_joined : (k i e : ℕ) (n j : Node) (t : Test) (c d : Condition) → condition_of b ns k (i + 2) e ≡ Some c → i + 2 < e →
      slice_get ns i ≡ Some n → test_of b n ≡ Some t → slice_get ns (i + 1) ≡ Some j → join_of b j t c ≡ Some d → condition_of b ns (suc k) i e ≡ Some d
  condition_joined k i e n j t c d rest lt at is behind joins =
      rw (lt-ltb i e (omega arith), at, is, ne_eqb (i + 1) e (λ p. omega arith), lt-ltb (i + 1) e (omega arith), behind, rest) joins

  pub tree_of_body : (i e : ℕ) (t : Tree) → i ≤ e → e ≤ length ns → Body b ns 16 i e t → tree_at b ns i e ≡ Some t
  unfolding tree_at
  tree_of_body i e t ie le h =
      where_is (leb e (length ns)) (elements_of b ns (2 * length ns) 16 i e) (le-leb e (length ns) le)
      ∙ keeps_elements b b (wider_refl b) ns ns (2 * (e - i)) (2 * length ns) (omega arith) 16 i e (agree_refl ns i e) t h
