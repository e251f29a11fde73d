-- The arms of a block, one by one.
use Rattle.std.proofs.Common.{◌≡◌, ℕ, zero, suc, ◌+◌, ◌<◌, ◌≤◌, Bool, true, false, ◌&&◌, cond, eqb, ltb, leb, List, Some, None, Ok, Err, Option, refl, ap, ◌∙◌, sym, subst, arith}
use Rattle.std.proofs.lemmas.Bool.{eqb-true, ltb-true, leb-true, le-leb}
use Rattle.std.specs.List.{slice_get}
use Rattle.tree.specs.Elements.{Block, Guard, holds, fails, equals_one, always, Tree, done, Arms, no_arms, arm}
use Rattle.nodes.specs.declared.table.Arm.{Arm}
use Rattle.nodes.specs.declared.table.Guard as table
use Rattle.nodes.specs.declared.table.Guard.TheVariants as guard
use Rattle.nodes.specs.declared.table.Next.TheVariants as next
use Rattle.nodes.specs.declared.table.Node.{Node}
use Rattle.nodes.specs.declared.table.Node.TheVariants as node
use Rattle.nodes.specs.Exprs.{Pool, ◌so◌, where_so}
use Rattle.nodes.specs.Trees.{guard_of, arm_at, element_at, elements_of, arms_of}
use Rattle.nodes.proofs.Options.{none_some, some_is, so_parts, where_parts, only_parts, only_is, mapped_parts}
use Rattle.held.specs.declared.faults.Fault.{Fault}
use Rattle.held.specs.declared.scenes.Scene.{Scene}
use Rattle.held.specs.Scenes.{host_in, pool_of, Fits}
use Rattle.frames.specs.declared.stack.Frames as code
use Rattle.frames.specs.Views.{around_in}
use Rattle.meaning.specs.Things.{Drawers}
use Rattle.meaning.specs.Frames.{Frames}
use Rattle.meaning.specs.Acts.{go_on, still, ◌and_then◌}
use Rattle.meaning.specs.Looking.{World}
use Rattle.meaning.specs.Openings.{Opening}
use Rattle.meaning.specs.Rendering.{taken}
use Rattle.renderer.specs.declared.guards.Seen.{Seen}
use Rattle.renderer.specs.declared.guards.First.{First}
use Rattle.renderer.specs.declared.guards.First.TheVariants as first
use Rattle.renderer.specs.declared.guards.Chosen.{Chosen}
use Rattle.renderer.specs.Running.{Spells, SpellsArms}
use Rattle.renderer.specs.Guards.{Sees, Passed, IsFirst, Comes, otherwise_in, from, SpellsArm, Stands, IsGuard, visiting, Taken}

both_parts : (a b : Bool) → (a && b) ≡ true → (a ≡ true) × (b ≡ true)
both_parts true b h = (refl, h)
both_parts false b h = let z : ◌≡◌ {A = ℕ} 0 1 = cc in absurd (omega arith)

-- the number of the node that the arms begin at
abbrev pub start : First → ℕ
start (first.Arm i a) = i
start (first.Behind n i) = i

pub starts : (ns : List Node) (f : First) (i : ℕ) (a : Arm) → IsFirst ns f i a → (start f ≡ i) × (from f ≤ i + 1)
starts ns (first.Arm j b) i a h = let same = h.0 in (h.0, omega arith)
starts ns (first.Behind next.Nothing j) i a h = absurd h
starts ns (first.Behind next.Arm j) i a h = let same = h.0 in (h.0, omega arith)
starts ns (first.Behind next.Else j) i a h = absurd h

-- an arm, its elements, and the arms behind it
record ArmParts (b : Pool) (ns : List Node) (room i e : ℕ) (a : Arm) (r : Arms) : Type 0 where
  pub behind : i < a.body
  pub order : a.body ≤ a.next
  pub before : a.next ≤ e
  pub guard : Guard
  pub body : Tree
  pub rest : Arms
  pub guarded : guard_of b ns i a a.guard ≡ Some guard
  pub spelt : Spells b ns room a.body a.next body
  pub more : SpellsArms b ns a.then room a.next e rest
  pub is : r ≡ arm guard body rest

module _ (b : Pool) (ns : List Node) (room e : ℕ) where
  arm_parts : (i : ℕ) (a : Arm) (r : Arms) → SpellsArm b ns a room i e r → ArmParts b ns room i e a r
  arm_parts i a r h =
      let (fits, inner) = where_parts _ _ r h.is in
      let (behind, more) = both_parts _ _ fits in
      let (order, before) = both_parts _ _ more in
      let (g, guarded, q) = so_parts _ _ r inner in
      let (t, spelt, z) = so_parts _ _ r q in
      let (m, rest, is) = so_parts _ _ r z in
      record {
        behind = ltb-true i a.body behind;
        order = leb-true a.body a.next order;
        before = leb-true a.next e before;
        guard = g;
        body = t;
        rest = m;
        guarded = guarded;
        spelt = record { steps = h.steps; is = spelt };
        more = record { steps = h.steps; is = rest };
        is = sym (some_is _ _ is);
      }

  -- the node of an arm behind another
  arm_behind : (k i : ℕ) (r : Arms) → arms_of b ns k next.Arm room i e ≡ Some r → (a : Arm) × (slice_get ns i ≡ Some (node.Arm a)) × SpellsArm b ns a room i e r
  arm_behind zero i r h = none_some r h
  arm_behind (suc k) i r h =
      let (l, inner) = where_parts _ _ r h in
      let (n, at, is) = so_parts _ _ r inner in
      go n at is
    where
      go : (n : Node) → slice_get ns i ≡ Some n → arm_at b ns (λ r a z. elements_of b ns k r a z) (λ x r a z. arms_of b ns k x r a z) room i e n ≡ Some r →
          (a : Arm) × (slice_get ns i ≡ Some (node.Arm a)) × SpellsArm b ns a room i e r
      go (node.Leaf p l) at is = none_some r is
      go (node.Open p o a end) at is = none_some r is
      go (node.Case p x n end) at is = none_some r is
      go (node.Arm a) at is = (a, at, record { steps = k; is = is })
      go (node.Exists x) at is = none_some r is
      go (node.Compares x c y) at is = none_some r is
      go node.And at is = none_some r is
      go node.Or at is = none_some r is

  reaches : (k i : ℕ) (t : Tree) → elements_of b ns k room i e ≡ Some t → i ≤ e
  reaches zero i t h = let same = eqb-true i e ((only_parts _ _ _ h).0) in omega arith
  reaches (suc k) i t h = tested (eqb i e) refl h
    where
      tested : (c : Bool) → eqb i e ≡ c → cond c (Some done) (where_so (ltb i e) (slice_get ns i so λ n. element_at b ns (λ r a z. elements_of b ns k r a z) (λ x r a z. arms_of b ns k x r a z) room i e n)) ≡ Some t → i ≤ e
      tested true c q = let same = eqb-true i e c in omega arith
      tested false c q = let less = ltb-true i e ((where_parts _ _ _ q).0) in omega arith

  -- the elements of an `else`
  else_behind : (k i : ℕ) (r : Arms) → arms_of b ns k next.Else room i e ≡ Some r → (t : Tree) × (i ≤ e) × Spells b ns room i e t × (r ≡ arm always t no_arms)
  else_behind zero i r h = none_some r h
  else_behind (suc k) i r h =
      let (t, spelt, is) = so_parts _ _ r h in
      (t, reaches k i t spelt, record { steps = k; is = spelt }, sym (some_is _ _ is))

  nothing_behind : (k i : ℕ) (r : Arms) → arms_of b ns k next.Nothing room i e ≡ Some r → r ≡ no_arms
  nothing_behind zero i r h = sym ((only_parts _ _ r h).1)
  nothing_behind (suc k) i r h = sym ((only_parts _ _ r h).1)

  -- the first arm is one of the tree
  first_spelt : (f : First) (i : ℕ) (a : Arm) (r : Arms) → Stands b ns room e f r → IsFirst ns f i a → SpellsArm b ns a room i e r
  first_spelt (first.Arm j c) i a r h is = subst (λ x. SpellsArm b ns a room x e r) is.0 (subst (λ x. SpellsArm b ns x room j e r) is.1 h)
  first_spelt (first.Behind next.Nothing j) i a r h is = absurd is
  first_spelt (first.Behind next.Arm j) i a r h is =
      let (c, at, spelt) = arm_behind h.steps j r h.is in
      let same : node.Arm c ≡ node.Arm a = some_is _ _ (sym at ∙ is.1) in
      let one : c ≡ a = cc in
      subst (λ x. SpellsArm b ns a room x e r) is.0 (subst (λ x. SpellsArm b ns x room j e r) one spelt)
  first_spelt (first.Behind next.Else j) i a r h is = absurd is

  comes : (f : First) (i : ℕ) (a : Arm) (r : Arms) → IsFirst ns f i a → SpellsArm b ns a room i e r → Comes ns e f i a
  comes f i a r is h =
      let p = arm_parts i a r h in
      record { is = is; behind = p.behind; order = p.order; before = p.before }

  -- where no arm comes: an `else`, or no arms
  record ElseParts (i : ℕ) (r : Arms) : Type 0 where
    pub body : Tree
    pub spelt : Spells b ns room i e body
    pub is : r ≡ arm always body no_arms

  abbrev Last : Option Chosen → Arms → Type 0
  Last None r = r ≡ no_arms
  Last (Some c) r = (c.end ≡ e) × (c.guard ≡ guard.Always) × ElseParts c.body r

  last_is : (f : First) (r : Arms) → Stands b ns room e f r → ((i : ℕ) (a : Arm) → Comes ns e f i a → ⊥) → Last (otherwise_in e f) r
  last_is (first.Arm i a) r h none = absurd (none i a (comes (first.Arm i a) i a r (refl, refl) h))
  last_is (first.Behind next.Nothing i) r h none = nothing_behind h.steps i r h.is
  last_is (first.Behind next.Arm i) r h none =
      let (a, at, spelt) = arm_behind h.steps i r h.is in
      absurd (none i a (comes (first.Behind next.Arm i) i a r (refl, at) spelt))
  last_is (first.Behind next.Else i) r h none =
      let (t, within, spelt, is) = else_behind h.steps i r h.is in
      subst (λ q. Last q r) (sym (only_is (leb i e) (record { guard = guard.Always; body = i; end = e }) (le-leb i e within)))
      (refl, refl, record { body = t; spelt = spelt; is = is })

  -- what a guard of the table is
  guard_is : (i : ℕ) (a : Arm) (k : table.Guard) (g : Guard) → guard_of b ns i a k ≡ Some g → IsGuard k g
  guard_is i a guard.Holds g h = let (c, q, m) = mapped_parts holds _ g h in (c, sym m)
  guard_is i a guard.Fails g h = let (c, q, m) = mapped_parts fails _ g h in (c, sym m)
  guard_is i a (guard.Equals s) g h =
      let (z, x) = where_parts _ _ g h in
      let (xs, q, m) = mapped_parts equals_one _ g x in
      (xs, sym m)
  guard_is i a guard.HasItems g h = sym ((only_parts _ _ g h).1)
  guard_is i a guard.Always g h = sym ((only_parts _ _ g h).1)

module _ (s : Scene) (fs : code.Frames) (d : Drawers) (v : Seen) (room end : ℕ) where
  abbrev e : Frames
  e = around_in (host_in s) fs

  -- the arms that are left come to what all come to
  pub record Untaken (f : First) (r : Arms) : Type 0 where
    pub rest : Arms
    pub stands : Stands (pool_of s) s.book.nodes.now room end f rest
    pub same : (w : World) (b : Block) (p : ℕ) (o : Opening) (t : List ℕ) → Fits w s → Sees v o → taken w b p o r e d t ≡ taken w b p o rest e d t

  pub taken_fault : (f : First) (i : ℕ) (a : Arm) (r : Arms) (k : Fault) → Untaken f r → Comes s.book.nodes.now end f i a → Passed s fs d a i v (Err k) → Taken s fs d room v r (Err k)
  unfolding taken ◌and_then◌
  taken_fault f i a r k l c h w b p o t fits sees =
      let m = arm_parts (pool_of s) s.book.nodes.now room end i a l.rest (first_spelt (pool_of s) s.book.nodes.now room end f i a l.rest l.stands c.is) in
      l.same w b p o t fits sees ∙ ap (λ x. taken w b p o x e d t) m.is
      ∙ ap (λ z. go_on z (λ y. cond y (visiting w b p o m.guard m.body e) (taken w b p o m.rest e))) (h m.guard o m.guarded sees w p t fits)

  taken_step : (f : First) (i : ℕ) (a : Arm) (r : Arms) (y : Bool) → (l : Untaken f r) → Comes s.book.nodes.now end f i a → Passed s fs d a i v (Ok y) →
      (m : ArmParts (pool_of s) s.book.nodes.now room i end a l.rest) × ((w : World) (b : Block) (p : ℕ) (o : Opening) (t : List ℕ) → Fits w s → Sees v o →
      taken w b p o r e d t ≡ cond y (visiting w b p o m.guard m.body e d t) (taken w b p o m.rest e d t))
  unfolding taken ◌and_then◌
  taken_step f i a r y l c h =
      let m = arm_parts (pool_of s) s.book.nodes.now room end i a l.rest (first_spelt (pool_of s) s.book.nodes.now room end f i a l.rest l.stands c.is) in (
        m,
        λ w b p o t fits sees.
            l.same w b p o t fits sees ∙ ap (λ x. taken w b p o x e d t) m.is
            ∙ ap (λ z. go_on z (λ y. cond y (visiting w b p o m.guard m.body e) (taken w b p o m.rest e))) (h m.guard o m.guarded sees w p t fits)
            ∙ by y w b p o t m.guard m.body m.rest,
      )
    where
      by : (y : Bool) (w : World) (b : Block) (p : ℕ) (o : Opening) (t : List ℕ) (g : Guard) (x : Tree) (n : Arms) →
          cond y (visiting w b p o g x e) (taken w b p o n e) d t ≡ cond y (visiting w b p o g x e d t) (taken w b p o n e d t)
      by true w b p o t g x n = refl
      by false w b p o t g x n = refl

  pub taken_here : (f : First) (i : ℕ) (a : Arm) (r : Arms) (y : Bool) → Untaken f r → Comes s.book.nodes.now end f i a → Passed s fs d a i v (Ok y) → y ≡ true →
      Taken s fs d room v r (Ok (Some (record { guard = a.guard; body = a.body; end = a.next })))
  taken_here f i a r y l c h passed =
      let (m, q) = taken_step f i a r y l c h in
      record {
        guard = m.guard;
        body = m.body;
        kind = guard_is (pool_of s) s.book.nodes.now room end i a a.guard m.guard m.guarded;
        spells = m.spelt;
        visits = λ w b p o t fits sees. q w b p o t fits sees ∙ ap (λ y. cond y (visiting w b p o m.guard m.body e d t) (taken w b p o m.rest e d t)) passed;
      }

  pub untaken_more : (f : First) (i : ℕ) (a : Arm) (r : Arms) (y : Bool) → Untaken f r → Comes s.book.nodes.now end f i a → Passed s fs d a i v (Ok y) → y ≡ false →
      Untaken (first.Behind a.then a.next) r
  untaken_more f i a r y l c h failed =
      let (m, q) = taken_step f i a r y l c h in
      record {
        rest = m.rest;
        stands = m.more;
        same = λ w b p o t fits sees. q w b p o t fits sees ∙ ap (λ y. cond y (visiting w b p o m.guard m.body e d t) (taken w b p o m.rest e d t)) failed;
      }

  taken_last : (c : Option Chosen) (r rest : Arms) → ((w : World) (b : Block) (p : ℕ) (o : Opening) (t : List ℕ) → Fits w s → Sees v o → taken w b p o r e d t ≡ taken w b p o rest e d t) →
      Last (pool_of s) s.book.nodes.now room end c rest → Taken s fs d room v r (Ok c)
  unfolding taken ◌and_then◌ still Rattle.meaning.specs.Blocks.passes
  taken_last None r rest same h = λ w b p o t fits sees. same w b p o t fits sees ∙ ap (λ x. taken w b p o x e d t) h
  taken_last (Some c) r rest same h =
      let m = h.2 in
      record {
        guard = always;
        body = m.body;
        kind = subst (λ k. IsGuard k always) (sym h.1) refl;
        spells = subst (λ x. Spells (pool_of s) s.book.nodes.now room c.body x m.body) (sym h.0) m.spelt;
        visits = λ w b p o t fits sees. same w b p o t fits sees ∙ ap (λ x. taken w b p o x e d t) m.is;
      }

  -- where no arm comes that is left
  pub taken_otherwise : (f : First) (r : Arms) (c : Option Chosen) → Untaken f r → ((i : ℕ) (a : Arm) → Comes s.book.nodes.now end f i a → ⊥) → c ≡ otherwise_in end f → Taken s fs d room v r (Ok c)
  taken_otherwise f r c l none is =
      subst (λ c. Taken s fs d room v r (Ok c)) (sym is) (taken_last (otherwise_in end f) r l.rest l.same (last_is (pool_of s) s.book.nodes.now room end f l.rest l.stands none))
