-- Arms, and what follows behind them.
use Rattle.std.proofs.Common.{◌≡◌, ℕ, zero, suc, ◌+◌, ◌<◌, ◌≤◌, length, Some, Ok, Err, slice_set, refl, sym, ap, ap₂, ◌∙◌, subst, arith}
use Rattle.cutter.specs.declared.places.Placed.{Placed}
use Rattle.cutter.specs.Ahead.{ahead}
use Rattle.tree.specs.Elements as tree
use Rattle.tree.specs.Elements.{Arms, no_arms, arm, always}
use Rattle.nodes.specs.declared.table.Next.{Next}
use Rattle.nodes.specs.declared.table.Next.TheVariants as next
use Rattle.nodes.specs.declared.table.Arm.{Arm}
use Rattle.nodes.specs.declared.table.Guard.{Guard}
use Rattle.nodes.specs.declared.table.Node.{Node}
use Rattle.nodes.specs.declared.table.Node.TheVariants as node
use Rattle.nodes.specs.Trees.{guard_of}
use Rattle.nodes.specs.Wider.{Agree, Wider}
use Rattle.nodes.specs.Built.{Body, ArmsIn, ArmIn}
use Rattle.nodes.proofs.Widens.{wider_then, keeps_guard}
use Rattle.nodes.proofs.Builds.{agree_front, agree_then, arm_in, arms_nothing, arms_else, arms_node, body_wider}
use Rattle.arguments.specs.declared.refusals.Stop.{Stop}
use Rattle.arguments.specs.Tables.{pool_of, lists_of, Sets}
use Rattle.sheet.specs.declared.parser.Parser.{Parser}
use Rattle.sheet.specs.declared.names.Block as code
use Rattle.sheet.specs.declared.blocks.Following as code_following
use Rattle.sheet.specs.declared.blocks.Following.TheVariants as following
use Rattle.sheet.specs.Steps.{Outcome, fails, gives, Step, give, followed, judged, pieces}
use Rattle.sheet.specs.Blocks.{Tag, Following, the_end, an_else, an_arm, follows, closes}
use Rattle.sheet.specs.Parsing.{Elements, Inner, elements, inner, arm_of, last_of, rest_of, continued, rests}
use Rattle.sheet.specs.Answers.{source_of, nodes_of, count, cut_of, taken, tag_in, Fails, Did, Went, Inners, InnerRead, Arming, ArmRead, Armed, RestRead, Same}
use Rattle.sheet.specs.Opening.{GuardIn, Follows}
use Rattle.sheet.proofs.Chaining.{went_then, front_length, fails_followed}
use Rattle.sheet.proofs.Setting.{set_count, agree_set, set_there, lists_same, wider_same}

-- behind the elements of an arm
pub arm_is : (end : ℕ) (go : Step Elements) (h : tree.Guard) (rest : Tag → Step Arms) (p q : Parser) (y : Inner) (t : Tag) → taken (inner end go) p ≡ gives y (cut_of q) (lists_of q.reader) → y.ending ≡ t →
    taken (arm_of end go h rest) p ≡ followed (taken (rest t) q) (λ a. give (arm h y.tree a))
unfolding arm_of
arm_is end go h rest p q y t g e = ap (λ v. followed v (λ b c l. followed (rest b.ending c l) (λ a. give (arm h b.tree a)))) g ∙ ap (λ u. followed (taken (rest u) q) (λ a. give (arm h y.tree a))) e

module _ (room : ℕ) (kind : code.Block) (p q s : Parser) (w : Placed) (k : Went p q) (l : Went q s) (m : suc (pieces (cut_of q)) ≤ pieces (cut_of p)) (i : InnerRead room p (Ok w) q) where
  -- what is read at q, in the words of the beginning
  rest_at : (n : ℕ) (t : Tag) → taken (rests (source_of p) p.end n room kind t) q ≡ taken (rests (source_of q) q.end n room kind t) q
  rest_at n t = ap₂ (λ a b. taken (rests a b n room kind t) q) (sym k.pool.source) (sym k.end)

  pub arm_made : (body from : ℕ) (nx : Next) (guard : Guard) → body ≡ count p → from ≡ count q → RestRead room kind w q (Ok nx) s →
      ArmRead room kind guard p (Ok (record { guard = guard; body = body; next = from; then = nx })) s
  arm_made body from nx guard b e r n h f =
      let (y, d, g) = i n f in
      let (a, arms, v) = r n (omega (arith, m, f)) in (
        arm h y.tree a,
        record {
          body = y.tree;
          rest = a;
          is = refl;
          guard = refl;
          from = b;
          order = omega (arith, b, e, front_length _ _ k.nodes);
          to = omega (arith, e, front_length _ _ l.nodes);
          elements =
              body_wider (pool_of q.reader) (nodes_of q) (pool_of s.reader) (nodes_of s) room body from y.tree l.pool (agree_front (nodes_of q) (nodes_of s) body from (omega (arith, e)) l.nodes)
              (subst (λ x. Body (pool_of q.reader) (nodes_of q) room x from y.tree) (sym b) (subst (λ x. Body (pool_of q.reader) (nodes_of q) room (count p) x y.tree) (sym e) d.0));
          arms = subst (λ x. ArmsIn (pool_of s.reader) (nodes_of s) nx room x (count s) a) (sym e) arms;
        },
        arm_is p.end (elements (source_of p) p.end n room) h (λ t. rests (source_of p) p.end n room kind t) p q y (tag_in q w) g d.1
            ∙ ap (λ v. followed v (λ a. give (arm h y.tree a))) (rest_at n (tag_in q w) ∙ v),
      )

  pub arm_refused : (x : Stop) → RestRead room kind w q (Err x) s → (n : ℕ) (h : tree.Guard) → pieces (cut_of p) < n →
      Fails x (taken (arm_of p.end (elements (source_of p) p.end n room) h (λ t. rests (source_of p) p.end n room kind t)) p)
  arm_refused x r n h f =
      let (y, d, g) = i n f in
      subst (Fails x) (sym (arm_is p.end (elements (source_of p) p.end n room) h (λ t. rests (source_of p) p.end n room kind t) p q y (tag_in q w) g d.1 ∙ ap (λ v. followed v (λ a. give (arm h y.tree a))) (rest_at n (tag_in q w))))
      (fails_followed x (taken (rests (source_of q) q.end n room kind (tag_in q w)) q) (λ a. give (arm h y.tree a)) (r n (omega (arith, m, f))))

-- an arm whose node is set when those behind it are read
module _ (room at : ℕ) (g : Guard) (h : tree.Guard) (q s u : Parser) (n : Node) (k : Went q s) (x : Sets s.reader u.reader (slice_set (nodes_of s) at n)) (before : at < count q) where
  pub arm_set : (a : Arm) (y : Arms) → GuardIn (pool_of q.reader) (nodes_of q) at (count q) g h → Arming room g h q s a y → ArmIn (pool_of u.reader) (nodes_of u) room at (count u) a y
  arm_set a y gi d =
      let b = pool_of u.reader in
      let ns = nodes_of u in
      let same = set_count s u at n x in
      let agree = agree_set s u at n x in
      let wide = wider_same s u at n x in
      let guard : guard_of b ns at a a.guard ≡ Some h =
      ap (guard_of b ns at a) d.guard
      ∙ keeps_guard (pool_of q.reader) b (wider_then (pool_of q.reader) (pool_of s.reader) b k.pool wide) (nodes_of q) ns at (count q) a g (omega (arith, d.from))
      (agree_then (nodes_of q) (nodes_of s) ns (at + 1) (count q) (agree_front (nodes_of q) (nodes_of s) (at + 1) (count q) (omega arith) k.nodes) (agree (at + 1) (count q) (omega arith))) h (gi a d.from) in
      subst (ArmIn b ns room at (count u) a) (sym d.is)
      (arm_in b ns room at (count u) a h d.body d.rest (omega (arith, before, d.from)) d.order (omega (arith, same, d.to)) guard
      (body_wider (pool_of s.reader) (nodes_of s) b ns room a.body a.next d.body wide (agree a.body a.next (omega (arith, before, d.from))) d.elements)
      (Rattle.nodes.proofs.Builds.arms_wider (pool_of s.reader) (nodes_of s) b ns a.then room a.next (count u) d.rest wide (agree a.next (count u) (omega (arith, before, d.from, d.order)))
      (subst (λ e. ArmsIn (pool_of s.reader) (nodes_of s) a.then room a.next e d.rest) (sym same) d.arms)))

  pub set_at : at < count u
  set_at = omega (arith, before, set_count s u at n x, front_length _ _ k.nodes)

  pub node_there : Rattle.std.specs.List.slice_get (nodes_of u) at ≡ Some n
  node_there = set_there s u at n x (omega (arith, before, front_length _ _ k.nodes))

-- what follows in a block, by the tag that ended the elements
module _ (room : ℕ) (kind : code.Block) (p q : Parser) (w : Placed) (k : Went p q) (c : q.cutter ≡ p.cutter) where
  follow_fuel : (n : ℕ) → suc (pieces (cut_of p)) < n → (m : ℕ) × (n ≡ suc m) × (pieces (cut_of p) < m)
  follow_fuel zero h = absurd (omega (arith, h))
  follow_fuel (suc m) h = (m, refl, omega (arith, h))

  -- the definition, one step further
  rest_step : (m : ℕ) → taken (rests (source_of p) p.end (suc m) room kind (tag_in p w)) p ≡
      followed (taken (judged (follows kind (tag_in p w)) (ahead p.reader.cursor)) p) (λ x. continued p.end (elements (source_of p) p.end m room) kind (λ t. rests (source_of p) p.end m room kind t) x)
  unfolding rest_of
  rest_step m = refl

  pub rest_refused : (x : Stop) → Fails x (taken (judged (follows kind (tag_in p w)) (ahead p.reader.cursor)) p) → (n : ℕ) → suc (pieces (cut_of p)) < n → Fails x (taken (rests (source_of p) p.end n room kind (tag_in p w)) p)
  rest_refused x h n f =
      let (m, e, g) = follow_fuel n f in
      subst (λ i. Fails x (taken (rests (source_of p) p.end i room kind (tag_in p w)) p)) (sym e)
      (subst (Fails x) (sym (rest_step m)) (fails_followed x _ _ h))

  module _ (f : code_following.Following) (d : Did (Ok f) (taken (judged (follows kind (tag_in p w)) (ahead p.reader.cursor)) p) (Follows p.reader q.reader) q) where
    -- what is read at q by the definition
    abbrev go_on : (m : ℕ) → Following → Outcome Arms
    go_on m y = taken (continued p.end (elements (source_of p) p.end m room) kind (λ t. rests (source_of p) p.end m room kind t) y) q

    went_on : (n : ℕ) → suc (pieces (cut_of p)) < n → (m : ℕ) × (pieces (cut_of q) < m) × (y : Following) × Follows p.reader q.reader f y × (taken (rests (source_of p) p.end n room kind (tag_in p w)) p ≡ go_on m y)
    went_on n h =
        let (m, e, g) = follow_fuel n h in
        let (y, r, is) = d in (
          m,
          omega (arith, g, k.pieces),
          y,
          r,
          ap (λ i. taken (rests (source_of p) p.end i room kind (tag_in p w)) p) e ∙ rest_step m
              ∙ ap (λ v. followed v (λ x. continued p.end (elements (source_of p) p.end m room) kind (λ t. rests (source_of p) p.end m room kind t) x)) is,
        )

module _ (room : ℕ) (kind : code.Block) (p q : Parser) (w : Placed) (k : Went p q) (c : q.cutter ≡ p.cutter) where
  pub rest_end : Did (Ok following.End) (taken (judged (follows kind (tag_in p w)) (ahead p.reader.cursor)) p) (Follows p.reader q.reader) q → RestRead room kind w p (Ok next.Nothing) q
  rest_end d n h = let (m, f, y, r, is) = went_on room kind p q w k c following.End d n h in at_end m y r is
    where
      at_end : (m : ℕ) (y : Following) → Follows p.reader q.reader following.End y → taken (rests (source_of p) p.end n room kind (tag_in p w)) p ≡ go_on room kind p q w k c following.End d m y →
          Did (Ok next.Nothing) (taken (rests (source_of p) p.end n room kind (tag_in p w)) p) (Armed room p q) q
      at_end m the_end r is = (no_arms, subst (λ j. ArmsIn (pool_of q.reader) (nodes_of q) next.Nothing room (count p) j no_arms) (sym (ap length r)) (arms_nothing (pool_of q.reader) (nodes_of q) room (count p)), is)
      at_end m an_else r is = absurd r
      at_end m (an_arm y) r is = absurd r

-- an `else`: its elements, and the end tag
module _ (room : ℕ) (kind : code.Block) (p q s : Parser) (w : Placed) (k : Went p q) (c : q.cutter ≡ p.cutter) (d : Did (Ok following.Else) (taken (judged (follows kind (tag_in p w)) (ahead p.reader.cursor)) p) (Follows p.reader q.reader) q) where
  else_is : (n : ℕ) → suc (pieces (cut_of p)) < n → (m : ℕ) × (pieces (cut_of q) < m) × (nodes_of q ≡ nodes_of p) × (taken (rests (source_of p) p.end n room kind (tag_in p w)) p ≡ taken (arm_of q.end (elements (source_of q) q.end m room) always (last_of q.end (elements (source_of q) q.end m room) kind)) q)
  else_is n h = let (m, f, y, r, is) = went_on room kind p q w k c following.Else d n h in at_else m f y r is
    where
      at_else : (m : ℕ) → pieces (cut_of q) < m → (y : Following) → Follows p.reader q.reader following.Else y → taken (rests (source_of p) p.end n room kind (tag_in p w)) p ≡ go_on room kind p q w k c following.Else d m y →
          (m : ℕ) × (pieces (cut_of q) < m) × (nodes_of q ≡ nodes_of p) × (taken (rests (source_of p) p.end n room kind (tag_in p w)) p ≡ taken (arm_of q.end (elements (source_of q) q.end m room) always (last_of q.end (elements (source_of q) q.end m room) kind)) q)
      at_else m f the_end r is = absurd r
      at_else m f an_else r is = (m, f, r, is ∙ ap₂ (λ a b. taken (arm_of b (elements a b m room) always (last_of b (elements a b m room) kind)) q) (sym k.pool.source) (sym k.end))
      at_else m f (an_arm y) r is = absurd r

  pub else_inner_refused : (x : Stop) → InnerRead room q (Err x) s → (n : ℕ) → suc (pieces (cut_of p)) < n → Fails x (taken (rests (source_of p) p.end n room kind (tag_in p w)) p)
  unfolding arm_of
  else_inner_refused x i n h =
      let (m, f, e, is) = else_is n h in
      subst (Fails x) (sym is) (fails_followed x _ _ (i m f))

  module _ (u : Parser) (v : Placed) (i : InnerRead room q (Ok v) s) where
    last_is : (m : ℕ) (y : Inner) → taken (inner q.end (elements (source_of q) q.end m room)) q ≡ gives y (cut_of s) (lists_of s.reader) → y.ending ≡ tag_in s v →
        taken (arm_of q.end (elements (source_of q) q.end m room) always (last_of q.end (elements (source_of q) q.end m room) kind)) q ≡
        followed (followed (taken (judged (closes kind (tag_in s v)) (ahead s.reader.cursor)) s) (λ z. give no_arms)) (λ a. give (arm always y.tree a))
    unfolding last_of
    last_is m y g e = arm_is q.end (elements (source_of q) q.end m room) always (last_of q.end (elements (source_of q) q.end m room) kind) q s y (tag_in s v) g e

    pub else_last_refused : (x : Stop) → Fails x (taken (judged (closes kind (tag_in s v)) (ahead s.reader.cursor)) s) → (n : ℕ) → suc (pieces (cut_of p)) < n → Fails x (taken (rests (source_of p) p.end n room kind (tag_in p w)) p)
    else_last_refused x l n h =
        let (m, f, e, is) = else_is n h in
        let (y, b, g) = i m f in
        subst (Fails x) (sym (is ∙ last_is m y g b.1)) (fails_followed x _ (λ a. give (arm always y.tree a)) (fails_followed x _ (λ z. give no_arms) l))

    pub rest_else : Went q s → Went s u → Did (Ok (tt {0})) (taken (judged (closes kind (tag_in s v)) (ahead s.reader.cursor)) s) (Same s u) u → RestRead room kind w p (Ok next.Else) u
    rest_else qs su l n h =
        let (m, f, e, is) = else_is n h in
        let (y, b, g) = i m f in
        let (z, same, closed) = l in
        let from : count p ≡ count q = ap length (sym e) in
        let body = body_wider (pool_of s.reader) (nodes_of s) (pool_of u.reader) (nodes_of u) room (count q) (count s) y.tree su.pool (agree_front (nodes_of s) (nodes_of u) (count q) (count s) (omega arith) su.nodes) b.0 in
        let arms = arms_else (pool_of u.reader) (nodes_of u) room (count q) (count s) y.tree (front_length _ _ qs.nodes) body in (
          arm always y.tree no_arms,
          subst (λ a. ArmsIn (pool_of u.reader) (nodes_of u) next.Else room a (count u) (arm always y.tree no_arms)) (sym from)
              (subst (λ a. ArmsIn (pool_of u.reader) (nodes_of u) next.Else room (count q) a (arm always y.tree no_arms)) (sym (ap length same)) arms),
          is ∙ last_is m y g b.1 ∙ ap (λ t. followed (followed t (λ z. give no_arms)) (λ a. give (arm always y.tree a))) closed,
        )

-- another arm
module _ (room : ℕ) (kind : code.Block) (p q s : Parser) (w : Placed) (guard : Guard) (k : Went p q) (c : q.cutter ≡ p.cutter) (d : Did (Ok (following.Arm guard)) (taken (judged (follows kind (tag_in p w)) (ahead p.reader.cursor)) p) (Follows p.reader q.reader) q) where
  abbrev another : ℕ → tree.Guard → ℕ → Type 0
  another n y m = (count p < count q) × GuardIn (pool_of q.reader) (nodes_of q) (count p) (count q) guard y × (pieces (cut_of q) < m) × (taken (rests (source_of p) p.end n room kind (tag_in p w)) p ≡ taken (arm_of q.end (elements (source_of q) q.end m room) y (λ t. rests (source_of q) q.end m room kind t)) q)

  another_is : (n : ℕ) → suc (pieces (cut_of p)) < n → (y : tree.Guard) × (m : ℕ) × another n y m
  another_is n h = let (m, f, y, r, is) = went_on room kind p q w k c (following.Arm guard) d n h in at_arm m f y r is
    where
      at_arm : (m : ℕ) → pieces (cut_of q) < m → (y : Following) → Follows p.reader q.reader (following.Arm guard) y → taken (rests (source_of p) p.end n room kind (tag_in p w)) p ≡ go_on room kind p q w k c (following.Arm guard) d m y →
          (y : tree.Guard) × (m : ℕ) × another n y m
      at_arm m f the_end r is = absurd r
      at_arm m f an_else r is = absurd r
      at_arm m f (an_arm y) r is = (y, m, (r.0, r.1, f, is ∙ ap₂ (λ a b. taken (arm_of b (elements a b m room) y (λ t. rests a b m room kind t)) q) (sym k.pool.source) (sym k.end)))

  pub rest_arm_refused : (x : Stop) → ArmRead room kind guard q (Err x) s → (n : ℕ) → suc (pieces (cut_of p)) < n → Fails x (taken (rests (source_of p) p.end n room kind (tag_in p w)) p)
  rest_arm_refused x r n h =
      let (y, m, found) = another_is n h in
      let (b, g, f, is) = found in
      subst (Fails x) (sym is) (r m y f)

  pub rest_arm : (u : Parser) (at : ℕ) (a : Arm) → at ≡ count p → Went q s → ArmRead room kind guard q (Ok a) s → Sets s.reader u.reader (slice_set (nodes_of s) at (node.Arm a)) → u.cutter ≡ s.cutter → RestRead room kind w p (Ok next.Arm) u
  rest_arm u at a e l r x cut n h =
      let (y, m, found) = another_is n h in
      let (b, g, f, is) = found in
      let (arms, made, v) = r m y f in
      let before : at < count q = omega (arith, e, b) in
      let here = arm_set room at guard y q s u (node.Arm a) l x before a arms (subst (λ i. GuardIn (pool_of q.reader) (nodes_of q) i (count q) guard y) (sym e) g) made in
      let there = arms_node (pool_of u.reader) (nodes_of u) room at (count u) a arms (set_at room at guard y q s u (node.Arm a) l x before) (node_there room at guard y q s u (node.Arm a) l x before) here in (
        arms,
        subst (λ i. ArmsIn (pool_of u.reader) (nodes_of u) next.Arm room i (count u) arms) e there,
        is ∙ v ∙ ap₂ (λ z t. gives arms z t) (ap Rattle.cutter.specs.Left.left (sym cut)) (sym (lists_same s u at (node.Arm a) x)),
      )
