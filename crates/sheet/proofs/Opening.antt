-- Blocks.
use Rattle.std.proofs.Common.{◌≡◌, ℕ, zero, suc, ◌+◌, ◌-◌, ◌<◌, ◌≤◌, length, take, Some, Ok, Err, slice_set, refl, sym, ap, ap₂, ◌∙◌, subst, arith}
use Rattle.std.proofs.lemmas.List.{length-take}
use Rattle.cutter.specs.declared.places.Placed.{Placed}
use Rattle.cutter.specs.Ahead.{ahead}
use Rattle.cutter.specs.Cuts.{Cut}
use Rattle.cutter.specs.Left.{left}
use Rattle.tree.specs.Elements as tree
use Rattle.tree.specs.Elements.{Tree, block, case_block, Arms}
use Rattle.tree.specs.Expressions as tree_expr
use Rattle.nodes.specs.declared.exprs.Expr.{Expr}
use Rattle.nodes.specs.declared.table.Next.{Next}
use Rattle.nodes.specs.declared.table.Arm.{Arm}
use Rattle.nodes.specs.declared.table.Block.{Block}
use Rattle.nodes.specs.declared.table.Guard.{Guard}
use Rattle.nodes.specs.declared.table.Node.TheVariants as node
use Rattle.nodes.specs.Exprs.{expr_of}
use Rattle.nodes.specs.Trees.{block_of}
use Rattle.nodes.specs.Wider.{Wider}
use Rattle.nodes.specs.Built.{ArmsIn, Leads}
use Rattle.nodes.proofs.Widens.{wider_then, keeps_block, keeps_expr}
use Rattle.nodes.proofs.Builds.{leads_none, leads_open, leads_case}
use Rattle.arguments.specs.declared.refusals.Stop.{Stop}
use Rattle.arguments.specs.Judging.{Lists, Judge, State, Verdict, refuses, passes, noted}
use Rattle.arguments.specs.Tables.{pool_of, lists_of, Sets}
use Rattle.sheet.specs.declared.parser.Parser.{Parser}
use Rattle.sheet.specs.declared.names.Block as code
use Rattle.sheet.specs.declared.blocks.Opened as code_opened
use Rattle.sheet.specs.declared.blocks.Opened.TheVariants as code_open
use Rattle.sheet.specs.Steps.{Outcome, fails, gives, Step, give, followed, settled, judged, pieces}
use Rattle.sheet.specs.Blocks.{Tag, opens, Opened, with_arm, a_case, opened}
use Rattle.sheet.specs.Parsing.{Found, a_block, Inner, elements, inner, arm_of, dropped, filled, block_at, rests}
use Rattle.sheet.specs.Answers.{source_of, nodes_of, count, cut_of, taken, tag_in, Fails, Did, Went, InnerRead, Arming, ArmRead, Armed, RestRead, Finds, BlockRead}
use Rattle.sheet.specs.Opening.{GuardIn, Opens}
use Rattle.sheet.proofs.Chaining.{went_then, front_length, fails_followed}
use Rattle.sheet.proofs.Setting.{set_count, lists_same, lists_set, wider_same, wider_set}
use Rattle.sheet.proofs.Arming.{arm_set, set_at, node_there}

-- a block that opened had room
has_room : {A : Type 0} (r p : ℕ) (j : Judge A) (s : State) (c d : Cut) (y : A) (l : Lists) → settled (opens r p j s) c ≡ gives y d l → 0 < r
has_room zero p j s c d y l e = cc
has_room (suc r) p j s c d y l e = omega arith

module _ (room : ℕ) (kind : code.Block) (p q : Parser) (k : Went p q) (c : q.cutter ≡ p.cutter) where
  abbrev pub start : Outcome Opened
  start = taken (judged (opens room p.reader.mark (opened kind p.reader.mark)) (ahead p.reader.cursor)) p

  abbrev pub whole : ℕ → Outcome Found
  whole n = taken (block_at p.end (elements (source_of p) p.end n (room - 1)) room p.reader.mark (λ b t. rests (source_of p) p.end n (room - 1) b t) kind (ahead p.reader.cursor)) p

  -- the definition behind the arguments
  abbrev pub filling : ℕ → Opened → Step Found
  filling n x = filled p.end (elements (source_of p) p.end n (room - 1)) p.reader.mark (λ b t. rests (source_of p) p.end n (room - 1) b t) kind x

  block_step : (n : ℕ) → whole n ≡ followed start (filling n)
  unfolding block_at
  block_step n = refl

  pub block_refused : (x : Stop) → Fails x start → (n : ℕ) → Fails x (whole n)
  block_refused x h n = subst (Fails x) (sym (block_step n)) (fails_followed x start (filling n) h)

  -- a block with an arm
  module _ (b : Block) (guard : Guard) (d : Did (Ok (code_open.Arm b guard)) start (Opens p.reader q.reader) q) where
    armed_is : (n : ℕ) → (x : tree.Block) × (y : tree.Guard) × (block_of (pool_of q.reader) b ≡ Some x) × (count p < count q) × GuardIn (pool_of q.reader) (nodes_of q) (count p) (count q) guard y × (0 < room)
        × (whole n ≡ followed (taken (arm_of q.end (elements (source_of q) q.end n (room - 1)) y (λ t. rests (source_of q) q.end n (room - 1) kind t)) q) (λ a. give (a_block p.reader.mark x a)))
    armed_is n = let (y, r, is) = d in go y r is
      where
        go : (y : Opened) → Opens p.reader q.reader (code_open.Arm b guard) y → start ≡ gives y (cut_of q) (lists_of q.reader) →
            (x : tree.Block) × (y : tree.Guard) × (block_of (pool_of q.reader) b ≡ Some x) × (count p < count q) × GuardIn (pool_of q.reader) (nodes_of q) (count p) (count q) guard y × (0 < room)
            × (whole n ≡ followed (taken (arm_of q.end (elements (source_of q) q.end n (room - 1)) y (λ t. rests (source_of q) q.end n (room - 1) kind t)) q) (λ a. give (a_block p.reader.mark x a)))
        go (with_arm x y) r is = (
          x,
          y,
          r.0,
          r.1,
          r.2,
          has_room room p.reader.mark (opened kind p.reader.mark) _ (cut_of p) (cut_of q) (with_arm x y) (lists_of q.reader) is,
          block_step n ∙ ap (λ v. followed v (filling n)) is
              ∙ ap₂ (λ s e. followed (taken (arm_of e (elements s e n (room - 1)) y (λ t. rests s e n (room - 1) kind t)) q) (λ a. give (a_block p.reader.mark x a))) (sym k.pool.source) (sym k.end),
        )
        go (a_case x) r is = absurd r

    pub block_arm_refused : (s : Parser) (x : Stop) → ArmRead (room - 1) kind guard q (Err x) s → (n : ℕ) → pieces (cut_of p) < n → Fails x (whole n)
    block_arm_refused s x r n h =
        let (t, y, is, b, g, o, v) = armed_is n in
        subst (Fails x) (sym v) (fails_followed x _ (λ a. give (a_block p.reader.mark t a)) (r n y (omega (arith, h, k.pieces))))

    pub block_arm : (s u : Parser) (at end place : ℕ) (a : Arm) → at ≡ count p → end ≡ count s → place ≡ p.reader.mark → Went q s → ArmRead (room - 1) kind guard q (Ok a) s →
        Sets s.reader u.reader (slice_set (nodes_of s) at (node.Open place b a end)) → u.cutter ≡ s.cutter → BlockRead room kind p (Ok (tt {0})) u
    block_arm s u at end place a e f m l r x cut n h =
        let (t, y, is, b4, g, o, v) = armed_is n in
        let (arms, made, w) = r n y (omega (arith, h, k.pieces)) in
        let nd = node.Open place b a end in
        let pool = pool_of u.reader in
        let ns = nodes_of u in
        let before : at < count q = omega (arith, e, b4) in
        let same = set_count s u at nd x in
        let last : end ≡ count u = f ∙ sym same in
        let here = arm_set (room - 1) at guard y q s u nd l x before a arms (subst (λ i. GuardIn (pool_of q.reader) (nodes_of q) i (count q) guard y) (sym e) g) made in
        let there = node_there (room - 1) at guard y q s u nd l x before in
        let kept = keeps_block (pool_of q.reader) pool (wider_then (pool_of q.reader) (pool_of s.reader) pool l.pool (wider_same s u at nd x)) b t is in
        let leads = leads_open pool ns room at at end (λ z. z) place b a t arms (omega arith) (omega (arith, last, set_at (room - 1) at guard y q s u nd l x before)) o there kept
        (subst (λ i. Rattle.nodes.specs.Built.ArmIn pool ns (room - 1) at i a arms) (sym last) here) (leads_none pool ns room at) in (
          a_block p.reader.mark t arms,
          subst (λ i. Leads pool ns room i (count u) (λ z. block p.reader.mark t arms z)) e
              (subst (λ i. Leads pool ns room at i (λ z. block p.reader.mark t arms z)) last
              (subst (λ i. Leads pool ns room at end (λ z. block i t arms z)) m leads)),
          v ∙ ap (λ z. followed z (λ z. give (a_block p.reader.mark t z))) w
              ∙ ap₂ (λ z c. gives (a_block p.reader.mark t arms) z c) (ap left (sym cut)) (sym (lists_same s u at nd x)),
        )

  -- a `case`
  module _ (target : Expr) (d : Did (Ok (code_open.Case target)) start (Opens p.reader q.reader) q) where
    case_is : (n : ℕ) → (x : tree_expr.Expr) × (expr_of (pool_of q.reader) target ≡ Some x) × (count q ≡ count p + 1) × (0 < room)
        × (whole n ≡ followed (taken (dropped q.end (elements (source_of q) q.end n (room - 1))) q) (λ t c l. followed (rests (source_of q) q.end n (room - 1) kind t c l) (λ a. give (a_block p.reader.mark (case_block x) a))))
    case_is n = let (y, r, is) = d in go y r is
      where
        go : (y : Opened) → Opens p.reader q.reader (code_open.Case target) y → start ≡ gives y (cut_of q) (lists_of q.reader) →
            (x : tree_expr.Expr) × (expr_of (pool_of q.reader) target ≡ Some x) × (count q ≡ count p + 1) × (0 < room)
            × (whole n ≡ followed (taken (dropped q.end (elements (source_of q) q.end n (room - 1))) q) (λ t c l. followed (rests (source_of q) q.end n (room - 1) kind t c l) (λ a. give (a_block p.reader.mark (case_block x) a))))
        go (with_arm x y) r is = absurd r
        go (a_case x) r is = (
          x,
          r.0,
          r.1,
          has_room room p.reader.mark (opened kind p.reader.mark) _ (cut_of p) (cut_of q) (a_case x) (lists_of q.reader) is,
          block_step n ∙ ap (λ v. followed v (filling n)) is
              ∙ ap₂ (λ s e. followed (taken (dropped e (elements s e n (room - 1))) q) (λ t c l. followed (rests s e n (room - 1) kind t c l) (λ a. give (a_block p.reader.mark (case_block x) a)))) (sym k.pool.source) (sym k.end),
        )

    pub case_inner_refused : (s : Parser) (x : Stop) → InnerRead (room - 1) q (Err x) s → (n : ℕ) → pieces (cut_of p) < n → Fails x (whole n)
    unfolding dropped
    case_inner_refused s x i n h =
        let (y, is, o, r, v) = case_is n in
        subst (Fails x) (sym v) (fails_followed x _ _ (fails_followed x _ _ (i n (omega (arith, h, k.pieces)))))

    -- the elements before the first `when` are dropped
    module _ (s t : Parser) (w : Placed) (at : ℕ) (e : at ≡ count p) (l : Went q s) (m : suc (pieces (cut_of s)) ≤ pieces (cut_of q)) (i : InnerRead (room - 1) q (Ok w) s)
        (x : Sets s.reader t.reader (take (at + 1) (nodes_of s))) (cut : t.cutter ≡ s.cutter) (f : t.end ≡ s.end) where
      drop_count : count t ≡ at + 1
      drop_count = ap length x.nodes ∙ length-take (at + 1) (nodes_of s) ∙ go
        where
          go : Rattle.std.proofs.Common.min (at + 1) (count s) ≡ at + 1
          go = omega (arith, e, front_length _ _ l.nodes, front_length _ _ k.nodes, counted)
            where
              counted : count q ≡ count p + 1
              counted = let (y, is, o, r, v) = case_is 0 in o

      -- the definition at t
      dropped_is : (n : ℕ) → pieces (cut_of p) < n → (y : tree_expr.Expr) × (expr_of (pool_of q.reader) target ≡ Some y) × (0 < room)
          × (whole n ≡ followed (taken (rests (source_of t) t.end n (room - 1) kind (tag_in t w)) t) (λ a. give (a_block p.reader.mark (case_block y) a)))
      unfolding dropped
      dropped_is n h =
          let (y, is, o, r, v) = case_is n in
          let (z, b, g) = i n (omega (arith, h, k.pieces)) in
          let source : source_of t ≡ source_of q = ap (λ u. u.source) x.pool ∙ l.pool.source in
          let long : count q ≡ length (take (at + 1) (nodes_of s)) = omega (arith, o, e, drop_count, ap length x.nodes) in
          let tag : z.ending ≡ tag_in t w = b.1 ∙ ap₂ (λ a c. Rattle.sheet.specs.Blocks.tag a (Rattle.arguments.specs.Judging.seen w.place w.bytes.now) (ahead c)) (sym x.mark) (sym x.cursor) in
          let after = λ (u : Tag) (a : Cut) (c : Lists). followed (rests (source_of q) q.end n (room - 1) kind u a c) (λ a. give (a_block p.reader.mark (case_block y) a)) in (
            y,
            is,
            r,
            v ∙ ap (λ u. followed (followed u (λ b c' l'. gives b.ending c' (noted (count q) l'))) after) g
                ∙ ap (λ u. after u (cut_of s) (noted (count q) (lists_of s.reader))) tag
                ∙ ap₂ (λ a c. after (tag_in t w) a c) (ap left (sym cut)) (ap (λ u. noted u (lists_of s.reader)) long ∙ sym (lists_set s.reader t.reader (take (at + 1) (nodes_of s)) x))
                ∙ ap₂ (λ a c. followed (taken (rests a c n (room - 1) kind (tag_in t w)) t) (λ a. give (a_block p.reader.mark (case_block y) a))) (sym source) (sym (f ∙ l.end)),
          )

      fuel_left : (n : ℕ) → pieces (cut_of p) < n → suc (pieces (cut_of t)) < n
      fuel_left n h = omega (arith, h, k.pieces, m, ap (λ c. pieces (left c)) cut)

      pub case_rest_refused : (u : Parser) (y : Stop) → RestRead (room - 1) kind w t (Err y) u → (n : ℕ) → pieces (cut_of p) < n → Fails y (whole n)
      case_rest_refused u y r n h =
          let (z, is, o, v) = dropped_is n h in
          subst (Fails y) (sym v) (fails_followed y _ (λ a. give (a_block p.reader.mark (case_block z) a)) (r n (fuel_left n h)))

      pub case_whole : (u v : Parser) (end place : ℕ) (nx : Next) → end ≡ count u → place ≡ p.reader.mark → Went t u → RestRead (room - 1) kind w t (Ok nx) u →
          Sets u.reader v.reader (slice_set (nodes_of u) at (node.Case place target nx end)) → v.cutter ≡ u.cutter → BlockRead room kind p (Ok (tt {0})) v
      case_whole u v end place nx g j tu r y cv n h =
          let (z, is, o, a) = dropped_is n h in
          let (arms, made, b) = r n (fuel_left n h) in
          let nd = node.Case place target nx end in
          let pool = pool_of v.reader in
          let ns = nodes_of v in
          let same = set_count u v at nd y in
          let last : end ≡ count v = g ∙ sym same in
          let inside : at < count u = omega (arith, drop_count, front_length _ _ tu.nodes) in
          let there = Rattle.sheet.proofs.Setting.set_there u v at nd y inside in
          let wide : Wider (pool_of q.reader) pool = wider_then (pool_of q.reader) (pool_of u.reader) pool
          (wider_then (pool_of q.reader) (pool_of t.reader) (pool_of u.reader) (wider_set s.reader t.reader (take (at + 1) (nodes_of s)) x (pool_of q.reader) l.pool) tu.pool) (wider_same u v at nd y) in
          let kept = keeps_expr (pool_of q.reader) pool wide target z is in
          let armed = Rattle.nodes.proofs.Builds.arms_wider (pool_of u.reader) (nodes_of u) pool ns nx (room - 1) (at + 1) end arms (wider_same u v at nd y) (Rattle.sheet.proofs.Setting.agree_set u v at nd y (at + 1) end (omega arith))
          (subst (λ c. ArmsIn (pool_of u.reader) (nodes_of u) nx (room - 1) (at + 1) c arms) (sym g) (subst (λ c. ArmsIn (pool_of u.reader) (nodes_of u) nx (room - 1) c (count u) arms) drop_count made)) in
          let leads = leads_case pool ns room at at end (λ c. c) place target nx z arms (omega arith) (omega (arith, inside, g)) o there kept armed (leads_none pool ns room at) in (
            a_block p.reader.mark (case_block z) arms,
            subst (λ i. Leads pool ns room i (count v) (λ c. block p.reader.mark (case_block z) arms c)) e
                (subst (λ i. Leads pool ns room at i (λ c. block p.reader.mark (case_block z) arms c)) last
                (subst (λ i. Leads pool ns room at end (λ c. block i (case_block z) arms c)) j leads)),
            a ∙ ap (λ c. followed c (λ c. give (a_block p.reader.mark (case_block z) c))) b
                ∙ ap₂ (λ c d. gives (a_block p.reader.mark (case_block z) arms) c d) (ap left (sym cv)) (sym (lists_same u v at nd y)),
          )
