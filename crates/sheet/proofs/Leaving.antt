-- Leaves, and what is read at a mark.
use Rattle.std.proofs.Common.{◌≡◌, ℕ, zero, suc, ◌+◌, ◌-◌, ◌<◌, ◌≤◌, Bool, true, false, cond, ltb, List, [], ◌∷◌, ◌++◌, length, Some, Ok, Err, vec_items, Option, Result, refl, sym, ap, ap₂, ◌∙◌, subst, arith, length-append}
use Rattle.std.specs.List.{slice_get}
use Rattle.cutter.specs.Words.{Words}
use Rattle.cutter.specs.Ahead.{ahead}
use Rattle.cutter.specs.Cuts.{Cut}
use Rattle.cutter.specs.Left.{left}
use Rattle.tree.specs.Elements as tree
use Rattle.nodes.specs.declared.table.Leaf.{Leaf}
use Rattle.nodes.specs.declared.table.Node.{Node}
use Rattle.nodes.specs.declared.table.Node.TheVariants as node
use Rattle.nodes.specs.Wider.{Front, Wider}
use Rattle.nodes.specs.Built.{Leads}
use Rattle.nodes.proofs.Builds.{leads_none, leads_leaf}
use Rattle.arguments.specs.declared.reader.Reader.{Reader}
use Rattle.arguments.specs.declared.refusals.Stop.{Stop}
use Rattle.arguments.specs.declared.refusals.Stop.TheVariants.{Refused, Memory}
use Rattle.arguments.specs.Judging.{Lists, State, state, Verdict, refuses, passes, Judge, went, pure, room_at, one_more}
use Rattle.arguments.specs.Tables.{pool_of, lists_of, under, Refuses, Said, Grown, Longer}
use Rattle.arguments.proofs.Chaining.{grown_longer}
use Rattle.sheet.specs.declared.parser.Parser.{Parser}
use Rattle.sheet.specs.Steps.{Outcome, fails, gives, Step, give, followed, settled, judged, pieces}
use Rattle.sheet.specs.Blocks.{with_node}
use Rattle.sheet.specs.Parsing.{Found, a_leaf}
use Rattle.sheet.specs.Opening.{nodes_in, Leafed}
use Rattle.sheet.specs.Answers.{nodes_of, count, cut_of, taken, Fails, Did, Went, Leafs}
use Rattle.sheet.proofs.Chaining.{fails_followed}

pub went_longer : (p q : Parser) → Longer p.reader q.reader → q.cutter ≡ p.cutter → q.end ≡ p.end → Went p q
went_longer p q h c e = record { pool = h.pool; names = h.names; cycles = h.cycles; nodes = h.nodes; end = e; pieces = omega (arith, ap (λ x. pieces (left x)) c) }

pub went_grown : (p q : Parser) → Grown p.reader q.reader → q.cutter ≡ p.cutter → q.end ≡ p.end → Went p q
went_grown p q h c e = went_longer p q (grown_longer p.reader q.reader h) c e

fails_settled : {A : Type 0} (x : Stop) (v : Verdict A) (c : Cut) → Refuses x v → Fails x (settled v c)
fails_settled (Refused k p) v c h = ap (λ t. settled t c) h
fails_settled Memory v c h = tt

-- what a reader's function says, as a step of the parser
pub said_did : {A B : Type 0} (r : Result A Stop) (j : Judge B) (p q : Parser) (D E : A → B → Type 0) → ((x : A) (y : B) → D x y → E x y) → Said r (j (under p.reader)) D (under q.reader) → q.cutter ≡ p.cutter →
    Did r (taken (judged j (ahead p.reader.cursor)) p) E q
said_did (Ok x) j p q D E f h c =
    let (y, d, e) = h in
    (y, f x y d, ap (λ v. settled v (cut_of p)) e ∙ ap (λ t. gives y t (lists_of q.reader)) (ap left (sym c)))
said_did (Err x) j p q D E f h c = fails_settled x (j (under p.reader)) (cut_of p) h

get_last : {A : Type 0} (xs : List A) (x : A) → slice_get (xs ++ (x ∷ [])) (length xs) ≡ Some x
get_last [] x = refl
get_last (y ∷ ys) x = get_last ys x

-- a leaf whose node stands last
pub leaf_did : (r : Result (Prim.Unit {0}) Stop) (m : ℕ) (j : Judge tree.Leaf) (p q : Parser) → Said r (with_node m j (under p.reader)) (Leafed m p.reader q.reader) (under q.reader) → q.cutter ≡ p.cutter →
    Did r (followed (taken (judged (with_node m j) (ahead p.reader.cursor)) p) (λ x. give (a_leaf m x))) (Leafs p q) q
leaf_did (Ok u) m j p q h c =
    let (y, d, e) = h in
    let grew : count q ≡ count p + 1 = ap length d.nodes ∙ length-append (nodes_of p) (node.Leaf m d.leaf ∷ []) in
    let there : slice_get (nodes_of q) (count p) ≡ Some (node.Leaf m d.leaf) = ap (λ l. slice_get l (count p)) d.nodes ∙ get_last (nodes_of p) (node.Leaf m d.leaf) in (
      a_leaf m y,
      (λ room. subst (λ i. Leads (pool_of q.reader) (nodes_of q) room (count p) i (λ t. tree.leaf m y t)) (sym grew)
          (leads_leaf (pool_of q.reader) (nodes_of q) room (count p) (count p) (λ t. t) m d.leaf y (omega arith) there d.is (leads_none (pool_of q.reader) (nodes_of q) room (count p)))),
      ap (λ v. followed (settled v (cut_of p)) (λ x. give (a_leaf m x))) e ∙ ap (λ t. gives (a_leaf m y) t (lists_of q.reader)) (ap left (sym c)),
    )
leaf_did (Err x) m j p q h c = fails_followed x _ (λ x. give (a_leaf m x)) (fails_settled x (with_node m j (under p.reader)) (cut_of p) h)

-- whatever is ahead, a text is the same
text_any : (m : ℕ) (x : tree.Leaf) (w v : Words) (l : Lists) (c : Cut) → settled (with_node m (pure x) (state w l)) c ≡ settled (with_node m (pure x) (state v l)) c
unfolding room_at one_more
text_any m x w v l c = go (ltb l.nodes 4096)
  where
    go : (b : Bool) → settled (went (cond b (passes (tt {0}) (state w l)) (refuses 2 m)) (λ u s. went (one_more s) (λ t. pure x))) c ≡ settled (went (cond b (passes (tt {0}) (state v l)) (refuses 2 m)) (λ u s. went (one_more s) (λ t. pure x))) c
    go true = refl
    go false = refl

pub text_did : (r : Result (Prim.Unit {0}) Stop) (m : ℕ) (x : tree.Leaf) (w : Words) (p q : Parser) → Said r (with_node m (pure x) (under p.reader)) (Leafed m p.reader q.reader) (under q.reader) → q.cutter ≡ p.cutter →
    Did r (followed (taken (judged (with_node m (pure x)) w) p) (λ x. give (a_leaf m x))) (Leafs p q) q
text_did r m x w p q h c =
    subst (λ v. Did r (followed v (λ x. give (a_leaf m x))) (Leafs p q) q) (text_any m x (ahead p.reader.cursor) w (lists_of p.reader) (cut_of p)) (leaf_did r m (pure x) p q h c)

-- room for a node, then a leaf's arguments, then its node
module _ (m : ℕ) (j : Judge tree.Leaf) (s : State) where
  pub leaf_said : (y : tree.Leaf) (t u : State) → room_at m s ≡ passes tt s → j s ≡ passes y t → one_more t ≡ passes tt u → with_node m j s ≡ passes y u
  leaf_said y t u e h k =
      ap (λ v. went v (λ u t. went (j t) (λ x t'. went (one_more t') (λ u'. pure x)))) e ∙ ap (λ v. went v (λ x t'. went (one_more t') (λ u'. pure x))) h
      ∙ ap (λ v. went v (λ u'. pure y)) k
