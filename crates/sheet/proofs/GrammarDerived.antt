-- What the parser gives is derived by the grammar.
use Rattle.std.proofs.Common.{◌≡◌, ℕ, zero, suc, ◌-◌, Bool, true, false, cond, ltb, inl, inr, List, Some, None, codes, Option, refl, sym, ap, ◌∙◌, subst}
use Rattle.tray.specs.Parts.{same_text}
use Rattle.cutter.specs.Words.{Words, over, word, verdict}
use Rattle.cutter.specs.Tokens.{Reading, is_name, token_of}
use Rattle.cutter.specs.Cuts.{Cut, done as no_pieces, unclosed, text, mark}
use Rattle.cutter.specs.declared.state.Kind.{Kind}
use Rattle.cutter.specs.declared.state.Kind.TheVariants.{Tag as is_tag, Output as is_output}
use Rattle.cutter.proofs.Parts.{reads_parts}
use Rattle.tree.specs.Expressions.{Chain}
use Rattle.tree.specs.Conditions.{Condition}
use Rattle.tree.specs.Elements.{plain, output, case_block, Guard, always, Tree, done, leaf, block, Arms, no_arms, arm, if_block, holds, fails as does_not_hold, equals_one, has_items, capture_block, ifchanged_block}
use Rattle.arguments.specs.Judging.{Lists, State, state, Verdict, refuses, passes, Judge, ◌next◌, pure, Seen, token_if, finished, noted, room_at, one_more}
use Rattle.arguments.specs.Values.{read, bare, value}
use Rattle.arguments.specs.Marks.{inside}
use Rattle.tags.specs.declared.stdlib.blocks.for_block.Loop.TheVariants.{For, Tablerow}
use Rattle.tags.specs.Leaves.{output_of, only_target}
use Rattle.tags.specs.Conditions.{condition}
use Rattle.tags.specs.Whens.{whens}
use Rattle.tags.specs.Loops.{header, for_of, tablerow_of}
use Rattle.sheet.specs.Steps.{Outcome, fails, gives, Step, followed, ◌then◌, give, fail, settled, judged}
use Rattle.sheet.specs.Names.{end_tag, known_as, closer, named_so, first_token, tag_name}
use Rattle.sheet.specs.declared.names.Simple.{Simple}
use Rattle.sheet.specs.declared.names.Simple.TheVariants as simple
use Rattle.sheet.specs.declared.names.Block as code
use Rattle.sheet.specs.declared.names.Block.TheVariants as kind
use Rattle.sheet.specs.declared.names.Known.{Known}
use Rattle.sheet.specs.declared.names.Known.TheVariants as known
use Rattle.sheet.specs.declared.names.Closer.{Closer}
use Rattle.sheet.specs.declared.names.Closer.TheVariants as closing
use Rattle.sheet.specs.Blocks.{Tag, tag, with_node, held, behind_node, opens, leaf_tag, Opened, with_arm, a_case, opened, opened_if, opened_unless, opened_case, opened_for, opened_tablerow, opened_capture, opened_ifchanged, Following, the_end, an_else, an_arm, ended, unknown, closed, only_end, in_if, in_case, in_for, following, follows, closes, elsif, when, bare_else}
use Rattle.sheet.specs.Parsing.{Found, a_leaf, a_block, other, Elements, Inner, elements_are, a_text, an_output, a_simple, within, inner, arm_of, last_of, continued, rest_of, dropped, filled, block_at, tag_by, named, a_tag, marked, cut_whole, a_mark, behind, elements, rests}
use Rattle.sheet.specs.Grammar.{Env, Begins, TheWord, ValueIs, ChainIs, ConditionIs}
use Rattle.sheet.specs.GrammarTags.{SimpleIs, OpensIs, FurtherIs, ElseIs}
use Rattle.sheet.specs.GrammarElements.{TagAt, LeafIs, is_text, is_chain, is_simple, EndIs, ElementsAre, no_more, BlockIs, ArmsAre}
use Rattle.sheet.specs.GrammarElements as grammar
use Rattle.sheet.specs.GrammarLaws.{env_of, Kept, EndsBy, Derived}
use Rattle.sheet.proofs.GrammarJudging.{Form, Grew, grew_refl, grew_then, kept_refl, kept_then, Has, Derives, derives_pure, derives_refuse, derives_next, derives_as, derives_cond, Still, derives_one_more, derives_room_at, derives_finished, same_is}
use Rattle.sheet.proofs.GrammarReads.{bare_is, begins_next, begins_over, derives_value, Wholly, finished_derives, derives_condition, derives_whens}
use Rattle.sheet.proofs.GrammarTagging.{NextAny, derives_next_any, derives_made, derives_header, derives_cycle, derives_only_target, derives_assign, derives_increment, derives_decrement, derives_break, derives_continue, derives_output}

-- what pieces are: D e y c d says that the pieces from c up to d are a writing of y
abbrev pub CutForm : Type 0 → Type 1
CutForm A = Env → A → Cut → Cut → Type 0

pub record Came {A : Type 0} (D : CutForm A) (l : Lists) (y : A) (c d : Cut) (m : Lists) : Type 0 where
  pub grew : Grew l m
  pub is : (e : Env) → Kept (env_of m) e → D e y c d

abbrev pub Reaches : {A : Type 0} → Step A → CutForm A → Type 0
Reaches {A} s D = (c : Cut) (l : Lists) (y : A) (d : Cut) (m : Lists) → s c l ≡ gives y d m → Came D l y c d m

gave : {A : Type 0} (P : A → Cut → Lists → Type 0) (x y : A) (c d : Cut) (l m : Lists) → gives x c l ≡ gives y d m → P x c l → P y d m
gave P x y c d l m e h = let p : x ≡ y = cc in let q : c ≡ d = cc in let r : l ≡ m = cc in subst (λ z. P z d m) p (subst (λ z. P x z m) q (subst (P x c) r h))

reaches_give : {A : Type 0} {D : CutForm A} (x : A) → ((e : Env) (c : Cut) → D e x c c) → Reaches (give x) D
reaches_give {D = D} x h c l y d m e = gave (λ z f n. Came D l z c f n) x y c d l m e (record { grew = grew_refl l; is = λ f k. h f c })

reaches_fail : {A : Type 0} {D : CutForm A} (n p : ℕ) → Reaches (fail {A = A} n p) D
reaches_fail n p c l y d m e = cc

module _ {A B : Type 0} {D : CutForm A} {E : A → CutForm B} {F : CutForm B} (join : (e : Env) (x : A) (y : B) (c d f : Cut) → D e x c d → E x e y d f → F e y c f) where
  followed_reaches : (c : Cut) (l : Lists) (v : Outcome A) (k : A → Step B) → ((x : A) (f : Cut) (n : Lists) → v ≡ gives x f n → Came D l x c f n) → ((x : A) → Reaches (k x) (E x)) →
      (y : B) (d : Cut) (m : Lists) → followed v k ≡ gives y d m → Came F l y c d m
  followed_reaches c l (fails n p) k h g y d m e = cc
  followed_reaches c l (gives x f n) k h g y d m e =
      let u = h x f n refl in
      let v = g x f n y d m e in
      record { grew = grew_then l n m u.grew v.grew; is = λ z r. join z x y c f d (u.is z (kept_then (env_of n) (env_of m) z v.grew.kept r)) (v.is z r) }

  reaches_then : (s : Step A) (k : A → Step B) → Reaches s D → ((x : A) → Reaches (k x) (E x)) → Reaches (s then k) F
  reaches_then s k h g c l y d m e = followed_reaches c l (s c l) k (h c l) g y d m e

reaches_as : {A : Type 0} {D E : CutForm A} (s : Step A) → Reaches s D → ((e : Env) (y : A) (c d : Cut) → D e y c d → E e y c d) → Reaches s E
reaches_as s h f c l y d m e = let u = h c l y d m e in record { grew = u.grew; is = λ g k. f g y c d (u.is g k) }

-- the tokens of a mark, judged: no piece more is taken
abbrev Judged : {A : Type 0} → Form A → Words → CutForm A
Judged D w e y c d = (b : Words) × D e y w b × (c ≡ d)

settled_reaches : {A : Type 0} (D : Form A) (w : Words) (c : Cut) (l : Lists) (v : Verdict A) → ((x : A) (t : State) → v ≡ passes x t → Has D (state w l) x t) → (y : A) (d : Cut) (m : Lists) → settled v c ≡ gives y d m → Came (Judged D w) l y c d m
settled_reaches D w c l (refuses n p) h y d m e = cc
settled_reaches D w c l (passes x t) h y d m e =
    let u = h x t refl in
    gave (λ z f n. Came (Judged D w) l z c f n) x y c d t.lists m e (record { grew = u.grew; is = λ g k. (t.ahead, u.is g k, refl) })

reaches_judged : {A : Type 0} {D : Form A} (j : Judge A) (w : Words) → Derives j D → Reaches (judged j w) (Judged D w)
reaches_judged {D = D} j w h c l y d m e = settled_reaches D w c l (j (state w l)) (h (state w l)) y d m e

-- nodes are no matter of the grammar
with_node_derives : {A : Type 0} {D : Form A} (p : ℕ) (j : Judge A) → Derives j D → Derives (with_node p j) D
with_node_derives {A} {D} p j h =
    derives_next {E = λ u. D} (λ e u y a b c i k. subst (λ z. D e y z c) (sym i) k) (room_at p) (λ u. j next λ x. one_more next λ v. pure x) (derives_room_at p)
    (λ u. derives_next {E = λ x e y a b. (a ≡ b) × (y ≡ x)} (λ e x y a b c i k. subst (λ z. D e z a c) (sym k.1) (subst (D e x a) k.0 i)) j (λ x. one_more next λ v. pure x) h
    (λ x. derives_next {E = λ v e y a b. (a ≡ b) × (y ≡ x)} (λ e v y a b c i k. (i ∙ k.0, k.1)) one_more (λ v. pure x) derives_one_more (λ v. derives_pure x (λ e a. (refl, refl)))))

held_derives : (p : ℕ) → Derives (held p) Still
unfolding held
held_derives p = derives_next {E = λ u. Still} (λ e u y a b c h k. h ∙ k) (room_at p) (λ u. one_more) (derives_room_at p) (λ u. derives_one_more)

behind_node_derives : {A : Type 0} {D : Form A} (p : ℕ) (j : Judge A) → Derives j D → Derives (behind_node p j) D
behind_node_derives {A} {D} p j h = derives_next {E = λ u. D} (λ e u y a b c i k. subst (λ z. D e y z c) (sym i) k) (held p) (λ u. j) (held_derives p) (λ u. h)

-- the name of a tag
named_so_derives : (w : Seen) (o : Option (List ℕ)) → Derives (named_so w o) (λ e y a b. (a ≡ b) × (y ≡ w) × ((n : List ℕ) × (o ≡ Some n)))
named_so_derives w None = derives_refuse 5 w.place
named_so_derives w (Some n) = derives_pure w (λ e a. (refl, refl, (n, refl)))

first_derives : (m : ℕ) (o : Option Seen) → Derives (first_token m o) (λ e y a b. (a ≡ b) × (o ≡ Some y) × ((n : List ℕ) × (bare (read y) ≡ Some n)))
first_derives m None = derives_refuse 5 m
first_derives m (Some w) = derives_as (named_so w (bare (read w))) (named_so_derives w (bare (read w))) (λ e y a b h. (h.0, ap Some (sym h.1), subst (λ z. (n : List ℕ) × (bare (read z) ≡ Some n)) (sym h.1) h.2))

-- a bare name is its token as written
pub as_written : (w : Seen) (n : List ℕ) → read w ≡ is_name n → n ≡ w.bytes
as_written w n h = subst (λ r. Rattle.cutter.specs.Tokens.Parts w.place w.bytes r) h (reads_parts w.place w.bytes)

name_is : (w : Seen) (n : List ℕ) → bare (read w) ≡ Some n → TheWord w.bytes w
name_is w n e = let h = bare_is (read w) n e in h ∙ ap is_name (as_written w n h)

abbrev Name : Form Seen
Name e w a b = Begins (TheWord w.bytes) a b

by_first : (e : Env) (o : Option Seen) (y : Seen) (a b c : Words) → NextAny e o a b → (b ≡ c) × (o ≡ Some y) × ((n : List ℕ) × (bare (read y) ≡ Some n)) → Name e y a c
by_first e None y a b c h k = let q = k.1 in cc
by_first e (Some w) y a b c h k =
    let q : w ≡ y = (let r = k.1 in cc) in
    begins_next (TheWord y.bytes) y a b c (subst (λ z. a ≡ word z.place z.bytes b) q h) k.0 (name_is y k.2.0 k.2.1)

tag_name_derives : (m : ℕ) → Derives (tag_name m) Name
unfolding tag_name
tag_name_derives m = derives_next by_first (token_if Some) (λ w. first_token m w) derives_next_any (first_derives m)

-- tags that hold no elements
leaf_derives : (s : Simple) (p : ℕ) → Derives (leaf_tag s p) (Wholly (λ e l a. SimpleIs e s l a))
leaf_derives simple.Assign p = derives_assign p
leaf_derives simple.Increment p = derives_increment p
leaf_derives simple.Decrement p = derives_decrement p
leaf_derives simple.Cycle p = derives_cycle p
leaf_derives simple.Break p = derives_break
leaf_derives simple.Continue p = derives_continue

-- tags that open blocks
abbrev OpenedIs : code.Block → Env → Opened → Words → Type 0
OpenedIs b e (with_arm x g) a = OpensIs e b x g a
OpenedIs b e (a_case y) a = (b ≡ kind.Case) × Begins (ValueIs e y) a over

if_derives : (p : ℕ) → Derives (opened_if p) (Wholly (OpenedIs kind.If))
unfolding opened_if
if_derives p = derives_made (λ c. with_arm if_block (holds c)) (condition p) (derives_condition p) (λ e c a b h. ((c, h.0, refl, refl), h.1))

unless_derives : (p : ℕ) → Derives (opened_unless p) (Wholly (OpenedIs kind.Unless))
unfolding opened_unless
unless_derives p = derives_made (λ c. with_arm if_block (does_not_hold c)) (condition p) (derives_condition p) (λ e c a b h. ((c, h.0, refl, refl), h.1))

case_derives : (p : ℕ) → Derives (opened_case p) (Wholly (OpenedIs kind.Case))
unfolding opened_case
case_derives p =
    derives_next {E = λ x e y a b. (y ≡ a_case x) × (a ≡ over) × (b ≡ over)} (λ e x y a b c h k. (subst (λ z. OpenedIs kind.Case e z a) (sym k.0) (refl, begins_over (ValueIs e x) a b over k.1 h), k.2))
    (value p) (λ x. finished next λ u. pure (a_case x)) (derives_value p) (λ x. finished_derives (a_case x))

for_derives : (p : ℕ) → Derives (opened_for p) (Wholly (OpenedIs kind.For))
unfolding opened_for
for_derives p = derives_made (λ h. with_arm (for_of h) has_items) (header For p) (derives_header For p) (λ e h a b i. ((h, i.0, refl, refl), i.1))

tablerow_derives : (p : ℕ) → Derives (opened_tablerow p) (Wholly (OpenedIs kind.Tablerow))
unfolding opened_tablerow
tablerow_derives p = derives_made (λ h. with_arm (tablerow_of h) has_items) (header Tablerow p) (derives_header Tablerow p) (λ e h a b i. ((h, i.0, refl, refl), i.1))

capture_derives : (p : ℕ) → Derives (opened_capture p) (Wholly (OpenedIs kind.Capture))
unfolding opened_capture
capture_derives p = derives_made (λ n. with_arm (capture_block n) always) (only_target p) (derives_only_target p) (λ e k a b h. ((k, h.0, refl, refl), h.1))

ifchanged_derives : Derives opened_ifchanged (Wholly (OpenedIs kind.Ifchanged))
unfolding opened_ifchanged
ifchanged_derives =
    derives_as (finished next λ u. pure (with_arm ifchanged_block always)) (finished_derives (with_arm ifchanged_block always))
    (λ e y a b h. (subst (λ z. OpenedIs kind.Ifchanged e z a) (sym h.0) (h.1, refl, refl), h.2))

opened_derives : (b : code.Block) (p : ℕ) → Derives (opened b p) (Wholly (OpenedIs b))
opened_derives kind.If p = if_derives p
opened_derives kind.Unless p = unless_derives p
opened_derives kind.Case p = case_derives p
opened_derives kind.For p = for_derives p
opened_derives kind.Tablerow p = tablerow_derives p
opened_derives kind.Capture p = capture_derives p
opened_derives kind.Ifchanged p = ifchanged_derives

opens_derives : (r p : ℕ) (b : code.Block) → Derives (opens r p (opened b p)) (Wholly (OpenedIs b))
opens_derives r p b = derives_cond (ltb 0 r) (behind_node p (opened b p)) 2 p (λ h. behind_node_derives p (opened b p) (opened_derives b p))

-- what a name is to a block
abbrev CloserIs : List ℕ → List ℕ → Closer → Type 0
CloserIs e n closing.End = n ≡ e
CloserIs e n closing.Else = n ≡ codes "else"
CloserIs e n closing.Elsif = n ≡ codes "elsif"
CloserIs e n closing.When = n ≡ codes "when"
CloserIs e n closing.Other = Unit {0}

when_by : (e n : List ℕ) (b : Bool) → same_text n (codes "when") ≡ b → CloserIs e n (cond b closing.When closing.Other)
when_by e n true q = same_is n (codes "when") q
when_by e n false q = tt

elsif_by : (e n : List ℕ) (b : Bool) → same_text n (codes "elsif") ≡ b → CloserIs e n (cond b closing.Elsif (cond (same_text n (codes "when")) closing.When closing.Other))
elsif_by e n true q = same_is n (codes "elsif") q
elsif_by e n false q = when_by e n (same_text n (codes "when")) refl

else_by : (e n : List ℕ) (b : Bool) → same_text n (codes "else") ≡ b → CloserIs e n (cond b closing.Else (cond (same_text n (codes "elsif")) closing.Elsif (cond (same_text n (codes "when")) closing.When closing.Other)))
else_by e n true q = same_is n (codes "else") q
else_by e n false q = elsif_by e n (same_text n (codes "elsif")) refl

end_by : (e n : List ℕ) (b : Bool) → same_text n e ≡ b →
    CloserIs e n (cond b closing.End (cond (same_text n (codes "else")) closing.Else (cond (same_text n (codes "elsif")) closing.Elsif (cond (same_text n (codes "when")) closing.When closing.Other))))
end_by e n true q = same_is n e q
end_by e n false q = else_by e n (same_text n (codes "else")) refl

closer_is : (e n : List ℕ) → CloserIs e n (closer e n)
closer_is e n = end_by e n (same_text n e) refl

-- what follows in a block behind elements, by the tag that ends them
abbrev FollowsBy : code.Block → Tag → Env → Following → Words → Type 0
FollowsBy b t e the_end a = (t.name.bytes ≡ end_tag b) × (a ≡ over)
FollowsBy b t e an_else a = (t.name.bytes ≡ codes "else") × ElseIs b a
FollowsBy b t e (an_arm g) a = FurtherIs e b g t.name.bytes a

-- the rest of the mark does not matter here
abbrev Front : {A : Type 0} → (Env → A → Words → Type 0) → Form A
Front D e y a b = D e y a

end_derives : (b : code.Block) (t : Tag) → t.name.bytes ≡ end_tag b → Derives ended (Front (FollowsBy b t))
end_derives b t q = derives_as ended (finished_derives the_end) (λ e y a c h. subst (λ z. FollowsBy b t e z a) (sym h.0) (q, h.1))

else_derives : (b : code.Block) (t : Tag) → t.name.bytes ≡ codes "else" → ((a : Words) → a ≡ over → ElseIs b a) → Derives (finished next λ u. pure an_else) (Front (FollowsBy b t))
else_derives b t q f = derives_as (finished next λ u. pure an_else) (finished_derives an_else) (λ e y a c h. subst (λ z. FollowsBy b t e z a) (sym h.0) (q, f a h.1))

any_else_derives : (b : code.Block) (t : Tag) → t.name.bytes ≡ codes "else" → ((a : Words) → ElseIs b a) → Derives (pure an_else) (Front (FollowsBy b t))
any_else_derives b t q f = derives_pure an_else (λ e a. (q, f a))

unknown_derives : {A : Type 0} {D : Form A} (t : Tag) → Derives (unknown {A = A} t) D
unknown_derives t = derives_refuse 5 t.name.place

elsif_derives : (b : code.Block) (t : Tag) → ((e : Env) (c : Condition) (a : Words) → ConditionIs e c a → FurtherIs e b (holds c) t.name.bytes a) →
    Derives (behind_node t.mark (condition t.mark) next λ c. pure (an_arm (holds c))) (Front (FollowsBy b t))
elsif_derives b t f =
    derives_made (λ c. an_arm (holds c)) (behind_node t.mark (condition t.mark)) (behind_node_derives t.mark (condition t.mark) (derives_condition t.mark)) (λ e c a d h. f e c a h.0)

in_if_derives : (b : code.Block) (t : Tag) (c : Closer) → CloserIs (end_tag b) t.name.bytes c → ((a : Words) → ElseIs b a) →
    (t.name.bytes ≡ codes "elsif" → (e : Env) (x : Condition) (a : Words) → ConditionIs e x a → FurtherIs e b (holds x) t.name.bytes a) → Derives (in_if t c) (Front (FollowsBy b t))
unfolding in_if elsif
in_if_derives b t closing.End q f g = end_derives b t q
in_if_derives b t closing.Else q f g = any_else_derives b t q f
in_if_derives b t closing.Elsif q f g = elsif_derives b t (g q)
in_if_derives b t closing.When q f g = unknown_derives t
in_if_derives b t closing.Other q f g = unknown_derives t

in_case_derives : (t : Tag) (c : Closer) → CloserIs (end_tag kind.Case) t.name.bytes c → Derives (in_case t c) (Front (FollowsBy kind.Case t))
unfolding in_case when
in_case_derives t closing.End q = end_derives kind.Case t q
in_case_derives t closing.Else q = else_derives kind.Case t q (λ a h. h)
in_case_derives t closing.Elsif q = unknown_derives t
in_case_derives t closing.When q =
    derives_made (λ xs. an_arm (equals_one xs)) (behind_node t.mark (whens t.mark)) (behind_node_derives t.mark (whens t.mark) (derives_whens t.mark)) (λ e xs a d h. (q, (xs, h.0, refl)))
in_case_derives t closing.Other q = unknown_derives t

in_for_derives : (t : Tag) (c : Closer) → CloserIs (end_tag kind.For) t.name.bytes c → Derives (in_for t c) (Front (FollowsBy kind.For t))
unfolding in_for
in_for_derives t closing.End q = end_derives kind.For t q
in_for_derives t closing.Else q = else_derives kind.For t q (λ a h. h)
in_for_derives t closing.Elsif q = unknown_derives t
in_for_derives t closing.When q = unknown_derives t
in_for_derives t closing.Other q = unknown_derives t

abbrev ClosedBy : code.Block → Tag → Form (Unit {0})
ClosedBy b t e u a c = (t.name.bytes ≡ end_tag b) × (a ≡ over)

closed_derives : (b : code.Block) (t : Tag) (c : Closer) → CloserIs (end_tag b) t.name.bytes c → Derives (closed t c) (ClosedBy b t)
closed_derives b t closing.End q = derives_as finished derives_finished (λ e u a c h. (q, h.0))
closed_derives b t closing.Else q = unknown_derives t
closed_derives b t closing.Elsif q = unknown_derives t
closed_derives b t closing.When q = unknown_derives t
closed_derives b t closing.Other q = unknown_derives t

only_end_derives : (b : code.Block) (t : Tag) (c : Closer) → CloserIs (end_tag b) t.name.bytes c → Derives (only_end t c) (Front (FollowsBy b t))
only_end_derives b t c q = derives_made (λ u. the_end) (closed t c) (closed_derives b t c q) (λ e u a d h. h)

following_derives : (b : code.Block) (t : Tag) (c : Closer) → CloserIs (end_tag b) t.name.bytes c → Derives (following b t c) (Front (FollowsBy b t))
following_derives kind.If t c q = in_if_derives kind.If t c q (λ a. tt) (λ n e x a h. (n, (x, h, refl)))
following_derives kind.Unless t c q = in_if_derives kind.Unless t c q (λ a. tt) (λ n e x a h. (n, (x, h, refl)))
following_derives kind.Case t c q = in_case_derives t c q
following_derives kind.For t c q = in_for_derives t c q
following_derives kind.Tablerow t c q = only_end_derives kind.Tablerow t c q
following_derives kind.Capture t c q = only_end_derives kind.Capture t c q
following_derives kind.Ifchanged t c q = only_end_derives kind.Ifchanged t c q

follows_derives : (b : code.Block) (t : Tag) → Derives (follows b t) (Front (FollowsBy b t))
unfolding follows
follows_derives b t = following_derives b t (closer (end_tag b) t.name.bytes) (closer_is (end_tag b) t.name.bytes)

closes_derives : (b : code.Block) (t : Tag) → Derives (closes b t) (ClosedBy b t)
unfolding closes
closes_derives b t = closed_derives b t (closer (end_tag b) t.name.bytes) (closer_is (end_tag b) t.name.bytes)

module _ (source : List ℕ) (end : ℕ) where
  -- elements and what ends them
  abbrev ElementsForm : CutForm Elements
  ElementsForm e y c d = (f : Cut) × ElementsAre e source y.tree c f × EndsBy source y.ending f d

  abbrev InnerForm : CutForm Inner
  InnerForm e y c d = (f : Cut) × ElementsAre e source y.tree c f × EndsBy source (Some y.ending) f d

  -- what follows behind a tag that begins none
  abbrev RestForm : code.Block → Tag → CutForm Arms
  RestForm b t e y c d = (f : Cut) → EndsBy source (Some t) f c → ArmsAre e source b y f d

  abbrev LastForm : code.Block → Tag → CutForm Arms
  LastForm b t e y c d = (f : Cut) → EndsBy source (Some t) f c → EndIs source b f d × (y ≡ no_arms)

  -- an arm, and what follows it
  abbrev ArmForm : (Tag → CutForm Arms) → Guard → CutForm Arms
  ArmForm R g e y c d = (t : Tree) × (a : Arms) × (u : Tag) × (f : Cut) × (h : Cut) × ElementsAre e source t c f × EndsBy source (Some u) f h × R u e a h d × (y ≡ arm g t a)

  -- an element, or a tag that begins none
  abbrev FoundIs : Env → Found → Cut → Cut → Type 0
  FoundIs e (a_leaf p l) c d = LeafIs e source p l c d
  FoundIs e (a_block p x more) c d = BlockIs e source p x more c d
  FoundIs e (other t) c d = EndsBy source (Some t) c d

  -- an element, and those that follow
  abbrev BehindForm : Found → CutForm Elements
  BehindForm (a_leaf p l) e y c d = (z : Elements) × ElementsForm e z c d × (y ≡ elements_are (leaf p l z.tree) z.ending)
  BehindForm (a_block p x more) e y c d = (z : Elements) × ElementsForm e z c d × (y ≡ elements_are (block p x more z.tree) z.ending)
  BehindForm (other t) e y c d = (c ≡ d) × (y ≡ elements_are done (Some t))

  within_by : (e : Env) (x : Elements) (y : Inner) (c d f : Cut) → ElementsForm e x c d → (d ≡ f) × (x.ending ≡ Some y.ending) × (y.tree ≡ x.tree) → InnerForm e y c f
  within_by e x y c d f h k =
      (h.0, subst (λ z. ElementsAre e source z c h.0) (sym k.2) h.1, subst (λ z. EndsBy source (Some y.ending) h.0 z) k.0 (subst (λ z. EndsBy source z h.0 d) k.1 h.2))

  within_reaches : (go : Step Elements) (t : Tree) (o : Option Tag) → Reaches (within end go t o) (λ e y c d. (c ≡ d) × (o ≡ Some y.ending) × (y.tree ≡ t))
  within_reaches go t None = reaches_fail 7 end
  within_reaches go t (Some u) = reaches_give (record { tree = t; ending = u }) (λ e c. (refl, refl, refl))

  module _ (go : Step Elements) (goes : Reaches go ElementsForm) where
    inner_reaches : Reaches (inner end go) InnerForm
    unfolding inner
    inner_reaches = reaches_then within_by go (λ x. within end go x.tree x.ending) goes (λ x. within_reaches go x.tree x.ending)

    arm_reaches : (R : Tag → CutForm Arms) (g : Guard) (rest : Tag → Step Arms) → ((t : Tag) → Reaches (rest t) (R t)) → Reaches (arm_of end go g rest) (ArmForm R g)
    unfolding arm_of
    arm_reaches R g rest h =
        reaches_then {E = λ x e y c d. (a : Arms) × R x.ending e a c d × (y ≡ arm g x.tree a)} (λ e x y c d f i k. (x.tree, k.0, x.ending, i.0, d, i.1, i.2, k.1, k.2))
        (inner end go) (λ b. rest b.ending then λ a. give (arm g b.tree a)) inner_reaches
        (λ x. reaches_then {E = λ a e y c d. (c ≡ d) × (y ≡ arm g x.tree a)} (λ e a y c d f i k. (a, subst (R x.ending e a c) k.0 i, k.1)) (rest x.ending) (λ a. give (arm g x.tree a)) (h x.ending) (λ a. reaches_give (arm g x.tree a) (λ e c. (refl, refl))))

    -- an end tag
    end_is : (b : code.Block) (t : Tag) (f c : Cut) → t.name.bytes ≡ end_tag b → t.ahead ≡ over → TagAt source t.mark t.name.bytes t.ahead f c → EndIs source b f c
    end_is b t f c n a h = (t.mark, subst (λ z. TagAt source t.mark z over f c) n (subst (λ z. TagAt source t.mark t.name.bytes z f c) a h))

    last_reaches : (b : code.Block) (t : Tag) → Reaches (last_of end go b t) (LastForm b t)
    unfolding last_of
    last_reaches b t =
        reaches_then {D = Judged (ClosedBy b t) t.ahead} {E = λ u e y c d. (c ≡ d) × (y ≡ no_arms)} (λ e u y c d f h k g i. let (w, q, o) = h in (end_is b t g f q.0 q.1 (subst (λ z. TagAt source t.mark t.name.bytes t.ahead g z) (o ∙ k.0) i.1), k.1))
        (judged (closes b t) t.ahead) (λ u. give no_arms) (reaches_judged (closes b t) t.ahead (closes_derives b t)) (λ u. reaches_give no_arms (λ e c. (refl, refl)))

    abbrev ContinuedForm : code.Block → Following → CutForm Arms
    ContinuedForm b the_end e y c d = (c ≡ d) × (y ≡ no_arms)
    ContinuedForm b an_else e y c d = ArmForm (LastForm b) always e y c d
    ContinuedForm b (an_arm g) e y c d = ArmForm (RestForm b) g e y c d

    continued_reaches : (b : code.Block) (rest : Tag → Step Arms) → ((t : Tag) → Reaches (rest t) (RestForm b t)) → (x : Following) → Reaches (continued end go b rest x) (ContinuedForm b x)
    continued_reaches b rest h the_end = reaches_give no_arms (λ e c. (refl, refl))
    continued_reaches b rest h an_else = arm_reaches (LastForm b) always (last_of end go b) (last_reaches b)
    continued_reaches b rest h (an_arm g) = arm_reaches (RestForm b) g rest h

    follow_by : (b : code.Block) (t : Tag) (e : Env) (x : Following) (y : Arms) (c d f : Cut) → Judged (Front (FollowsBy b t)) t.ahead e x c d → ContinuedForm b x e y d f → RestForm b t e y c f
    follow_by b t e the_end y c d f (w, (n, a), o) k g i =
        subst (λ z. ArmsAre e source b z g f) (sym k.1) (grammar.the_end (end_is b t g f n a (subst (λ z. TagAt source t.mark t.name.bytes t.ahead g z) (o ∙ k.0) i.1)))
    follow_by b t e an_else y c d f (w, (n, s), o) (body, a, u, m, h, els, ends, last, q) g i =
        let (close, none) = last m ends in
        subst (λ z. ArmsAre e source b z g f) (sym (q ∙ ap (arm always body) none))
        (grammar.an_else t.mark t.ahead (subst (λ z. TagAt source t.mark z t.ahead g d) n (subst (λ z. TagAt source t.mark t.name.bytes t.ahead g z) o i.1)) s els close)
    follow_by b t e (an_arm v) y c d f (w, s, o) (body, a, u, m, h, els, ends, more, q) g i =
        subst (λ z. ArmsAre e source b z g f) (sym q) (grammar.further t.mark t.name.bytes t.ahead (subst (λ z. TagAt source t.mark t.name.bytes t.ahead g z) o i.1) s els (more m ends))

    rest_reaches : (b : code.Block) (rest : Tag → Step Arms) → ((t : Tag) → Reaches (rest t) (RestForm b t)) → (t : Tag) → Reaches (rest_of end go b rest t) (RestForm b t)
    unfolding rest_of
    rest_reaches b rest h t =
        reaches_then {D = Judged (Front (FollowsBy b t)) t.ahead} {E = λ x. ContinuedForm b x} (follow_by b t) (judged (follows b t) t.ahead) (λ x. continued end go b rest x) (reaches_judged (follows b t) t.ahead (follows_derives b t)) (continued_reaches b rest h)

    -- elements before the first `when`
    abbrev DroppedForm : CutForm Tag
    DroppedForm e u c d = (t : Tree) × (f : Cut) × ElementsAre e source t c f × EndsBy source (Some u) f d

    dropped_by : (c : Cut) (l : Lists) (v : Outcome Inner) → ((x : Inner) (f : Cut) (n : Lists) → v ≡ gives x f n → Came InnerForm l x c f n) →
        (u : Tag) (d : Cut) (m : Lists) → followed v (λ b c' l'. gives b.ending c' (noted l.nodes l')) ≡ gives u d m → Came DroppedForm l u c d m
    dropped_by c l (fails n p) h u d m e = cc
    dropped_by c l (gives x f n) h u d m e =
        let v = h x f n refl in
        gave (λ z i k. Came DroppedForm l z c i k) x.ending u f d (noted l.nodes n) m e
        (record { grew = record { kept = v.grew.kept; apart = v.grew.apart }; is = λ g k. let (i, els, ends) = v.is g k in (x.tree, i, els, ends) })

    dropped_reaches : Reaches (dropped end go) DroppedForm
    unfolding dropped
    dropped_reaches c l u d m e = dropped_by c l (inner end go c l) (inner_reaches c l) u d m e

    -- a block behind its opening tag
    abbrev FilledForm : ℕ → code.Block → Opened → CutForm Found
    FilledForm p b (with_arm x g) e y c d = (t : Tree) × (a : Arms) × (f : Cut) × ElementsAre e source t c f × ArmsAre e source b a f d × (y ≡ a_block p x (arm g t a))
    FilledForm p b (a_case x) e y c d = (t : Tree) × (a : Arms) × (f : Cut) × ElementsAre e source t c f × ArmsAre e source b a f d × (y ≡ a_block p (case_block x) a)

    filled_reaches : (p : ℕ) (more : code.Block → Tag → Step Arms) → ((b : code.Block) (t : Tag) → Reaches (more b t) (RestForm b t)) → (b : code.Block) (o : Opened) → Reaches (filled end go p more b o) (FilledForm p b o)
    filled_reaches p more h b (with_arm x g) =
        reaches_then {E = λ a e y c d. (c ≡ d) × (y ≡ a_block p x a)}
        (λ e a y c d f i k. let (t, z, u, m, n, els, ends, rest, q) = i in (t, z, m, els, subst (ArmsAre e source b z m) k.0 (rest m ends), k.1 ∙ ap (a_block p x) q))
        (arm_of end go g (more b)) (λ a. give (a_block p x a)) (arm_reaches (RestForm b) g (more b) (h b)) (λ a. reaches_give (a_block p x a) (λ e c. (refl, refl)))
    filled_reaches p more h b (a_case x) =
        reaches_then {E = λ t e y c d. (a : Arms) × RestForm b t e a c d × (y ≡ a_block p (case_block x) a)} (λ e u y c d f i k. (i.0, k.0, i.1, i.2, k.1 i.1 i.3, k.2))
        (dropped end go) (λ t. more b t then λ a. give (a_block p (case_block x) a)) dropped_reaches
        (λ t. reaches_then {E = λ a e y c d. (c ≡ d) × (y ≡ a_block p (case_block x) a)} (λ e a y c d f i k. (a, subst (RestForm b t e a c) k.0 i, k.1)) (more b t) (λ a. give (a_block p (case_block x) a)) (h b t) (λ a. reaches_give (a_block p (case_block x) a) (λ e c. (refl, refl))))

    -- a tag that opens a block, at c0, with the tokens w behind its name
    abbrev BlockForm : ℕ → code.Block → Words → CutForm Found
    BlockForm p b w e y c d = (n : List ℕ) (c0 : Cut) → known_as n ≡ Some (known.Block b) → TagAt source p n w c0 c → FoundIs e y c0 d

    block_by : (p : ℕ) (b : code.Block) (w : Words) (e : Env) (o : Opened) (y : Found) (c d f : Cut) → Judged (Wholly (OpenedIs b)) w e o c d → FilledForm p b o e y d f → BlockForm p b w e y c f
    block_by p b w e (with_arm x g) y c d f (v, (i, j), o) (t, a, m, els, arms, q) n c0 k at =
        subst (λ z. FoundIs e z c0 f) (sym q) (grammar.opens b n w k (subst (TagAt source p n w c0) o at) i els arms)
    block_by p b w e (a_case x) y c d f (v, (i, j), o) (t, a, m, els, arms, q) n c0 k at =
        subst (λ z. FoundIs e z c0 f) (sym q)
        (grammar.opens_case n w (k ∙ ap (λ z. Some (known.Block z)) i.0) (subst (TagAt source p n w c0) o at) i.1 els (subst (λ z. ArmsAre e source z a m f) i.0 arms))

    block_reaches : (r p : ℕ) (more : code.Block → Tag → Step Arms) → ((b : code.Block) (t : Tag) → Reaches (more b t) (RestForm b t)) → (b : code.Block) (w : Words) → Reaches (block_at end go r p more b w) (BlockForm p b w)
    unfolding block_at
    block_reaches r p more h b w =
        reaches_then {D = Judged (Wholly (OpenedIs b)) w} {E = λ o. FilledForm p b o} (block_by p b w) (judged (opens r p (opened b p)) w) (λ x. filled end go p more b x) (reaches_judged (opens r p (opened b p)) w (opens_derives r p b)) (filled_reaches p more h b)

    -- a tag by its name n, with the tokens w behind it
    abbrev TagForm : ℕ → Seen → Words → CutForm Found
    TagForm p n w e y c d = (c0 : Cut) → TagAt source p n.bytes w c0 c → FoundIs e y c0 d

    simple_reaches : (s : Simple) (p : ℕ) (n : Seen) (w : Words) → known_as n.bytes ≡ Some (known.Simple s) → Reaches (a_simple s p w) (TagForm p n w)
    unfolding a_simple
    simple_reaches s p n w k =
        reaches_then {D = Judged (Wholly (λ e l a. SimpleIs e s l a)) w} {E = λ l e y c d. (c ≡ d) × (y ≡ a_leaf p l)}
        (λ e l y c d f i j c0 at. let (v, q, o) = i in subst (λ z. FoundIs e z c0 f) (sym j.1) (is_simple s n.bytes w k (subst (TagAt source p n.bytes w c0) (o ∙ j.0) at) q.0))
        (judged (with_node p (leaf_tag s p)) w) (λ x. give (a_leaf p x)) (reaches_judged (with_node p (leaf_tag s p)) w (with_node_derives p (leaf_tag s p) (leaf_derives s p))) (λ x. reaches_give (a_leaf p x) (λ e c. (refl, refl)))

    module _ (r : ℕ) (more : code.Block → Tag → Step Arms) (rests_reach : (b : code.Block) (t : Tag) → Reaches (more b t) (RestForm b t)) (p : ℕ) where
      tag_by_reaches : (o : Option Known) (n : Seen) (w : Words) → known_as n.bytes ≡ o → Reaches (tag_by end r go more p o n w) (TagForm p n w)
      tag_by_reaches None n w k = reaches_give (other (tag p n w)) (λ e c c0 at. (k, at))
      tag_by_reaches (Some (known.Simple s)) n w k = simple_reaches s p n w k
      tag_by_reaches (Some (known.Block b)) n w k = reaches_as (block_at end go r p more b w) (block_reaches r p more rests_reach b w) (λ e y c d h c0 at. h n.bytes c0 k at)

      -- the piece in front of what is left
      abbrev MarkForm : Kind → List ℕ → CutForm Found
      MarkForm k b e y c d = FoundIs e y (mark k p b c) d

      named_came : (b : List ℕ) (l : Lists) (v : Verdict Seen) → verdict (inside source p b) ≡ None → ((x : Seen) (t : State) → v ≡ passes x t → Has Name (state (inside source p b) l) x t) →
          (c : Cut) (y : Found) (d : Cut) (m : Lists) → named end r go more p v c l ≡ gives y d m → Came (MarkForm is_tag b) l y c d m
      named_came b l (refuses n q) whole h c y d m e = cc
      named_came b l (passes n s) whole h c y d m e =
          let u = h n s refl in
          let v = tag_by_reaches (known_as n.bytes) n s.ahead refl c s.lists y d m e in
          record {
            grew = grew_then l s.lists m u.grew v.grew;
            is = λ z k. v.is z k (mark is_tag p b c) (record { bytes = b; is = refl; whole = whole; begins = u.is z (kept_then (env_of s.lists) (env_of m) z v.grew.kept k) });
          }

      tag_reaches : (b : List ℕ) → verdict (inside source p b) ≡ None → Reaches (a_tag end r go more p (inside source p b)) (MarkForm is_tag b)
      unfolding a_tag
      tag_reaches b whole c l y d m e = named_came b l (tag_name p (state (inside source p b) l)) whole (tag_name_derives p (state (inside source p b) l)) c y d m e

      output_reaches : (b : List ℕ) → verdict (inside source p b) ≡ None → Reaches (an_output p (inside source p b)) (MarkForm is_output b)
      unfolding an_output
      output_reaches b whole =
          reaches_then {D = Judged (Wholly (λ e l a. (x : Chain) × ChainIs e x a × (l ≡ output x))) (inside source p b)} {E = λ l e y c d. (c ≡ d) × (y ≡ a_leaf p l)}
          (λ e l y c d f i j.
          let (v, q, o) = i in
          let (x, h, same) = q.0 in
          subst (λ z. FoundIs e z (mark is_output p b c) f) (sym j.1) (is_chain b x (ap (mark is_output p b) (o ∙ j.0)) whole h same))
          (judged (with_node p (output_of p)) (inside source p b)) (λ x. give (a_leaf p x)) (reaches_judged (with_node p (output_of p)) (inside source p b) (with_node_derives p (output_of p) (derives_output p))) (λ x. reaches_give (a_leaf p x) (λ e c. (refl, refl)))

      marked_reaches : (k : Kind) (b : List ℕ) → verdict (inside source p b) ≡ None → Reaches (marked end r go more p k (inside source p b)) (MarkForm k b)
      marked_reaches is_output b whole = output_reaches b whole
      marked_reaches is_tag b whole = tag_reaches b whole

      whole_reaches : (o : Option ℕ) (k : Kind) (b : List ℕ) → verdict (inside source p b) ≡ o → Reaches (cut_whole end r go more p o k (inside source p b)) (MarkForm k b)
      whole_reaches None k b q = marked_reaches k b q
      whole_reaches (Some n) k b q = reaches_fail 4 n

      mark_reaches : (k : Kind) (b : List ℕ) → Reaches (a_mark end r go more p k (inside source p b)) (MarkForm k b)
      unfolding a_mark
      mark_reaches k b = whole_reaches (verdict (inside source p b)) k b refl

    text_reaches : (p : ℕ) (b : List ℕ) → Reaches (a_text p b) (λ e y c d. FoundIs e y (text p b c) d)
    unfolding a_text
    text_reaches p b =
        reaches_then {D = Judged (λ e l u v. l ≡ plain b) over} {E = λ l e y c d. (c ≡ d) × (y ≡ a_leaf p l)}
        (λ e l y c d f i j. let (v, q, o) = i in subst (λ z. FoundIs e z (text p b c) f) (sym j.1) (is_text b (ap (text p b) (o ∙ j.0)) q))
        (judged (with_node p (pure (plain b))) over) (λ x. give (a_leaf p x)) (reaches_judged (with_node p (pure (plain b))) over (with_node_derives {D = λ e l u v. l ≡ plain b} p (pure (plain b)) (derives_pure (plain b) (λ e a. refl)))) (λ x. reaches_give (a_leaf p x) (λ e c. (refl, refl)))

    behind_reaches : (x : Found) → Reaches (behind go x) (BehindForm x)
    behind_reaches (a_leaf p l) =
        reaches_then {E = λ z e y c d. (c ≡ d) × (y ≡ elements_are (leaf p l z.tree) z.ending)} (λ e z y c d f i k. (z, subst (ElementsForm e z c) k.0 i, k.1)) go (λ z. give (elements_are (leaf p l z.tree) z.ending)) goes
        (λ z. reaches_give (elements_are (leaf p l z.tree) z.ending) (λ e c. (refl, refl)))
    behind_reaches (a_block p x more) =
        reaches_then {E = λ z e y c d. (c ≡ d) × (y ≡ elements_are (block p x more z.tree) z.ending)} (λ e z y c d f i k. (z, subst (ElementsForm e z c) k.0 i, k.1)) go (λ z. give (elements_are (block p x more z.tree) z.ending)) goes
        (λ z. reaches_give (elements_are (block p x more z.tree) z.ending) (λ e c. (refl, refl)))
    behind_reaches (other t) = reaches_give (elements_are done (Some t)) (λ e c. (refl, refl))

  ends_here : (t : Tag) (c d : Cut) → EndsBy source (Some t) c d → grammar.Ends source c
  ends_here t c d h = inr (record { place = t.mark; name = t.name.bytes; a = t.ahead; d = d; unknown = h.0; tag = h.1 })

  found_by : (e : Env) (x : Found) (y : Elements) (c d f : Cut) → FoundIs e x c d → BehindForm x e y d f → ElementsForm e y c f
  found_by e (a_leaf p l) y c d f h (z, (g, els, ends), q) = subst (λ o. ElementsForm e o c f) (sym q) (g, grammar.a_leaf h els, ends)
  found_by e (a_block p x more) y c d f h (z, (g, els, ends), q) = subst (λ o. ElementsForm e o c f) (sym q) (g, grammar.a_block h els, ends)
  found_by e (other t) y c d f h k = subst (λ o. ElementsForm e o c f) (sym k.1) (c, no_more (ends_here t c d h), subst (EndsBy source (Some t) c) k.0 h)

  -- on a piece that is taken
  taken : (s : Step Found) (go : Step Elements) (front : Cut → Cut) → Reaches go ElementsForm → Reaches s (λ e x c d. FoundIs e x (front c) d) → Reaches (s then λ x. behind go x) (λ e y c d. ElementsForm e y (front c) d)
  taken s go front goes h = reaches_then {E = λ x. BehindForm x} (λ e x y c d f i k. found_by e x y (front c) d f i k) s (λ x. behind go x) h (behind_reaches go goes)

  mutual
    elements_reach : (n r : ℕ) → Reaches (elements source end n r) ElementsForm
    elements_reach zero r c l y d m e = cc
    elements_reach (suc n) r no_pieces l y d m e =
        gave (λ z f k. Came ElementsForm l z no_pieces f k) (elements_are done None) y no_pieces d l m e (record { grew = grew_refl l; is = λ g k. (no_pieces, no_more (inl refl), (refl, refl)) })
    elements_reach (suc n) r (unclosed p) l y d m e = cc
    elements_reach (suc n) r (text p b c) l y d m e =
        let h = taken (a_text p b) (elements source end n r) (text p b) (elements_reach n r) (text_reaches (elements source end n r) (elements_reach n r) p b) c l y d m e in
        record { grew = h.grew; is = h.is }
    elements_reach (suc n) r (mark k p b c) l y d m e =
        let go = elements source end n (r - 1) in
        let more = λ (q : code.Block) (t : Tag). rests source end n (r - 1) q t in
        let h =
        taken (a_mark end r go more p k (inside source p b)) (elements source end n r) (mark k p b) (elements_reach n r)
        (mark_reaches go (elements_reach n (r - 1)) r more (λ q t. rests_reach n (r - 1) q t) p k b) c l y d m e in
        record { grew = h.grew; is = h.is }

    rests_reach : (n r : ℕ) (b : code.Block) (t : Tag) → Reaches (rests source end n r b t) (RestForm b t)
    rests_reach zero r b t c l y d m e = cc
    rests_reach (suc n) r b t c l y d m e = rest_reaches (elements source end n r) (elements_reach n r) b (λ u. rests source end n r b u) (λ u. rests_reach n r b u) t c l y d m e

pub derived : Derived
derived source end n r c d l m y e =
    let h = elements_reach source end n r c l y d m e in
    let (f, els, ends) = h.is (env_of m) (kept_refl (env_of m)) in
    (f, els, ends, h.grew.kept, h.grew.apart)
