-- What is written by the grammar of elements is not refused but by a limit.
use Rattle.std.proofs.Common.{◌≡◌, ℕ, zero, suc, ◌-◌, ◌<◌, ◌≤◌, ◌⊎◌, inl, inr, List, Some, None, codes, Option, refl, sym, ap, ◌∙◌, subst, arith}
use Rattle.tray.specs.Parts.{same_text}
use Rattle.cutter.specs.Words.{Words, over, verdict}
use Rattle.cutter.specs.Cuts.{Cut, done as no_pieces, mark}
use Rattle.cutter.specs.declared.state.Kind.TheVariants.{Tag as is_tag, Output as is_output}
use Rattle.tree.specs.Expressions.{Expr, Chain}
use Rattle.tree.specs.Conditions.{Condition}
use Rattle.tree.specs.Elements.{Leaf, plain, Block, case_block, Guard, holds, equals_one, always, Tree, done, leaf, block, Arms, no_arms, arm}
use Rattle.arguments.specs.Judging.{Lists, state, Verdict, Judge, pure, Seen, token_if, noted}
use Rattle.arguments.specs.Values.{bare}
use Rattle.arguments.specs.Marks.{inside}
use Rattle.tags.specs.Leaves.{output_of}
use Rattle.tags.specs.Conditions.{condition}
use Rattle.tags.specs.Whens.{whens}
use Rattle.sheet.specs.Steps.{Outcome, fails, gives, Step, followed, ◌then◌, give, settled, judged, pieces}
use Rattle.sheet.specs.Names.{end_tag, known_as, closer, named_so, first_token, tag_name}
use Rattle.sheet.specs.declared.names.Simple.{Simple}
use Rattle.sheet.specs.declared.names.Block as code
use Rattle.sheet.specs.declared.names.Block.TheVariants as kind
use Rattle.sheet.specs.declared.names.Known.{Known}
use Rattle.sheet.specs.declared.names.Known.TheVariants as known
use Rattle.sheet.specs.declared.names.Closer.TheVariants as closing
use Rattle.sheet.specs.Blocks.{Tag, tag, with_node, behind_node, opens, leaf_tag, Opened, with_arm, a_case, opened, Following, the_end, an_else, an_arm, closed, in_if, in_case, following, follows, closes, elsif, when, in_for}
use Rattle.sheet.specs.Parsing.{Found, a_leaf, a_block, other, Elements, Inner, elements_are, a_text, an_output, a_simple, within, inner, arm_of, last_of, continued, rest_of, dropped, filled, block_at, tag_by, named, a_tag, cut_whole, a_mark, behind, elements, rests}
use Rattle.sheet.specs.Grammar.{Env, Begins, TheWord, ValueIs, ChainIs, ConditionIs, WhensAre}
use Rattle.sheet.specs.GrammarTags.{SimpleIs, OpensIs, FurtherIs, ElseIs}
use Rattle.sheet.specs.GrammarElements.{TagAt, LeafIs, is_text, is_chain, is_simple, OtherTag, Ends, EndIs, ElementsAre, no_more, BlockIs, ArmsAre}
use Rattle.sheet.specs.GrammarElements as grammar
use Rattle.sheet.specs.GrammarLaws.{EndsBy, Accepted, NotWritten}
use Rattle.sheet.proofs.GrammarDerived.{as_written}
use Rattle.sheet.proofs.GrammarOneWay.{tag_one}
use Rattle.sheet.proofs.GrammarFine.{Fine, limited, fine, Any, fine_next, fine_pure, fine_if_some, fine_finished, fine_end, fine_condition, fine_whens}
use Rattle.sheet.proofs.GrammarTagsFine.{fine_so, fine_leaf, fine_output, fine_with_node, fine_behind_node, fine_opens, IsArm, IsCase, fine_opened, fine_case}

-- a limit is passed; or something is given, of which P holds together with the pieces that are left
pub data Fares {A : Type 0} (P : A → Cut → Type 0) (v : Outcome A) : Type 0 where
  refused : (p : ℕ) → v ≡ fails 2 p → Fares P v
  fares : (y : A) (d : Cut) (m : Lists) → v ≡ gives y d m → P y d → Fares P v

fares_followed : {A B : Type 0} {P : A → Cut → Type 0} {Q : B → Cut → Type 0} (v : Outcome A) (k : A → Step B) → Fares P v → ((y : A) (d : Cut) (m : Lists) → P y d → Fares Q (k y d m)) → Fares Q (followed v k)
fares_followed v k (refused p e) g = refused p (ap (λ x. followed x k) e)
fares_followed {Q = Q} v k (fares y d m e h) g = subst (Fares Q) (sym (ap (λ x. followed x k) e)) (g y d m h)

fares_then : {A B : Type 0} {P : A → Cut → Type 0} {Q : B → Cut → Type 0} (s : Step A) (k : A → Step B) (c : Cut) (l : Lists) → Fares P (s c l) → ((y : A) (d : Cut) (m : Lists) → P y d → Fares Q (k y d m)) → Fares Q ((s then k) c l)
fares_then s k c l h g = fares_followed (s c l) k h g

fares_judged : {A : Type 0} {P : A → Type 0} (j : Judge A) (w b : Words) (c : Cut) (l : Lists) → Fine P b (j (state w l)) → Fares (λ y d. P y × (d ≡ c)) (judged j w c l)
fares_judged j w b c l (limited p e) = refused p (ap (λ v. settled v c) e)
fares_judged j w b c l (fine y m e h) = fares y c m (ap (λ v. settled v c) e) (h, refl)

-- how many pieces are left
tag_pieces : (source : List ℕ) (p : ℕ) (n : List ℕ) (a : Words) (c d : Cut) → TagAt source p n a c d → pieces c ≡ suc (pieces d)
tag_pieces source p n a c d h = ap pieces h.is

leaf_pieces : (e : Env) (source : List ℕ) (p : ℕ) (l : Leaf) (c d : Cut) → LeafIs e source p l c d → pieces c ≡ suc (pieces d)
leaf_pieces e source p l c d (is_text b h q) = ap pieces h
leaf_pieces e source p l c d (is_chain b x h w i q) = ap pieces h
leaf_pieces e source p l c d (is_simple s n a k h i) = tag_pieces source p n a c d h

module _ (e : Env) (source : List ℕ) where
  mutual
    elements_pieces : {t : Tree} {c d : Cut} → ElementsAre e source t c d → pieces d ≤ pieces c
    elements_pieces (no_more h) = omega arith
    elements_pieces (grammar.a_leaf {p = p} {l = l} {c = c} {d = d} h i) = omega (arith, leaf_pieces e source p l c d h, elements_pieces i)
    elements_pieces (grammar.a_block h i) = omega (arith, block_pieces h, elements_pieces i)

    block_pieces : {p : ℕ} {x : Block} {more : Arms} {c d : Cut} → BlockIs e source p x more c d → pieces d < pieces c
    block_pieces (grammar.opens {p = p} {c = c} {d = d} b n a k at o els arms) = omega (arith, tag_pieces source p n a c d at, elements_pieces els, arms_pieces arms)
    block_pieces (grammar.opens_case {p = p} {c = c} {d = d} n a k at o els arms) = omega (arith, tag_pieces source p n a c d at, elements_pieces els, arms_pieces arms)

    arms_pieces : {b : code.Block} {more : Arms} {c d : Cut} → ArmsAre e source b more c d → pieces d < pieces c
    arms_pieces (grammar.the_end {b = b} {c = c} {d = d} (p, at)) = omega (arith, tag_pieces source p (end_tag b) over c d at)
    arms_pieces (grammar.an_else {b = b} {c = c} {d = d} {f = f} {h = h} p a at s els close) =
        omega (arith, tag_pieces source p (codes "else") a c d at, elements_pieces els, tag_pieces source close.0 (end_tag b) over f h close.1)
    arms_pieces (grammar.further {c = c} {d = d} p n a at s els arms) = omega (arith, tag_pieces source p n a c d at, elements_pieces els, arms_pieces arms)

-- the name of a tag
name_fine : (m : ℕ) (n : List ℕ) (a b : Words) (l : Lists) → Begins (TheWord n) a b → Fine (λ w. w.bytes ≡ n) b (tag_name m (state a l))
unfolding tag_name
name_fine m n a b l h =
    fine_next b b (token_if Some) (λ w. first_token m w) (state a l) (fine_if_some Some a b l h.token (record { token = h.token; is = h.is; so = refl }))
    (λ o k i. subst (λ z. Fine (λ w. w.bytes ≡ n) b (first_token m z (state b k))) (sym i)
    (subst (λ r. Fine (λ w. w.bytes ≡ n) b (named_so h.token (bare r) (state b k))) (sym h.so) (fine_pure h.token b k (sym (as_written h.token n h.so)))))

-- what names are to a block
end_closes : (b : code.Block) → closer (end_tag b) (end_tag b) ≡ closing.End
unfolding same_text
end_closes kind.If = refl
end_closes kind.Unless = refl
end_closes kind.Case = refl
end_closes kind.For = refl
end_closes kind.Tablerow = refl
end_closes kind.Capture = refl
end_closes kind.Ifchanged = refl

else_closes : (b : code.Block) → closer (end_tag b) (codes "else") ≡ closing.Else
unfolding same_text
else_closes kind.If = refl
else_closes kind.Unless = refl
else_closes kind.Case = refl
else_closes kind.For = refl
else_closes kind.Tablerow = refl
else_closes kind.Capture = refl
else_closes kind.Ifchanged = refl

elsif_if : closer (end_tag kind.If) (codes "elsif") ≡ closing.Elsif
unfolding same_text
elsif_if = refl

elsif_unless : closer (end_tag kind.Unless) (codes "elsif") ≡ closing.Elsif
unfolding same_text
elsif_unless = refl

when_case : closer (end_tag kind.Case) (codes "when") ≡ closing.When
unfolding same_text
when_case = refl

abbrev IsEnd : Following → Type 0
IsEnd the_end = Unit {0}
IsEnd an_else = ⊥
IsEnd (an_arm g) = ⊥

abbrev IsElse : Following → Type 0
IsElse the_end = ⊥
IsElse an_else = Unit {0}
IsElse (an_arm g) = ⊥

abbrev IsFurther : Following → Type 0
IsFurther the_end = ⊥
IsFurther an_else = ⊥
IsFurther (an_arm g) = Unit {0}

-- what follows, by what the name is to the block
end_following : (b : code.Block) (t : Tag) (a : Words) (l : Lists) → a ≡ over → Fine IsEnd over (following b t closing.End (state a l))
unfolding in_if in_case in_for
end_following kind.If t a l h = fine_end the_end a l h tt
end_following kind.Unless t a l h = fine_end the_end a l h tt
end_following kind.Case t a l h = fine_end the_end a l h tt
end_following kind.For t a l h = fine_end the_end a l h tt
end_following kind.Tablerow t a l h = fine_end the_end a l h tt
end_following kind.Capture t a l h = fine_end the_end a l h tt
end_following kind.Ifchanged t a l h = fine_end the_end a l h tt

abbrev SomeEnd : {A : Type 0} → (A → Type 0) → Verdict A → Type 0
SomeEnd {A} P v = (b : Words) × Fine P b v

else_following : (b : code.Block) (t : Tag) (a : Words) (l : Lists) → ElseIs b a → SomeEnd IsElse (following b t closing.Else (state a l))
unfolding in_if in_case in_for
else_following kind.If t a l h = (a, fine_pure an_else a l tt)
else_following kind.Unless t a l h = (a, fine_pure an_else a l tt)
else_following kind.Case t a l h = (over, fine_end an_else a l h tt)
else_following kind.For t a l h = (over, fine_end an_else a l h tt)
else_following kind.Tablerow t a l h = absurd h
else_following kind.Capture t a l h = absurd h
else_following kind.Ifchanged t a l h = absurd h

elsif_following : (e : Env) (c : Condition) (t : Tag) (a : Words) (l : Lists) → ConditionIs e c a → Fine IsFurther over (in_if t closing.Elsif (state a l))
unfolding in_if elsif
elsif_following e c t a l h =
    fine_so (λ c. an_arm (holds c)) (behind_node t.mark (condition t.mark)) a over l (λ c. tt) (fine_behind_node t.mark (condition t.mark) a over l (λ n. fine_condition e c t.mark a n h))

when_following : (e : Env) (xs : List Expr) (t : Tag) (a : Words) (l : Lists) → WhensAre e xs a → Fine IsFurther over (in_case t closing.When (state a l))
unfolding in_case when
when_following e xs t a l h =
    fine_so (λ xs. an_arm (equals_one xs)) (behind_node t.mark (whens t.mark)) a over l (λ c. tt) (fine_behind_node t.mark (whens t.mark) a over l (λ n. fine_whens e xs t.mark a n h))

end_follows : (b : code.Block) (t : Tag) (a : Words) (l : Lists) → t.name.bytes ≡ end_tag b → a ≡ over → Fine IsEnd over (follows b t (state a l))
unfolding follows
end_follows b t a l n h = subst (λ k. Fine IsEnd over (following b t k (state a l))) (sym (ap (closer (end_tag b)) n ∙ end_closes b)) (end_following b t a l h)

else_follows : (b : code.Block) (t : Tag) (a : Words) (l : Lists) → t.name.bytes ≡ codes "else" → ElseIs b a → SomeEnd IsElse (follows b t (state a l))
unfolding follows
else_follows b t a l n h = subst (λ k. SomeEnd IsElse (following b t k (state a l))) (sym (ap (closer (end_tag b)) n ∙ else_closes b)) (else_following b t a l h)

further_follows : (e : Env) (b : code.Block) (g : Guard) (t : Tag) (a : Words) (l : Lists) → FurtherIs e b g t.name.bytes a → Fine IsFurther over (follows b t (state a l))
unfolding follows
further_follows e kind.If g t a l (n, (c, h, q)) = subst (λ k. Fine IsFurther over (following kind.If t k (state a l))) (sym (ap (closer (end_tag kind.If)) n ∙ elsif_if)) (elsif_following e c t a l h)
further_follows e kind.Unless g t a l (n, (c, h, q)) =
    subst (λ k. Fine IsFurther over (following kind.Unless t k (state a l))) (sym (ap (closer (end_tag kind.Unless)) n ∙ elsif_unless)) (elsif_following e c t a l h)
further_follows e kind.Case g t a l (n, (xs, h, q)) = subst (λ k. Fine IsFurther over (following kind.Case t k (state a l))) (sym (ap (closer (end_tag kind.Case)) n ∙ when_case)) (when_following e xs t a l h)
further_follows e kind.For g t a l h = absurd h
further_follows e kind.Tablerow g t a l h = absurd h
further_follows e kind.Capture g t a l h = absurd h
further_follows e kind.Ifchanged g t a l h = absurd h

end_fine : (b : code.Block) (t : Tag) (a : Words) (l : Lists) → t.name.bytes ≡ end_tag b → a ≡ over → Fine Any over (closes b t (state a l))
unfolding closes
end_fine b t a l n h = subst (λ k. Fine Any over (closed t k (state a l))) (sym (ap (closer (end_tag b)) n ∙ end_closes b)) (fine_finished a l h)

-- an element was found
abbrev IsElement : Found → Type 0
IsElement (a_leaf p l) = Unit {0}
IsElement (a_block p x more) = Unit {0}
IsElement (other t) = ⊥

module _ (e : Env) (source : List ℕ) (end : ℕ) where
  -- the elements end at f
  abbrev pub EndsAt : Cut → Elements → Cut → Type 0
  EndsAt f y d = EndsBy source y.ending f d

  abbrev InnerAt : Cut → Inner → Cut → Type 0
  InnerAt f y d = EndsBy source (Some y.ending) f d

  abbrev At : {A : Type 0} → Cut → A → Cut → Type 0
  At f y d = d ≡ f

  within_fares : (go : Step Elements) (x : Elements) (f d : Cut) (m : Lists) (p : ℕ) (n : List ℕ) (a : Words) (h : Cut) → TagAt source p n a f h → (o : Option Tag) → x.ending ≡ o → EndsBy source o f d → Fares (InnerAt f) (within end go x.tree o d m)
  within_fares go x f d m p n a h at None q i = let r : no_pieces ≡ mark is_tag p at.bytes h = sym i.0 ∙ at.is in cc
  within_fares go x f d m p n a h at (Some t) q i = fares (record { tree = x.tree; ending = t }) d m refl i

  inner_fares : (go : Step Elements) (c f : Cut) (l : Lists) (p : ℕ) (n : List ℕ) (a : Words) (h : Cut) → TagAt source p n a f h → Fares (EndsAt f) (go c l) → Fares (InnerAt f) (inner end go c l)
  unfolding inner
  inner_fares go c f l p n a h at i = fares_then go (λ x. within end go x.tree x.ending) c l i (λ x d m k. within_fares go x f d m p n a h at x.ending refl k)

  -- what arms begin with is a tag
  arms_tag : {b : code.Block} {more : Arms} {c d : Cut} → ArmsAre e source b more c d → (p : ℕ) × (n : List ℕ) × (a : Words) × (h : Cut) × TagAt source p n a c h
  arms_tag (grammar.the_end {b = b} {d = d} (p, at)) = (p, end_tag b, over, d, at)
  arms_tag (grammar.an_else {d = d} p a at s els close) = (p, codes "else", a, d, at)
  arms_tag (grammar.further {d = d} p n a at s els arms) = (p, n, a, d, at)

  arm_fares : (go : Step Elements) (g : Guard) (rest : Tag → Step Arms) (c f h : Cut) (l : Lists) (p : ℕ) (n : List ℕ) (a : Words) (k : Cut) → TagAt source p n a f k → Fares (EndsAt f) (go c l) →
      ((t : Tag) (d : Cut) (m : Lists) → EndsBy source (Some t) f d → Fares (At h) (rest t d m)) → Fares (At h) (arm_of end go g rest c l)
  unfolding arm_of
  arm_fares go g rest c f h l p n a k at i r =
      fares_then (inner end go) (λ b. rest b.ending then λ a. give (arm g b.tree a)) c l (inner_fares go c f l p n a k at i)
      (λ x d m j. fares_then (rest x.ending) (λ a. give (arm g x.tree a)) d m (r x.ending d m j) (λ y u v w. fares (arm g x.tree y) u v refl w))

  dropped_fares : (go : Step Elements) (c f : Cut) (l : Lists) (p : ℕ) (n : List ℕ) (a : Words) (k : Cut) → TagAt source p n a f k → Fares (EndsAt f) (go c l) → Fares (λ t d. EndsBy source (Some t) f d) (dropped end go c l)
  unfolding dropped
  dropped_fares go c f l p n a k at i = fares_followed (inner end go c l) (λ b c' l'. gives b.ending c' (noted l.nodes l')) (inner_fares go c f l p n a k at i) (λ x d m j. fares x.ending d (noted l.nodes m) refl j)

  last_fares : (go : Step Elements) (b : code.Block) (t : Tag) (f h d : Cut) (m : Lists) → EndIs source b f h → EndsBy source (Some t) f d → Fares (At h) (last_of end go b t d m)
  unfolding last_of
  last_fares go b t f h d m (p, at) (k, i) =
      let (q, n, a, r) = tag_one source t.mark p t.name.bytes (end_tag b) t.ahead over f d h i at in
      fares_then (judged (closes b t) t.ahead) (λ u. give no_arms) d m (fares_judged (closes b t) t.ahead over d m (end_fine b t t.ahead m n a)) (λ u v w j. fares no_arms v w refl (j.1 ∙ r))

  -- by what follows
  continued_end : (go : Step Elements) (b : code.Block) (rest : Tag → Step Arms) (x : Following) (d : Cut) (m : Lists) → IsEnd x → Fares (At d) (continued end go b rest x d m)
  continued_end go b rest the_end d m h = fares no_arms d m refl refl
  continued_end go b rest an_else d m h = absurd h
  continued_end go b rest (an_arm g) d m h = absurd h

  continued_else : (go : Step Elements) (b : code.Block) (rest : Tag → Step Arms) (x : Following) (c f h : Cut) (m : Lists) → IsElse x → EndIs source b f h → Fares (EndsAt f) (go c m) → Fares (At h) (continued end go b rest x c m)
  continued_else go b rest the_end c f h m i close els = absurd i
  continued_else go b rest an_else c f h m i close els = arm_fares go always (last_of end go b) c f h m close.0 (end_tag b) over h close.1 els (λ t d k j. last_fares go b t f h d k close j)
  continued_else go b rest (an_arm g) c f h m i close els = absurd i

  continued_further : (go : Step Elements) (b : code.Block) (rest : Tag → Step Arms) (x : Following) (c f h : Cut) (m : Lists) (p : ℕ) (n : List ℕ) (a : Words) (k : Cut) → IsFurther x → TagAt source p n a f k → Fares (EndsAt f) (go c m) →
      ((t : Tag) (d : Cut) (m : Lists) → EndsBy source (Some t) f d → Fares (At h) (rest t d m)) → Fares (At h) (continued end go b rest x c m)
  continued_further go b rest the_end c f h m p n a k i at els r = absurd i
  continued_further go b rest an_else c f h m p n a k i at els r = absurd i
  continued_further go b rest (an_arm g) c f h m p n a k i at els r = arm_fares go g rest c f h m p n a k at els r

  rest_end : (go : Step Elements) (b : code.Block) (rest : Tag → Step Arms) (t : Tag) (f h c : Cut) (l : Lists) → EndIs source b f h → EndsBy source (Some t) f c → Fares (At h) (rest_of end go b rest t c l)
  unfolding rest_of
  rest_end go b rest t f h c l (p, at) (k, i) =
      let (q, n, a, r) = tag_one source t.mark p t.name.bytes (end_tag b) t.ahead over f c h i at in
      fares_then (judged (follows b t) t.ahead) (λ x. continued end go b rest x) c l (fares_judged (follows b t) t.ahead over c l (end_follows b t t.ahead l n a))
      (λ x d m j. subst (λ z. Fares (At z) (continued end go b rest x d m)) (j.1 ∙ r) (continued_end go b rest x d m j.0))

  rest_else : (go : Step Elements) (b : code.Block) (rest : Tag → Step Arms) (t : Tag) (p : ℕ) (a : Words) (c0 c1 f h c : Cut) (l : Lists) → TagAt source p (codes "else") a c0 c1 → ElseIs b a → EndIs source b f h → EndsBy source (Some t) c0 c →
      ((m : Lists) → Fares (EndsAt f) (go c1 m)) → Fares (At h) (rest_of end go b rest t c l)
  unfolding rest_of
  rest_else go b rest t p a c0 c1 f h c l at s close (k, i) els =
      let (q, n, same, r) = tag_one source t.mark p t.name.bytes (codes "else") t.ahead a c0 c c1 i at in
      let (w, judge) = else_follows b t t.ahead l n (subst (ElseIs b) (sym same) s) in
      fares_then (judged (follows b t) t.ahead) (λ x. continued end go b rest x) c l (fares_judged (follows b t) t.ahead w c l judge)
      (λ x d m j. continued_else go b rest x d f h m j.0 close (subst (λ z. Fares (EndsAt f) (go z m)) (sym (j.1 ∙ r)) (els m)))

  rest_further : (go : Step Elements) (b : code.Block) (rest : Tag → Step Arms) (t : Tag) (g : Guard) (p : ℕ) (n : List ℕ) (a : Words) (c0 c1 f h c : Cut) (l : Lists) (q : ℕ) (o : List ℕ) (v : Words) (w : Cut) → TagAt source p n a c0 c1 → FurtherIs e b g n a →
      TagAt source q o v f w → EndsBy source (Some t) c0 c → ((m : Lists) → Fares (EndsAt f) (go c1 m)) → ((t : Tag) (d : Cut) (m : Lists) → EndsBy source (Some t) f d → Fares (At h) (rest t d m)) → Fares (At h) (rest_of end go b rest t c l)
  unfolding rest_of
  rest_further go b rest t g p n a c0 c1 f h c l q o v w at s behind (k, i) els more =
      let (x, y, z, r) = tag_one source t.mark p t.name.bytes n t.ahead a c0 c c1 i at in
      let s' : FurtherIs e b g t.name.bytes t.ahead = subst (λ u. FurtherIs e b g u t.ahead) (sym y) (subst (λ u. FurtherIs e b g n u) (sym z) s) in
      fares_then (judged (follows b t) t.ahead) (λ x. continued end go b rest x) c l (fares_judged (follows b t) t.ahead over c l (further_follows e b g t t.ahead l s'))
      (λ x d m j. continued_further go b rest x d f h m q o v w j.0 behind (subst (λ z. Fares (EndsAt f) (go z m)) (sym (j.1 ∙ r)) (els m)) more)

  -- an element that was found, and those that follow
  behind_fares : (go : Step Elements) (x : Found) (d f : Cut) (m : Lists) → IsElement x → Fares (EndsAt f) (go d m) → Fares (EndsAt f) (behind go x d m)
  behind_fares go (a_leaf p l) d f m h i = fares_then go (λ y. give (elements_are (leaf p l y.tree) y.ending)) d m i (λ y c n k. fares (elements_are (leaf p l y.tree) y.ending) c n refl k)
  behind_fares go (a_block p x more) d f m h i = fares_then go (λ y. give (elements_are (block p x more y.tree) y.ending)) d m i (λ y c n k. fares (elements_are (block p x more y.tree) y.ending) c n refl k)
  behind_fares go (other t) d f m h i = absurd h

  -- a block behind its opening tag
  filled_arm : (go : Step Elements) (p : ℕ) (rests : code.Block → Tag → Step Arms) (b : code.Block) (o : Opened) (c f h : Cut) (m : Lists) (q : ℕ) (n : List ℕ) (a : Words) (k : Cut) → IsArm o → TagAt source q n a f k → Fares (EndsAt f) (go c m) →
      ((t : Tag) (d : Cut) (m : Lists) → EndsBy source (Some t) f d → Fares (At h) (rests b t d m)) → Fares (λ y d. IsElement y × (d ≡ h)) (filled end go p rests b o c m)
  filled_arm go p rests b (with_arm x g) c f h m q n a k i at els more =
      fares_then (arm_of end go g (rests b)) (λ a. give (a_block p x a)) c m (arm_fares go g (rests b) c f h m q n a k at els more) (λ y d l j. fares (a_block p x y) d l refl (tt, j))
  filled_arm go p rests b (a_case x) c f h m q n a k i at els more = absurd i

  filled_case : (go : Step Elements) (p : ℕ) (rests : code.Block → Tag → Step Arms) (b : code.Block) (o : Opened) (c f h : Cut) (m : Lists) (q : ℕ) (n : List ℕ) (a : Words) (k : Cut) → IsCase o → TagAt source q n a f k → Fares (EndsAt f) (go c m) →
      ((t : Tag) (d : Cut) (m : Lists) → EndsBy source (Some t) f d → Fares (At h) (rests b t d m)) → Fares (λ y d. IsElement y × (d ≡ h)) (filled end go p rests b o c m)
  filled_case go p rests b (with_arm x g) c f h m q n a k i at els more = absurd i
  filled_case go p rests b (a_case x) c f h m q n a k i at els more =
      fares_then (dropped end go) (λ t. rests b t then λ a. give (a_block p (case_block x) a)) c m (dropped_fares go c f m q n a k at els)
      (λ t d l j. fares_then (rests b t) (λ a. give (a_block p (case_block x) a)) d l (more t d l j) (λ y u v w. fares (a_block p (case_block x) y) u v refl (tt, w)))

  -- a mark that is a tag: what its name asks for
  tag_fares : (r : ℕ) (go : Step Elements) (more : code.Block → Tag → Step Arms) (p : ℕ) (n : List ℕ) (a : Words) (c d : Cut) (l : Lists) (Q : Found → Cut → Type 0) → (h : TagAt source p n a c d) →
      ((w : Seen) (m : Lists) → w.bytes ≡ n → Fares Q (tag_by end r go more p (known_as w.bytes) w a d m)) → Fares Q (a_mark end r go more p is_tag (inside source p h.bytes) d l)
  unfolding a_mark a_tag
  tag_fares r go more p n a c d l Q h g =
      subst (λ o. Fares Q (cut_whole end r go more p o is_tag (inside source p h.bytes) d l)) (sym h.whole) (by (tag_name p (state (inside source p h.bytes) l)) (name_fine p n (inside source p h.bytes) a l h.begins))
    where
      by : (v : Verdict Seen) → Fine (λ w. w.bytes ≡ n) a v → Fares Q (named end r go more p v d l)
      by v (limited q i) = refused q (ap (λ z. named end r go more p z d l) i)
      by v (fine w m i k) = subst (λ z. Fares Q (named end r go more p z d l)) (sym i) (g w m k)

  -- one element
  abbrev FoundAt : Cut → Found → Cut → Type 0
  FoundAt f x d = IsElement x × (d ≡ f)

  text_fares : (p : ℕ) (b : List ℕ) (d : Cut) (l : Lists) → Fares (FoundAt d) (a_text p b d l)
  unfolding a_text
  text_fares p b d l =
      fares_then (judged (with_node p (pure (plain b))) over) (λ x. give (a_leaf p x)) d l (fares_judged (with_node p (pure (plain b))) over over d l (fine_with_node p (pure (plain b)) over over l (λ n. fine_pure (plain b) over n tt)))
      (λ x c m h. fares (a_leaf p x) c m refl (tt, h.1))

  output_fares : (p : ℕ) (w : Words) (x : Chain) (d : Cut) (l : Lists) → ChainIs e x w → Fares (FoundAt d) (an_output p w d l)
  unfolding an_output
  output_fares p w x d l h =
      fares_then (judged (with_node p (output_of p)) w) (λ x. give (a_leaf p x)) d l (fares_judged (with_node p (output_of p)) w over d l (fine_with_node p (output_of p) w over l (λ n. fine_output e x p w n h)))
      (λ x c m h. fares (a_leaf p x) c m refl (tt, h.1))

  chain_fares : (r : ℕ) (go : Step Elements) (more : code.Block → Tag → Step Arms) (p : ℕ) (b : List ℕ) (x : Chain) (d : Cut) (l : Lists) → verdict (inside source p b) ≡ None → ChainIs e x (inside source p b) →
      Fares (FoundAt d) (a_mark end r go more p is_output (inside source p b) d l)
  unfolding a_mark
  chain_fares r go more p b x d l w h = subst (λ o. Fares (FoundAt d) (cut_whole end r go more p o is_output (inside source p b) d l)) (sym w) (output_fares p (inside source p b) x d l h)

  simple_fares : (s : Simple) (x : Leaf) (p : ℕ) (w : Words) (d : Cut) (l : Lists) → SimpleIs e s x w → Fares (FoundAt d) (a_simple s p w d l)
  unfolding a_simple
  simple_fares s x p w d l h =
      fares_then (judged (with_node p (leaf_tag s p)) w) (λ x. give (a_leaf p x)) d l (fares_judged (with_node p (leaf_tag s p)) w over d l (fine_with_node p (leaf_tag s p) w over l (λ n. fine_leaf e s x p w n h)))
      (λ x c m h. fares (a_leaf p x) c m refl (tt, h.1))

  arm_block_fares : (go : Step Elements) (r p : ℕ) (rests : code.Block → Tag → Step Arms) (b : code.Block) (x : Block) (g : Guard) (w : Words) (c f h : Cut) (l : Lists) (q : ℕ) (n : List ℕ) (a : Words) (k : Cut) → OpensIs e b x g w → TagAt source q n a f k →
      ((m : Lists) → Fares (EndsAt f) (go c m)) → ((t : Tag) (d : Cut) (m : Lists) → EndsBy source (Some t) f d → Fares (At h) (rests b t d m)) → Fares (FoundAt h) (block_at end go r p rests b w c l)
  unfolding block_at
  arm_block_fares go r p rests b x g w c f h l q n a k i at els more =
      fares_then (judged (opens r p (opened b p)) w) (λ x. filled end go p rests b x) c l (fares_judged (opens r p (opened b p)) w over c l (fine_opens r p (opened b p) w over l (λ m. fine_opened e b x g p w m i)))
      (λ o d m j. subst (λ z. Fares (FoundAt h) (filled end go p rests b o z m)) (sym j.1) (filled_arm go p rests b o c f h m q n a k j.0 at (els m) more))

  case_block_fares : (go : Step Elements) (r p : ℕ) (rests : code.Block → Tag → Step Arms) (x : Expr) (w : Words) (c f h : Cut) (l : Lists) (q : ℕ) (n : List ℕ) (a : Words) (k : Cut) → Begins (ValueIs e x) w over → TagAt source q n a f k →
      ((m : Lists) → Fares (EndsAt f) (go c m)) → ((t : Tag) (d : Cut) (m : Lists) → EndsBy source (Some t) f d → Fares (At h) (rests kind.Case t d m)) → Fares (FoundAt h) (block_at end go r p rests kind.Case w c l)
  unfolding block_at
  case_block_fares go r p rests x w c f h l q n a k i at els more =
      fares_then (judged (opens r p (opened kind.Case p)) w) (λ x. filled end go p rests kind.Case x) c l (fares_judged (opens r p (opened kind.Case p)) w over c l (fine_opens r p (opened kind.Case p) w over l (λ m. fine_case e x p w m i)))
      (λ o d m j. subst (λ z. Fares (FoundAt h) (filled end go p rests kind.Case o z m)) (sym j.1) (filled_case go p rests kind.Case o c f h m q n a k j.0 at (els m) more))

  -- an element in front, and those that follow
  abbrev Follow : ℕ → ℕ → Cut → Cut → Type 0
  Follow n r d f = (m : Lists) → Fares (EndsAt f) (elements source end n r d m)

  then_fares : (s : Step Found) (n r : ℕ) (c d f : Cut) (l : Lists) → Fares (FoundAt d) (s c l) → Follow n r d f → Fares (EndsAt f) ((s then λ x. behind (elements source end n r) x) c l)
  then_fares s n r c d f l h g = fares_then s (λ x. behind (elements source end n r) x) c l h (λ x i m j. behind_fares (elements source end n r) x i f m j.0 (subst (λ z. Fares (EndsAt f) (elements source end n r z m)) (sym j.1) (g m)))

  -- a tag in front
  abbrev goes : ℕ → ℕ → Step Elements
  goes n r = elements source end n (r - 1)

  abbrev comes : ℕ → ℕ → code.Block → Tag → Step Arms
  comes n r q t = rests source end n (r - 1) q t

  tag_then : (n r p : ℕ) (name : List ℕ) (a : Words) (c d h f : Cut) (l : Lists) (at : TagAt source p name a c d) → ((w : Seen) (m : Lists) → w.bytes ≡ name → Fares (FoundAt h) (tag_by end r (goes n r) (comes n r) p (known_as w.bytes) w a d m)) → Follow n r h f →
      Fares (EndsAt f) (elements source end (suc n) r c l)
  tag_then n r p name a c d h f l at g k =
      subst (λ z. Fares (EndsAt f) (elements source end (suc n) r z l)) (sym at.is)
      (then_fares (a_mark end r (goes n r) (comes n r) p is_tag (inside source p at.bytes)) n r d h f l (tag_fares r (goes n r) (comes n r) p name a c d l (FoundAt h) at g) k)

  known_fares : (r : ℕ) (go : Step Elements) (more : code.Block → Tag → Step Arms) (p : ℕ) (name : List ℕ) (w : Seen) (a : Words) (d : Cut) (m : Lists) (o : Option Known) (Q : Found → Cut → Type 0) → w.bytes ≡ name → known_as name ≡ o →
      Fares Q (tag_by end r go more p o w a d m) → Fares Q (tag_by end r go more p (known_as w.bytes) w a d m)
  known_fares r go more p name w a d m o Q h k g = subst (λ z. Fares Q (tag_by end r go more p z w a d m)) (sym (ap known_as h ∙ k)) g

  leaf_then : (n r p : ℕ) (x : Leaf) (c d f : Cut) (l : Lists) → LeafIs e source p x c d → Follow n r d f → Fares (EndsAt f) (elements source end (suc n) r c l)
  leaf_then n r p x c d f l (is_text b h q) g = subst (λ z. Fares (EndsAt f) (elements source end (suc n) r z l)) (sym h) (then_fares (a_text p b) n r d d f l (text_fares p b d l) g)
  leaf_then n r p x c d f l (is_chain b y h w i q) g =
      subst (λ z. Fares (EndsAt f) (elements source end (suc n) r z l)) (sym h)
      (then_fares (a_mark end r (goes n r) (comes n r) p is_output (inside source p b)) n r d d f l (chain_fares r (goes n r) (comes n r) p b y d l w i) g)
  leaf_then n r p x c d f l (is_simple s name a k h i) g =
      tag_then n r p name a c d d f l h (λ w m q. known_fares r (goes n r) (comes n r) p name w a d m (Some (known.Simple s)) (FoundAt d) q k (simple_fares s x p a d m i)) g

  -- a tag that begins no element
  abbrev OtherAt : Cut → Found → Cut → Type 0
  OtherAt c x d = (t : Tag) × (x ≡ other t) × EndsBy source (Some t) c d

  other_then : (n r : ℕ) (c : Cut) (l : Lists) → OtherTag source c → Fares (EndsAt c) (elements source end (suc n) r c l)
  other_then n r c l o =
      let at = o.tag in
      let found : Fares (OtherAt c) (a_mark end r (goes n r) (comes n r) o.place is_tag (inside source o.place at.bytes) o.d l) =
      tag_fares r (goes n r) (comes n r) o.place o.name o.a c o.d l (OtherAt c) at
      (λ w m q. known_fares r (goes n r) (comes n r) o.place o.name w o.a o.d m None (OtherAt c) q o.unknown
      (fares (other (tag o.place w o.a)) o.d m refl (tag o.place w o.a, refl, (ap known_as q ∙ o.unknown, subst (λ z. TagAt source o.place z o.a c o.d) (sym q) at)))) in
      subst (λ z. Fares (EndsAt c) (elements source end (suc n) r z l)) (sym at.is)
      (fares_then (a_mark end r (goes n r) (comes n r) o.place is_tag (inside source o.place at.bytes)) (λ x. behind (elements source end n r) x) o.d l found
      (λ x d m k. subst (λ z. Fares (EndsAt c) (behind (elements source end n r) z d m)) (sym k.1) (fares (elements_are done (Some k.0)) d m refl k.2)))

  end_then : (n r : ℕ) (c : Cut) (l : Lists) → Ends source c → Fares (EndsAt c) (elements source end (suc n) r c l)
  end_then n r c l (inl h) = subst (λ z. Fares (EndsAt c) (elements source end (suc n) r z l)) (sym h) (fares (elements_are done None) no_pieces l refl (h, refl))
  end_then n r c l (inr o) = other_then n r c l o

  mutual
    elements_fare : {t : Tree} {c f : Cut} → ElementsAre e source t c f → (n r : ℕ) (l : Lists) → pieces c < n → Fares (EndsAt f) (elements source end n r c l)
    elements_fare (no_more h) zero r l s = absurd (omega arith)
    elements_fare (no_more {c = c} h) (suc n) r l s = end_then n r c l h
    elements_fare (grammar.a_leaf h i) zero r l s = absurd (omega arith)
    elements_fare (grammar.a_leaf {p = p} {l = x} {c = c} {d = d} {f = f} h i) (suc n) r l s = leaf_then n r p x c d f l h (λ m. elements_fare i n r m (omega (arith, s, leaf_pieces e source p x c d h)))
    elements_fare (grammar.a_block h i) zero r l s = absurd (omega arith)
    elements_fare (grammar.a_block {f = f} h i) (suc n) r l s = block_fares f h n r l s (λ m. elements_fare i n r m (omega (arith, s, block_pieces e source h)))

    block_fares : {p : ℕ} {x : Block} {more : Arms} {c h : Cut} (z : Cut) → BlockIs e source p x more c h → (n r : ℕ) (l : Lists) → pieces c < suc n → Follow n r h z → Fares (EndsAt z) (elements source end (suc n) r c l)
    block_fares z (grammar.opens {p = p} {x = x} {g = g} {c = c} {d = d} {f = f} {h = h} b name a k at o els arms) n r l s go =
        let (q, m, w, i, tag_there) = arms_tag arms in
        tag_then n r p name a c d h z l at
        (λ v j y. known_fares r (goes n r) (comes n r) p name v a d j (Some (known.Block b)) (FoundAt h) y k
        (arm_block_fares (goes n r) r p (comes n r) b x g a d f h j q m w i o tag_there (λ u. elements_fare els n (r - 1) u (omega (arith, s, tag_pieces source p name a c d at)))
        (λ t u v' ends. arms_fare arms n (r - 1) t u v' ends (omega (arith, s, tag_pieces source p name a c d at, elements_pieces e source els, tag_pieces source t.mark t.name.bytes t.ahead f u ends.1)))))
        go
    block_fares z (grammar.opens_case {p = p} {y = x} {c = c} {d = d} {f = f} {h = h} name a k at o els arms) n r l s go =
        let (q, m, w, i, tag_there) = arms_tag arms in
        tag_then n r p name a c d h z l at
        (λ v j y. known_fares r (goes n r) (comes n r) p name v a d j (Some (known.Block kind.Case)) (FoundAt h) y k
        (case_block_fares (goes n r) r p (comes n r) x a d f h j q m w i o tag_there (λ u. elements_fare els n (r - 1) u (omega (arith, s, tag_pieces source p name a c d at)))
        (λ t u v' ends. arms_fare arms n (r - 1) t u v' ends (omega (arith, s, tag_pieces source p name a c d at, elements_pieces e source els, tag_pieces source t.mark t.name.bytes t.ahead f u ends.1)))))
        go

    arms_fare : {b : code.Block} {more : Arms} {f h : Cut} → ArmsAre e source b more f h → (n r : ℕ) (t : Tag) (c : Cut) (l : Lists) → EndsBy source (Some t) f c → suc (pieces c) < n → Fares (At h) (rests source end n r b t c l)
    arms_fare (grammar.the_end h) zero r t c l i s = absurd (omega arith)
    arms_fare (grammar.the_end {b = b} {c = f} {d = h} close) (suc n) r t c l i s = rest_end (elements source end n r) b (λ u. rests source end n r b u) t f h c l close i
    arms_fare (grammar.an_else p a at s els close) zero r t c l i q = absurd (omega arith)
    arms_fare (grammar.an_else {b = b} {c = c0} {d = c1} {f = f} {h = h} p a at s els close) (suc n) r t c l i q =
        rest_else (elements source end n r) b (λ u. rests source end n r b u) t p a c0 c1 f h c l at s close i
        (λ m. elements_fare els n r m (omega (arith, q, tag_pieces source p (codes "else") a c0 c1 at, tag_pieces source t.mark t.name.bytes t.ahead c0 c i.1)))
    arms_fare (grammar.further p name a at s els arms) zero r t c l i q = absurd (omega arith)
    arms_fare (grammar.further {b = b} {g = g} {c = c0} {d = c1} {f = f} {h = h} p name a at s els arms) (suc n) r t c l i q =
        let (o, m, v, w, tag_there) = arms_tag arms in
        rest_further (elements source end n r) b (λ u. rests source end n r b u) t g p name a c0 c1 f h c l o m v w at s tag_there i
        (λ m. elements_fare els n r m (omega (arith, q, tag_pieces source p name a c0 c1 at, tag_pieces source t.mark t.name.bytes t.ahead c0 c i.1)))
        (λ u d m j. arms_fare arms n r u d m j (omega (arith, q, tag_pieces source p name a c0 c1 at, tag_pieces source t.mark t.name.bytes t.ahead c0 c i.1, elements_pieces e source els, tag_pieces source u.mark u.name.bytes u.ahead f d j.1)))

  ends_by : (o : Option Tag) (d : Cut) → EndsBy source o no_pieces d → (d ≡ no_pieces) × (o ≡ None)
  ends_by None d h = (h.1, refl)
  ends_by (Some t) d h = let i = h.1.is in cc

pub accepted : Accepted
accepted e source end n r c l t s h = by (elements_fare e source end h n r l s)
  where
    by : Fares (EndsAt e source end no_pieces) (elements source end n r c l) →
        ((p : ℕ) × (elements source end n r c l ≡ fails 2 p)) ⊎ ((y : Elements) × (m : Lists) × (elements source end n r c l ≡ gives y no_pieces m) × (y.ending ≡ None))
    by (refused p i) = inl (p, i)
    by (fares y d m i k) = let (u, v) = ends_by e source end y.ending d k in inr (y, m, i ∙ ap (λ z. gives y z m) u, v)

pub not_written : NotWritten
not_written source end n r c l k p s h no_limit e t i = by (accepted e source end n r c l t s i)
  where
    by : ((q : ℕ) × (elements source end n r c l ≡ fails 2 q)) ⊎ ((y : Elements) × (m : Lists) × (elements source end n r c l ≡ gives y no_pieces m) × (y.ending ≡ None)) → ⊥
    by (inl (q, j)) = let o : fails k p ≡ fails 2 q = sym h ∙ j in no_limit cc
    by (inr (y, m, j, o)) = let q : fails k p ≡ gives y no_pieces m = sym h ∙ j in cc
