-- What the judgements of values, chains and conditions have read.
use Rattle.std.proofs.Common.{◌≡◌, ℕ, zero, suc, ◌+◌, Bool, true, false, cond, ◌||◌, ◌⊎◌, inl, inr, eqb, leb, List, [], ◌∷◌, map, length, Some, None, codes, Option, refl, sym, ap, ◌∙◌, subst}
use Rattle.std.proofs.lemmas.Bool.Decides.{Decides-eqb}
use Rattle.tray.specs.Sound.{reserved}
use Rattle.tray.specs.Parts.{same_text}
use Rattle.cutter.specs.declared.lengths.Symbol.{Symbol}
use Rattle.cutter.specs.declared.lengths.Symbol.TheVariants as symbol
use Rattle.cutter.specs.Words.{Words, over, word}
use Rattle.cutter.specs.Tokens.{Reading, is_nil, is_boolean, is_number, is_text, is_name, is_path, is_range, is_symbol, token_of}
use Rattle.cutter.specs.Paths.{PlacedStep, steps_of}
use Rattle.tree.specs.Expressions.{Head, forloop, tablerowloop, named, Expr, nil_literal, boolean_literal, number_literal, text_literal, path, Filter, Chain, Row, row_from, range}
use Rattle.tree.specs.Conditions.{Comparison, equals, differs, is_less, is_more, at_most, at_least, contains, Test, exists, compares, Condition, only}
use Rattle.arguments.specs.declared.words.Special.{Special}
use Rattle.arguments.specs.declared.words.Special.TheVariants.{Forloop, Tablerowloop, Barred, Free}
use Rattle.arguments.specs.Judging.{Judge, ◌next◌, pure, refuse, Seen, token, token_if, finished, room_at, one_more, enter, ask}
use Rattle.arguments.specs.Values.{read, tree_step_of, special, headed, head, a_path, value_as, is_value, too_many, value, row_as, a_row, bare, is_word, is_the_word, new_name, target, symbol_in, rank, same_symbol, has_symbol, is_the_symbol, placed_if, symbol_at, argument_behind, named_filter, filter, if_barred, filters, chain}
use Rattle.tags.specs.declared.stdlib.blocks.if_block.Joint.{Joint}
use Rattle.tags.specs.declared.stdlib.blocks.if_block.Joint.TheVariants.{And, Or}
use Rattle.tags.specs.Conditions.{comparison_by, comparison_in, comparison, first_as, first, compared, tested, a_test, joint, joining, join, joined, condition_of, condition}
use Rattle.tags.specs.Whens.{is_separator, separator, listed, whens_of, whens}
use Rattle.sheet.specs.Grammar.{Env, NameIs, Begins, TheWord, TheSymbol, HeadBy, HeadIs, ReadsAs, ValueIs, RowReads, RowIs, TargetIs, ArgumentIs, FilterIs, FiltersAre, ChainIs, ComparisonIs, TestIs, ConditionIs, WhensAre}
use Rattle.sheet.proofs.GrammarJudging.{Form, Derives, derives_pure, derives_refuse, derives_next, derives_as, derives_cond, derives_token, NextIf, derives_token_if, derives_finished, Still, derives_ask, derives_one_more, derives_room_at, derives_enter, same_is}

-- words and symbols by their tests
pub bare_is : (r : Reading) (n : List ℕ) → bare r ≡ Some n → r ≡ is_name n
bare_is is_nil n e = cc
bare_is (is_boolean b) n e = cc
bare_is (is_number z) n e = cc
bare_is (is_text t) n e = cc
bare_is (is_name m) n e = let h : m ≡ n = cc in ap is_name h
bare_is (is_path m s) n e = cc
bare_is (is_range a l b u) n e = cc
bare_is (is_symbol s) n e = cc

word_by : (n : List ℕ) (r : Reading) (o : Option (List ℕ)) → bare r ≡ o → is_word n o ≡ true → r ≡ is_name n
word_by n r None q e = cc
word_by n r (Some m) q e = bare_is r m q ∙ ap is_name (same_is m n e)

pub word_is : (n : List ℕ) (w : Seen) → is_the_word n w ≡ true → TheWord n w
word_is n w e = word_by n (read w) (bare (read w)) refl e

of_rank : ℕ → Symbol
of_rank n =
    cond (eqb n 0) symbol.Same
    (cond (eqb n 1) symbol.Differs
    (cond (eqb n 2) symbol.AtMost
    (cond (eqb n 3) symbol.AtLeast
    (cond (eqb n 4) symbol.Less
    (cond (eqb n 5) symbol.Greater (cond (eqb n 6) symbol.Colon (cond (eqb n 7) symbol.Comma (cond (eqb n 8) symbol.Assign symbol.Bar))))))))

ranked : (s : Symbol) → of_rank (rank s) ≡ s
unfolding of_rank
ranked symbol.Same = refl
ranked symbol.Differs = refl
ranked symbol.AtMost = refl
ranked symbol.AtLeast = refl
ranked symbol.Less = refl
ranked symbol.Greater = refl
ranked symbol.Colon = refl
ranked symbol.Comma = refl
ranked symbol.Assign = refl
ranked symbol.Bar = refl

same_symbol_is : (s t : Symbol) → same_symbol s t ≡ true → s ≡ t
same_symbol_is s t e = sym (ranked s) ∙ ap of_rank ((Decides-eqb (rank s) (rank t)).0 e) ∙ ranked t

symbol_by : (s : Symbol) (r : Reading) → has_symbol s (symbol_in r) ≡ true → r ≡ is_symbol s
symbol_by s is_nil e = cc
symbol_by s (is_boolean b) e = cc
symbol_by s (is_number z) e = cc
symbol_by s (is_text t) e = cc
symbol_by s (is_name m) e = cc
symbol_by s (is_path m t) e = cc
symbol_by s (is_range a l b u) e = cc
symbol_by s (is_symbol t) e = ap is_symbol (sym (same_symbol_is s t e))

pub symbol_is : (s : Symbol) (w : Seen) → is_the_symbol s w ≡ true → TheSymbol s w
symbol_is s w e = symbol_by s (read w) e

pub placed_true : (b : Bool) (p q : ℕ) → placed_if b p ≡ Some q → b ≡ true
placed_true true p q e = refl
placed_true false p q e = cc

pub symbol_at_is : (s : Symbol) (w : Seen) (p : ℕ) → symbol_at s w ≡ Some p → TheSymbol s w
symbol_at_is s w p e = symbol_is s w (placed_true (is_the_symbol s w) w.place p e)

pub derives_too_many : {A : Type 0} {D : Form A} (w : Seen) → Derives (too_many {A = A} w) D
derives_too_many {A} {D} w = derives_cond {D = D} (is_value (read w)) (refuse 2 w.place) 6 w.place (λ h. derives_refuse 2 w.place)

-- what begins with such a token begins with one that is also so
pub begins_as : (P Q : Seen → Type 0) (a b : Words) → ((w : Seen) → P w → Q w) → Begins P a b → Begins Q a b
begins_as P Q a b f h = record { token = h.token; is = h.is; so = f h.token h.so }

pub begins_over : (P : Seen → Type 0) (a b c : Words) → b ≡ c → Begins P a b → Begins P a c
begins_over P a b c e h = subst (Begins P a) e h

-- values
headed_derives : (h : Special) (p : ℕ) (n : List ℕ) → Derives (headed h p n) (λ e x a b. (a ≡ b) × HeadBy h e x n)
headed_derives Forloop p n = derives_pure forloop (λ e a. (refl, refl))
headed_derives Tablerowloop p n = derives_pure tablerowloop (λ e a. (refl, refl))
headed_derives Barred p n = derives_refuse 8 p
headed_derives Free p n =
    derives_next {E = λ k e h a b. (a ≡ b) × (h ≡ named k)} (λ e k h a b c u v. (u.0 ∙ v.0, (k, u.1, v.1))) (enter p n) (λ k. pure (named k)) (derives_enter p n) (λ k. derives_pure (named k) (λ e a. (refl, refl)))

abbrev pub PathIs : List ℕ → List PlacedStep → Form Expr
PathIs n ss e x a b = (a ≡ b) × ((h : Head) × HeadIs e h n × (x ≡ path h (map tree_step_of ss)))

path_derives : (p : ℕ) (n : List ℕ) (ss : List PlacedStep) → Derives (a_path p n ss) (PathIs n ss)
path_derives p n ss =
    derives_cond (leb (length ss) 4) (head p n next λ h. pure (path h (map tree_step_of ss))) 2 p
    (λ few. derives_next {E = λ h e x a b. (a ≡ b) × (x ≡ path h (map tree_step_of ss))} (λ e h x a b c u v. (u.0 ∙ v.0, (h, u.1, v.1))) (head p n) (λ h. pure (path h (map tree_step_of ss)))
    (headed_derives (special n) p n) (λ h. derives_pure (path h (map tree_step_of ss)) (λ e a. (refl, refl))))

abbrev pub Reads : ℕ → Reading → Form Expr
Reads q r e x a b = (a ≡ b) × ReadsAs e x q r

pub derives_value_as : (p q : ℕ) (r : Reading) → Derives (value_as p q r) (Reads q r)
unfolding value_as
derives_value_as p q is_nil = derives_pure nil_literal (λ e a. (refl, refl))
derives_value_as p q (is_boolean b) = derives_pure (boolean_literal b) (λ e a. (refl, refl))
derives_value_as p q (is_number z) = derives_pure (number_literal z) (λ e a. (refl, refl))
derives_value_as p q (is_text t) = derives_pure (text_literal t) (λ e a. (refl, refl))
derives_value_as p q (is_name n) = path_derives p n []
derives_value_as p q (is_path n s) = path_derives p n (steps_of (q + length n) s)
derives_value_as p q (is_range a l b u) = derives_refuse 6 p
derives_value_as p q (is_symbol s) = derives_refuse 6 p

abbrev pub Value : Form Expr
Value e x a b = Begins (ValueIs e x) a b

-- a token, and what it reads as
pub begins_next : (P : Seen → Type 0) (w : Seen) (a b c : Words) → a ≡ word w.place w.bytes b → b ≡ c → P w → Begins P a c
begins_next P w a b c h e p = record { token = w; is = h ∙ ap (word w.place w.bytes) e; so = p }

pub derives_value : (m : ℕ) → Derives (value m) Value
unfolding value
derives_value m = derives_next (λ e w x a b c h k. begins_next (ValueIs e x) w a b c h k.0 k.1) (token m) (λ w. value_as w.place w.place (read w)) (derives_token m) (λ w. derives_value_as w.place w.place (read w))

-- rows
abbrev pub RowAs : ℕ → Reading → Form Row
RowAs q t e r a b = (a ≡ b) × RowReads e r q t

row_value : (p : ℕ) (t : Reading) → Derives (value_as p p t next λ x. pure (row_from x)) (λ e r a b. (a ≡ b) × ((x : Expr) × ReadsAs e x p t × (r ≡ row_from x)))
row_value p t =
    derives_next {E = λ x e r a b. (a ≡ b) × (r ≡ row_from x)} (λ e x r a b c u v. (u.0 ∙ v.0, (x, u.1, v.1))) (value_as p p t) (λ x. pure (row_from x)) (derives_value_as p p t) (λ x. derives_pure (row_from x) (λ e a. (refl, refl)))

row_derives : (p : ℕ) (t : Reading) → Derives (row_as p t) (RowAs p t)
row_derives p is_nil = row_value p is_nil
row_derives p (is_boolean b) = row_value p (is_boolean b)
row_derives p (is_number z) = row_value p (is_number z)
row_derives p (is_text t) = row_value p (is_text t)
row_derives p (is_name n) = row_value p (is_name n)
row_derives p (is_path n s) = row_value p (is_path n s)
row_derives p (is_range a l b u) =
    derives_next {E = λ x e r f g. (f ≡ g) × ((y : Expr) × ReadsAs e y b (token_of b u) × (r ≡ range x y))} (λ e x r f g h i j. (i.0 ∙ j.0, (x, j.1.0, i.1, j.1.1, j.1.2)))
    (value_as p a (token_of a l)) (λ x. value_as p b (token_of b u) next λ y. pure (range x y)) (derives_value_as p a (token_of a l))
    (λ x. derives_next {E = λ y e r f g. (f ≡ g) × (r ≡ range x y)} (λ e y r f g h i j. (i.0 ∙ j.0, (y, i.1, j.1))) (value_as p b (token_of b u)) (λ y. pure (range x y)) (derives_value_as p b (token_of b u)) (λ y. derives_pure (range x y) (λ e f. (refl, refl))))
row_derives p (is_symbol s) = derives_refuse 6 p

pub derives_row : (m : ℕ) → Derives (a_row m) (λ e r a b. Begins (RowIs e r) a b)
unfolding a_row
derives_row m = derives_next (λ e w r a b c h k. begins_next (RowIs e r) w a b c h k.0 k.1) (token m) (λ w. row_as w.place (read w)) (derives_token m) (λ w. row_derives w.place (read w))

-- targets
reserved_derives : (t : Bool) (p : ℕ) (n : List ℕ) → Derives (cond t (refuse 8 p) (enter p n)) (λ e k a b. (a ≡ b) × (t ≡ false) × NameIs e k n)
reserved_derives true p n = derives_refuse 8 p
reserved_derives false p n = derives_as (enter p n) (derives_enter p n) (λ e k a b h. (h.0, refl, h.1))

new_derives : (p : ℕ) (o : Option (List ℕ)) → Derives (new_name p o) (λ e k a b. (a ≡ b) × ((n : List ℕ) × (o ≡ Some n) × (reserved n ≡ false) × NameIs e k n))
new_derives p None = derives_refuse 6 p
new_derives p (Some n) = derives_as (cond (reserved n) (refuse 8 p) (enter p n)) (reserved_derives (reserved n) p n) (λ e k a b h. (h.0, (n, refl, h.1, h.2)))

abbrev pub Target : Form ℕ
Target e k a b = Begins (TargetIs e k) a b

pub derives_target : (m : ℕ) → Derives (target m) Target
unfolding target
derives_target m =
    derives_next
    (λ e w k a b c h i.
    let (n, bare_name, free, is) = i.1 in
    begins_next (TargetIs e k) w a b c h i.0 (record { name = n; bare = bare_is (read w) n bare_name; free = free; is = is }))
    (token m) (λ w. new_name w.place (bare (read w))) (derives_token m) (λ w. new_derives w.place (bare (read w)))

-- chains
-- what stands behind a colon that was there or not
abbrev pub Behind : Option ℕ → Form (Option Expr)
Behind None e o a b = (o ≡ None) × (a ≡ b)
Behind (Some p) e o a b = (x : Expr) × (o ≡ Some x) × Value e x a b

behind_derives : (m : ℕ) (c : Option ℕ) → Derives (argument_behind m c) (Behind c)
behind_derives m None = derives_pure None (λ e a. (refl, refl))
behind_derives m (Some p) =
    derives_next {E = λ x e o a b. (a ≡ b) × (o ≡ Some x)} (λ e x o a b c h k. (x, k.1, begins_over (ValueIs e x) a b c k.0 h)) (value m) (λ x. pure (Some x)) (derives_value m) (λ x. derives_pure (Some x) (λ e a. (refl, refl)))

argument_joined : (e : Env) (c : Option ℕ) (o : Option Expr) (a b d : Words) → NextIf (symbol_at symbol.Colon) e c a b → Behind c e o b d → ArgumentIs e o a d
argument_joined e None o a b d h k = subst (λ x. ArgumentIs e x a d) (sym k.0) (h ∙ k.1)
argument_joined e (Some p) o a b d h k =
    let (x, q, v) = k in
    subst (λ z. ArgumentIs e z a d) (sym q) (b, begins_as (λ w. symbol_at symbol.Colon w ≡ Some p) (TheSymbol symbol.Colon) a b (λ w s. symbol_at_is symbol.Colon w p s) h, v)

abbrev filter_made : List ℕ → Option Expr → Filter
filter_made n o = record { filter = n; argument = o }

asked_derives : (p : ℕ) (n : List ℕ) (o : Option Expr) → Derives (ask p n next λ u. pure (filter_made n o)) (λ e f a b. (a ≡ b) × (f ≡ filter_made n o))
asked_derives p n o =
    derives_next {E = λ u e y a b. (a ≡ b) × (y ≡ filter_made n o)} (λ e u y a b c h k. (h ∙ k.0, k.1)) (ask p n) (λ u. pure (filter_made n o)) (derives_ask p n) (λ u. derives_pure (filter_made n o) (λ e a. (refl, refl)))

-- a filter behind its name
abbrev pub FilterBehind : Option (List ℕ) → Form Filter
FilterBehind o e f a b = (o ≡ Some f.filter) × ArgumentIs e f.argument a b

named_derives : (m p : ℕ) (o : Option (List ℕ)) → Derives (named_filter m p o) (FilterBehind o)
named_derives m p None = derives_refuse 6 p
named_derives m p (Some n) =
    let made : Option Expr → Filter = filter_made n in
    derives_next {E = λ c e f a b. (o : Option Expr) × Behind c e o a b × (f ≡ made o)}
    (λ e c f a b d h k. let (o, i, q) = k in subst (λ z. (Some n ≡ Some z.filter) × ArgumentIs e z.argument a d) (sym q) (refl, argument_joined e c o a b d h i))
    (token_if (symbol_at symbol.Colon)) (λ c. argument_behind m c next λ o. ask p n next λ u. pure (made o)) (derives_token_if (symbol_at symbol.Colon))
    (λ c. derives_next {D = Behind c} {E = λ o e f a b. (a ≡ b) × (f ≡ made o)} (λ e o f a b d h k. (o, subst (Behind c e o a) k.0 h, k.1)) (argument_behind m c) (λ o. ask p n next λ u. pure (made o)) (behind_derives m c) (λ o. asked_derives p n o))

pub derives_filter : (m : ℕ) → Derives (filter m) (λ e f a b. FilterIs e f a b)
unfolding filter
derives_filter m =
    derives_next
    (λ e w f a b c h k. (b, begins_next (TheWord f.filter) w a b b h refl (bare_is (read w) f.filter k.0), k.1))
    (token m) (λ w. named_filter m w.place (bare (read w))) (derives_token m) (λ w. named_derives m w.place (bare (read w)))

-- up to the end of the mark
abbrev pub Wholly : {A : Type 0} → (Env → A → Words → Type 0) → Form A
Wholly D e y a b = D e y a × (b ≡ over)

pub finished_derives : {A : Type 0} (x : A) → Derives (finished next λ u. pure x) (λ e y a b. (y ≡ x) × (a ≡ over) × (b ≡ over))
finished_derives x = derives_next {E = λ u e y a b. (a ≡ b) × (y ≡ x)} (λ e u y a b c h k. (k.1, h.0, sym k.0 ∙ h.1)) finished (λ u. pure x) derives_finished (λ u. derives_pure x (λ e a. (refl, refl)))

-- filters behind a bar that was there or not
abbrev pub FiltersBehind : Option ℕ → Form (List Filter)
FiltersBehind None e fs a b = (fs ≡ []) × (a ≡ over) × (b ≡ over)
FiltersBehind (Some p) e fs a b = (f : Filter) × (gs : List Filter) × (c : Words) × (fs ≡ f ∷ gs) × FilterIs e f a c × FiltersAre e gs c × (b ≡ over)

barred_joined : (e : Env) (o : Option ℕ) (fs : List Filter) (a b c : Words) → NextIf (symbol_at symbol.Bar) e o a b → FiltersBehind o e fs b c → Wholly FiltersAre e fs a c
barred_joined e None fs a b c h k = (subst (λ z. FiltersAre e z a) (sym k.0) (h ∙ k.1), k.2)
barred_joined e (Some p) fs a b c h k =
    let (f, gs, d, q, x, y, z) = k in
    (subst (λ z. FiltersAre e z a) (sym q) (b, d, begins_as (λ w. symbol_at symbol.Bar w ≡ Some p) (TheSymbol symbol.Bar) a b (λ w s. symbol_at_is symbol.Bar w p s) h, x, y), z)

if_barred_derives : (k : ℕ → Judge (List Filter)) → ((p : ℕ) → Derives (k p) (FiltersBehind (Some p))) → (o : Option ℕ) → Derives (if_barred o k) (FiltersBehind o)
if_barred_derives k h None = finished_derives []
if_barred_derives k h (Some p) = h p

one_filter : (m : ℕ) (rest : Judge (List Filter)) (p : ℕ) → Derives rest (Wholly FiltersAre) → Derives (filter m next λ f. rest next λ fs. pure (f ∷ fs)) (FiltersBehind (Some p))
one_filter m rest p h =
    derives_next {E = λ f e fs a b. (gs : List Filter) × (fs ≡ f ∷ gs) × FiltersAre e gs a × (b ≡ over)} (λ e f fs a b c i k. let (gs, q, x, y) = k in (f, gs, b, q, i, x, y))
    (filter m) (λ f. rest next λ fs. pure (f ∷ fs)) (derives_filter m)
    (λ f. derives_next {E = λ gs e fs a b. (a ≡ b) × (fs ≡ f ∷ gs)} (λ e gs fs a b c i k. (gs, k.1, i.0, sym k.0 ∙ i.1)) rest (λ fs. pure (f ∷ fs)) h (λ gs. derives_pure (f ∷ gs) (λ e a. (refl, refl))))

pub derives_filters : (n m : ℕ) → Derives (filters n m) (Wholly FiltersAre)
derives_filters zero m =
    derives_next barred_joined (token_if (symbol_at symbol.Bar)) (λ b. if_barred b (λ p. refuse 2 p)) (derives_token_if (symbol_at symbol.Bar)) (λ b. if_barred_derives (λ p. refuse 2 p) (λ p. derives_refuse 2 p) b)
derives_filters (suc n) m =
    derives_next barred_joined (token_if (symbol_at symbol.Bar)) (λ b. if_barred b (λ p. filter m next λ f. filters n m next λ fs. pure (f ∷ fs))) (derives_token_if (symbol_at symbol.Bar))
    (λ b. if_barred_derives (λ p. filter m next λ f. filters n m next λ fs. pure (f ∷ fs)) (λ p. one_filter m (filters n m) p (derives_filters n m)) b)

pub derives_chain : (m : ℕ) → Derives (chain m) (Wholly ChainIs)
unfolding chain
derives_chain m =
    let made : Expr → List Filter → Chain = λ v fs. record { value = v; filters = fs } in
    derives_next {E = λ v e c a b. (fs : List Filter) × (c ≡ made v fs) × FiltersAre e fs a × (b ≡ over)}
    (λ e v c a b d h k. let (fs, q, x, y) = k in (subst (λ z. ChainIs e z a) (sym q) (b, h, x), y))
    (value m) (λ v. filters 4 m next λ fs. pure (made v fs)) (derives_value m)
    (λ v. derives_next {E = λ fs e c a b. (a ≡ b) × (c ≡ made v fs)} (λ e fs c a b d h k. (fs, k.1, h.0, sym k.0 ∙ h.1)) (filters 4 m) (λ fs. pure (made v fs)) (derives_filters 4 m) (λ fs. derives_pure (made v fs) (λ e a. (refl, refl))))

-- conditions
comparison_symbol : (s : Symbol) (c : Comparison) (w : Seen) → comparison_by s ≡ Some c → read w ≡ is_symbol s → ComparisonIs c w
comparison_symbol symbol.Same c w e h = subst (λ x. ComparisonIs x w) (let q : equals ≡ c = cc in q) h
comparison_symbol symbol.Differs c w e h = subst (λ x. ComparisonIs x w) (let q : differs ≡ c = cc in q) h
comparison_symbol symbol.AtMost c w e h = subst (λ x. ComparisonIs x w) (let q : at_most ≡ c = cc in q) h
comparison_symbol symbol.AtLeast c w e h = subst (λ x. ComparisonIs x w) (let q : at_least ≡ c = cc in q) h
comparison_symbol symbol.Less c w e h = subst (λ x. ComparisonIs x w) (let q : is_less ≡ c = cc in q) h
comparison_symbol symbol.Greater c w e h = subst (λ x. ComparisonIs x w) (let q : is_more ≡ c = cc in q) h
comparison_symbol symbol.Colon c w e h = cc
comparison_symbol symbol.Comma c w e h = cc
comparison_symbol symbol.Assign c w e h = cc
comparison_symbol symbol.Bar c w e h = cc

contains_if : (t : Bool) (n : List ℕ) (c : Comparison) (w : Seen) → same_text n (codes "contains") ≡ t → cond t (Some contains) None ≡ Some c → read w ≡ is_name n → ComparisonIs c w
contains_if true n c w s e h = subst (λ x. ComparisonIs x w) (let q : contains ≡ c = cc in q) (h ∙ ap is_name (same_is n (codes "contains") s))
contains_if false n c w s e h = cc

comparison_reads : (r : Reading) (c : Comparison) (w : Seen) → comparison_in r ≡ Some c → read w ≡ r → ComparisonIs c w
comparison_reads is_nil c w e h = cc
comparison_reads (is_boolean b) c w e h = cc
comparison_reads (is_number z) c w e h = cc
comparison_reads (is_text t) c w e h = cc
comparison_reads (is_name n) c w e h = contains_if (same_text n (codes "contains")) n c w refl e h
comparison_reads (is_path n s) c w e h = cc
comparison_reads (is_range a l b u) c w e h = cc
comparison_reads (is_symbol s) c w e h = comparison_symbol s c w e h

pub comparison_is : (w : Seen) (c : Comparison) → comparison w ≡ Some c → ComparisonIs c w
comparison_is w c e = comparison_reads (read w) c w e refl

first_derives : (m : ℕ) → Derives (first m) Value
unfolding first
first_derives m =
    derives_next {E = λ w. Reads w.place (read w)} (λ e w x a b c h k. begins_next (ValueIs e x) w a b c h k.0 k.1) (token m) (λ w. first_as w.place (read w)) (derives_token m)
    (λ w. derives_cond (is_value (read w)) (room_at w.place next λ u. value_as w.place w.place (read w)) 6 w.place
    (λ t. derives_next {E = λ u. Reads w.place (read w)} (λ e u x a b c h k. (h ∙ k.0, k.1)) (room_at w.place) (λ u. value_as w.place w.place (read w)) (derives_room_at w.place) (λ u. derives_value_as w.place w.place (read w))))

-- a test behind its first value
abbrev pub Compared : Expr → Option Comparison → Form Test
Compared x None e t a b = (t ≡ exists x) × (a ≡ b)
Compared x (Some c) e t a b = (y : Expr) × (t ≡ compares x c y) × Value e y a b

compared_derives : (m : ℕ) (x : Expr) (o : Option Comparison) → Derives (compared m x o) (Compared x o)
compared_derives m x None = derives_pure (exists x) (λ e a. (refl, refl))
compared_derives m x (Some c) =
    derives_next {E = λ y e t a b. (a ≡ b) × (t ≡ compares x c y)} (λ e y t a b d h k. (y, k.1, begins_over (ValueIs e y) a b d k.0 h)) (value m) (λ y. pure (compares x c y)) (derives_value m) (λ y. derives_pure (compares x c y) (λ e a. (refl, refl)))

compared_joined : (x : Expr) (e : Env) (o : Option Comparison) (t : Test) (a b c d : Words) → Value e x a b → NextIf comparison e o b c → Compared x o e t c d → TestIs e t a d
compared_joined x e None t a b c d v h k = subst (λ z. TestIs e z a d) (sym k.0) (begins_over (ValueIs e x) a b d (h ∙ k.1) v)
compared_joined x e (Some s) t a b c d v h k =
    let (y, q, z) = k in
    subst (λ z. TestIs e z a d) (sym q) (b, c, v, begins_as (λ w. comparison w ≡ Some s) (ComparisonIs s) b c (λ w i. comparison_is w s i) h, z)

tested_derives : (m : ℕ) → Derives (tested m) (λ e t a b. TestIs e t a b)
unfolding tested
tested_derives m =
    derives_next {E = λ x e t a b. (o : Option Comparison) × (c : Words) × NextIf comparison e o a c × Compared x o e t c b} (λ e x t a b d h k. let (o, c, i, j) = k in compared_joined x e o t a b c d h i j)
    (first m) (λ x. token_if comparison next λ c. compared m x c) (first_derives m)
    (λ x. derives_next {E = λ o. Compared x o} (λ e o t a b c h k. (o, b, h, k)) (token_if comparison) (λ c. compared m x c) (derives_token_if comparison) (compared_derives m x))

test_derives : (m : ℕ) → Derives (a_test m) (λ e t a b. TestIs e t a b)
unfolding a_test
test_derives m =
    derives_next {E = λ t e y a b. (a ≡ b) × (y ≡ t)} (λ e t y a b c h k. subst (TestIs e y a) k.0 (subst (λ z. TestIs e z a b) (sym k.1) h)) (tested m) (λ t. one_more next λ u. pure t) (tested_derives m)
    (λ t. derives_next {E = λ u e y a b. (a ≡ b) × (y ≡ t)} (λ e u y a b c h k. (h ∙ k.0, k.1)) one_more (λ u. pure t) derives_one_more (λ u. derives_pure t (λ e a. (refl, refl))))

-- the joint that a token is
abbrev pub JointIs : Joint → Seen → Type 0
JointIs (And p) w = TheWord (codes "and") w
JointIs (Or p) w = TheWord (codes "or") w

or_if : (u : Bool) (j : Joint) (w : Seen) → is_the_word (codes "or") w ≡ u → cond u (Some (Or w.place)) None ≡ Some j → JointIs j w
or_if true j w r e = subst (λ x. JointIs x w) (let q : Or w.place ≡ j = cc in q) (word_is (codes "or") w r)
or_if false j w r e = cc

and_if : (t : Bool) (j : Joint) (w : Seen) → is_the_word (codes "and") w ≡ t → cond t (Some (And w.place)) (cond (is_the_word (codes "or") w) (Some (Or w.place)) None) ≡ Some j → JointIs j w
and_if true j w r e = subst (λ x. JointIs x w) (let q : And w.place ≡ j = cc in q) (word_is (codes "and") w r)
and_if false j w r e = or_if (is_the_word (codes "or") w) j w refl e

joint_is : (w : Seen) (j : Joint) → joint w ≡ Some j → JointIs j w
joint_is w j e = and_if (is_the_word (codes "and") w) j w refl e

-- a condition behind its first test
abbrev pub Joined : Test → Option Joint → Form Condition
Joined t None e c a b = (c ≡ only t) × (a ≡ over) × (b ≡ over)
Joined t (Some j) e c a b = (d : Condition) × (c ≡ join j t d) × ConditionIs e d a × (b ≡ over)

join_is : (e : Env) (j : Joint) (t : Test) (d : Condition) (a b c : Words) → TestIs e t a b → Begins (JointIs j) b c → ConditionIs e d c → ConditionIs e (join j t d) a
join_is e (And p) t d a b c h i k = (b, c, h, i, k)
join_is e (Or p) t d a b c h i k = (b, c, h, i, k)

joined_is : (e : Env) (t : Test) (o : Option Joint) (c : Condition) (a b d f : Words) → TestIs e t a b → NextIf joint e o b d → Joined t o e c d f → Wholly ConditionIs e c a f
joined_is e t None c a b d f h i k = (subst (λ z. ConditionIs e z a) (sym k.0) (subst (TestIs e t a) (i ∙ k.1) h), k.2)
joined_is e t (Some j) c a b d f h i k =
    let (x, q, y, z) = k in
    (subst (λ z. ConditionIs e z a) (sym q) (join_is e j t x a b d h (begins_as (λ w. joint w ≡ Some j) (JointIs j) b d (λ w s. joint_is w j s) i) y), z)

joining_derives : (j : Joint) → Derives (joining j) Still
joining_derives (And p) = derives_next {E = λ u. Still} (λ e u y a b c h k. h ∙ k) (room_at p) (λ u. one_more) (derives_room_at p) (λ u. derives_one_more)
joining_derives (Or p) = derives_next {E = λ u. Still} (λ e u y a b c h k. h ∙ k) (room_at p) (λ u. one_more) (derives_room_at p) (λ u. derives_one_more)

joined_derives : (k : Judge Condition) (t : Test) → Derives k (Wholly ConditionIs) → (o : Option Joint) → Derives (joined k t o) (Joined t o)
joined_derives k t h None = finished_derives (only t)
joined_derives k t h (Some j) =
    derives_next {E = λ u. Joined t (Some j)} (λ e u c a b d i l. let (x, q, y, z) = l in (x, q, subst (ConditionIs e x) (sym i) y, z)) (joining j) (λ u. k next λ c. pure (join j t c)) (joining_derives j)
    (λ u. derives_next {E = λ d e c a b. (a ≡ b) × (c ≡ join j t d)} (λ e d c a b f i l. (d, l.1, i.0, sym l.0 ∙ i.1)) k (λ c. pure (join j t c)) h (λ d. derives_pure (join j t d) (λ e a. (refl, refl))))

condition_derives : (n m : ℕ) → Derives (condition_of n m) (Wholly ConditionIs)
condition_derives zero m = derives_next {E = λ w e c a b. ⊥} {F = Wholly ConditionIs} (λ e w c a b d h k. absurd k) (token m) (λ w. too_many w) (derives_token m) derives_too_many
condition_derives (suc n) m =
    derives_next {E = λ t e c a b. (o : Option Joint) × (d : Words) × NextIf joint e o a d × Joined t o e c d b} (λ e t c a b f h k. let (o, d, i, j) = k in joined_is e t o c a b d f h i j)
    (a_test m) (λ t. token_if joint next λ j. joined (condition_of n m) t j) (test_derives m)
    (λ t. derives_next {E = λ o. Joined t o} (λ e o c a b d h k. (o, b, h, k)) (token_if joint) (λ j. joined (condition_of n m) t j) (derives_token_if joint) (joined_derives (condition_of n m) t (condition_derives n m)))

pub derives_condition : (m : ℕ) → Derives (condition m) (Wholly ConditionIs)
unfolding condition
derives_condition m = condition_derives 16 m

-- the values of a `when`
abbrev Separates : Seen → Type 0
Separates w = TheWord (codes "or") w ⊎ TheSymbol symbol.Comma w

separates_by : (t u : Bool) (w : Seen) → is_the_word (codes "or") w ≡ t → is_the_symbol symbol.Comma w ≡ u → (t || u) ≡ true → Separates w
separates_by true u w h k e = inl (word_is (codes "or") w h)
separates_by false true w h k e = inr (symbol_is symbol.Comma w k)
separates_by false false w h k e = cc

separator_is : (w : Seen) (p : ℕ) → separator w ≡ Some p → Separates w
separator_is w p e = separates_by (is_the_word (codes "or") w) (is_the_symbol symbol.Comma w) w refl refl (placed_true (is_separator w) w.place p e)

-- what stands behind a value
abbrev pub Listed : Expr → Option ℕ → Form (List Expr)
Listed x None e xs a b = (xs ≡ x ∷ []) × (a ≡ over) × (b ≡ over)
Listed x (Some p) e xs a b = (ys : List Expr) × (xs ≡ x ∷ ys) × WhensAre e ys a × (b ≡ over)

whens_more : (e : Env) (x : Expr) (ys : List Expr) (a b c : Words) → Value e x a b → Begins Separates b c → WhensAre e ys c → WhensAre e (x ∷ ys) a
whens_more e x [] a b c h i k = absurd k
whens_more e x (y ∷ ys) a b c h i k = (b, c, h, i, k)

listed_is : (e : Env) (x : Expr) (o : Option ℕ) (xs : List Expr) (a b c d : Words) → Value e x a b → NextIf separator e o b c → Listed x o e xs c d → Wholly WhensAre e xs a d
listed_is e x None xs a b c d h i k = (subst (λ z. WhensAre e z a) (sym k.0) (begins_over (ValueIs e x) a b over (i ∙ k.1) h), k.2)
listed_is e x (Some p) xs a b c d h i k =
    let (ys, q, y, z) = k in
    (subst (λ z. WhensAre e z a) (sym q) (whens_more e x ys a b c h (begins_as (λ w. separator w ≡ Some p) Separates b c (λ w s. separator_is w p s) i) y), z)

listed_derives : (k : Judge (List Expr)) (x : Expr) → Derives k (Wholly WhensAre) → (o : Option ℕ) → Derives (listed k x o) (Listed x o)
listed_derives k x h None = finished_derives (x ∷ [])
listed_derives k x h (Some p) = derives_next {E = λ ys e xs a b. (a ≡ b) × (xs ≡ x ∷ ys)} (λ e ys xs a b c i l. (ys, l.1, i.0, sym l.0 ∙ i.1)) k (λ xs. pure (x ∷ xs)) h (λ ys. derives_pure (x ∷ ys) (λ e a. (refl, refl)))

whens_derives : (n m : ℕ) → Derives (whens_of n m) (Wholly WhensAre)
whens_derives zero m = derives_next {E = λ w e c a b. ⊥} {F = Wholly WhensAre} (λ e w c a b d h k. absurd k) (token m) (λ w. too_many w) (derives_token m) derives_too_many
whens_derives (suc n) m =
    derives_next {E = λ x e xs a b. (o : Option ℕ) × (c : Words) × NextIf separator e o a c × Listed x o e xs c b} (λ e x xs a b d h k. let (o, c, i, j) = k in listed_is e x o xs a b c d h i j)
    (value m) (λ x. token_if separator next λ s. listed (whens_of n m) x s) (derives_value m)
    (λ x. derives_next {E = λ o. Listed x o} (λ e o xs a b c h k. (o, b, h, k)) (token_if separator) (λ s. listed (whens_of n m) x s) (derives_token_if separator) (listed_derives (whens_of n m) x (whens_derives n m)))

pub derives_whens : (m : ℕ) → Derives (whens m) (Wholly WhensAre)
unfolding whens
derives_whens m = whens_derives 16 m
