-- What is written by the grammar of tags is not refused but by a limit.
use Rattle.std.proofs.Common.{◌≡◌, ℕ, zero, suc, ◌≤◌, Bool, true, false, cond, ltb, inl, inr, List, [], ◌∷◌, Some, None, codes, Option, refl, sym, ap, ◌∙◌, subst, arith}
use Rattle.tray.specs.Parts.{same_text}
use Rattle.cutter.specs.declared.lengths.Symbol.TheVariants as symbol
use Rattle.cutter.specs.Words.{Words, over}
use Rattle.tree.specs.Expressions.{Expr, Chain}
use Rattle.tree.specs.Conditions.{Condition}
use Rattle.tree.specs.Elements.{Leaf, output, assign, increment, decrement, cycle, break, continue, Block, if_block, capture_block, ifchanged_block, Guard, holds, fails, has_items, always}
use Rattle.arguments.specs.Judging.{Lists, State, state, Judge, ◌next◌, pure, refuse, Seen, token_if, expect, room_at, one_more, enter_cycle}
use Rattle.arguments.specs.Values.{read, value_as, bare, value, target, is_the_word, has_symbol, symbol_in, is_the_symbol, symbol_at, chain, a_row}
use Rattle.arguments.specs.Tables.{given_name, made_name}
use Rattle.tags.specs.declared.stdlib.blocks.for_block.Loop.{Loop}
use Rattle.tags.specs.declared.stdlib.blocks.for_block.Loop.TheVariants.{For, Tablerow}
use Rattle.tags.specs.declared.stdlib.blocks.for_block.Attribute.{Attribute}
use Rattle.tags.specs.declared.stdlib.blocks.for_block.Attribute.TheVariants.{Cols, Limit, Offset, Reversed}
use Rattle.tags.specs.Cycles.{Written, written, listed, value_at, none_more, values_of, given, enter_given, joined, values_in, named, unnamed, cycle_by, cycle_tag}
use Rattle.tags.specs.Leaves.{output_of, assign_tag, only_target, increment_tag, decrement_tag, break_tag, continue_tag}
use Rattle.tags.specs.Conditions.{condition}
use Rattle.tags.specs.Loops.{Attributes, no_attributes, attribute_named, attribute_of, setting, with_attribute, right_attribute, attribute_at, attributes_of, count, attributes, Header, header, for_of, tablerow_of}
use Rattle.sheet.specs.declared.names.Simple.{Simple}
use Rattle.sheet.specs.declared.names.Simple.TheVariants as simple
use Rattle.sheet.specs.declared.names.Block as code
use Rattle.sheet.specs.declared.names.Block.TheVariants as kind
use Rattle.sheet.specs.Blocks.{with_node, held, behind_node, opens, leaf_tag, Opened, with_arm, a_case, opened, opened_if, opened_unless, opened_case, opened_for, opened_tablerow, opened_capture, opened_ifchanged}
use Rattle.sheet.specs.Grammar.{Env, Begins, TheWord, TheSymbol, ReadsAs, ValueIs, TargetIs, SettingIs, ChainIs, ConditionIs}
use Rattle.sheet.specs.GrammarTags.{word_of, BelongsTo, Sets, AttributesAre, HeaderIs, CommaOrEnd, WrittenIs, ListIs, GivenIs, CycleIs, AssignIs, SimpleIs, OpensIs}
use Rattle.sheet.proofs.GrammarFine.{Fine, limited, fine, Any, fine_next, fine_pure, fine_to, fine_taken, fine_if_some, fine_if_none, fine_end, symbol_so, symbol_at_so, begins_word, begins_symbol, fine_room, fine_one_more, fine_enter_cycle, fine_made, fine_value_as, value_so, fine_value, fine_row, fine_target, fine_chain, fine_condition}

-- something that is read, and what is made of it, of which P holds
pub fine_so : {A B : Type 0} {P : B → Type 0} (f : A → B) (j : Judge A) (a b : Words) (l : Lists) → ((y : A) → P (f y)) → Fine Any b (j (state a l)) → Fine P b ((j next λ x. pure (f x)) (state a l))
fine_so f j a b l g h = fine_next b b j (λ x. pure (f x)) (state a l) h (λ y m i. fine_pure (f y) b m (g y))

-- any next token
next_some : (P : Seen → Type 0) (a b : Words) (l : Lists) → (h : Begins P a b) → Fine (λ o. o ≡ Some h.token) b (token_if Some (state a l))
next_some P a b l h = fine_if_some Some a b l h.token (record { token = h.token; is = h.is; so = refl })

next_none : (a : Words) (l : Lists) → a ≡ over → Fine (λ (o : Option Seen). o ≡ None) a (token_if Some (state a l))
next_none a l e = fine_if_none Some a l (inl e)

-- loops
setting_fine : (e : Env) (v : Expr) (m : ℕ) (a b : Words) (l : Lists) → SettingIs e v a b → Fine Any b (setting m (state a l))
unfolding setting
setting_fine e v m a b l (c, h, k) = fine_next c b (expect (is_the_symbol symbol.Colon) m) (λ u. value m) (state a l) (begins_symbol symbol.Colon m a c l h) (λ u n i. fine_value e v m c b n k)

with_fine : (e : Env) (t : Attribute) (x y z : Attributes) (m : ℕ) (a b : Words) (l : Lists) → Sets e t x y a b → Fine Any b (with_attribute m z t (state a l))
with_fine e Cols x y z m a b l (v, h, q) = fine_made _ (setting m) a b l (setting_fine e v m a b l h)
with_fine e Limit x y z m a b l (v, h, q) = fine_made _ (setting m) a b l (setting_fine e v m a b l h)
with_fine e Offset x y z m a b l (v, h, q) = fine_made _ (setting m) a b l (setting_fine e v m a b l h)
with_fine e Reversed x y z m a b l (h, q) = fine_to a b _ h (fine_pure _ a l tt)

named_so : (l : Loop) (t : Attribute) → BelongsTo l t → attribute_named l (word_of t) ≡ Some t
unfolding same_text
named_so For Cols h = absurd h
named_so For Limit h = refl
named_so For Offset h = refl
named_so For Reversed h = refl
named_so Tablerow Cols h = refl
named_so Tablerow Limit h = refl
named_so Tablerow Offset h = refl
named_so Tablerow Reversed h = absurd h

begins_count : (P : Seen → Type 0) (a b : Words) → Begins P a b → count a ≡ suc (count b)
begins_count P a b h = ap count h.is

sets_count : (e : Env) (t : Attribute) (x y : Attributes) (a b : Words) → Sets e t x y a b → count b ≤ count a
sets_count e Cols x y a b (v, (c, h, k), q) = omega (arith, begins_count (TheSymbol symbol.Colon) a c h, begins_count (ValueIs e v) c b k)
sets_count e Limit x y a b (v, (c, h, k), q) = omega (arith, begins_count (TheSymbol symbol.Colon) a c h, begins_count (ValueIs e v) c b k)
sets_count e Offset x y a b (v, (c, h, k), q) = omega (arith, begins_count (TheSymbol symbol.Colon) a c h, begins_count (ValueIs e v) c b k)
sets_count e Reversed x y a b (h, q) = omega (arith, ap count h)

attributes_fine : (e : Env) (n : ℕ) (l : Loop) (ts : List Attribute) (x y z : Attributes) (m : ℕ) (a : Words) (k : Lists) → count a ≤ n → AttributesAre e l ts x y a → Fine Any over (attributes_of n l m z (state a k))
attributes_fine e zero l [] x y z m a k s h = fine_end z a k h.0 tt
attributes_fine e zero l (t ∷ ts) x y z m a k s h = let (b, c, v, i, j, r) = h.1 in absurd (omega (arith, s, begins_count (TheWord (word_of t)) a b i))
attributes_fine e (suc n) l [] x y z m a k s h =
    fine_next a over (token_if Some) (λ w. attribute_at l m z (attributes_of n l m) w) (state a k) (next_none a k h.0)
    (λ o u i. subst (λ w. Fine Any over (attribute_at l m z (attributes_of n l m) w (state a u))) (sym i) (fine_to a over _ h.0 (fine_pure z a u tt)))
attributes_fine e (suc n) l (t ∷ ts) x y z m a k s (belongs, (b, c, v, i, j, r)) =
    let w = i.token in
    let is : attribute_of l (bare (read w)) ≡ Some t = ap (λ r. attribute_of l (bare r)) i.so ∙ named_so l t belongs in
    fine_next b over (token_if Some) (λ w. attribute_at l m z (attributes_of n l m) w) (state a k) (next_some (TheWord (word_of t)) a b k i)
    (λ o u q. subst (λ g. Fine Any over (attribute_at l m z (attributes_of n l m) g (state b u))) (sym q)
    (subst (λ g. Fine Any over ((right_attribute m w.place z g next attributes_of n l m) (state b u))) (sym is)
    (fine_next c over (with_attribute m z t) (attributes_of n l m) (state b u) (with_fine e t x v z m b c u j)
    (λ y' d p. attributes_fine e n l ts v y y' m c d (omega (arith, s, begins_count (TheWord (word_of t)) a b i, sets_count e t x v b c j)) r))))

all_fine : (e : Env) (l : Loop) (ts : List Attribute) (y : Attributes) (m : ℕ) (a : Words) (k : Lists) → AttributesAre e l ts no_attributes y a → Fine Any over (attributes l m (state a k))
unfolding attributes
all_fine e l ts y m a k h = attributes_fine e (count a) l ts no_attributes y no_attributes m a k (omega arith) h

pub fine_header : (e : Env) (l : Loop) (h : Header) (m : ℕ) (a : Words) (k : Lists) → HeaderIs e l h a → Fine Any over (header l m (state a k))
unfolding header
fine_header e l h m a k i =
    fine_next i.b over (target m) _ (state a k) (fine_target e h.variable m a i.b k i.variable)
    (λ v n p. fine_next i.c over (expect (is_the_word (codes "in")) m) _ (state i.b n) (begins_word (codes "in") m i.b i.c n i.word)
    (λ u o q. fine_next i.d over (a_row m) _ (state i.c o) (fine_row e h.row m i.c i.d o i.row)
    (λ r z s. fine_made (λ y. record { variable = v; row = r; attributes = y }) (attributes l m) i.d over z (all_fine e l i.written h.attributes m i.d z i.attributes))))

-- cycles
list_end : {B : Type 0} (k : Option Seen → Judge (List B)) (a : Words) (l : Lists) → ((n : Lists) → Fine Any a (k None (state a n))) → a ≡ over → Fine Any over ((token_if Some next k) (state a l))
list_end k a l g h = fine_to a over _ h (fine_next a a (token_if Some) k (state a l) (next_none a l h) (λ o n i. subst (λ z. Fine Any a (k z (state a n))) (sym i) (g n)))

-- a comma or none, by what stands there
abbrev pub CommaBy : Words → Words → Option ℕ → Type 0
CommaBy b c None = (b ≡ over) × (b ≡ c)
CommaBy b c (Some p) = Unit {0}

comma_fine : (b c : Words) (l : Lists) → CommaOrEnd b c → Fine (CommaBy b c) c (token_if (symbol_at symbol.Comma) (state b l))
comma_fine b c l (inl h) = so (fine_if_some (symbol_at symbol.Comma) b c l h.token.place (record { token = h.token; is = h.is; so = symbol_at_so symbol.Comma h.token h.so }))
  where
    so : Fine (λ o. o ≡ Some h.token.place) c (token_if (symbol_at symbol.Comma) (state b l)) → Fine (CommaBy b c) c (token_if (symbol_at symbol.Comma) (state b l))
    so (limited p e) = limited p e
    so (fine y m e q) = fine y m e (subst (CommaBy b c) (sym q) tt)
comma_fine b c l (inr h) = fine_to b c _ (h.0 ∙ sym h.1) (so (fine_if_none (symbol_at symbol.Comma) b l (inl h.0)))
  where
    so : Fine (λ o. o ≡ None) b (token_if (symbol_at symbol.Comma) (state b l)) → Fine (CommaBy b c) b (token_if (symbol_at symbol.Comma) (state b l))
    so (limited p e) = limited p e
    so (fine y m e q) = fine y m e (subst (CommaBy b c) (sym q) (h.0, h.0 ∙ sym h.1))

listed_fine : (k : Judge (List Written)) (x : Written) (b c : Words) (l : Lists) (o : Option ℕ) → CommaBy b c o → Fine Any over (k (state c l)) → Fine Any over (listed k x o (state c l))
listed_fine k x b c l None h g = fine_end (x ∷ []) c l (sym h.1 ∙ h.0) tt
listed_fine k x b c l (Some p) h g = fine_made (λ xs. x ∷ xs) k c over l g

list_fine : (e : Env) (n : ℕ) (xs : List Written) (a : Words) (l : Lists) → ListIs e xs a → Fine Any over (values_of n (state a l))
list_fine e zero [] a l h = list_end (λ w. none_more w) a l (λ n. fine_pure [] a n tt) h
list_fine e zero (x ∷ xs) a l (b, c, h, k, r) =
    fine_next b over (token_if Some) (λ w. none_more w) (state a l) (next_some (WrittenIs e x) a b l h)
    (λ o n i. subst (λ z. Fine Any over (none_more z (state b n))) (sym i)
    (limited h.token.place (ap (λ t. cond t (refuse {A = List Written} 2 h.token.place) (refuse 6 h.token.place) (state b n)) (value_so e x.value h.token.place (read h.token) h.so.1))))
list_fine e (suc n) [] a l h = list_end (λ w. value_at (values_of n) w) a l (λ n. fine_pure [] a n tt) h
list_fine e (suc n) (x ∷ xs) a l (b, c, h, k, r) =
    let w = h.token in
    fine_next b over (token_if Some) (λ w. value_at (values_of n) w) (state a l) (next_some (WrittenIs e x) a b l h)
    (λ o m i. subst (λ z. Fine Any over (value_at (values_of n) z (state b m))) (sym i)
    (fine_next b over (value_as w.place w.place (read w)) _ (state b m) (fine_value_as e x.value w.place w.place (read w) b m h.so.1)
    (λ v u j. fine_next c over (token_if (symbol_at symbol.Comma)) _ (state b u) (comma_fine b c u k) (λ o' z p. listed_fine (values_of n) (written w v) b c z o' p (list_fine e n xs c z r)))))

given_fine : (w : Seen) (n : List ℕ) (a : Words) (l : Lists) → given (read w) ≡ Some n → Fine Any a (enter_given w.place (given (read w)) (state a l))
given_fine w n a l h = subst (λ o. Fine Any a (enter_given w.place o (state a l))) (sym h) (fine_enter_cycle w.place (given_name n) a l)

named_fine : (e : Env) (w : Seen) (n : List ℕ) (ws : List Written) (a : Words) (l : Lists) → given (read w) ≡ Some n → ListIs e ws a → Fine Any over (named w (state a l))
unfolding named
named_fine e w n ws a l h k =
    fine_next a over (enter_given w.place (given (read w))) _ (state a l) (given_fine w n a l h) (λ c m i. fine_made (λ xs. cycle c (values_in xs)) (values_of 16) a over m (list_fine e 16 ws a m k))

unnamed_fine : (e : Env) (w : Seen) (x : Expr) (ws : List Written) (a : Words) (l : Lists) → ReadsAs e x w.place (read w) → ListIs e ws a → Fine Any over (unnamed w (state a l))
unfolding unnamed
unnamed_fine e w x ws a l h k =
    fine_next a over (value_as w.place w.place (read w)) _ (state a l) (fine_value_as e x w.place w.place (read w) a l h)
    (λ v m i. fine_next over over (values_of 15) _ (state a m) (list_fine e 15 ws a m k)
    (λ xs n j. fine_made (λ c. cycle c (values_in (written w v ∷ xs))) (enter_cycle w.place (made_name (joined (written w v ∷ xs)))) over over n (fine_enter_cycle w.place (made_name (joined (written w v ∷ xs))) over n)))

colon_is : (v : Seen) → TheSymbol symbol.Comma v → is_the_symbol symbol.Colon v ≡ false
colon_is v h = ap (λ r. has_symbol symbol.Colon (symbol_in r)) h

comma_by : (e : Env) (w v : Seen) (x : Expr) (ws : List Written) (a : Words) (l : Lists) → TheSymbol symbol.Comma v → ReadsAs e x w.place (read w) → ListIs e ws a → Fine Any over (cycle_by w (Some v) (state a l))
comma_by e w v x ws a l s h k =
    subst (λ t. Fine Any over (cond t (named w) (cond (is_the_symbol symbol.Comma v) (unnamed w) (refuse 6 v.place)) (state a l))) (sym (colon_is v s))
    (subst (λ t. Fine Any over (cond t (unnamed w) (refuse 6 v.place) (state a l))) (sym (symbol_so symbol.Comma v s)) (unnamed_fine e w x ws a l h k))

colon_by : (e : Env) (w v : Seen) (n : List ℕ) (ws : List Written) (a : Words) (l : Lists) → TheSymbol symbol.Colon v → given (read w) ≡ Some n → ListIs e ws a → Fine Any over (cycle_by w (Some v) (state a l))
colon_by e w v n ws a l s h k =
    subst (λ t. Fine Any over (cond t (named w) (cond (is_the_symbol symbol.Comma v) (unnamed w) (refuse 6 v.place)) (state a l))) (sym (symbol_so symbol.Colon v s)) (named_fine e w n ws a l h k)

behind_first : (e : Env) (w : Seen) (x : Expr) (ws : List Written) (b c : Words) (l : Lists) → CommaOrEnd b c → ReadsAs e x w.place (read w) → ListIs e ws c → Fine Any over ((token_if Some next λ v. cycle_by w v) (state b l))
behind_first e w x ws b c l (inl s) h k =
    fine_next c over (token_if Some) (λ v. cycle_by w v) (state b l) (next_some (TheSymbol symbol.Comma) b c l s)
    (λ o n i. subst (λ z. Fine Any over (cycle_by w z (state c n))) (sym i) (comma_by e w s.token x ws c n s.so h k))
behind_first e w x ws b c l (inr s) h k =
    fine_next b over (token_if Some) (λ v. cycle_by w v) (state b l) (next_none b l s.0)
    (λ o n i. subst (λ z. Fine Any over (cycle_by w z (state b n))) (sym i) (unnamed_fine e w x ws b n h (subst (ListIs e ws) (s.1 ∙ sym s.0) k)))

pub fine_cycle : (e : Env) (k : ℕ) (xs : List Expr) (m : ℕ) (a : Words) (l : Lists) → CycleIs e k xs a → Fine Any over (cycle_tag m (state a l))
unfolding cycle_tag
fine_cycle e k xs m a l (inl (b, c, ws, g, s, x, q)) =
    fine_taken (GivenIs e k) m (λ w. token_if Some next λ v. cycle_by w v) a b over l g
    (λ w n i. fine_next c over (token_if Some) (λ v. cycle_by w v) (state b n) (next_some (TheSymbol symbol.Colon) b c n s)
    (λ o u j. subst (λ z. Fine Any over (cycle_by w z (state c u))) (sym j) (colon_by e w s.token i.0 ws c u s.so i.1 x)))
fine_cycle e k xs m a l (inr (w, ws, (b, c, h, s, x), n, q)) =
    fine_taken (WrittenIs e w) m (λ w. token_if Some next λ v. cycle_by w v) a b over l h (λ v u i. behind_first e v w.value ws b c u s i.1 x)

-- the tags that hold no elements
only_target_fine : (e : Env) (k m : ℕ) (a : Words) (l : Lists) → Begins (TargetIs e k) a over → Fine Any over (only_target m (state a l))
unfolding only_target
only_target_fine e k m a l h = fine_next over over (target m) _ (state a l) (fine_target e k m a over l h) (λ n u i. fine_end n over u refl tt)

assign_fine : (e : Env) (k : ℕ) (c : Chain) (m : ℕ) (a : Words) (l : Lists) → AssignIs e k c a → Fine Any over (assign_tag m (state a l))
unfolding assign_tag
assign_fine e k c m a l (b, d, h, s, x) =
    fine_next b over (target m) _ (state a l) (fine_target e k m a b l h)
    (λ n u i. fine_next d over (expect (is_the_symbol symbol.Assign) m) _ (state b u) (begins_symbol symbol.Assign m b d u s) (λ v o j. fine_made (assign n) (chain m) d over o (fine_chain e c m d o x)))

increment_fine : (e : Env) (k m : ℕ) (a : Words) (l : Lists) → Begins (TargetIs e k) a over → Fine Any over (increment_tag m (state a l))
unfolding increment_tag
increment_fine e k m a l h = fine_made increment (only_target m) a over l (only_target_fine e k m a l h)

decrement_fine : (e : Env) (k m : ℕ) (a : Words) (l : Lists) → Begins (TargetIs e k) a over → Fine Any over (decrement_tag m (state a l))
unfolding decrement_tag
decrement_fine e k m a l h = fine_made decrement (only_target m) a over l (only_target_fine e k m a l h)

break_fine : (a : Words) (l : Lists) → a ≡ over → Fine Any over (break_tag (state a l))
unfolding break_tag
break_fine a l h = fine_end break a l h tt

continue_fine : (a : Words) (l : Lists) → a ≡ over → Fine Any over (continue_tag (state a l))
unfolding continue_tag
continue_fine a l h = fine_end continue a l h tt

pub fine_leaf : (e : Env) (s : Simple) (x : Leaf) (m : ℕ) (a : Words) (l : Lists) → SimpleIs e s x a → Fine Any over (leaf_tag s m (state a l))
fine_leaf e simple.Assign x m a l (k, c, h, q) = assign_fine e k c m a l h
fine_leaf e simple.Increment x m a l (k, h, q) = increment_fine e k m a l h
fine_leaf e simple.Decrement x m a l (k, h, q) = decrement_fine e k m a l h
fine_leaf e simple.Cycle x m a l (k, xs, h, q) = fine_cycle e k xs m a l h
fine_leaf e simple.Break x m a l (h, q) = break_fine a l h
fine_leaf e simple.Continue x m a l (h, q) = continue_fine a l h

pub fine_output : (e : Env) (c : Chain) (m : ℕ) (a : Words) (l : Lists) → ChainIs e c a → Fine Any over (output_of m (state a l))
unfolding output_of
fine_output e c m a l h = fine_made output (chain m) a over l (fine_chain e c m a l h)

-- nodes
pub fine_with_node : {A : Type 0} (p : ℕ) (j : Judge A) (a b : Words) (l : Lists) → ((n : Lists) → Fine Any b (j (state a n))) → Fine Any b (with_node p j (state a l))
fine_with_node p j a b l h =
    fine_next a b (room_at p) _ (state a l) (fine_room p a l) (λ u m i. fine_next b b j _ (state a m) (h m) (λ x n k. fine_made (λ v. x) one_more b b n (fine_one_more b n)))

held_fine : (p : ℕ) (a : Words) (l : Lists) → Fine Any a (held p (state a l))
unfolding held
held_fine p a l = fine_next a a (room_at p) (λ u. one_more) (state a l) (fine_room p a l) (λ u m i. fine_one_more a m)

pub fine_behind_node : {A : Type 0} {P : A → Type 0} (p : ℕ) (j : Judge A) (a b : Words) (l : Lists) → ((n : Lists) → Fine P b (j (state a n))) → Fine P b (behind_node p j (state a l))
fine_behind_node p j a b l h = fine_next a b (held p) (λ u. j) (state a l) (held_fine p a l) (λ u m i. h m)

opens_by : {A : Type 0} {P : A → Type 0} (t : Bool) (p : ℕ) (j : Judge A) (b : Words) (s : State) → Fine P b (j s) → Fine P b (cond t j (refuse 2 p) s)
opens_by true p j b s h = h
opens_by false p j b s h = limited p refl

pub fine_opens : {A : Type 0} {P : A → Type 0} (r p : ℕ) (j : Judge A) (a b : Words) (l : Lists) → ((n : Lists) → Fine P b (j (state a n))) → Fine P b (opens r p j (state a l))
fine_opens r p j a b l h = opens_by (ltb 0 r) p (behind_node p j) b (state a l) (fine_behind_node p j a b l h)

-- blocks
abbrev pub IsArm : Opened → Type 0
IsArm (with_arm x g) = Unit {0}
IsArm (a_case x) = ⊥

abbrev pub IsCase : Opened → Type 0
IsCase (with_arm x g) = ⊥
IsCase (a_case x) = Unit {0}

if_fine : (e : Env) (c : Condition) (p : ℕ) (a : Words) (l : Lists) → ConditionIs e c a → Fine IsArm over (opened_if p (state a l))
unfolding opened_if
if_fine e c p a l h = fine_so (λ c. with_arm if_block (holds c)) (condition p) a over l (λ c. tt) (fine_condition e c p a l h)

unless_fine : (e : Env) (c : Condition) (p : ℕ) (a : Words) (l : Lists) → ConditionIs e c a → Fine IsArm over (opened_unless p (state a l))
unfolding opened_unless
unless_fine e c p a l h = fine_so (λ c. with_arm if_block (fails c)) (condition p) a over l (λ c. tt) (fine_condition e c p a l h)

for_fine : (e : Env) (h : Header) (p : ℕ) (a : Words) (l : Lists) → HeaderIs e For h a → Fine IsArm over (opened_for p (state a l))
unfolding opened_for
for_fine e h p a l i = fine_so (λ h. with_arm (for_of h) has_items) (header For p) a over l (λ h. tt) (fine_header e For h p a l i)

tablerow_fine : (e : Env) (h : Header) (p : ℕ) (a : Words) (l : Lists) → HeaderIs e Tablerow h a → Fine IsArm over (opened_tablerow p (state a l))
unfolding opened_tablerow
tablerow_fine e h p a l i = fine_so (λ h. with_arm (tablerow_of h) has_items) (header Tablerow p) a over l (λ h. tt) (fine_header e Tablerow h p a l i)

capture_fine : (e : Env) (k p : ℕ) (a : Words) (l : Lists) → Begins (TargetIs e k) a over → Fine IsArm over (opened_capture p (state a l))
unfolding opened_capture
capture_fine e k p a l h = fine_so (λ n. with_arm (capture_block n) always) (only_target p) a over l (λ n. tt) (only_target_fine e k p a l h)

ifchanged_fine : (a : Words) (l : Lists) → a ≡ over → Fine IsArm over (opened_ifchanged (state a l))
unfolding opened_ifchanged
ifchanged_fine a l h = fine_end (with_arm ifchanged_block always) a l h tt

pub fine_opened : (e : Env) (b : code.Block) (x : Block) (g : Guard) (p : ℕ) (a : Words) (l : Lists) → OpensIs e b x g a → Fine IsArm over (opened b p (state a l))
fine_opened e kind.If x g p a l (c, h, q, r) = if_fine e c p a l h
fine_opened e kind.Unless x g p a l (c, h, q, r) = unless_fine e c p a l h
fine_opened e kind.Case x g p a l h = absurd h
fine_opened e kind.For x g p a l (i, h, q, r) = for_fine e i p a l h
fine_opened e kind.Tablerow x g p a l (i, h, q, r) = tablerow_fine e i p a l h
fine_opened e kind.Capture x g p a l (k, h, q, r) = capture_fine e k p a l h
fine_opened e kind.Ifchanged x g p a l (h, q, r) = ifchanged_fine a l h

pub fine_case : (e : Env) (x : Expr) (p : ℕ) (a : Words) (l : Lists) → Begins (ValueIs e x) a over → Fine IsCase over (opened_case p (state a l))
unfolding opened_case
fine_case e x p a l h = fine_next over over (value p) _ (state a l) (fine_value e x p a over l h) (λ y n i. fine_end (a_case y) over n refl tt)
