-- What the judgements of tags have read.
use Rattle.std.proofs.Common.{◌≡◌, ℕ, zero, suc, Bool, true, false, cond, ◌⊎◌, inl, inr, List, [], ◌∷◌, Some, None, codes, Option, refl, sym, ◌∙◌, subst}
use Rattle.tray.specs.Parts.{same_text}
use Rattle.cutter.specs.declared.lengths.Symbol.{Symbol}
use Rattle.cutter.specs.declared.lengths.Symbol.TheVariants as symbol
use Rattle.cutter.specs.Words.{Words, over, wrong, word}
use Rattle.tree.specs.Expressions.{Expr, Chain, Row}
use Rattle.tree.specs.Elements.{Leaf, output, assign, increment, decrement, cycle, break, continue}
use Rattle.arguments.specs.Judging.{Lists, State, state, passes, Judge, ◌next◌, pure, refuse, Seen, seen, token, token_if, taken_if, finished, expect, enter_cycle}
use Rattle.arguments.specs.Values.{read, value_as, bare, value, target, is_the_word, is_the_symbol, symbol_at, chain, a_row}
use Rattle.arguments.specs.Tables.{given_name, made_name}
use Rattle.tags.specs.declared.stdlib.blocks.for_block.Loop.{Loop}
use Rattle.tags.specs.declared.stdlib.blocks.for_block.Loop.TheVariants.{For, Tablerow}
use Rattle.tags.specs.declared.stdlib.blocks.for_block.Attribute.{Attribute}
use Rattle.tags.specs.declared.stdlib.blocks.for_block.Attribute.TheVariants.{Cols, Limit, Offset, Reversed}
use Rattle.tags.specs.Cycles.{Written, written, listed, value_at, none_more, values_of, given, enter_given, joined, values_in, named, made, unnamed, cycle_by, cycle_tag}
use Rattle.tags.specs.Leaves.{output_of, assign_tag, only_target, increment_tag, decrement_tag, break_tag, continue_tag}
use Rattle.tags.specs.Loops.{Attributes, no_attributes, own, attribute_named, attribute_of, setting, with_attribute, right_attribute, attribute_at, attributes_of, count, attributes, Header, header}
use Rattle.sheet.specs.declared.names.Simple.TheVariants as simple
use Rattle.sheet.specs.Grammar.{Env, CycleNameIs, Begins, TheWord, TheSymbol, ReadsAs, RowIs, TargetIs, SettingIs, ChainIs}
use Rattle.sheet.specs.GrammarTags.{word_of, BelongsTo, Sets, AttributesAre, HeaderIs, CommaOrEnd, WrittenIs, ListIs, GivenIs, CycleIs, AssignIs, SimpleIs}
use Rattle.sheet.proofs.GrammarJudging.{Form, Has, passed, grew_refl, Derives, derives_pure, derives_refuse, derives_next, derives_as, derives_token, NextIf, derives_token_if, derives_expect, derives_enter_cycle, same_is}
use Rattle.sheet.proofs.GrammarReads.{bare_is, word_is, symbol_is, symbol_at_is, derives_too_many, begins_as, begins_over, begins_next, derives_value_as, Value, derives_value, derives_row, derives_target, Wholly, finished_derives, derives_chain}

-- the next token, if there is one
abbrev pub NextAny : Form (Option Seen)
NextAny e None a b = (a ≡ over) × (b ≡ over)
NextAny e (Some w) a b = a ≡ word w.place w.bytes b

next_has : (a : Words) (l : Lists) (y : Option Seen) (t : State) → taken_if Some a l ≡ passes y t → Has NextAny (state a l) y t
next_has over l y t e = passed (Has NextAny (state over l)) None y (state over l) t e (record { grew = grew_refl l; is = λ g k. (refl, refl) })
next_has (wrong p) l y t e = cc
next_has (word p b rest) l y t e = passed (Has NextAny (state (word p b rest) l)) (Some (seen p b)) y (state rest l) t e (record { grew = grew_refl l; is = λ g k. refl })

pub derives_next_any : Derives (token_if Some) NextAny
unfolding token_if
derives_next_any s y t e = next_has s.ahead s.lists y t e

-- a token that a form asks for by name
the_word : (n : List ℕ) (m : ℕ) → Derives (expect (is_the_word n) m) (λ e u a b. Begins (TheWord n) a b)
the_word n m = derives_as (expect (is_the_word n) m) (derives_expect (is_the_word n) m) (λ e u a b h. begins_as (λ w. is_the_word n w ≡ true) (TheWord n) a b (λ w s. word_is n w s) h)

the_symbol : (s : Symbol) (m : ℕ) → Derives (expect (is_the_symbol s) m) (λ e u a b. Begins (TheSymbol s) a b)
the_symbol s m = derives_as (expect (is_the_symbol s) m) (derives_expect (is_the_symbol s) m) (λ e u a b h. begins_as (λ w. is_the_symbol s w ≡ true) (TheSymbol s) a b (λ w q. symbol_is s w q) h)

-- what is made of what was read
pub derives_made : {A B : Type 0} {D : Form A} {E : Form B} (f : A → B) (j : Judge A) → Derives j D → ((e : Env) (x : A) (a b : Words) → D e x a b → E e (f x) a b) → Derives (j next λ x. pure (f x)) E
derives_made {A} {B} {D} {E} f j h g =
    derives_next {E = λ x e y a b. (a ≡ b) × (y ≡ f x)} (λ e x y a b c i k. subst (λ z. E e z a c) (sym k.1) (g e x a c (subst (D e x a) k.0 i))) j (λ x. pure (f x)) h (λ x. derives_pure (f x) (λ e a. (refl, refl)))

-- loops
setting_derives : (m : ℕ) → Derives (setting m) (λ e x a b. SettingIs e x a b)
unfolding setting
setting_derives m = derives_next {E = λ u. Value} (λ e u x a b c h k. (b, h, k)) (expect (is_the_symbol symbol.Colon) m) (λ u. value m) (the_symbol symbol.Colon m) (λ u. derives_value m)

with_derives : (m : ℕ) (x : Attributes) (t : Attribute) → Derives (with_attribute m x t) (λ e y a b. Sets e t x y a b)
with_derives m x Cols = derives_made (λ v. record x { cols = Some v }) (setting m) (setting_derives m) (λ e v a b h. (v, h, refl))
with_derives m x Limit = derives_made (λ v. record x { limit = Some v }) (setting m) (setting_derives m) (λ e v a b h. (v, h, refl))
with_derives m x Offset = derives_made (λ v. record x { offset = Some v }) (setting m) (setting_derives m) (λ e v a b h. (v, h, refl))
with_derives m x Reversed = derives_pure (record x { reversed = true }) (λ e a. (refl, refl))

right_derives : (m p : ℕ) (x : Attributes) (o : Option Attribute) → Derives (right_attribute m p x o) (λ e y a b. (t : Attribute) × (o ≡ Some t) × Sets e t x y a b)
right_derives m p x None = derives_refuse 6 p
right_derives m p x (Some t) = derives_as (with_attribute m x t) (with_derives m x t) (λ e y a b h. (t, refl, h))

-- the attribute that a word is
own_by : (l : Loop) (n : List ℕ) (b : Bool) (t : Attribute) → same_text n (word_of t) ≡ b → BelongsTo l t → (s : Attribute) → cond b (Some t) None ≡ Some s → BelongsTo l s × (n ≡ word_of s)
own_by l n true t q u s e = let h : t ≡ s = cc in subst (λ z. BelongsTo l z × (n ≡ word_of z)) h (u, same_is n (word_of t) q)
own_by l n false t q u s e = cc

own_is : (l : Loop) (n : List ℕ) (s : Attribute) → own l n ≡ Some s → BelongsTo l s × (n ≡ word_of s)
own_is For n s e = own_by For n (same_text n (codes "reversed")) Reversed refl tt s e
own_is Tablerow n s e = own_by Tablerow n (same_text n (codes "cols")) Cols refl tt s e

common_by : (l : Loop) (n : List ℕ) (b : Bool) (t : Attribute) (o : Option Attribute) → same_text n (word_of t) ≡ b → BelongsTo l t → ((s : Attribute) → o ≡ Some s → BelongsTo l s × (n ≡ word_of s)) →
    (s : Attribute) → cond b (Some t) o ≡ Some s → BelongsTo l s × (n ≡ word_of s)
common_by l n true t o q u g s e = let h : t ≡ s = cc in subst (λ z. BelongsTo l z × (n ≡ word_of z)) h (u, same_is n (word_of t) q)
common_by l n false t o q u g s e = g s e

named_is : (l : Loop) (n : List ℕ) (s : Attribute) → attribute_named l n ≡ Some s → BelongsTo l s × (n ≡ word_of s)
named_is l n s e =
    common_by l n (same_text n (codes "limit")) Limit _ refl tt (λ r g. common_by l n (same_text n (codes "offset")) Offset (own l n) refl tt (λ z i. own_is l n z i) r g) s e

attribute_by : (l : Loop) (w : Seen) (o : Option (List ℕ)) (s : Attribute) → bare (read w) ≡ o → attribute_of l o ≡ Some s → BelongsTo l s × TheWord (word_of s) w
attribute_by l w None s q e = cc
attribute_by l w (Some n) s q e = let (b, i) = named_is l n s e in (b, subst (λ z. TheWord z w) i (bare_is (read w) n q))

attribute_is : (l : Loop) (w : Seen) (s : Attribute) → attribute_of l (bare (read w)) ≡ Some s → BelongsTo l s × TheWord (word_of s) w
attribute_is l w s e = attribute_by l w (bare (read w)) s refl e

abbrev pub Set : Loop → Attributes → Form Attributes
Set l x e y a b = (ts : List Attribute) × AttributesAre e l ts x y a × (b ≡ over)

-- by the next token, if there is one
abbrev pub SetBy : Loop → Attributes → Option Seen → Form Attributes
SetBy l x None e y a b = (a ≡ b) × (y ≡ x)
SetBy l x (Some w) e y a b = (t : Attribute) × (z : Attributes) × (c : Words) × (attribute_of l (bare (read w)) ≡ Some t) × Sets e t x z a c × Set l z e y c b

set_by : (l : Loop) (x : Attributes) (e : Env) (o : Option Seen) (y : Attributes) (a b c : Words) → NextAny e o a b → SetBy l x o e y b c → Set l x e y a c
set_by l x e None y a b c h k = ([], (h.0, k.1), sym k.0 ∙ h.1)
set_by l x e (Some w) y a b c h k =
    let (t, z, d, q, s, r) = k in
    let (i, j) = attribute_is l w t q in
    (t ∷ r.0, (i, (b, d, z, begins_next (TheWord (word_of t)) w a b b h refl j, s, r.1)), r.2)

at_derives : (l : Loop) (m : ℕ) (x : Attributes) (k : Attributes → Judge Attributes) → ((z : Attributes) → Derives (k z) (Set l z)) → (o : Option Seen) → Derives (attribute_at l m x k o) (SetBy l x o)
at_derives l m x k h None = derives_pure x (λ e a. (refl, refl))
at_derives l m x k h (Some w) =
    derives_next {E = λ z. Set l z} (λ e z y a b c i j. (i.0, z, b, i.1, i.2, j)) (right_attribute m w.place x (attribute_of l (bare (read w)))) k (right_derives m w.place x (attribute_of l (bare (read w)))) h

attributes_derives : (n : ℕ) (l : Loop) (m : ℕ) (x : Attributes) → Derives (attributes_of n l m x) (Set l x)
attributes_derives zero l m x = derives_as (finished next λ u. pure x) (finished_derives x) (λ e y a b h. ([], (h.1, h.0), h.2))
attributes_derives (suc n) l m x =
    derives_next {E = λ o. SetBy l x o} (set_by l x) (token_if Some) (λ w. attribute_at l m x (attributes_of n l m) w) derives_next_any (at_derives l m x (attributes_of n l m) (λ z. attributes_derives n l m z))

all_derives : (l : Loop) (m : ℕ) → Derives (attributes l m) (Set l no_attributes)
unfolding attributes
all_derives l m s y t e = attributes_derives (count s.ahead) l m no_attributes s y t e

abbrev made_header : ℕ → Row → Attributes → Header
made_header v r a = record { variable = v; row = r; attributes = a }

pub derives_header : (l : Loop) (m : ℕ) → Derives (header l m) (Wholly (λ e h a. HeaderIs e l h a))
unfolding header
derives_header l m =
    derives_next
    {E = λ v e h a b. (c : Words) × (d : Words) × (r : Row) × (y : Attributes) × (ts : List Attribute) × Begins (TheWord (codes "in")) a c × Begins (RowIs e r) c d × AttributesAre e l ts no_attributes y d × (h ≡ made_header v r y) × (b ≡ over)}
    (λ e v h a b g i k.
    let (c, d, r, y, ts, w, x, z, q, o) = k in
    (subst (λ j. HeaderIs e l j a) (sym q) (record { b = b; c = c; d = d; written = ts; variable = i; word = w; row = x; attributes = z }), o))
    (target m) _ (derives_target m)
    (λ v. derives_next
    {E = λ u e h a b. (d : Words) × (r : Row) × (y : Attributes) × (ts : List Attribute) × Begins (RowIs e r) a d × AttributesAre e l ts no_attributes y d × (h ≡ made_header v r y) × (b ≡ over)}
    (λ e u h a b g i k. let (d, r, y, ts, x, z, q, o) = k in (b, d, r, y, ts, i, x, z, q, o))
    (expect (is_the_word (codes "in")) m) _ (the_word (codes "in") m)
    (λ u. derives_next
    {E = λ r e h a b. (y : Attributes) × (ts : List Attribute) × AttributesAre e l ts no_attributes y a × (h ≡ made_header v r y) × (b ≡ over)}
    (λ e r h a b g i k. let (y, ts, z, q, o) = k in (b, r, y, ts, i, z, q, o))
    (a_row m) _ (derives_row m)
    (λ r. derives_made (made_header v r) (attributes l m) (all_derives l m) (λ e y a b i. (y, i.0, i.1, refl, i.2)))))

-- cycles
-- by the comma behind a value, if there is one
abbrev pub ListedBy : Written → Option ℕ → Form (List Written)
ListedBy x None e xs a b = (xs ≡ x ∷ []) × (a ≡ over) × (b ≡ over)
ListedBy x (Some p) e xs a b = (ys : List Written) × (xs ≡ x ∷ ys) × ListIs e ys a × (b ≡ over)

listed_derives : (k : Judge (List Written)) (x : Written) → Derives k (Wholly ListIs) → (o : Option ℕ) → Derives (listed k x o) (ListedBy x o)
listed_derives k x h None = finished_derives (x ∷ [])
listed_derives k x h (Some p) = derives_made (λ xs. x ∷ xs) k h (λ e ys a b i. (ys, refl, i.0, i.1))

abbrev pub ListBy : Option Seen → Form (List Written)
ListBy None e xs a b = (xs ≡ []) × (a ≡ b)
ListBy (Some w) e xs a b =
    (x : Expr) × (o : Option ℕ) × (c : Words) × (d : Words) × (a ≡ c) × ReadsAs e x w.place (read w) × NextIf (symbol_at symbol.Comma) e o c d × ListedBy (written w x) o e xs d b

value_at_derives : (k : Judge (List Written)) → Derives k (Wholly ListIs) → (o : Option Seen) → Derives (value_at k o) (ListBy o)
value_at_derives k h None = derives_pure [] (λ e a. (refl, refl))
value_at_derives k h (Some w) =
    derives_next {E = λ x e xs a b. (o : Option ℕ) × (d : Words) × NextIf (symbol_at symbol.Comma) e o a d × ListedBy (written w x) o e xs d b} (λ e x xs a b c i j. (x, j.0, b, j.1, i.0, i.1, j.2, j.3))
    (value_as w.place w.place (read w)) (λ x. token_if (symbol_at symbol.Comma) next λ c. listed k (written w x) c) (derives_value_as w.place w.place (read w))
    (λ x. derives_next {E = λ o. ListedBy (written w x) o} (λ e o xs a b c i j. (o, b, i, j)) (token_if (symbol_at symbol.Comma)) (λ c. listed k (written w x) c) (derives_token_if (symbol_at symbol.Comma)) (listed_derives k (written w x) h))

listed_is : (e : Env) (w : Seen) (x : Expr) (o : Option ℕ) (xs : List Written) (a c d f : Words) → Begins (WrittenIs e (written w x)) a c → NextIf (symbol_at symbol.Comma) e o c d → ListedBy (written w x) o e xs d f → Wholly ListIs e xs a f
listed_is e w x None xs a c d f h i k = (subst (λ z. ListIs e z a) (sym k.0) (c, d, h, inr (i ∙ k.1, k.1), k.1), k.2)
listed_is e w x (Some p) xs a c d f h i k =
    let (ys, q, y, z) = k in
    (subst (λ z. ListIs e z a) (sym q) (c, d, h, inl (begins_as (λ v. symbol_at symbol.Comma v ≡ Some p) (TheSymbol symbol.Comma) c d (λ v s. symbol_at_is symbol.Comma v p s) i), y), z)

list_by : (e : Env) (o : Option Seen) (xs : List Written) (a b c : Words) → NextAny e o a b → ListBy o e xs b c → Wholly ListIs e xs a c
list_by e None xs a b c h k = (subst (λ z. ListIs e z a) (sym k.0) h.0, sym k.1 ∙ h.1)
list_by e (Some w) xs a b c h k =
    let (x, o, d, f, q, r, i, j) = k in
    listed_is e w x o xs a d f c (begins_next (WrittenIs e (written w x)) w a b d h q (refl, r)) i j

none_more_derives : (o : Option Seen) → Derives (none_more o) (ListBy o)
none_more_derives None = derives_pure [] (λ e a. (refl, refl))
none_more_derives (Some w) = derives_too_many w

list_derives : (n : ℕ) → Derives (values_of n) (Wholly ListIs)
list_derives zero = derives_next list_by (token_if Some) (λ w. none_more w) derives_next_any none_more_derives
list_derives (suc n) = derives_next list_by (token_if Some) (λ w. value_at (values_of n) w) derives_next_any (value_at_derives (values_of n) (list_derives n))

given_derives : (p : ℕ) (o : Option (List ℕ)) → Derives (enter_given p o) (λ e k a b. (a ≡ b) × ((n : List ℕ) × (o ≡ Some n) × CycleNameIs e k (given_name n)))
given_derives p None = derives_refuse 6 p
given_derives p (Some n) = derives_as (enter_cycle p (given_name n)) (derives_enter_cycle p (given_name n)) (λ e k a b h. (h.0, (n, refl, h.1)))

-- behind the colon of a given name
abbrev pub NamedBehind : Seen → Form Leaf
NamedBehind w e l a b = (k : ℕ) × (ws : List Written) × GivenIs e k w × ListIs e ws a × (l ≡ cycle k (values_in ws)) × (b ≡ over)

named_derives : (w : Seen) → Derives (named w) (NamedBehind w)
unfolding named
named_derives w =
    derives_next {E = λ k e l a b. (ws : List Written) × ListIs e ws a × (l ≡ cycle k (values_in ws)) × (b ≡ over)}
    (λ e k l a b c h i. let (ws, x, q, o) = i in (k, ws, h.1, subst (ListIs e ws) (sym h.0) x, q, o))
    (enter_given w.place (given (read w))) (λ c. values_of 16 next λ xs. pure (cycle c (values_in xs))) (given_derives w.place (given (read w)))
    (λ k. derives_made (λ xs. cycle k (values_in xs)) (values_of 16) (list_derives 16) (λ e ws a b h. (ws, h.0, refl, h.1)))

-- behind the first value, and a comma or the end
abbrev pub UnnamedBehind : Seen → Form Leaf
UnnamedBehind w e l a b =
    (x : Expr) × (k : ℕ) × (ws : List Written) × ReadsAs e x w.place (read w) × ListIs e ws a × CycleNameIs e k (made_name (joined (written w x ∷ ws))) × (l ≡ cycle k (values_in (written w x ∷ ws))) × (b ≡ over)

made_derives : (p : ℕ) (ws : List Written) → Derives (made p ws) (λ e l a b. (k : ℕ) × (a ≡ b) × CycleNameIs e k (made_name (joined ws)) × (l ≡ cycle k (values_in ws)))
made_derives p ws = derives_made (λ k. cycle k (values_in ws)) (enter_cycle p (made_name (joined ws))) (derives_enter_cycle p (made_name (joined ws))) (λ e k a b h. (k, h.0, h.1, refl))

unnamed_derives : (w : Seen) → Derives (unnamed w) (UnnamedBehind w)
unfolding unnamed
unnamed_derives w =
    derives_next {E = λ x e l a b. (k : ℕ) × (ws : List Written) × ListIs e ws a × CycleNameIs e k (made_name (joined (written w x ∷ ws))) × (l ≡ cycle k (values_in (written w x ∷ ws))) × (b ≡ over)}
    (λ e x l a b c h i. let (k, ws, y, q, r, o) = i in (x, k, ws, h.1, subst (ListIs e ws) (sym h.0) y, q, r, o))
    (value_as w.place w.place (read w)) (λ x. values_of 15 next λ xs. made w.place (written w x ∷ xs)) (derives_value_as w.place w.place (read w))
    (λ x. derives_next {E = λ ws e l a b. (k : ℕ) × (a ≡ b) × CycleNameIs e k (made_name (joined (written w x ∷ ws))) × (l ≡ cycle k (values_in (written w x ∷ ws)))}
    (λ e ws l a b c h i. let (k, o, q, r) = i in (k, ws, h.0, q, r, sym o ∙ h.1))
    (values_of 15) (λ xs. made w.place (written w x ∷ xs)) (list_derives 15) (λ ws. made_derives w.place (written w x ∷ ws)))

-- by the token behind the first
abbrev pub CycleBy : Seen → Option Seen → Form Leaf
CycleBy w None e l a b = UnnamedBehind w e l a b
CycleBy w (Some v) e l a b = (TheSymbol symbol.Colon v × NamedBehind w e l a b) ⊎ (TheSymbol symbol.Comma v × UnnamedBehind w e l a b)

comma_derives : (w v : Seen) (t : Bool) → is_the_symbol symbol.Comma v ≡ t → Derives (cond t (unnamed w) (refuse 6 v.place)) (CycleBy w (Some v))
comma_derives w v true q = derives_as (unnamed w) (unnamed_derives w) (λ e l a b h. inr (symbol_is symbol.Comma v q, h))
comma_derives w v false q = derives_refuse 6 v.place

colon_derives : (w v : Seen) (t : Bool) → is_the_symbol symbol.Colon v ≡ t → Derives (cond t (named w) (cond (is_the_symbol symbol.Comma v) (unnamed w) (refuse 6 v.place))) (CycleBy w (Some v))
colon_derives w v true q = derives_as (named w) (named_derives w) (λ e l a b h. inl (symbol_is symbol.Colon v q, h))
colon_derives w v false q = comma_derives w v (is_the_symbol symbol.Comma v) refl

by_derives : (w : Seen) (o : Option Seen) → Derives (cycle_by w o) (CycleBy w o)
by_derives w None = unnamed_derives w
by_derives w (Some v) = colon_derives w v (is_the_symbol symbol.Colon v) refl

abbrev pub CycleTag : Env → Leaf → Words → Type 0
CycleTag e l a = (k : ℕ) × (xs : List Expr) × CycleIs e k xs a × (l ≡ cycle k xs)

unnamed_is : (e : Env) (w : Seen) (l : Leaf) (a b c d : Words) → a ≡ word w.place w.bytes b → CommaOrEnd b c → UnnamedBehind w e l c d → Wholly CycleTag e l a d
unnamed_is e w l a b c d h i j =
    let (x, k, ws, r, y, q, s, o) = j in
    ((k, values_in (written w x ∷ ws), inr (written w x, ws, (b, c, begins_next (WrittenIs e (written w x)) w a b b h refl (refl, r), i, y), q, refl), s), o)

cycle_is : (e : Env) (w : Seen) (o : Option Seen) (l : Leaf) (a b c d : Words) → a ≡ word w.place w.bytes b → NextAny e o b c → CycleBy w o e l c d → Wholly CycleTag e l a d
cycle_is e w None l a b c d h i j = unnamed_is e w l a b c d h (inr i) j
cycle_is e w (Some v) l a b c d h i (inl (s, j)) =
    let (k, ws, g, y, q, o) = j in
    ((k, values_in ws, inl (b, c, ws, begins_next (GivenIs e k) w a b b h refl g, begins_next (TheSymbol symbol.Colon) v b c c i refl s, y, refl), q), o)
cycle_is e w (Some v) l a b c d h i (inr (s, j)) = unnamed_is e w l a b c d h (inl (begins_next (TheSymbol symbol.Comma) v b c c i refl s)) j

pub derives_cycle : (m : ℕ) → Derives (cycle_tag m) (Wholly CycleTag)
unfolding cycle_tag
derives_cycle m =
    derives_next {E = λ w e l a b. (o : Option Seen) × (c : Words) × NextAny e o a c × CycleBy w o e l c b} (λ e w l a b d h k. let (o, c, i, j) = k in cycle_is e w o l a b c d h i j)
    (token m) (λ w. token_if Some next λ v. cycle_by w v) (derives_token m)
    (λ w. derives_next {E = λ o. CycleBy w o} (λ e o l a b c h k. (o, b, h, k)) (token_if Some) (λ v. cycle_by w v) derives_next_any (by_derives w))

-- the other tags that hold no elements
pub derives_only_target : (m : ℕ) → Derives (only_target m) (Wholly (λ e k a. Begins (TargetIs e k) a over))
unfolding only_target
derives_only_target m =
    derives_next {E = λ n e k a b. (k ≡ n) × (a ≡ over) × (b ≡ over)} (λ e n k a b c h i. (subst (λ z. Begins (TargetIs e z) a over) (sym i.0) (begins_over (TargetIs e n) a b over i.1 h), i.2))
    (target m) (λ n. finished next λ u. pure n) (derives_target m) (λ n. finished_derives n)

abbrev pub AssignTag : Env → Leaf → Words → Type 0
AssignTag e l a = (k : ℕ) × (c : Chain) × AssignIs e k c a × (l ≡ assign k c)

pub derives_assign : (m : ℕ) → Derives (assign_tag m) (Wholly AssignTag)
unfolding assign_tag
derives_assign m =
    derives_next {E = λ n e l a b. (c : Chain) × (d : Words) × Begins (TheSymbol symbol.Assign) a d × ChainIs e c d × (l ≡ assign n c) × (b ≡ over)}
    (λ e n l a b f h k. let (c, d, s, x, q, o) = k in ((n, c, (b, d, h, s, x), q), o))
    (target m) (λ n. expect (is_the_symbol symbol.Assign) m next λ u. chain m next λ c. pure (assign n c)) (derives_target m)
    (λ n. derives_next {E = λ u e l a b. (c : Chain) × ChainIs e c a × (l ≡ assign n c) × (b ≡ over)} (λ e u l a b f h k. let (c, x, q, o) = k in (c, b, h, x, q, o))
    (expect (is_the_symbol symbol.Assign) m) (λ u. chain m next λ c. pure (assign n c)) (the_symbol symbol.Assign m)
    (λ u. derives_made (assign n) (chain m) (derives_chain m) (λ e c a b h. (c, h.0, refl, h.1))))

pub derives_increment : (m : ℕ) → Derives (increment_tag m) (Wholly (λ e l a. SimpleIs e simple.Increment l a))
unfolding increment_tag
derives_increment m = derives_made increment (only_target m) (derives_only_target m) (λ e k a b h. ((k, h.0, refl), h.1))

pub derives_decrement : (m : ℕ) → Derives (decrement_tag m) (Wholly (λ e l a. SimpleIs e simple.Decrement l a))
unfolding decrement_tag
derives_decrement m = derives_made decrement (only_target m) (derives_only_target m) (λ e k a b h. ((k, h.0, refl), h.1))

pub derives_break : Derives break_tag (Wholly (λ e l a. SimpleIs e simple.Break l a))
unfolding break_tag
derives_break = derives_as (finished next λ u. pure break) (finished_derives break) (λ e l a b h. ((h.1, h.0), h.2))

pub derives_continue : Derives continue_tag (Wholly (λ e l a. SimpleIs e simple.Continue l a))
unfolding continue_tag
derives_continue = derives_as (finished next λ u. pure continue) (finished_derives continue) (λ e l a b h. ((h.1, h.0), h.2))

pub derives_output : (m : ℕ) → Derives (output_of m) (Wholly (λ e l a. (c : Chain) × ChainIs e c a × (l ≡ output c)))
unfolding output_of
derives_output m = derives_made output (chain m) (derives_chain m) (λ e c a b h. ((c, h.0, refl), h.1))
