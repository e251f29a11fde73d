-- What is written by the grammar of values, chains and conditions is not refused but by a limit.
use Rattle.std.proofs.Common.{◌≡◌, ℕ, zero, suc, ◌+◌, Bool, true, false, cond, ◌&&◌, ◌||◌, ◌⊎◌, inl, inr, leb, ltb, List, [], ◌∷◌, length, Some, None, codes, Option, refl, sym, ap, ◌∙◌, subst}
use Rattle.std.proofs.lemmas.Bool.Decides.{Decides-eqb}
use Rattle.rows.specs.First.{first_from}
use Rattle.tray.specs.Parts.{same_text}
use Rattle.tray.specs.Sound.{reserved}
use Rattle.cutter.specs.declared.lengths.Symbol.{Symbol}
use Rattle.cutter.specs.declared.lengths.Symbol.TheVariants as symbol
use Rattle.cutter.specs.Words.{Words, over, word}
use Rattle.cutter.specs.Tokens.{Reading, is_nil, is_boolean, is_number, is_text, is_name, is_path, is_range, is_symbol, token_of}
use Rattle.cutter.specs.Paths.{PlacedStep, steps_of}
use Rattle.tree.specs.Expressions.{Head, Expr, Filter, Chain, Row, row_from}
use Rattle.tree.specs.Conditions.{Test, exists, compares, Condition, only, both, either}
use Rattle.arguments.specs.declared.words.Special.{Special}
use Rattle.arguments.specs.declared.words.Special.TheVariants.{Forloop, Tablerowloop, Barred, Free}
use Rattle.arguments.specs.Judging.{CycleName, Lists, State, state, Verdict, refuses, passes, Judge, went, ◌next◌, pure, refuse, Seen, seen, token, taken, token_if, taken_if, none_left, finished, right_or, expect, noted, room_at, one_more, with_name, entered, enter, with_asked, ask, with_cycle, same_cycle, cycle_entered, enter_cycle}
use Rattle.arguments.specs.Values.{read, special, headed, a_path, value_as, is_value, too_many, value, row_as, a_row, bare, is_word, is_the_word, new_name, target, symbol_in, rank, has_symbol, is_the_symbol, placed_if, symbol_at, argument_behind, named_filter, filter, if_barred, filters, chain}
use Rattle.tags.specs.declared.stdlib.blocks.if_block.Joint.{Joint}
use Rattle.tags.specs.declared.stdlib.blocks.if_block.Joint.TheVariants.{And, Or}
use Rattle.tags.specs.Conditions.{comparison_in, comparison, first_as, first, compared, tested, a_test, joint, joining, joined, condition_of, condition}
use Rattle.tags.specs.Whens.{separator, listed, whens_of, whens}
use Rattle.sheet.specs.Grammar.{Env, Begins, TheWord, TheSymbol, HeadBy, ReadsAs, ValueIs, RowReads, RowIs, TargetIs, SettingIs, ArgumentIs, FilterIs, FiltersAre, ChainIs, TestIs, ConditionIs, WhensAre}
use Rattle.sheet.proofs.GrammarJudging.{is_same}
use Rattle.sheet.proofs.GrammarOnly.{compared_is}

-- a limit is passed; or something of which P holds is read, and b is ahead then
pub data Fine {A : Type 0} (P : A → Type 0) (b : Words) (v : Verdict A) : Type 0 where
  limited : (p : ℕ) → v ≡ refuses 2 p → Fine P b v
  fine : (y : A) (m : Lists) → v ≡ passes y (state b m) → P y → Fine P b v

abbrev pub Any : {A : Type 0} → A → Type 0
Any y = Unit {0}

pub fine_went : {A B : Type 0} {P : A → Type 0} {Q : B → Type 0} (b c : Words) (v : Verdict A) (k : A → Judge B) → Fine P b v → ((y : A) (m : Lists) → P y → Fine Q c (k y (state b m))) → Fine Q c (went v k)
fine_went b c v k (limited p e) g = limited p (ap (λ x. went x k) e)
fine_went {Q = Q} b c v k (fine y m e h) g = subst (Fine Q c) (sym (ap (λ x. went x k) e)) (g y m h)

pub fine_next : {A B : Type 0} {P : A → Type 0} {Q : B → Type 0} (b c : Words) (j : Judge A) (k : A → Judge B) (s : State) → Fine P b (j s) → ((y : A) (m : Lists) → P y → Fine Q c (k y (state b m))) → Fine Q c ((j next k) s)
fine_next b c j k s h g = fine_went b c (j s) k h g

pub fine_pure : {A : Type 0} {P : A → Type 0} (x : A) (a : Words) (l : Lists) → P x → Fine P a (pure x (state a l))
fine_pure x a l h = fine x l refl h

-- where a and b are the same
pub fine_to : {A : Type 0} {P : A → Type 0} (b c : Words) (v : Verdict A) → b ≡ c → Fine P b v → Fine P c v
fine_to {P = P} b c v e h = subst (λ x. Fine P x v) e h

pub fine_from : {A : Type 0} {P : A → Type 0} (a d b : Words) (l : Lists) (j : Judge A) → a ≡ d → Fine P b (j (state d l)) → Fine P b (j (state a l))
fine_from {P = P} a d b l j e h = subst (λ x. Fine P b (j (state x l))) (sym e) h

-- tokens
pub fine_token : (m : ℕ) (w : Seen) (a b : Words) (l : Lists) → a ≡ word w.place w.bytes b → Fine (λ y. y ≡ w) b (token m (state a l))
unfolding token
fine_token m w a b l e = fine w l (ap (λ x. taken m x l) e) refl

-- a token that is taken, and what is made of it
pub fine_taken : {B : Type 0} {Q : B → Type 0} (P : Seen → Type 0) (m : ℕ) (k : Seen → Judge B) (a b c : Words) (l : Lists) → Begins P a b → ((w : Seen) (n : Lists) → P w → Fine Q c (k w (state b n))) → Fine Q c ((token m next k) (state a l))
fine_taken P m k a b c l h g = fine_next b c (token m) k (state a l) (fine_token m h.token a b l h.is) (λ y n e. g y n (subst P (sym e) h.so))

pub fine_if_some : {A : Type 0} (f : Seen → Option A) (a b : Words) (l : Lists) → (y : A) → Begins (λ w. f w ≡ Some y) a b → Fine (λ o. o ≡ Some y) b (token_if f (state a l))
unfolding token_if
fine_if_some f a b l y h =
    let w = h.token in
    fine (Some y) l (ap (λ x. taken_if f x l) h.is ∙ ap (λ o. Rattle.arguments.specs.Judging.kept_or o (state (word w.place w.bytes b) l) (state b l)) h.so) refl

-- the end, or a token of which f makes nothing
abbrev pub Skips : {A : Type 0} → (Seen → Option A) → Words → Type 0
Skips f a = (a ≡ over) ⊎ ((b : Words) × Begins (λ w. f w ≡ None) a b)

pub fine_if_none : {A : Type 0} (f : Seen → Option A) (a : Words) (l : Lists) → Skips f a → Fine (λ o. o ≡ None) a (token_if f (state a l))
unfolding token_if
fine_if_none f a l (inl e) = fine None l (ap (λ x. taken_if f x l) e ∙ ap (λ x. passes None (state x l)) (sym e)) refl
fine_if_none f a l (inr (b, h)) =
    let w = h.token in
    fine None l (ap (λ x. taken_if f x l) h.is ∙ ap (λ o. Rattle.arguments.specs.Judging.kept_or o (state (word w.place w.bytes b) l) (state b l)) h.so ∙ ap (λ x. passes None (state x l)) (sym h.is)) refl

pub fine_finished : (a : Words) (l : Lists) → a ≡ over → Fine Any over (finished (state a l))
unfolding finished
fine_finished a l e = fine tt l (ap (λ x. none_left x l) e) tt

pub fine_end : {A : Type 0} {P : A → Type 0} (x : A) (a : Words) (l : Lists) → a ≡ over → P x → Fine P over ((finished next λ u. pure x) (state a l))
fine_end x a l e h = fine_next over over finished (λ u. pure x) (state a l) (fine_finished a l e) (λ u m i. fine_pure x over m h)

pub fine_expect : (f : Seen → Bool) (m : ℕ) (a b : Words) (l : Lists) → Begins (λ w. f w ≡ true) a b → Fine Any b (expect f m (state a l))
unfolding expect
fine_expect f m a b l h = fine_taken (λ w. f w ≡ true) m (λ w. right_or (f w) w.place) a b b l h (λ w n e. subst (λ t. Fine Any b (right_or t w.place (state b n))) (sym e) (fine_pure tt b n tt))

pub word_so : (n : List ℕ) (w : Seen) → TheWord n w → is_the_word n w ≡ true
word_so n w h = ap (λ r. is_word n (bare r)) h ∙ is_same n n refl

pub symbol_so : (s : Symbol) (w : Seen) → TheSymbol s w → is_the_symbol s w ≡ true
symbol_so s w h = ap (λ r. has_symbol s (symbol_in r)) h ∙ (Decides-eqb (rank s) (rank s)).1 refl

pub symbol_at_so : (s : Symbol) (w : Seen) → TheSymbol s w → symbol_at s w ≡ Some w.place
symbol_at_so s w h = ap (λ b. placed_if b w.place) (symbol_so s w h)

pub begins_word : (n : List ℕ) (m : ℕ) (a b : Words) (l : Lists) → Begins (TheWord n) a b → Fine Any b (expect (is_the_word n) m (state a l))
begins_word n m a b l h = fine_expect (is_the_word n) m a b l (record { token = h.token; is = h.is; so = word_so n h.token h.so })

pub begins_symbol : (s : Symbol) (m : ℕ) (a b : Words) (l : Lists) → Begins (TheSymbol s) a b → Fine Any b (expect (is_the_symbol s) m (state a l))
begins_symbol s m a b l h = fine_expect (is_the_symbol s) m a b l (record { token = h.token; is = h.is; so = symbol_so s h.token h.so })

-- the lists
abbrev nothing_read : Words → Lists → Verdict (Unit {0})
nothing_read a l = passes tt (state a l)

room_by : (t : Bool) (p : ℕ) (a : Words) (l : Lists) → Fine Any a (cond t (nothing_read a l) (refuses 2 p))
room_by true p a l = fine tt l refl tt
room_by false p a l = limited p refl

pub fine_room : (p : ℕ) (a : Words) (l : Lists) → Fine Any a (room_at p (state a l))
unfolding room_at
fine_room p a l = room_by (ltb l.nodes 4096) p a l

pub fine_one_more : (a : Words) (l : Lists) → Fine Any a (one_more (state a l))
unfolding one_more
fine_one_more a l = fine tt (noted (l.nodes + 1) l) refl tt

pub fine_ask : (p : ℕ) (n : List ℕ) (a : Words) (l : Lists) → Fine Any a (ask p n (state a l))
unfolding ask
fine_ask p n a l = fine tt (with_asked p n l) refl tt

new_by : (t : Bool) (p : ℕ) (n : List ℕ) (a : Words) (l : Lists) → Fine Any a (cond t (passes (length l.names) (state a (with_name n l))) (refuses 2 p))
new_by true p n a l = fine (length l.names) (with_name n l) refl tt
new_by false p n a l = limited p refl

entered_by : (p : ℕ) (n : List ℕ) (o : Option ℕ) (a : Words) (l : Lists) → Fine Any a (entered p n o (state a l))
entered_by p n (Some k) a l = fine k l refl tt
entered_by p n None a l = new_by (leb (length n) 32 && ltb (length l.names) 128) p n a l

pub fine_enter : (p : ℕ) (n : List ℕ) (a : Words) (l : Lists) → Fine Any a (enter p n (state a l))
unfolding enter
fine_enter p n a l = entered_by p n (first_from (λ m. same_text m n) 0 l.names) a l

new_cycle_by : (t : Bool) (p : ℕ) (c : CycleName) (a : Words) (l : Lists) → Fine Any a (cond t (passes (length l.cycles) (state a (with_cycle c l))) (refuses 2 p))
new_cycle_by true p c a l = fine (length l.cycles) (with_cycle c l) refl tt
new_cycle_by false p c a l = limited p refl

cycle_entered_by : (p : ℕ) (c : CycleName) (o : Option ℕ) (a : Words) (l : Lists) → Fine Any a (cycle_entered p c o (state a l))
cycle_entered_by p c (Some k) a l = fine k l refl tt
cycle_entered_by p c None a l = new_cycle_by (ltb (length l.cycles) 32) p c a l

cycle_long_by : (t : Bool) (p : ℕ) (c : CycleName) (o : Option ℕ) (a : Words) (l : Lists) → Fine Any a (cond t (cycle_entered p c o (state a l)) (refuses 2 p))
cycle_long_by true p c o a l = cycle_entered_by p c o a l
cycle_long_by false p c o a l = limited p refl

pub fine_enter_cycle : (p : ℕ) (c : CycleName) (a : Words) (l : Lists) → Fine Any a (enter_cycle p c (state a l))
unfolding enter_cycle
fine_enter_cycle p c a l = cycle_long_by (leb (length c.bytes) 128) p c (first_from (λ d. same_cycle d c) 0 l.cycles) a l

-- something that is read, and what is made of it
pub fine_made : {A B : Type 0} (f : A → B) (j : Judge A) (a b : Words) (l : Lists) → Fine Any b (j (state a l)) → Fine Any b ((j next λ x. pure (f x)) (state a l))
fine_made f j a b l h = fine_next b b j (λ x. pure (f x)) (state a l) h (λ y m i. fine_pure (f y) b m tt)

-- values
headed_fine : (e : Env) (s : Special) (h : Head) (p : ℕ) (n : List ℕ) (a : Words) (l : Lists) → HeadBy s e h n → Fine Any a (headed s p n (state a l))
headed_fine e Forloop h p n a l i = fine_pure _ a l tt
headed_fine e Tablerowloop h p n a l i = fine_pure _ a l tt
headed_fine e Barred h p n a l i = absurd i
headed_fine e Free h p n a l i = fine_made _ (enter p n) a a l (fine_enter p n a l)

path_by : (t : Bool) (j : Judge Expr) (p : ℕ) (a : Words) (l : Lists) → Fine Any a (j (state a l)) → Fine Any a (cond t j (refuse 2 p) (state a l))
path_by true j p a l h = h
path_by false j p a l h = limited p refl

path_fine : (e : Env) (h : Head) (p : ℕ) (n : List ℕ) (ss : List PlacedStep) (a : Words) (l : Lists) → HeadBy (special n) e h n → Fine Any a (a_path p n ss (state a l))
path_fine e h p n ss a l i = path_by (leb (length ss) 4) _ p a l (fine_made _ (headed (special n) p n) a a l (headed_fine e (special n) h p n a l i))

pub fine_value_as : (e : Env) (x : Expr) (p q : ℕ) (r : Reading) (a : Words) (l : Lists) → ReadsAs e x q r → Fine Any a (value_as p q r (state a l))
unfolding value_as
fine_value_as e x p q is_nil a l h = fine_pure _ a l tt
fine_value_as e x p q (is_boolean b) a l h = fine_pure _ a l tt
fine_value_as e x p q (is_number z) a l h = fine_pure _ a l tt
fine_value_as e x p q (is_text t) a l h = fine_pure _ a l tt
fine_value_as e x p q (is_name n) a l h = path_fine e h.0 p n [] a l h.1
fine_value_as e x p q (is_path n s) a l h = path_fine e h.0 p n (steps_of (q + length n) s) a l h.1
fine_value_as e x p q (is_range c d f g) a l h = absurd h
fine_value_as e x p q (is_symbol s) a l h = absurd h

pub value_so : (e : Env) (x : Expr) (q : ℕ) (r : Reading) → ReadsAs e x q r → is_value r ≡ true
value_so e x q is_nil h = refl
value_so e x q (is_boolean b) h = refl
value_so e x q (is_number z) h = refl
value_so e x q (is_text t) h = refl
value_so e x q (is_name n) h = refl
value_so e x q (is_path n s) h = refl
value_so e x q (is_range c d f g) h = absurd h
value_so e x q (is_symbol s) h = absurd h

pub fine_value : (e : Env) (x : Expr) (m : ℕ) (a b : Words) (l : Lists) → Begins (ValueIs e x) a b → Fine Any b (value m (state a l))
unfolding value
fine_value e x m a b l h = fine_taken (ValueIs e x) m (λ w. value_as w.place w.place (read w)) a b b l h (λ w n i. fine_value_as e x w.place w.place (read w) b n i)

-- one value too many
pub fine_too_many : {A : Type 0} {P : A → Type 0} (e : Env) (x : Expr) (m : ℕ) (a b c : Words) (l : Lists) → Begins (ValueIs e x) a b → Fine P c ((token m next λ w. too_many w) (state a l))
fine_too_many {A} {P} e x m a b c l h =
    fine_taken (ValueIs e x) m (λ w. too_many w) a b c l h
    (λ w n i. limited w.place (ap (λ t. cond t (refuse {A = A} 2 w.place) (refuse 6 w.place) (state b n)) (value_so e x w.place (read w) i)))

row_value_fine : (e : Env) (r : Row) (p : ℕ) (t : Reading) (a : Words) (l : Lists) → (x : Expr) × ReadsAs e x p t × (r ≡ row_from x) → Fine Any a ((value_as p p t next λ x. pure (row_from x)) (state a l))
row_value_fine e r p t a l h = fine_made row_from (value_as p p t) a a l (fine_value_as e h.0 p p t a l h.1)

row_fine : (e : Env) (r : Row) (p : ℕ) (t : Reading) (a : Words) (l : Lists) → RowReads e r p t → Fine Any a (row_as p t (state a l))
row_fine e r p is_nil a l h = row_value_fine e r p is_nil a l h
row_fine e r p (is_boolean b) a l h = row_value_fine e r p (is_boolean b) a l h
row_fine e r p (is_number z) a l h = row_value_fine e r p (is_number z) a l h
row_fine e r p (is_text t) a l h = row_value_fine e r p (is_text t) a l h
row_fine e r p (is_name n) a l h = row_value_fine e r p (is_name n) a l h
row_fine e r p (is_path n s) a l h = row_value_fine e r p (is_path n s) a l h
row_fine e r p (is_range c d f g) a l h =
    fine_next a a (value_as p c (token_of c d)) _ (state a l) (fine_value_as e h.0 p c (token_of c d) a l h.2)
    (λ x m i. fine_made _ (value_as p f (token_of f g)) a a m (fine_value_as e h.1 p f (token_of f g) a m h.3))
row_fine e r p (is_symbol s) a l h = absurd h.1

pub fine_row : (e : Env) (r : Row) (m : ℕ) (a b : Words) (l : Lists) → Begins (RowIs e r) a b → Fine Any b (a_row m (state a l))
unfolding a_row
fine_row e r m a b l h = fine_taken (RowIs e r) m (λ w. row_as w.place (read w)) a b b l h (λ w n i. row_fine e r w.place (read w) b n i)

pub fine_target : (e : Env) (k m : ℕ) (a b : Words) (l : Lists) → Begins (TargetIs e k) a b → Fine Any b (target m (state a l))
unfolding target
fine_target e k m a b l h =
    fine_taken (TargetIs e k) m (λ w. new_name w.place (bare (read w))) a b b l h
    (λ w n i.
    let q : new_name w.place (bare (read w)) (state b n) ≡ cond (reserved i.name) (refuse 8 w.place) (enter w.place i.name) (state b n) = ap (λ r. new_name w.place (bare r) (state b n)) i.bare in
    let r : cond (reserved i.name) (refuse 8 w.place) (enter w.place i.name) (state b n) ≡ enter w.place i.name (state b n) = ap (λ t. cond t (refuse 8 w.place) (enter w.place i.name) (state b n)) i.free in
    subst (Fine Any b) (sym (q ∙ r)) (fine_enter w.place i.name b n))

-- chains
setting_fine : (e : Env) (x : Expr) (m : ℕ) (a b : Words) (l : Lists) → SettingIs e x a b → Fine Any b ((token_if (symbol_at symbol.Colon) next λ c. argument_behind m c) (state a l))
setting_fine e x m a b l (c, h, k) =
    fine_next c b (token_if (symbol_at symbol.Colon)) (λ o. argument_behind m o) (state a l)
    (fine_if_some (symbol_at symbol.Colon) a c l h.token.place (record { token = h.token; is = h.is; so = symbol_at_so symbol.Colon h.token h.so }))
    (λ o n i. subst (λ z. Fine Any b (argument_behind m z (state c n))) (sym i) (fine_made Some (value m) c b n (fine_value e x m c b n k)))

-- behind a filter stands a bar, or nothing
filters_skip : (e : Env) (fs : List Filter) (a : Words) → FiltersAre e fs a → Skips (symbol_at symbol.Colon) a
filters_skip e [] a h = inl h
filters_skip e (f ∷ fs) a (b, c, h, k, r) = inr (b, record { token = h.token; is = h.is; so = ap (λ r. placed_if (has_symbol symbol.Colon (symbol_in r)) h.token.place) h.so })

argument_fine : (e : Env) (o : Option Expr) (m : ℕ) (a b : Words) (l : Lists) → Skips (symbol_at symbol.Colon) b → ArgumentIs e o a b → Fine Any b ((token_if (symbol_at symbol.Colon) next λ c. argument_behind m c) (state a l))
argument_fine e None m a b l s h =
    fine_from a b b l (token_if (symbol_at symbol.Colon) next λ c. argument_behind m c) h
    (fine_next b b (token_if (symbol_at symbol.Colon)) (λ c. argument_behind m c) (state b l) (fine_if_none (symbol_at symbol.Colon) b l s) (λ o n i. subst (λ z. Fine Any b (argument_behind m z (state b n))) (sym i) (fine_pure None b n tt)))
argument_fine e (Some x) m a b l s h = setting_fine e x m a b l h

-- one judgement and two more, grouped as one likes
went_went : {A B C : Type 0} (v : Verdict A) (k : A → Judge B) (g : B → Judge C) → went (went v k) g ≡ went v (λ x. k x next g)
went_went (refuses n p) k g = refl
went_went (passes x s) k g = refl

named_fine : (e : Env) (f : Filter) (m p : ℕ) (a b : Words) (l : Lists) → Skips (symbol_at symbol.Colon) b → ArgumentIs e f.argument a b → (n : List ℕ) → Fine Any b (named_filter m p (Some n) (state a l))
named_fine e f m p a b l s h n =
    let rest : Option Expr → Judge Filter = λ o. ask p n next λ u. pure (record { filter = n; argument = o }) in
    let both_read : Fine Any b (went (went (token_if (symbol_at symbol.Colon) (state a l)) (λ c. argument_behind m c)) rest) =
    fine_went b b (went (token_if (symbol_at symbol.Colon) (state a l)) (λ c. argument_behind m c)) rest (argument_fine e f.argument m a b l s h) (λ o k i. fine_made (λ u. record { filter = n; argument = o }) (ask p n) b b k (fine_ask p n b k)) in
    subst (Fine Any b) (went_went (token_if (symbol_at symbol.Colon) (state a l)) (λ c. argument_behind m c) rest) both_read

filter_fine : (e : Env) (f : Filter) (m : ℕ) (a b : Words) (l : Lists) → Skips (symbol_at symbol.Colon) b → FilterIs e f a b → Fine Any b (filter m (state a l))
unfolding filter
filter_fine e f m a b l s (c, h, k) =
    fine_taken (TheWord f.filter) m (λ w. named_filter m w.place (bare (read w))) a c b l h
    (λ w n i. subst (λ r. Fine Any b (named_filter m w.place (bare r) (state c n))) (sym i) (named_fine e f m w.place c b n s k f.filter))

filters_fine : (e : Env) (n : ℕ) (fs : List Filter) (m : ℕ) (a : Words) (l : Lists) → FiltersAre e fs a → Fine Any over (filters n m (state a l))
filters_fine e zero [] m a l h =
    fine_next a over (token_if (symbol_at symbol.Bar)) (λ b. if_barred b (λ p. refuse 2 p)) (state a l) (fine_if_none (symbol_at symbol.Bar) a l (inl h))
    (λ o n i. subst (λ z. Fine Any over (if_barred z (λ p. refuse 2 p) (state a n))) (sym i) (fine_end [] a n h tt))
filters_fine e zero (f ∷ fs) m a l (b, c, h, k, r) =
    fine_next b over (token_if (symbol_at symbol.Bar)) (λ o. if_barred o (λ p. refuse 2 p)) (state a l)
    (fine_if_some (symbol_at symbol.Bar) a b l h.token.place (record { token = h.token; is = h.is; so = symbol_at_so symbol.Bar h.token h.so }))
    (λ o n i. subst (λ z. Fine Any over (if_barred z (λ p. refuse 2 p) (state b n))) (sym i) (limited h.token.place refl))
filters_fine e (suc n) [] m a l h =
    fine_next a over (token_if (symbol_at symbol.Bar)) (λ b. if_barred b (λ p. filter m next λ f. filters n m next λ fs. pure (f ∷ fs))) (state a l) (fine_if_none (symbol_at symbol.Bar) a l (inl h))
    (λ o k i. subst (λ z. Fine Any over (if_barred z (λ p. filter m next λ f. filters n m next λ fs. pure (f ∷ fs)) (state a k))) (sym i) (fine_end [] a k h tt))
filters_fine e (suc n) (f ∷ fs) m a l (b, c, h, k, r) =
    fine_next b over (token_if (symbol_at symbol.Bar)) (λ o. if_barred o (λ p. filter m next λ f. filters n m next λ fs. pure (f ∷ fs))) (state a l)
    (fine_if_some (symbol_at symbol.Bar) a b l h.token.place (record { token = h.token; is = h.is; so = symbol_at_so symbol.Bar h.token h.so }))
    (λ o t i. subst (λ z. Fine Any over (if_barred z (λ p. filter m next λ f. filters n m next λ fs. pure (f ∷ fs)) (state b t))) (sym i)
    (fine_next c over (filter m) (λ f. filters n m next λ fs. pure (f ∷ fs)) (state b t) (filter_fine e f m b c t (filters_skip e fs c r) k)
    (λ g u j. fine_made (λ fs. g ∷ fs) (filters n m) c over u (filters_fine e n fs m c u r))))

pub fine_chain : (e : Env) (c : Chain) (m : ℕ) (a : Words) (l : Lists) → ChainIs e c a → Fine Any over (chain m (state a l))
unfolding chain
fine_chain e c m a l (b, h, k) =
    fine_next b over (value m) _ (state a l) (fine_value e c.value m a b l h) (λ v n i. fine_made (λ fs. record { value = v; filters = fs }) (filters 4 m) b over n (filters_fine e 4 c.filters m b n k))

-- conditions
first_fine : (e : Env) (x : Expr) (m : ℕ) (a b : Words) (l : Lists) → Begins (ValueIs e x) a b → Fine Any b (first m (state a l))
unfolding first
first_fine e x m a b l h =
    fine_taken (ValueIs e x) m (λ w. first_as w.place (read w)) a b b l h
    (λ w n i.
    let j = room_at w.place next λ u. value_as w.place w.place (read w) in
    subst (λ t. Fine Any b (cond t j (refuse 6 w.place) (state b n))) (sym (value_so e x w.place (read w) i))
    (fine_next b b (room_at w.place) (λ u. value_as w.place w.place (read w)) (state b n) (fine_room w.place b n) (λ u k o. fine_value_as e x w.place w.place (read w) b k i)))

tested_fine : (e : Env) (t : Test) (m : ℕ) (a b : Words) (l : Lists) → Skips comparison b → TestIs e t a b → Fine Any b (tested m (state a l))
unfolding tested
tested_fine e (exists x) m a b l s h =
    fine_next b b (first m) (λ y. token_if comparison next λ c. compared m y c) (state a l) (first_fine e x m a b l h)
    (λ y n i. fine_next b b (token_if comparison) (λ c. compared m y c) (state b n) (fine_if_none comparison b n s) (λ o k j. subst (λ z. Fine Any b (compared m y z (state b k))) (sym j) (fine_pure (exists y) b k tt)))
tested_fine e (compares x c z) m a b l s (d, f, h, k, r) =
    fine_next d b (first m) (λ y. token_if comparison next λ c. compared m y c) (state a l) (first_fine e x m a d l h)
    (λ y n i. fine_next f b (token_if comparison) (λ c. compared m y c) (state d n)
    (fine_if_some comparison d f n c (record { token = k.token; is = k.is; so = compared_is c k.token k.so }))
    (λ o t j. subst (λ z. Fine Any b (compared m y z (state f t))) (sym j) (fine_made (compares y c) (value m) f b t (fine_value e z m f b t r))))

test_fine : (e : Env) (t : Test) (m : ℕ) (a b : Words) (l : Lists) → Skips comparison b → TestIs e t a b → Fine Any b (a_test m (state a l))
unfolding a_test
test_fine e t m a b l s h = fine_next b b (tested m) (λ t. one_more next λ u. pure t) (state a l) (tested_fine e t m a b l s h) (λ y n i. fine_made (λ u. y) one_more b b n (fine_one_more b n))

joining_fine : (j : Joint) (a : Words) (l : Lists) → Fine Any a (joining j (state a l))
joining_fine (And p) a l = fine_next a a (room_at p) (λ u. one_more) (state a l) (fine_room p a l) (λ u m i. fine_one_more a m)
joining_fine (Or p) a l = fine_next a a (room_at p) (λ u. one_more) (state a l) (fine_room p a l) (λ u m i. fine_one_more a m)

and_joint : (w : Seen) → TheWord (codes "and") w → joint w ≡ Some (And w.place)
and_joint w h = ap (λ t. cond t (Some (And w.place)) (cond (is_the_word (codes "or") w) (Some (Or w.place)) None)) (word_so (codes "and") w h)

or_joint : (w : Seen) → TheWord (codes "or") w → joint w ≡ Some (Or w.place)
unfolding same_text
or_joint w h =
    ap (λ r. cond (is_word (codes "and") (bare r)) (Some (And w.place)) (cond (is_the_word (codes "or") w) (Some (Or w.place)) None)) h
    ∙ ap (λ t. cond t (Some (Or w.place)) None) (word_so (codes "or") w h)

and_skips : (a b : Words) → Begins (TheWord (codes "and")) a b → Skips comparison a
unfolding same_text
and_skips a b h = inr (b, record { token = h.token; is = h.is; so = ap comparison_in h.so })

or_skips : (a b : Words) → Begins (TheWord (codes "or")) a b → Skips comparison a
unfolding same_text
or_skips a b h = inr (b, record { token = h.token; is = h.is; so = ap comparison_in h.so })

-- a condition begins with a value
condition_value : (e : Env) (c : Condition) (a : Words) → ConditionIs e c a → (x : Expr) × (b : Words) × Begins (ValueIs e x) a b
condition_value e (only (exists x)) a h = (x, over, h)
condition_value e (only (compares x c y)) a h = (x, h.0, h.2)
condition_value e (both (exists x) d) a h = (x, h.0, h.2)
condition_value e (both (compares x c y) d) a h = (x, h.2.0, h.2.2)
condition_value e (either (exists x) d) a h = (x, h.0, h.2)
condition_value e (either (compares x c y) d) a h = (x, h.2.0, h.2.2)

joined_fine : (k : Judge Condition) (t : Test) (m : ℕ) (a b : Words) (l : Lists) (j : Joint) → Begins (λ w. joint w ≡ Some j) a b → ((n : Lists) → Fine Any over (k (state b n))) → Fine Any over ((token_if joint next λ o. joined k t o) (state a l))
joined_fine k t m a b l j h g =
    fine_next b over (token_if joint) (λ o. joined k t o) (state a l) (fine_if_some joint a b l j h)
    (λ o n i. subst (λ z. Fine Any over (joined k t z (state b n))) (sym i) (fine_next b over (joining j) (λ u. k next λ c. pure (Rattle.tags.specs.Conditions.join j t c)) (state b n) (joining_fine j b n) (λ u v q. fine_made _ k b over v (g v))))

condition_fine : (e : Env) (n : ℕ) (c : Condition) (m : ℕ) (a : Words) (l : Lists) → ConditionIs e c a → Fine Any over (condition_of n m (state a l))
condition_fine e zero c m a l h = let (x, b, k) = condition_value e c a h in fine_too_many e x m a b over l k
condition_fine e (suc n) (only t) m a l h =
    fine_next over over (a_test m) (λ t. token_if joint next λ j. joined (condition_of n m) t j) (state a l) (test_fine e t m a over l (inl refl) h)
    (λ y k i. fine_next over over (token_if joint) (λ j. joined (condition_of n m) y j) (state over k) (fine_if_none joint over k (inl refl))
    (λ o u q. subst (λ z. Fine Any over (joined (condition_of n m) y z (state over u))) (sym q) (fine_end (only y) over u refl tt)))
condition_fine e (suc n) (both t c) m a l (b, d, h, k, r) =
    fine_next b over (a_test m) (λ t. token_if joint next λ j. joined (condition_of n m) t j) (state a l) (test_fine e t m a b l (and_skips b d k) h)
    (λ y u i. joined_fine (condition_of n m) y m b d u (And k.token.place) (record { token = k.token; is = k.is; so = and_joint k.token k.so }) (λ v. condition_fine e n c m d v r))
condition_fine e (suc n) (either t c) m a l (b, d, h, k, r) =
    fine_next b over (a_test m) (λ t. token_if joint next λ j. joined (condition_of n m) t j) (state a l) (test_fine e t m a b l (or_skips b d k) h)
    (λ y u i. joined_fine (condition_of n m) y m b d u (Or k.token.place) (record { token = k.token; is = k.is; so = or_joint k.token k.so }) (λ v. condition_fine e n c m d v r))

pub fine_condition : (e : Env) (c : Condition) (m : ℕ) (a : Words) (l : Lists) → ConditionIs e c a → Fine Any over (condition m (state a l))
unfolding condition
fine_condition e c m a l h = condition_fine e 16 c m a l h

-- the values of a `when`
or_separates : (w : Seen) → TheWord (codes "or") w → separator w ≡ Some w.place
or_separates w h = ap (λ t. placed_if (t || is_the_symbol symbol.Comma w) w.place) (word_so (codes "or") w h)

comma_separates : (w : Seen) → TheSymbol symbol.Comma w → separator w ≡ Some w.place
comma_separates w h = ap (λ r. placed_if (is_word (codes "or") (bare r) || is_the_symbol symbol.Comma w) w.place) h ∙ ap (λ t. placed_if t w.place) (symbol_so symbol.Comma w h)

separates : (w : Seen) → TheWord (codes "or") w ⊎ TheSymbol symbol.Comma w → separator w ≡ Some w.place
separates w (inl h) = or_separates w h
separates w (inr h) = comma_separates w h

whens_value : (e : Env) (xs : List Expr) (a : Words) → WhensAre e xs a → (x : Expr) × (b : Words) × Begins (ValueIs e x) a b
whens_value e [] a h = absurd h
whens_value e (x ∷ []) a h = (x, over, h)
whens_value e (x ∷ y ∷ ys) a h = (x, h.0, h.2)

whens_fine : (e : Env) (n : ℕ) (xs : List Expr) (m : ℕ) (a : Words) (l : Lists) → WhensAre e xs a → Fine Any over (whens_of n m (state a l))
whens_fine e zero xs m a l h = let (x, b, k) = whens_value e xs a h in fine_too_many e x m a b over l k
whens_fine e (suc n) [] m a l h = absurd h
whens_fine e (suc n) (x ∷ []) m a l h =
    fine_next over over (value m) (λ x. token_if separator next λ s. listed (whens_of n m) x s) (state a l) (fine_value e x m a over l h)
    (λ y k i. fine_next over over (token_if separator) (λ s. listed (whens_of n m) y s) (state over k) (fine_if_none separator over k (inl refl))
    (λ o u q. subst (λ z. Fine Any over (listed (whens_of n m) y z (state over u))) (sym q) (fine_end (y ∷ []) over u refl tt)))
whens_fine e (suc n) (x ∷ z ∷ zs) m a l (b, c, h, k, r) =
    fine_next b over (value m) (λ x. token_if separator next λ s. listed (whens_of n m) x s) (state a l) (fine_value e x m a b l h)
    (λ y t i. fine_next c over (token_if separator) (λ s. listed (whens_of n m) y s) (state b t)
    (fine_if_some separator b c t k.token.place (record { token = k.token; is = k.is; so = separates k.token k.so }))
    (λ o u q. subst (λ v. Fine Any over (listed (whens_of n m) y v (state c u))) (sym q) (fine_made (λ xs. y ∷ xs) (whens_of n m) c over u (whens_fine e n (z ∷ zs) m c u r))))

pub fine_whens : (e : Env) (xs : List Expr) (m : ℕ) (a : Words) (l : Lists) → WhensAre e xs a → Fine Any over (whens m (state a l))
unfolding whens
fine_whens e xs m a l h = whens_fine e 16 xs m a l h
