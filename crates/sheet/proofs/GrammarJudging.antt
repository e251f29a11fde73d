-- What a judgement that passes has read, in every environment that keeps the names it leaves behind.
use Rattle.std.proofs.Common.{◌≡◌, ℕ, zero, suc, ◌+◌, Bool, true, false, cond, ◌&&◌, not, ◌⊎◌, inl, inr, leb, ltb, List, [], ◌∷◌, ◌++◌, length, Some, None, Option, refl, sym, ap, ap₂, ◌∙◌, subst, arith}
use Rattle.std.proofs.lemmas.Bool.{false≢true, and_parts}
use Rattle.std.proofs.lemmas.Slice.Eq.{bytes_eq-Decides}
use Rattle.std.specs.List.{slice_get}
use Rattle.rows.specs.First.{first_from}
use Rattle.tray.specs.Parts.{same_text}
use Rattle.cutter.specs.Words.{Words, over, wrong, word}
use Rattle.arguments.specs.Judging.{CycleName, Lists, State, state, Verdict, refuses, passes, Judge, went, ◌next◌, pure, refuse, Seen, seen, token, taken, token_if, taken_if, kept_or, none_left, finished, right_or, expect, noted, room_at, one_more, with_name, entered, enter, with_asked, ask, with_cycle, same_cycle, cycle_entered, enter_cycle}
use Rattle.sheet.specs.Grammar.{Env, NameIs, CycleNameIs, Begins}
use Rattle.sheet.specs.GrammarLaws.{env_of, Kept, Apart}

pub same_is : (m n : List ℕ) → same_text m n ≡ true → m ≡ n
unfolding same_text
same_is m n e = (bytes_eq-Decides m n).0 e

pub is_same : (m n : List ℕ) → m ≡ n → same_text m n ≡ true
unfolding same_text
is_same m n e = (bytes_eq-Decides m n).1 e

-- the first that passes
module _ {X : Type 0} (p : X → Bool) where
  abbrev pub Found : List X → ℕ → ℕ → Type 0
  Found xs m k = (i : ℕ) × (x : X) × (k ≡ m + i) × (slice_get xs i ≡ Some x) × (p x ≡ true)

  found_by : (x : X) (xs : List X) (m k : ℕ) (b : Bool) → (first_from p (m + 1) xs ≡ Some k → Found xs (m + 1) k) → p x ≡ b → cond b (Some m) (first_from p (m + 1) xs) ≡ Some k → Found (x ∷ xs) m k
  found_by x xs m k true g q h = let s : m ≡ k = cc in (0, x, omega (arith, s), refl, q)
  found_by x xs m k false g q h = let (i, y, r, at, t) = g h in (suc i, y, omega (arith, r), at, t)

  pub first_at : (xs : List X) (m k : ℕ) → first_from p m xs ≡ Some k → Found xs m k
  first_at [] m k e = cc
  first_at (x ∷ xs) m k e = found_by x xs m k (p x) (first_at xs (m + 1) k) refl e

  none_by : (x : X) (xs : List X) (m i : ℕ) (y : X) (b : Bool) → (first_from p (m + 1) xs ≡ None → (j : ℕ) → slice_get xs j ≡ Some y → p y ≡ false) → p x ≡ b → cond b (Some m) (first_from p (m + 1) xs) ≡ None →
      slice_get (x ∷ xs) i ≡ Some y → p y ≡ false
  none_by x xs m i y true g q h e = cc
  none_by x xs m zero y false g q h e = let s : x ≡ y = cc in subst (λ z. p z ≡ false) s q
  none_by x xs m (suc j) y false g q h e = g h j e

  pub none_at : (xs : List X) (m : ℕ) → first_from p m xs ≡ None → (i : ℕ) (y : X) → slice_get xs i ≡ Some y → p y ≡ false
  none_at [] m e i y h = cc
  none_at (x ∷ xs) m e i y h = none_by x xs m i y (p x) (λ g j k. none_at xs (m + 1) g j y k) refl e h

-- an item behind others
pub behind_get : {X : Type 0} (xs : List X) (x : X) → slice_get (xs ++ (x ∷ [])) (length xs) ≡ Some x
behind_get [] x = refl
behind_get (y ∷ xs) x = behind_get xs x

pub keeps_get : {X : Type 0} (xs : List X) (x y : X) (i : ℕ) → slice_get xs i ≡ Some y → slice_get (xs ++ (x ∷ [])) i ≡ Some y
keeps_get [] x y i h = cc
keeps_get (z ∷ xs) x y zero h = h
keeps_get (z ∷ xs) x y (suc i) h = keeps_get xs x y i h

-- one of them: among the others, or the one behind them
pub split_get : {X : Type 0} (xs : List X) (x y : X) (i : ℕ) → slice_get (xs ++ (x ∷ [])) i ≡ Some y → (slice_get xs i ≡ Some y) ⊎ ((i ≡ length xs) × (x ≡ y))
split_get [] x y zero h = inr (refl, cc)
split_get [] x y (suc i) h = cc
split_get (z ∷ xs) x y zero h = inl h
split_get (z ∷ xs) x y (suc i) h = up (split_get xs x y i h)
  where
    up : (slice_get xs i ≡ Some y) ⊎ ((i ≡ length xs) × (x ≡ y)) → (slice_get (z ∷ xs) (suc i) ≡ Some y) ⊎ ((suc i ≡ length (z ∷ xs)) × (x ≡ y))
    up (inl a) = inl a
    up (inr (a, b)) = inr (ap suc a, b)

-- a new item is apart from the others
pub apart_get : {X : Type 0} (xs : List X) (x : X) → ((i : ℕ) → slice_get xs i ≡ Some x → ⊥) → ((i j : ℕ) (y : X) → slice_get xs i ≡ Some y → slice_get xs j ≡ Some y → i ≡ j) →
    (i j : ℕ) (y : X) → slice_get (xs ++ (x ∷ [])) i ≡ Some y → slice_get (xs ++ (x ∷ [])) j ≡ Some y → i ≡ j
apart_get {X} xs x new h i j y a b = by (split_get xs x y i a) (split_get xs x y j b)
  where
    by : (slice_get xs i ≡ Some y) ⊎ ((i ≡ length xs) × (x ≡ y)) → (slice_get xs j ≡ Some y) ⊎ ((j ≡ length xs) × (x ≡ y)) → i ≡ j
    by (inl p) (inl q) = h i j y p q
    by (inl p) (inr (q, r)) = absurd (new i (p ∙ ap Some (sym r)))
    by (inr (p, r)) (inl q) = absurd (new j (q ∙ ap Some (sym r)))
    by (inr (p, r)) (inr (q, s)) = p ∙ sym q

pub kept_refl : (e : Env) → Kept e e
kept_refl e = record { names = λ k n h. h; cycles = λ k c h. h }

pub kept_then : (d e f : Env) → Kept d e → Kept e f → Kept d f
kept_then d e f h k = record { names = λ i n q. k.names i n (h.names i n q); cycles = λ i c q. k.cycles i c (h.cycles i c q) }

-- what names become
pub record Grew (l m : Lists) : Type 0 where
  pub kept : Kept (env_of l) (env_of m)
  pub apart : Apart (env_of l) → Apart (env_of m)

pub grew_refl : (l : Lists) → Grew l l
grew_refl l = record { kept = kept_refl (env_of l); apart = λ a. a }

pub grew_then : (l m n : Lists) → Grew l m → Grew m n → Grew l n
grew_then l m n h k = record { kept = kept_then (env_of l) (env_of m) (env_of n) h.kept k.kept; apart = λ a. k.apart (h.apart a) }

-- what tokens are: D e y a b says that the tokens from a up to b are a writing of y
abbrev pub Form : Type 0 → Type 1
Form A = Env → A → Words → Words → Type 0

pub record Has {A : Type 0} (D : Form A) (s : State) (y : A) (t : State) : Type 0 where
  pub grew : Grew s.lists t.lists
  pub is : (e : Env) → Kept (env_of t.lists) e → D e y s.ahead t.ahead

abbrev pub Derives : {A : Type 0} → Judge A → Form A → Type 0
Derives {A} j D = (s : State) (y : A) (t : State) → j s ≡ passes y t → Has D s y t

pub passed : {A : Type 0} (P : A → State → Type 0) (x y : A) (s t : State) → passes x s ≡ passes y t → P x s → P y t
passed P x y s t e h = let p : x ≡ y = cc in let q : s ≡ t = cc in subst (λ z. P z t) p (subst (P x) q h)

pub derives_pure : {A : Type 0} {D : Form A} (x : A) → ((e : Env) (a : Words) → D e x a a) → Derives (pure x) D
derives_pure {D = D} x h s y t e = passed (Has D s) x y s t e (record { grew = grew_refl s.lists; is = λ f k. h f s.ahead })

pub derives_refuse : {A : Type 0} {D : Form A} (n p : ℕ) → Derives (refuse {A = A} n p) D
derives_refuse n p s y t e = cc

-- one judgement and another, where the two forms make a third
module _ {A B : Type 0} {D : Form A} {E : A → Form B} {F : Form B} (join : (e : Env) (x : A) (y : B) (a b c : Words) → D e x a b → E x e y b c → F e y a c) where
  went_derives : (s : State) (v : Verdict A) (k : A → Judge B) → ((x : A) (u : State) → v ≡ passes x u → Has D s x u) → ((x : A) → Derives (k x) (E x)) → (y : B) (t : State) → went v k ≡ passes y t → Has F s y t
  went_derives s (refuses n p) k h g y t e = cc
  went_derives s (passes x u) k h g y t e =
      let m = h x u refl in
      let n = g x u y t e in
      record {
        grew = grew_then s.lists u.lists t.lists m.grew n.grew;
        is = λ f r. join f x y s.ahead u.ahead t.ahead (m.is f (kept_then (env_of u.lists) (env_of t.lists) f n.grew.kept r)) (n.is f r);
      }

  pub derives_next : (j : Judge A) (k : A → Judge B) → Derives j D → ((x : A) → Derives (k x) (E x)) → Derives (j next k) F
  derives_next j k h g s y t e = went_derives s (j s) k (h s) g y t e

-- the same form in other words
pub derives_as : {A : Type 0} {D E : Form A} (j : Judge A) → Derives j D → ((e : Env) (y : A) (a b : Words) → D e y a b → E e y a b) → Derives j E
derives_as j h f s y t e = let m = h s y t e in record { grew = m.grew; is = λ g k. f g y s.ahead t.ahead (m.is g k) }

pub derives_cond : {A : Type 0} {D : Form A} (b : Bool) (j : Judge A) (n p : ℕ) → (b ≡ true → Derives j D) → Derives (cond b j (refuse n p)) D
derives_cond true j n p h = h refl
derives_cond false j n p h = derives_refuse n p

-- the next token
abbrev pub Next : Form Seen
Next e w a b = a ≡ word w.place w.bytes b

taken_has : (m : ℕ) (a : Words) (l : Lists) (y : Seen) (t : State) → taken m a l ≡ passes y t → Has Next (state a l) y t
taken_has m over l y t e = cc
taken_has m (wrong p) l y t e = cc
taken_has m (word p b rest) l y t e = passed (Has Next (state (word p b rest) l)) (seen p b) y (state rest l) t e (record { grew = grew_refl l; is = λ f k. refl })

pub derives_token : (m : ℕ) → Derives (token m) Next
unfolding token
derives_token m s y t e = taken_has m s.ahead s.lists y t e

-- the next token, where f makes something of it
abbrev pub NextIf : {A : Type 0} → (Seen → Option A) → Form (Option A)
NextIf f e None a b = a ≡ b
NextIf f e (Some x) a b = Begins (λ w. f w ≡ Some x) a b

kept_has : {A : Type 0} (f : Seen → Option A) (o : Option A) (p : ℕ) (b : List ℕ) (rest : Words) (l : Lists) (y : Option A) (t : State) → f (seen p b) ≡ o →
    kept_or o (state (word p b rest) l) (state rest l) ≡ passes y t → Has (NextIf f) (state (word p b rest) l) y t
kept_has f None p b rest l y t q e = passed (Has (NextIf f) (state (word p b rest) l)) None y (state (word p b rest) l) t e (record { grew = grew_refl l; is = λ g k. refl })
kept_has f (Some x) p b rest l y t q e = passed (Has (NextIf f) (state (word p b rest) l)) (Some x) y (state rest l) t e (record { grew = grew_refl l; is = λ g k. record { token = seen p b; is = refl; so = q } })

taken_if_has : {A : Type 0} (f : Seen → Option A) (a : Words) (l : Lists) (y : Option A) (t : State) → taken_if f a l ≡ passes y t → Has (NextIf f) (state a l) y t
taken_if_has f over l y t e = passed (Has (NextIf f) (state over l)) None y (state over l) t e (record { grew = grew_refl l; is = λ g k. refl })
taken_if_has f (wrong p) l y t e = cc
taken_if_has f (word p b rest) l y t e = kept_has f (f (seen p b)) p b rest l y t refl e

pub derives_token_if : {A : Type 0} (f : Seen → Option A) → Derives (token_if f) (NextIf f)
unfolding token_if
derives_token_if f s y t e = taken_if_has f s.ahead s.lists y t e

-- no token more
abbrev pub AtEnd : Form (Unit {0})
AtEnd e u a b = (a ≡ over) × (b ≡ over)

none_has : (a : Words) (l : Lists) (y : Unit {0}) (t : State) → none_left a l ≡ passes y t → Has AtEnd (state a l) y t
none_has over l y t e = passed (Has AtEnd (state over l)) tt y (state over l) t e (record { grew = grew_refl l; is = λ g k. (refl, refl) })
none_has (wrong p) l y t e = cc
none_has (word p b rest) l y t e = cc

pub derives_finished : Derives finished AtEnd
unfolding finished
derives_finished s y t e = none_has s.ahead s.lists y t e

-- no token is taken
abbrev pub Still : {A : Type 0} → Form A
Still e u a b = a ≡ b

-- one such token
abbrev pub One : (Seen → Bool) → Form (Unit {0})
One f e u a b = Begins (λ w. f w ≡ true) a b

right_derives : (b : Bool) (p : ℕ) → Derives (right_or b p) (λ e u x y. (b ≡ true) × (x ≡ y))
right_derives true p = derives_pure tt (λ e a. (refl, refl))
right_derives false p = derives_refuse 6 p

pub derives_expect : (f : Seen → Bool) (m : ℕ) → Derives (expect f m) (One f)
unfolding expect
derives_expect f m =
    derives_next (λ e w u a b c h k. record { token = w; is = h ∙ ap (word w.place w.bytes) k.1; so = k.0 }) (token m) (λ w. right_or (f w) w.place) (derives_token m) (λ w. right_derives (f w) w.place)

still_has : (s t : State) (l : Lists) (y : Unit {0}) → passes tt (state s.ahead l) ≡ passes y t → env_of l ≡ env_of s.lists → Has Still s y t
still_has s t l y e q =
    passed (Has Still s) tt y (state s.ahead l) t e
    (record {
      grew = record { kept = subst (λ x. Kept (env_of s.lists) x) (sym q) (kept_refl (env_of s.lists)); apart = subst (λ x. Apart (env_of s.lists) → Apart x) (sym q) (λ a. a) };
      is = λ g k. refl;
    })

pub derives_ask : (p : ℕ) (n : List ℕ) → Derives (ask p n) Still
unfolding ask
derives_ask p n s y t e = still_has s t (with_asked p n s.lists) y e refl

pub derives_one_more : Derives one_more Still
unfolding one_more
derives_one_more s y t e = still_has s t (noted (s.lists.nodes + 1) s.lists) y e refl

room_has : (b : Bool) (p : ℕ) (s t : State) (y : Unit {0}) → cond b (passes tt s) (refuses 2 p) ≡ passes y t → Has Still s y t
room_has true p s t y e = still_has s t s.lists y e refl
room_has false p s t y e = cc

pub derives_room_at : (p : ℕ) → Derives (room_at p) Still
unfolding room_at
derives_room_at p s y t e = room_has (ltb s.lists.nodes 4096) p s t y e

-- a name, by its number
abbrev pub Numbered : List ℕ → Form ℕ
Numbered n e k a b = (a ≡ b) × NameIs e k n

old_has : (n : List ℕ) (s t : State) (k y : ℕ) → passes k s ≡ passes y t → first_from (λ m. same_text m n) 0 s.lists.names ≡ Some k → Has (Numbered n) s y t
old_has n s t k y e q =
    let (i, m, r, at, h) = first_at (λ x. same_text x n) s.lists.names 0 k q in
    let same : i ≡ k = omega (arith, r) in
    let is : NameIs (env_of s.lists) k n = subst (λ j. slice_get s.lists.names j ≡ Some n) same (at ∙ ap Some (same_is m n h)) in
    passed (Has (Numbered n) s) k y s t e (record { grew = grew_refl s.lists; is = λ f r. (refl, r.names k n is) })

new_has : (b : Bool) (p : ℕ) (n : List ℕ) (s t : State) (y : ℕ) → cond b (passes (length s.lists.names) (state s.ahead (with_name n s.lists))) (refuses 2 p) ≡ passes y t →
    first_from (λ m. same_text m n) 0 s.lists.names ≡ None → Has (Numbered n) s y t
new_has true p n s t y e q =
    let xs = s.lists.names in
    let new : (i : ℕ) → slice_get xs i ≡ Some n → ⊥ = λ i h. false≢true (sym (none_at (λ x. same_text x n) xs 0 q i n h) ∙ is_same n n refl) in
    passed (Has (Numbered n) s) (length xs) y (state s.ahead (with_name n s.lists)) t e
    (record {
      grew =
          record {
            kept = record { names = λ k m h. keeps_get xs n m k h; cycles = λ k c h. h };
            apart = λ a. record { names = apart_get xs n new a.names; cycles = a.cycles };
          };
      is = λ f r. (refl, r.names (length xs) n (behind_get xs n));
    })
new_has false p n s t y e q = cc

entered_has : (p : ℕ) (n : List ℕ) (o : Option ℕ) (s t : State) (y : ℕ) → entered p n o s ≡ passes y t → first_from (λ m. same_text m n) 0 s.lists.names ≡ o → Has (Numbered n) s y t
entered_has p n (Some k) s t y e q = old_has n s t k y e q
entered_has p n None s t y e q = new_has (leb (length n) 32 && ltb (length s.lists.names) 128) p n s t y e q

pub derives_enter : (p : ℕ) (n : List ℕ) → Derives (enter p n) (Numbered n)
unfolding enter
derives_enter p n s y t e = entered_has p n (first_from (λ m. same_text m n) 0 s.lists.names) s t y e refl

-- a cycle name, by its number
abbrev pub CycleNumbered : CycleName → Form ℕ
CycleNumbered c e k a b = (a ≡ b) × CycleNameIs e k c

alike : (b c : Bool) → cond b c (not c) ≡ true → b ≡ c
alike true true h = refl
alike true false h = cc
alike false true h = cc
alike false false h = refl

alike_refl : (b : Bool) → cond b b (not b) ≡ true
alike_refl true = refl
alike_refl false = refl

pub cycle_is : (c d : CycleName) → same_cycle c d ≡ true → c ≡ d
cycle_is c d h =
    let (p, q) = and_parts (cond c.given d.given (not d.given)) (same_text c.bytes d.bytes) h in
    let made : Bool → List ℕ → CycleName = λ g b. record { given = g; bytes = b } in
    ap₂ made (alike c.given d.given p) (same_is c.bytes d.bytes q)

cycle_same : (c : CycleName) → same_cycle c c ≡ true
cycle_same c = ap (λ b. b && same_text c.bytes c.bytes) (alike_refl c.given) ∙ is_same c.bytes c.bytes refl

old_cycle_has : (c : CycleName) (s t : State) (k y : ℕ) → passes k s ≡ passes y t → first_from (λ d. same_cycle d c) 0 s.lists.cycles ≡ Some k → Has (CycleNumbered c) s y t
old_cycle_has c s t k y e q =
    let (i, d, r, at, h) = first_at (λ x. same_cycle x c) s.lists.cycles 0 k q in
    let same : i ≡ k = omega (arith, r) in
    let is : CycleNameIs (env_of s.lists) k c = subst (λ j. slice_get s.lists.cycles j ≡ Some c) same (at ∙ ap Some (cycle_is d c h)) in
    passed (Has (CycleNumbered c) s) k y s t e (record { grew = grew_refl s.lists; is = λ f r. (refl, r.cycles k c is) })

new_cycle_has : (b : Bool) (p : ℕ) (c : CycleName) (s t : State) (y : ℕ) → cond b (passes (length s.lists.cycles) (state s.ahead (with_cycle c s.lists))) (refuses 2 p) ≡ passes y t →
    first_from (λ d. same_cycle d c) 0 s.lists.cycles ≡ None → Has (CycleNumbered c) s y t
new_cycle_has true p c s t y e q =
    let xs = s.lists.cycles in
    let new : (i : ℕ) → slice_get xs i ≡ Some c → ⊥ = λ i h. false≢true (sym (none_at (λ x. same_cycle x c) xs 0 q i c h) ∙ cycle_same c) in
    passed (Has (CycleNumbered c) s) (length xs) y (state s.ahead (with_cycle c s.lists)) t e
    (record {
      grew =
          record {
            kept = record { names = λ k n h. h; cycles = λ k d h. keeps_get xs c d k h };
            apart = λ a. record { names = a.names; cycles = apart_get xs c new a.cycles };
          };
      is = λ f r. (refl, r.cycles (length xs) c (behind_get xs c));
    })
new_cycle_has false p c s t y e q = cc

cycle_entered_has : (p : ℕ) (c : CycleName) (o : Option ℕ) (s t : State) (y : ℕ) → cycle_entered p c o s ≡ passes y t → first_from (λ d. same_cycle d c) 0 s.lists.cycles ≡ o → Has (CycleNumbered c) s y t
cycle_entered_has p c (Some k) s t y e q = old_cycle_has c s t k y e q
cycle_entered_has p c None s t y e q = new_cycle_has (ltb (length s.lists.cycles) 32) p c s t y e q

long_has : (b : Bool) (p : ℕ) (c : CycleName) (s t : State) (y : ℕ) → cond b (cycle_entered p c (first_from (λ d. same_cycle d c) 0 s.lists.cycles) s) (refuses 2 p) ≡ passes y t → Has (CycleNumbered c) s y t
long_has true p c s t y e = cycle_entered_has p c (first_from (λ d. same_cycle d c) 0 s.lists.cycles) s t y e refl
long_has false p c s t y e = cc

pub derives_enter_cycle : (p : ℕ) (c : CycleName) → Derives (enter_cycle p c) (CycleNumbered c)
unfolding enter_cycle
derives_enter_cycle p c s y t e = long_has (leb (length c.bytes) 128) p c s t y e
