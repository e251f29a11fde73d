-- Loops over items and entries: what is left gives the answer.
use Rattle.std.proofs.Common.{◌≡◌, ℤ, ℕ, zero, suc, ◌+◌, ◌*◌, ◌<◌, ◌≤◌, Bool, true, false, ◌&&◌, ◌||◌, List, is_some, Some, None, Option, sym, refl, ap, ◌∙◌, ap₂, vec_items, eqb, w64, SFits, of_z, rules}
use Rattle.std.specs.Option.{option_map}
use mathlib.Core.Bool.{beq}
use Rattle.tray.specs.declared.records.Record.{Record}
use Rattle.tray.specs.declared.trays.Tray.{Tray}
use Rattle.tray.specs.Sound.{at}
use Rattle.values.specs.Value.{Value, Entries, empty, find, within, equal, equal_items, agrees, found, same_boolean, same_whole}
use Rattle.values.specs.Meaning.{items_from, entries_from, shape, value_of, text_at}
use Rattle.values.proofs.Unfolds.{both}
use Rattle.values.proofs.Rests.{items_left, entries_left, items_none, items_all, items_more, entries_none, entries_all, entries_more, put_more}

-- the walk that looks each key up
pub record Looks (key : ℕ → List ℕ) (f : ℕ → Value) (first n : ℕ) (fs : Entries) (j : ℕ) : Type 0 where
  pub is : within (entries_from key f first n) fs ≡ within (entries_left key f first n j) fs

pub look_none : (key : ℕ → List ℕ) (f : ℕ → Value) (first n : ℕ) (fs : Entries) → Looks key f first n fs 0
look_none key f first n fs = record { is = ap (λ es. within es fs) (sym (entries_none key f first n)) }

some_mapped : {X Y : Type 0} (g : X → Y) (o : Option X) → is_some (option_map g o) ≡ is_some o
some_mapped g None = refl
some_mapped g (Some x) = refl

look_step : {key : ℕ → List ℕ} {f : ℕ → Value} {first n : ℕ} {fs : Entries} {j : ℕ} → Looks key f first n fs j → {X : Type 0} (g : X → Value) (o : Option X) (k : List ℕ) → k ≡ key (first + 2 * j) → option_map g o ≡ find k fs → (t : Bool) → t ≡ is_some o → j < n → within (entries_from key f first n) fs ≡ (t && within (entries_left key f first n (j + 1)) fs)
look_step {key} {f} {first} {n} {fs} {j} s g o k ek e t et l =
    s.is ∙ ap (λ es. within es fs) (entries_more key f first n j l)
    ∙ ap (λ b. b && within (entries_left key f first n (j + 1)) fs) (ap (λ q. is_some (find q fs)) (sym ek) ∙ ap is_some (sym e) ∙ some_mapped g o ∙ sym et)

pub look_more : {key : ℕ → List ℕ} {f : ℕ → Value} {first n : ℕ} {fs : Entries} {j : ℕ} → Looks key f first n fs j → {X : Type 0} (g : X → Value) (o : Option X) (k : List ℕ) → k ≡ key (first + 2 * j) → option_map g o ≡ find k fs → true ≡ is_some o → j < n → Looks key f first n fs (j + 1)
look_more s g o k ek e et l = record { is = look_step s g o k ek e true et l }

pub look_stop : {key : ℕ → List ℕ} {f : ℕ → Value} {first n : ℕ} {fs : Entries} {j : ℕ} → Looks key f first n fs j → {X : Type 0} (g : X → Value) (o : Option X) (k : List ℕ) → k ≡ key (first + 2 * j) → option_map g o ≡ find k fs → false ≡ is_some o → j < n → false ≡ within (entries_from key f first n) fs
look_stop s g o k ek e et l = sym (look_step s g o k ek e false et l)

pub look_all : {key : ℕ → List ℕ} {f : ℕ → Value} {first n : ℕ} {fs : Entries} {j : ℕ} → Looks key f first n fs j → n ≤ j → true ≡ within (entries_from key f first n) fs
look_all {key} {f} {first} {n} {fs} {j} s l = sym (s.is ∙ ap (λ es. within es fs) (entries_all key f first n j l))

-- the walk over two arrays
pub record Pairs (v : ℕ → Value) (f n g m j : ℕ) : Type 0 where
  pub is : equal_items (items_from v f n) (items_from v g m) ≡ equal_items (items_left v f n j) (items_left v g m j)

pub pair_none : (v : ℕ → Value) (f n g m : ℕ) → Pairs v f n g m 0
pair_none v f n g m = record { is = ap₂ equal_items (sym (items_none v f n)) (sym (items_none v g m)) }

pair_step : {v : ℕ → Value} {f n g m j : ℕ} → Pairs v f n g m j → (t : Bool) → t ≡ equal (v (f + j)) (v (g + j)) → j < n → j < m → equal_items (items_from v f n) (items_from v g m) ≡ (t && equal_items (items_left v f n (j + 1)) (items_left v g m (j + 1)))
pair_step {v} {f} {n} {g} {m} {j} s t e ln lm =
    s.is ∙ ap₂ equal_items (items_more v f n j ln) (items_more v g m j lm) ∙ ap (λ b. b && equal_items (items_left v f n (j + 1)) (items_left v g m (j + 1))) (sym e)

pub pair_more : {v : ℕ → Value} {f n g m j : ℕ} → Pairs v f n g m j → true ≡ equal (v (f + j)) (v (g + j)) → j < n → j < m → Pairs v f n g m (j + 1)
pair_more s e ln lm = record { is = pair_step s true e ln lm }

pub pair_stop : {v : ℕ → Value} {f n g m j : ℕ} → Pairs v f n g m j → false ≡ equal (v (f + j)) (v (g + j)) → j < n → j < m → false ≡ equal_items (items_from v f n) (items_from v g m)
pair_stop s e ln lm = sym (pair_step s false e ln lm)

pub pair_all : {v : ℕ → Value} {f n g m j : ℕ} → Pairs v f n g m j → n ≤ j → m ≤ j → true ≡ equal_items (items_from v f n) (items_from v g m)
pair_all {v} {f} {n} {g} {m} {j} s ln lm = sym (s.is ∙ ap₂ equal_items (items_all v f n j ln) (items_all v g m j lm))

and_false : (b : Bool) → (b && false) ≡ false
and_false true = refl
and_false false = refl

pub pair_apart : (v : ℕ → Value) (f n g m : ℕ) → (n ≡ m → ⊥) → false ≡ equal_items (items_from v f n) (items_from v g m)
pair_apart v f zero g zero h = absurd (h refl)
pair_apart v f zero g (suc m) h = refl
pair_apart v f (suc n) g zero h = refl
pair_apart v f (suc n) g (suc m) h =
    sym (ap (λ b. equal (v f) (v g) && b) (sym (pair_apart v (f + 1) n (g + 1) m (λ e. h (ap suc e)))) ∙ and_false (equal (v f) (v g)))

-- the walk over the entries of one object, beside another
pub record Agrees (key : ℕ → List ℕ) (v : ℕ → Value) (f n : ℕ) (fs : Entries) (j : ℕ) : Type 0 where
  pub is : agrees (entries_from key v f n) empty fs ≡ agrees (entries_left key v f n j) (entries_from key v f j) fs

pub agree_none : (key : ℕ → List ℕ) (v : ℕ → Value) (f n : ℕ) (fs : Entries) → Agrees key v f n fs 0
agree_none key v f n fs = record { is = ap (λ es. agrees es empty fs) (sym (entries_none key v f n)) }

pub agree_all : {key : ℕ → List ℕ} {v : ℕ → Value} {f n : ℕ} {fs : Entries} {j : ℕ} → Agrees key v f n fs j → n ≤ j → true ≡ agrees (entries_from key v f n) empty fs
agree_all {key} {v} {f} {n} {fs} {j} s l = sym (s.is ∙ ap (λ es. agrees es (entries_from key v f j) fs) (entries_all key v f n j l))

-- whether the entry j passes: hidden, or found equal
pub passes : (key : ℕ → List ℕ) (v : ℕ → Value) (f j : ℕ) (fs : Entries) → Bool
passes key v f j fs = is_some (find (key (f + 2 * j)) (entries_from key v f j)) || found (find (key (f + 2 * j)) fs) (λ w. equal (v (f + 2 * j + 1)) w)

agree_step : {key : ℕ → List ℕ} {v : ℕ → Value} {f n : ℕ} {fs : Entries} {j : ℕ} → Agrees key v f n fs j → (t : Bool) → t ≡ passes key v f j fs → j < n → agrees (entries_from key v f n) empty fs ≡ (t && agrees (entries_left key v f n (j + 1)) (entries_from key v f (j + 1)) fs)
unfolding passes
agree_step {key} {v} {f} {n} {fs} {j} s t e l =
    s.is ∙ ap (λ es. agrees es (entries_from key v f j) fs) (entries_more key v f n j l)
    ∙ ap₂ (λ b d. b && agrees (entries_left key v f n (j + 1)) d fs) (sym e) (put_more key v f j)

pub agree_more : {key : ℕ → List ℕ} {v : ℕ → Value} {f n : ℕ} {fs : Entries} {j : ℕ} → Agrees key v f n fs j → true ≡ passes key v f j fs → j < n → Agrees key v f n fs (j + 1)
agree_more s e l = record { is = agree_step s true e l }

pub agree_stop : {key : ℕ → List ℕ} {v : ℕ → Value} {f n : ℕ} {fs : Entries} {j : ℕ} → Agrees key v f n fs j → false ≡ passes key v f j fs → j < n → false ≡ agrees (entries_from key v f n) empty fs
agree_stop s e l = sym (agree_step s false e l)

pub pass_hidden : (key : ℕ → List ℕ) (v : ℕ → Value) (f j : ℕ) (fs : Entries) (k : List ℕ) (o : Option ℕ) → k ≡ key (f + 2 * j) → option_map v o ≡ find k (entries_from key v f j) → is_some o ≡ true → true ≡ passes key v f j fs
unfolding passes
pass_hidden key v f j fs k o ek e t =
    sym (ap (λ b. b || found (find (key (f + 2 * j)) fs) (λ w. equal (v (f + 2 * j + 1)) w)) (ap (λ q. is_some (find q (entries_from key v f j))) (sym ek) ∙ ap is_some (sym e) ∙ some_mapped v o ∙ t))

-- the entry is not hidden, and `p` is what was found of it
pub pass_seen : (key : ℕ → List ℕ) (v : ℕ → Value) (f j : ℕ) (fs : Entries) (k : List ℕ) (o p : Option ℕ) → k ≡ key (f + 2 * j) → option_map v o ≡ find k (entries_from key v f j) → is_some o ≡ false → option_map v p ≡ find k fs → (t : Bool) → t ≡ found (option_map v p) (λ w. equal (v (f + 2 * j + 1)) w) → t ≡ passes key v f j fs
unfolding passes
pass_seen key v f j fs k o p ek e h d t et =
    et ∙ ap (λ x. found x (λ w. equal (v (f + 2 * j + 1)) w)) (d ∙ ap (λ q. find q fs) ek)
    ∙ sym (ap (λ b. b || found (find (key (f + 2 * j)) fs) (λ w. equal (v (f + 2 * j + 1)) w)) (ap (λ q. is_some (find q (entries_from key v f j))) (sym ek) ∙ ap is_some (sym e) ∙ some_mapped v o ∙ h))

pub and_goes : (x y r : Bool) → true ≡ x → r ≡ y → r ≡ (x && y)
and_goes x y r e h = h ∙ ap (λ b. b && y) e

pub and_stops : (x y r : Bool) → false ≡ x → r ≡ false → r ≡ (x && y)
and_stops x y r e h = h ∙ ap (λ b. b && y) e

-- what the code compares
pub booleans_same : (a b : Bool) → beq a b ≡ same_boolean a b
booleans_same true true = refl
booleans_same true false = refl
booleans_same false true = refl
booleans_same false false = refl

pub wholes_same : (a b : ℤ) → SFits w64 a → SFits w64 b → eqb (of_z w64 a) (of_z w64 b) ≡ same_whole a b
wholes_same a b p q = search rules

-- the values of two records of a tray, by the records that stand there
pub pair_is : (t : Tray) (a b : ℕ) (r s : Record) → r ≡ at (vec_items t.records) a → s ≡ at (vec_items t.records) b → equal (shape t.text.now (text_at t) (value_of t) r) (shape t.text.now (text_at t) (value_of t) s) ≡ equal (value_of t a) (value_of t b)
pair_is t a b r s e f = sym (both (vec_items t.records) t.text.now a b r s t.behind e f)
