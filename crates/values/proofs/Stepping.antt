-- Steps into what records hold.
use Rattle.std.proofs.Common.{◌≡◌, ℕ, zero, suc, ◌+◌, ◌-◌, ◌<◌, ◌≤◌, Bool, true, false, cond, ltb, List, ℤ, pos, negsuc, Some, None, codes, Option, sym, refl, ap, ◌∙◌, ⊎_elim, arith}
use Rattle.std.specs.Option.{option_map}
use Rattle.std.proofs.lemmas.Bool.{cases_Bool, cond-true, cond-false, ltb-true, ltb-false}
use Rattle.tray.specs.declared.records.Span.{Span}
use Rattle.tray.specs.declared.records.Record.{Record}
use Rattle.tray.specs.declared.records.Record.TheVariants.{Nil, Boolean, Whole, Text, Array, Object}
use Rattle.tray.specs.Parts.{same_text}
use Rattle.values.specs.Value.{Value, whole}
use Rattle.tray.specs.Sound.{at, Behind}
use Rattle.values.specs.Meaning.{items_from, entries_from, shape, key_at, value_at}
use Rattle.values.proofs.Unfolds.{stands}
use Rattle.values.specs.Steps.{Step, number, name, item_count, entry_count, item_at, indexed, item_named, into_items, sized, or_else, keyed, member, step_text, stepped}
use Rattle.values.specs.Numbers.{place_of, entry_number, member_number, item_found, item_named_found, among_items, among_entries, or_size, followed}
use Rattle.values.proofs.Listing.{number_value}
use Rattle.values.specs.Found.{found_by}
use Rattle.values.specs.declared.steps.Found.{Found}
use Rattle.values.specs.declared.steps.Found.TheVariants as found

pub count_items : (f : ℕ → Value) (i n : ℕ) → item_count (items_from f i n) ≡ n
count_items f i zero = refl
count_items f i (suc n) = ap suc (count_items f (i + 1) n)

pub count_entries : (key : ℕ → List ℕ) (f : ℕ → Value) (i n : ℕ) → entry_count (entries_from key f i n) ≡ n
count_entries key f i zero = refl
count_entries key f i (suc n) = ap suc (count_entries key f (i + 2) n)

item_there : (f : ℕ → Value) (i n k : ℕ) → k < n → item_at (items_from f i n) k ≡ Some (f (i + k))
item_there f i zero k l = absurd (omega arith)
item_there f i (suc n) zero l = ap (λ x. Some (f x)) (let e : i ≡ i + 0 = omega arith in e)
item_there f i (suc n) (suc k) l = item_there f (i + 1) n k (omega arith) ∙ ap (λ x. Some (f x)) (let e : i + 1 + k ≡ i + suc k = omega arith in e)

item_past : (f : ℕ → Value) (i n k : ℕ) → n ≤ k → item_at (items_from f i n) k ≡ None
item_past f i zero k l = refl
item_past f i (suc n) zero l = absurd (omega arith)
item_past f i (suc n) (suc k) l = item_past f (i + 1) n k (omega arith)

-- an index is the item at its place
at_place : (f : ℕ → Value) (i n : ℕ) (z : ℤ) → indexed (items_from f i n) z ≡ option_map (λ k. f (i + k)) (place_of n z)
at_place f i n (pos k) =
    ⊎_elim (λ t. item_there f i n k (ltb-true k n t) ∙ sym (ap (option_map (λ k. f (i + k))) (cond-true (ltb k n) (Some k) None t)))
    (λ t. item_past f i n k (ltb-false k n t) ∙ sym (ap (option_map (λ k. f (i + k))) (cond-false (ltb k n) (Some k) None t))) (cases_Bool (ltb k n))
at_place f i n (negsuc k) =
    ap (λ m. cond (ltb k m) (item_at (items_from f i n) (m - suc k)) None) (count_items f i n)
    ∙ ⊎_elim
    (λ t.
    cond-true (ltb k n) (item_at (items_from f i n) (n - suc k)) None t ∙ item_there f i n (n - suc k) (omega (arith, ltb-true k n t))
    ∙ sym (ap (option_map (λ k. f (i + k))) (cond-true (ltb k n) (Some (n - suc k)) None t)))
    (λ t. cond-false (ltb k n) (item_at (items_from f i n) (n - suc k)) None t ∙ sym (ap (option_map (λ k. f (i + k))) (cond-false (ltb k n) (Some (n - suc k)) None t)))
    (cases_Bool (ltb k n))

pub index_some : (f : ℕ → Value) (i n : ℕ) (z : ℤ) (k : ℕ) → Some k ≡ place_of n z → Some (f (i + k)) ≡ indexed (items_from f i n) z
index_some f i n z k e = ap (option_map (λ k. f (i + k))) e ∙ sym (at_place f i n z)

pub index_none : (f : ℕ → Value) (i n : ℕ) (z : ℤ) → None ≡ place_of n z → None ≡ indexed (items_from f i n) z
index_none f i n z e = ap (option_map (λ k. f (i + k))) e ∙ sym (at_place f i n z)

-- what is found among items and entries is what the trees say
mapped_twice : {X Y Z : Type 0} (g : Y → Z) (h : X → Y) (o : Option X) → option_map g (option_map h o) ≡ option_map (λ x. g (h x)) o
mapped_twice g h None = refl
mapped_twice g h (Some x) = refl

item_means : (f : ℕ → Value) (i n : ℕ) (z : ℤ) → option_map (found_by f) (item_found i n z) ≡ indexed (items_from f i n) z
item_means f i n z = mapped_twice (found_by f) (λ k. found.Record (i + k)) (place_of n z) ∙ sym (at_place f i n z)

cond_means : {X Y : Type 0} (g : X → Y) (b : Bool) (o p : Option X) (x y : Option Y) → option_map g o ≡ x → option_map g p ≡ y → option_map g (cond b o p) ≡ cond b x y
cond_means g true o p x y s t = s
cond_means g false o p x y s t = t

size_means : (f : ℕ → Value) (b : Bool) (n m : ℕ) → n ≡ m → option_map (found_by f) (cond b (Some (found.Size n)) None) ≡ cond b (sized m) None
size_means f b n m e = cond_means (found_by f) b (Some (found.Size n)) None (sized m) None (ap (λ k. Some (whole (pos k))) e) refl

named_means : (f : ℕ → Value) (i n : ℕ) (k : List ℕ) → option_map (found_by f) (item_named_found i n k) ≡ item_named (items_from f i n) k
named_means f i n k =
    cond_means (found_by f) (same_text k (codes "first")) _ _ _ _ (item_means f i n (pos 0))
    (cond_means (found_by f) (same_text k (codes "last")) _ _ _ _ (item_means f i n (negsuc 0)) (size_means f (same_text k (codes "size")) n _ (sym (count_items f i n))))

items_mean : (f : ℕ → Value) (i n : ℕ) (s : Step) → option_map (found_by f) (among_items i n s) ≡ into_items (items_from f i n) s
items_mean f i n (number z) = item_means f i n z
items_mean f i n (name k) = named_means f i n k

or_size_means : (f : ℕ → Value) (o : Option ℕ) (n m : ℕ) (k : List ℕ) → n ≡ m → option_map (found_by f) (or_size o n k) ≡ or_else (option_map f o) (cond (same_text k (codes "size")) (sized m) None)
or_size_means f None n m k e = size_means f (same_text k (codes "size")) n m e
or_size_means f (Some i) n m k e = refl

entries_mean : (key : ℕ → List ℕ) (f : ℕ → Value) (i n : ℕ) (k : List ℕ) → option_map (found_by f) (among_entries key i n k) ≡ keyed (entries_from key f i n) k
entries_mean key f i n k =
    or_size_means f (entry_number key k i n) n _ k (sym (count_entries key f i n))
    ∙ ap (λ o. or_else o (cond (same_text k (codes "size")) (sized (entry_count (entries_from key f i n))) None)) (number_value k key f i n)

follows_value : (tx : List ℕ) (key : ℕ → List ℕ) (f : ℕ → Value) (r : Record) (s : Step) → option_map (found_by f) (followed key r s) ≡ stepped (shape tx key f r) s
follows_value tx key f Nil s = refl
follows_value tx key f (Boolean b) s = refl
follows_value tx key f (Whole z) s = refl
follows_value tx key f (Text r) s = refl
follows_value tx key f (Array r) s = items_mean f r.first r.count s
follows_value tx key f (Object r) s = entries_mean key f r.first r.count (step_text s)

member_value : (tx : List ℕ) (key : ℕ → List ℕ) (f : ℕ → Value) (r : Record) (k : List ℕ) → option_map f (member_number key r k) ≡ member (shape tx key f r) k
member_value tx key f Nil k = refl
member_value tx key f (Boolean b) k = refl
member_value tx key f (Whole z) k = refl
member_value tx key f (Text i) k = refl
member_value tx key f (Array i) k = refl
member_value tx key f (Object s) k = number_value k key f s.first s.count

-- no other record has members, or steps
pub no_number : (key : ℕ → List ℕ) (r : Record) (k : List ℕ) → ((i : Span) → r ≡ Object i → ⊥) → None ≡ member_number key r k
no_number key Nil k o = refl
no_number key (Boolean b) k o = refl
no_number key (Whole z) k o = refl
no_number key (Text i) k o = refl
no_number key (Array i) k o = refl
no_number key (Object i) k o = absurd (o i refl)

pub no_step : (key : ℕ → List ℕ) (r : Record) (s : Step) → ((i : Span) → r ≡ Array i → ⊥) → ((i : Span) → r ≡ Object i → ⊥) → None ≡ followed key r s
no_step key Nil s a o = refl
no_step key (Boolean b) s a o = refl
no_step key (Whole z) s a o = refl
no_step key (Text i) s a o = refl
no_step key (Array i) s a o = absurd (a i refl)
no_step key (Object i) s a o = absurd (o i refl)

module _ (rs : List Record) (tx : List ℕ) (b : Behind rs) (i : ℕ) where
  -- the number of a record tells its value
  pub member_so : (k : List ℕ) (o : Option ℕ) → o ≡ member_number (key_at rs tx) (at rs i) k → option_map (value_at rs tx) o ≡ member (value_at rs tx i) k
  member_so k o e =
      ap (option_map (value_at rs tx)) e ∙ member_value tx (key_at rs tx) (value_at rs tx) (at rs i) k ∙ sym (ap (λ v. member v k) (stands rs tx i (at rs i) b refl))

  pub follow_so : (s : Step) (o : Option Found) → o ≡ followed (key_at rs tx) (at rs i) s → option_map (found_by (value_at rs tx)) o ≡ stepped (value_at rs tx i) s
  follow_so s o e =
      ap (option_map (found_by (value_at rs tx))) e ∙ follows_value tx (key_at rs tx) (value_at rs tx) (at rs i) s ∙ sym (ap (λ v. stepped v s) (stands rs tx i (at rs i) b refl))
