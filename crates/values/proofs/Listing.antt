-- Rows over records, as lists.
use Rattle.std.proofs.Common.{◌≡◌, ℕ, zero, suc, ◌+◌, ◌-◌, ◌*◌, ◌<◌, ◌≤◌, Bool, true, false, cond, List, [], map, length, Some, None, Option, sym, refl, ap, ◌∙◌, subst, mul-zero, mul-suc, arith}
use Rattle.std.specs.List.{slice_get}
use Rattle.std.specs.Option.{option_map}
use Rattle.std.proofs.lemmas.Bool.{false≢true}
use Rattle.tray.specs.declared.records.Span.{Span}
use Rattle.tray.specs.declared.records.Record.{Record}
use Rattle.tray.specs.declared.records.Record.TheVariants.{Nil, Boolean, Whole, Text, Array, Object}
use Rattle.tray.specs.Parts.{key_of, same_text}
use Rattle.tray.specs.Sound.{at, Behind, KeysText, is_text}
use Rattle.values.specs.Value.{Value, text, find}
use Rattle.values.specs.Meaning.{items_from, entries_from, shape, key_at, value_at}
use Rattle.values.specs.Numbers.{entry_number}
use Rattle.values.specs.RowsOf.{stepping, listed, paired, pairs_listed, items_of, pairs_of, items_row, pairs_row}
use Rattle.values.proofs.Unfolds.{stands}

pub length_stepping : (i d n : ℕ) → length (stepping i d n) ≡ n
length_stepping i d zero = refl
length_stepping i d (suc n) = ap suc (length_stepping (i + d) d n)

pub nth_stepping : (i d n k : ℕ) → k < n → slice_get (stepping i d n) k ≡ Some (i + d * k)
nth_stepping i d zero k l = absurd (omega arith)
nth_stepping i d (suc n) zero l = ap Some (let e : i ≡ i + d * 0 = omega (arith, mul-zero d) in e)
nth_stepping i d (suc n) (suc k) l = nth_stepping (i + d) d n k (omega arith) ∙ ap Some (let e : i + d + d * k ≡ i + d * suc k = omega (arith, mul-suc d k) in e)

pub nth_past : (i d n k : ℕ) → n ≤ k → slice_get (stepping i d n) k ≡ None
nth_past i d zero k l = refl
nth_past i d (suc n) zero l = absurd (omega arith)
nth_past i d (suc n) (suc k) l = nth_past (i + d) d n k (omega arith)

-- the values of a run of items
items_listed : (f : ℕ → Value) (i n : ℕ) → map f (stepping i 1 n) ≡ listed (items_from f i n)
items_listed f i zero = refl
items_listed f i (suc n) = let b = items_listed f (i + 1) n in cc

-- the pairs of a run of entries whose keys are texts
entries_listed : (key : ℕ → List ℕ) (f : ℕ → Value) (i n : ℕ) → ((j : ℕ) → j < n → f (i + 2 * j) ≡ text (key (i + 2 * j))) → map (λ c. paired (f c) (f (c + 1))) (stepping i 2 n) ≡ pairs_listed (entries_from key f i n)
entries_listed key f i zero t = refl
entries_listed key f i (suc n) t =
    let k : f i ≡ text (key i) = subst (λ x. f x ≡ text (key x)) (let z : i + 2 * 0 ≡ i = omega arith in z) (t 0 (omega arith)) in
    let a : paired (f i) (f (i + 1)) ≡ paired (text (key i)) (f (i + 1)) = ap (λ x. paired x (f (i + 1))) k in
    let b = entries_listed key f (i + 2) n (λ j l. subst (λ x. f x ≡ text (key x)) (let z : i + 2 * suc j ≡ i + 2 + 2 * j = omega arith in z) (t (suc j) (omega arith))) in
    cc

-- a key's record is a text
pub key_text_lem : (rs : List Record) (tx : List ℕ) → Behind rs → (c : ℕ) → is_text (at rs c) ≡ true → value_at rs tx c ≡ text (key_at rs tx c)
key_text_lem rs tx b c t = stands rs tx c (at rs c) b refl ∙ go (at rs c) t
  where
    go : (r : Record) → is_text r ≡ true → shape tx (key_at rs tx) (value_at rs tx) r ≡ text (key_of tx r)
    go Nil e = absurd (false≢true e)
    go (Boolean x) e = absurd (false≢true e)
    go (Whole z) e = absurd (false≢true e)
    go (Text s) e = refl
    go (Array s) e = absurd (false≢true e)
    go (Object s) e = absurd (false≢true e)

module _ (rs : List Record) (tx : List ℕ) (b : Behind rs) (i : ℕ) where
  pub nil_row : Nil ≡ at rs i → Some [] ≡ items_of (value_at rs tx i)
  nil_row e = sym (ap items_of (stands rs tx i Nil b e))

  pub array_row : (s : Span) → Array s ≡ at rs i → Some (map (value_at rs tx) (stepping s.first 1 s.count)) ≡ items_of (value_at rs tx i)
  array_row s e = ap Some (items_listed (value_at rs tx) s.first s.count) ∙ sym (ap items_of (stands rs tx i (Array s) b e))

  pub object_row : KeysText rs → (s : Span) → Object s ≡ at rs i → Some (map (λ c. paired (value_at rs tx c) (value_at rs tx (c + 1))) (stepping s.first 2 s.count)) ≡ pairs_of (value_at rs tx i)
  object_row keys s e =
      ap Some (entries_listed (key_at rs tx) (value_at rs tx) s.first s.count (λ j l. key_text_lem rs tx b (s.first + 2 * j) (keys (s.first + 2 * j) (record { h = i; s = s; j = j; is = sym e; below = l; place = refl }))))
      ∙ sym (ap pairs_of (stands rs tx i (Object s) b e))

  pub no_items : (r : Record) → r ≡ at rs i → (r ≡ Nil → ⊥) → ((s : Span) → r ≡ Array s → ⊥) → None ≡ items_of (value_at rs tx i)
  no_items r e x y = go r x y ∙ sym (ap items_of (stands rs tx i r b e))
    where
      go : (r : Record) → (r ≡ Nil → ⊥) → ((s : Span) → r ≡ Array s → ⊥) → None ≡ items_of (shape tx (key_at rs tx) (value_at rs tx) r)
      go Nil x y = absurd (x refl)
      go (Boolean z) x y = refl
      go (Whole z) x y = refl
      go (Text s) x y = refl
      go (Array s) x y = absurd (y s refl)
      go (Object s) x y = refl

  pub no_pairs : (r : Record) → r ≡ at rs i → ((s : Span) → r ≡ Object s → ⊥) → None ≡ pairs_of (value_at rs tx i)
  no_pairs r e y = go r y ∙ sym (ap pairs_of (stands rs tx i r b e))
    where
      go : (r : Record) → ((s : Span) → r ≡ Object s → ⊥) → None ≡ pairs_of (shape tx (key_at rs tx) (value_at rs tx) r)
      go Nil y = refl
      go (Boolean z) y = refl
      go (Whole z) y = refl
      go (Text s) y = refl
      go (Array s) y = refl
      go (Object s) y = absurd (y s refl)

-- the number of the value, from the entry j on
pub number_none : (key : ℕ → List ℕ) (q : List ℕ) (first n : ℕ) → entry_number key q first n ≡ entry_number key q (first + 2 * 0) (n - 0)
number_none key q first n = let p : first + 2 * 0 ≡ first = omega arith in let r : n - 0 ≡ n = omega arith in rw (p, r)

number_at : (key : ℕ → List ℕ) (q : List ℕ) (first n j : ℕ) (b : Bool) → j < n → same_text q (key (first + 2 * j)) ≡ b → entry_number key q (first + 2 * j) (n - j) ≡ cond b (Some (first + 2 * j + 1)) (entry_number key q (first + 2 * (j + 1)) (n - (j + 1)))
number_at key q first n j b l e =
    let p : n - j ≡ suc (n - (j + 1)) = omega arith in
    let r : first + 2 * (j + 1) ≡ first + 2 * j + 2 = omega arith in
    rw (p, r, ← e)

pub number_here : (key : ℕ → List ℕ) (q : List ℕ) (first n j : ℕ) → j < n → same_text q (key (first + 2 * j)) ≡ true → entry_number key q (first + 2 * j) (n - j) ≡ Some (first + 2 * j + 1)
number_here key q first n j l e = number_at key q first n j true l e

pub number_more : (key : ℕ → List ℕ) (q : List ℕ) (first n j : ℕ) → j < n → same_text q (key (first + 2 * j)) ≡ false → entry_number key q (first + 2 * j) (n - j) ≡ entry_number key q (first + 2 * (j + 1)) (n - (j + 1))
number_more key q first n j l e = number_at key q first n j false l e

pub number_all : (key : ℕ → List ℕ) (q : List ℕ) (first n j : ℕ) → n ≤ j → entry_number key q (first + 2 * j) (n - j) ≡ None
number_all key q first n j l = let r : n - j ≡ 0 = omega arith in rw r

-- and by that value
pub number_value : (q : List ℕ) (key : ℕ → List ℕ) (f : ℕ → Value) (i n : ℕ) → option_map f (entry_number key q i n) ≡ find q (entries_from key f i n)
number_value q key f i zero = refl
number_value q key f i (suc n) = both (same_text q (key i)) (entry_number key q (i + 2) n) (number_value q key f (i + 2) n)
  where
    both : (b : Bool) (o : Option ℕ) {y : Option Value} → option_map f o ≡ y → option_map f (cond b (Some (i + 1)) o) ≡ cond b (Some (f (i + 1))) y
    both true o t = refl
    both false o t = t

-- no other record is a row
pub no_items_row : (r : Record) → (r ≡ Nil → ⊥) → ((s : Span) → r ≡ Array s → ⊥) → None ≡ items_row r
no_items_row Nil x y = absurd (x refl)
no_items_row (Boolean b) x y = refl
no_items_row (Whole z) x y = refl
no_items_row (Text s) x y = refl
no_items_row (Array s) x y = absurd (y s refl)
no_items_row (Object s) x y = refl

pub no_pairs_row : (r : Record) → ((s : Span) → r ≡ Object s → ⊥) → None ≡ pairs_row r
no_pairs_row Nil y = refl
no_pairs_row (Boolean b) y = refl
no_pairs_row (Whole z) y = refl
no_pairs_row (Text s) y = refl
no_pairs_row (Array s) y = refl
no_pairs_row (Object s) y = absurd (y s refl)
