-- The text of a record: its own, and then that of each record that it holds.
use Rattle.std.proofs.Common.{◌≡◌, ℕ, zero, suc, ◌+◌, ◌-◌, ◌*◌, ◌<◌, ◌≤◌, List, [], ◌++◌, length, vec_items, sym, refl, ap, ◌∙◌, arith}
use Rattle.std.proofs.lemmas.List.{append-nil}
use Rattle.tray.specs.declared.records.Record.{Record}
use Rattle.tray.specs.declared.records.Record.TheVariants.{Nil, Boolean, Whole, Text, Array, Object}
use Rattle.tray.specs.declared.trays.Tray.{Tray}
use Rattle.tray.specs.Records.{record_of}
use Rattle.tray.specs.Sound.{at, first_of, width_of, Holds, Behind, KeysText}
use Rattle.values.specs.Value.{Value, none, item, text, written, written_items, written_entries}
use Rattle.texts.specs.Laws.{ArrayTextJoined}
use Rattle.values.specs.Meaning.{items_from, entries_from, shape, key_at, value_at, value_of}
use Rattle.texts.specs.Written.{leaf_text}
use Rattle.values.proofs.Unfolds.{stands}
use Rattle.values.proofs.Listing.{key_text_lem}

-- the texts of n records from the record i on
abbrev pub written_all : (ℕ → Value) → ℕ → ℕ → List ℕ
written_all f i zero = []
written_all f i (suc n) = written (f i) ++ written_all f (i + 1) n

items_written : (f : ℕ → Value) (i n : ℕ) → written_items (items_from f i n) ≡ written_all f i n
items_written f i zero = refl
items_written f i (suc n) = ap (λ t. written (f i) ++ t) (items_written f (i + 1) n)

-- a key is the text of its record
entries_written : (key : ℕ → List ℕ) (f : ℕ → Value) (i n m : ℕ) → m ≡ 2 * n → ((j : ℕ) → j < n → f (i + 2 * j) ≡ text (key (i + 2 * j))) → written_entries (entries_from key f i n) ≡ written_all f i m
entries_written key f i zero zero e t = refl
entries_written key f i zero (suc m) e t = absurd (omega arith)
entries_written key f i (suc n) zero e t = absurd (omega arith)
entries_written key f i (suc n) (suc zero) e t = absurd (omega arith)
entries_written key f i (suc n) (suc (suc m)) e t =
    let here : i + 2 * 0 ≡ i = omega arith in
    let k : f i ≡ text (key i) = rw here at (t 0 (omega arith)) in
    let on = entries_written key f (i + 1 + 1) n m (omega arith) (λ j l. let p : i + 2 * suc j ≡ i + 1 + 1 + 2 * j = omega arith in rw p at (t (suc j) (omega arith))) in
    let two : i + 2 ≡ i + 1 + 1 = omega arith in
    ap (λ v. written v ++ (written (f (i + 1)) ++ written_entries (entries_from key f (i + 2) n))) (sym k)
    ∙ ap (λ t. written (f i) ++ (written (f (i + 1)) ++ t)) (ap (λ a. written_entries (entries_from key f a n)) two ∙ on)

module _ (rs : List Record) (tx : List ℕ) (b : Behind rs) (keys : KeysText rs) (i : ℕ) where
  own : (r : Record) → r ≡ at rs i → written (shape tx (key_at rs tx) (value_at rs tx) r) ≡ leaf_text tx r ++ written_all (value_at rs tx) (first_of r) (width_of r)
  own Nil e = refl
  own (Boolean x) e = sym (append-nil _)
  own (Whole z) e = sym (append-nil _)
  own (Text s) e = sym (append-nil _)
  own (Array s) e = items_written (value_at rs tx) s.first s.count
  own (Object s) e =
      entries_written (key_at rs tx) (value_at rs tx) s.first s.count (2 * s.count) refl
      (λ j l. key_text_lem rs tx b (s.first + 2 * j) (keys (s.first + 2 * j) (record { h = i; s = s; j = j; is = sym e; below = l; place = refl })))

  written_is : (r : Record) → r ≡ at rs i → (first stop : ℕ) → first ≡ first_of r → stop ≡ first_of r + width_of r → written (value_at rs tx i) ≡ leaf_text tx (at rs i) ++ written_all (value_at rs tx) first (stop - first)
  written_is r e first stop ef es =
      let w : width_of r ≡ stop - first = omega arith in
      ap written (stands rs tx i r b e) ∙ own r e ∙ ap (λ x. leaf_text tx x ++ written_all (value_at rs tx) (first_of r) (width_of r)) e
      ∙ ap (λ k. leaf_text tx (at rs i) ++ written_all (value_at rs tx) k (width_of r)) (sym ef)
      ∙ ap (λ n. leaf_text tx (at rs i) ++ written_all (value_at rs tx) first n) w

-- the text of record i of a tray, where the record was read
pub text_is : (t : Tray) (i : ℕ) (r : Record) → r ≡ record_of t i → (first stop : ℕ) → first ≡ first_of r → stop ≡ first_of r + width_of r → written (value_of t i) ≡ leaf_text t.text.now (record_of t i) ++ written_all (value_of t) first (stop - first)
text_is t i r e = written_is (vec_items t.records) t.text.now t.behind t.keys i r e

-- what a record holds stands behind it and is there
pub held_lies : (t : Tray) (i c : ℕ) (r : Record) → r ≡ record_of t i → first_of r ≤ c → c < first_of r + width_of r → (i < c) × (c < length (vec_items t.records))
held_lies t i c r e lo hi =
    let f = ap first_of e in
    let w = ap width_of e in
    let h : Holds (vec_items t.records) i c = record { low = omega arith; high = omega arith } in
    (t.behind i c h, t.inside i c h)

-- a walk over the records from `first` up to `last` has come to c, and goes on to `stop`
pub record Walking (first last c stop : ℕ) : Type 0 where
  pub low : first ≤ c
  pub high : stop ≡ last

-- what is to come of the records before `stop`
pub all_more : (f : ℕ → Value) (c stop : ℕ) → c < stop → written_all f c (stop - c) ≡ written (f c) ++ written_all f (c + 1) (stop - (c + 1))
all_more f c stop l = let p : stop - c ≡ suc (stop - (c + 1)) = omega arith in rw p

pub all_done : (f : ℕ → Value) (c stop : ℕ) → stop ≤ c → written_all f c (stop - c) ≡ []
all_done f c stop l = let p : stop - c ≡ 0 = omega arith in rw p

-- the text of a record that holds no other
pub alone : (t : Tray) (i : ℕ) (r : Record) → r ≡ record_of t i → (first stop : ℕ) → first ≡ first_of r → stop ≡ first_of r + width_of r → stop ≤ first → written (value_of t i) ≡ leaf_text t.text.now (record_of t i)
alone t i r e first stop ef es l =
    text_is t i r e first stop ef es ∙ ap (λ ds. leaf_text t.text.now (record_of t i) ++ ds) (all_done (value_of t) first stop l) ∙ append-nil _

-- the text of an array
pub array_text_joined : ArrayTextJoined
array_text_joined none = refl
array_text_joined (item v vs) = ap (λ t. written v ++ t) (array_text_joined vs)
