-- Steps and rows on records are those on the trees of values.
use Rattle.std.proofs.Common.{◌≡◌, ℕ, zero, suc, ◌+◌, Bool, true, false, cond, ltb, List, [], ◌∷◌, map, length, ℤ, pos, negsuc, Some, None, codes, Option, sym, refl, ap, ap₂, ◌∙◌, arith}
use Rattle.std.specs.Option.{option_map, option_or}
use Rattle.tray.specs.declared.records.Record.{Record}
use Rattle.tray.specs.declared.records.Record.TheVariants.{Nil, Boolean, Whole, Text, Array, Object}
use Rattle.tray.specs.Parts.{same_text}
use Rattle.tray.specs.Sound.{at, Behind, KeysText}
use Rattle.values.specs.Value.{Value, find}
use Rattle.values.specs.Numbers.{place_of}
use Rattle.values.specs.Meaning.{items_from, entries_from, shape, key_at, value_at}
use Rattle.values.specs.RowsOf.{stepping, paired, items_of, pairs_of}
use Rattle.values.specs.Steps.{indexed, into_items, sized, or_else, keyed, step_text, stepped as tree_stepped}
use Rattle.values.proofs.Unfolds.{unfolds, stands}
use Rattle.values.proofs.Stepping.{count_items, count_entries, index_some, index_none}
use Rattle.values.proofs.Listing.{array_row, object_row}
use Rattle.tree.specs.Expressions.{Step, index, key}
use Rattle.meaning.specs.Things.{Held, nil, boolean, whole, text, array, object, pair}
use Rattle.meaning.specs.Hosts.{Host, value_of, kept_record, record_at, if_array, if_object, if_pair, read_again, item_at, step_into_items, entry_of, key_of, step_into_entries, step_into_record, stepped}
use Rattle.meaning.specs.Rows.{record_row, row}
use Rattle.meaning.specs.Reading.{tree_step, tree_row, StepsAgree, RowsAgree, ReadAgainIsThere}

-- a list seen through g, and then h
mapped : {X : Type 0} (g : ℕ → X) (h : X → Value) (f : ℕ → Value) → ((i : ℕ) → h (g i) ≡ f i) → (xs : List ℕ) → map h (map g xs) ≡ map f xs
mapped g h f e [] = refl
mapped g h f e (x ∷ xs) = ap₂ (λ v vs. v ∷ vs) (e x) (mapped g h f e xs)

mapped_cond : {A B : Type 0} (f : A → B) (b : Bool) (x y : Option A) {u v : Option B} → option_map f x ≡ u → option_map f y ≡ v → option_map f (cond b x y) ≡ cond b u v
mapped_cond f true x y p q = p
mapped_cond f false x y p q = q

module _ (h : Host) (b : Behind h.records) where
  abbrev valued : ℕ → Value
  valued i = value_at h.records h.letters i

  abbrev keys : ℕ → List ℕ
  keys i = key_at h.records h.letters i

  -- the value of a record that is kept
  record_value : (i : ℕ) → value_of h (record_at h i) ≡ valued i
  record_value i = go (at h.records i) refl
    where
      go : (r : Record) → r ≡ at h.records i → value_of h (kept_record h i r) ≡ valued i
      go Nil e = sym (stands h.records h.letters i Nil b e)
      go (Boolean x) e = sym (stands h.records h.letters i (Boolean x) b e)
      go (Whole z) e = sym (stands h.records h.letters i (Whole z) b e)
      go (Text s) e = sym (stands h.records h.letters i (Text s) b e)
      go (Array s) e = refl
      go (Object s) e = refl

  item_agrees : (f n : ℕ) (z : ℤ) → option_map (value_of h) (item_at h f n z) ≡ indexed (items_from valued f n) z
  item_agrees f n z = go (place_of n z) refl
    where
      go : (o : Option ℕ) → o ≡ place_of n z → option_map (value_of h) (option_map (λ k. record_at h (f + k)) o) ≡ indexed (items_from valued f n) z
      go None e = index_none valued f n z e
      go (Some k) e = ap Some (record_value (f + k)) ∙ index_some valued f n z k e

  items_agree : (f n : ℕ) (s : Step) → option_map (value_of h) (step_into_items h f n s) ≡ into_items (items_from valued f n) (tree_step s)
  items_agree f n (index z) = item_agrees f n z
  items_agree f n (key k) =
      mapped_cond (value_of h) (same_text k (codes "first")) _ _ (item_agrees f n (pos 0))
      (mapped_cond (value_of h) (same_text k (codes "last")) _ _ (item_agrees f n (negsuc 0))
      (mapped_cond (value_of h) (same_text k (codes "size")) (Some (whole (pos n))) None (ap sized (sym (count_items valued f n))) refl))

  entry_agrees : (f n : ℕ) (k : List ℕ) → option_map (value_of h) (entry_of h f n k) ≡ find k (entries_from keys valued f n)
  entry_agrees f zero k = refl
  entry_agrees f (suc n) k =
      mapped_cond (value_of h) (same_text k (keys f)) (Some (record_at h (f + 1))) (entry_of h (f + 2) n k) (ap Some (record_value (f + 1))) (entry_agrees (f + 2) n k)

  or_agrees : (x y : Option Held) {u v : Option Value} → option_map (value_of h) x ≡ u → option_map (value_of h) y ≡ v → option_map (value_of h) (option_or x y) ≡ or_else u v
  or_agrees None y {u} {v} p q = q ∙ ap (λ o. or_else o v) p
  or_agrees (Some x) y {u} {v} p q = ap (λ o. or_else o v) p

  entries_agree : (f n : ℕ) (k : List ℕ) → option_map (value_of h) (step_into_entries h f n k) ≡ keyed (entries_from keys valued f n) k
  entries_agree f n k =
      or_agrees (entry_of h f n k) (cond (same_text k (codes "size")) (Some (whole (pos n))) None) (entry_agrees f n k)
      (mapped_cond (value_of h) (same_text k (codes "size")) (Some (whole (pos n))) None (ap sized (sym (count_entries keys valued f n))) refl)

  key_agrees : (s : Step) → key_of h s ≡ step_text (tree_step s)
  key_agrees (index z) = refl
  key_agrees (key k) = refl

  record_agrees : (r : Record) (s : Step) → option_map (value_of h) (step_into_record h r s) ≡ tree_stepped (shape h.letters keys valued r) (tree_step s)
  record_agrees Nil s = refl
  record_agrees (Boolean x) s = refl
  record_agrees (Whole z) s = refl
  record_agrees (Text r) s = refl
  record_agrees (Array r) s = items_agree r.first r.count s
  record_agrees (Object r) s = entries_agree r.first r.count (key_of h s) ∙ ap (keyed (entries_from keys valued r.first r.count)) (key_agrees s)

  at_agrees : (i : ℕ) (s : Step) → option_map (value_of h) (step_into_record h (at h.records i) s) ≡ tree_stepped (valued i) (tree_step s)
  at_agrees i s = record_agrees (at h.records i) s ∙ ap (λ v. tree_stepped v (tree_step s)) (sym (unfolds h.records h.letters b i))

  steps : (v : Held) (s : Step) → option_map (value_of h) (stepped h v s) ≡ tree_stepped (value_of h v) (tree_step s)
  steps nil s = refl
  steps (boolean x) s = refl
  steps (whole z) s = refl
  steps (text t) s = refl
  steps (array i) s = at_agrees i s
  steps (object i) s = at_agrees i s
  steps (pair i) s = items_agree i 2 s

  module _ (kt : KeysText h.records) (i : ℕ) where
    array_agrees : (r : Record) → r ≡ at h.records i → if_array h i r ≡ array i → option_map (map (value_of h)) (record_row h r) ≡ tree_row (valued i)
    array_agrees Nil e q = let z : ◌≡◌ {A = ℕ} 0 1 = cc in absurd (omega arith)
    array_agrees (Boolean x) e q = let z : ◌≡◌ {A = ℕ} 0 1 = cc in absurd (omega arith)
    array_agrees (Whole x) e q = let z : ◌≡◌ {A = ℕ} 0 1 = cc in absurd (omega arith)
    array_agrees (Text s) e q = let z : ◌≡◌ {A = ℕ} 0 1 = cc in absurd (omega arith)
    array_agrees (Array s) e q =
        ap (λ o. option_or o (pairs_of (valued i))) (ap Some (mapped (record_at h) (value_of h) valued record_value (stepping s.first 1 s.count)) ∙ array_row h.records h.letters b i s e)
    array_agrees (Object s) e q = let z : ◌≡◌ {A = ℕ} 0 1 = cc in absurd (omega arith)

    object_agrees : (r : Record) → r ≡ at h.records i → if_object h i r ≡ object i → option_map (map (value_of h)) (record_row h r) ≡ tree_row (valued i)
    object_agrees Nil e q = let z : ◌≡◌ {A = ℕ} 0 1 = cc in absurd (omega arith)
    object_agrees (Boolean x) e q = let z : ◌≡◌ {A = ℕ} 0 1 = cc in absurd (omega arith)
    object_agrees (Whole x) e q = let z : ◌≡◌ {A = ℕ} 0 1 = cc in absurd (omega arith)
    object_agrees (Text s) e q = let z : ◌≡◌ {A = ℕ} 0 1 = cc in absurd (omega arith)
    object_agrees (Array s) e q = let z : ◌≡◌ {A = ℕ} 0 1 = cc in absurd (omega arith)
    object_agrees (Object s) e q =
        ap Some (mapped pair (value_of h) (λ c. paired (valued c) (valued (c + 1))) (λ c. refl) (stepping s.first 2 s.count)) ∙ object_row h.records h.letters b i kt s e
        ∙ sym (ap (λ v. option_or (items_of v) (pairs_of (valued i))) (stands h.records h.letters i (Object s) b e))

  rows : KeysText h.records → (v : Held) → read_again h v ≡ v → option_map (map (value_of h)) (row h v) ≡ tree_row (value_of h v)
  rows kt nil q = refl
  rows kt (boolean x) q = refl
  rows kt (whole z) q = refl
  rows kt (text t) q = refl
  rows kt (array i) q = array_agrees kt i (at h.records i) refl q
  rows kt (object i) q = object_agrees kt i (at h.records i) refl q
  rows kt (pair i) q = let x = record_value i in let y = record_value (i + 1) in λ t. Some (x t ∷ y t ∷ [])

pub steps_agree : StepsAgree
steps_agree h v s t = steps h t.held.behind v s

pub rows_agree : RowsAgree
rows_agree h v t = rows h t.sound.held.behind t.sound.keys v t.read

module _ (h : Host) (i : ℕ) where
  array_again : (r : Record) → r ≡ at h.records i → read_again h (if_array h i r) ≡ if_array h i r
  array_again Nil e = refl
  array_again (Boolean x) e = refl
  array_again (Whole z) e = refl
  array_again (Text s) e = refl
  array_again (Array s) e = sym (ap (if_array h i) e)
  array_again (Object s) e = refl

  object_again : (r : Record) → r ≡ at h.records i → read_again h (if_object h i r) ≡ if_object h i r
  object_again Nil e = refl
  object_again (Boolean x) e = refl
  object_again (Whole z) e = refl
  object_again (Text s) e = refl
  object_again (Array s) e = refl
  object_again (Object s) e = sym (ap (if_object h i) e)

  pair_again : (r : Record) → r ≡ at h.records i → read_again h (if_pair h i r) ≡ if_pair h i r
  pair_again Nil e = refl
  pair_again (Boolean x) e = refl
  pair_again (Whole z) e = refl
  pair_again (Text s) e = go (ltb (i + 1) (length h.records)) refl
    where
      go : (c : Bool) → c ≡ ltb (i + 1) (length h.records) → read_again h (cond c (pair i) nil) ≡ cond c (pair i) nil
      go true q = sym (ap (if_pair h i) e) ∙ sym (ap (λ c. cond c (pair i) nil) q)
      go false q = refl
  pair_again (Array s) e = refl
  pair_again (Object s) e = refl

pub read_again_is_there : ReadAgainIsThere
read_again_is_there h nil = refl
read_again_is_there h (boolean b) = refl
read_again_is_there h (whole z) = refl
read_again_is_there h (text t) = refl
read_again_is_there h (array i) = array_again h i (at h.records i) refl
read_again_is_there h (object i) = object_again h i (at h.records i) refl
read_again_is_there h (pair i) = pair_again h i (at h.records i) refl
