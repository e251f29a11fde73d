-- Records that are found by number, as values.
use Rattle.std.proofs.Common.{◌≡◌, ℕ, zero, suc, ◌+◌, Bool, true, false, cond, List, pos, negsuc, Some, None, codes, Option, refl, ap, ◌∙◌, arith}
use Rattle.std.specs.Option.{option_map, option_or}
use Rattle.tray.specs.declared.records.Record.{Record}
use Rattle.tray.specs.declared.records.Record.TheVariants as rec
use Rattle.tray.specs.Parts.{same_text}
use Rattle.values.specs.declared.steps.Found.{Found}
use Rattle.values.specs.declared.steps.Found.TheVariants.{Record as at_record, Size}
use Rattle.values.specs.declared.steps.Step as code
use Rattle.values.specs.declared.steps.Step.TheVariants.{Number, Name}
use Rattle.values.specs.Found.{step_of}
use Rattle.values.specs.Steps.{step_text}
use Rattle.values.specs.Meaning.{key_at}
use Rattle.values.specs.Numbers.{entry_number, member_number, place_of, among_items, among_entries, or_size, followed}
use Rattle.meaning.specs.Things.{Held, whole}
use Rattle.meaning.specs.Hosts.{Host, record_at, entry_of, entries_find, step_into_items, step_into_entries, step_into_record, key_of}
use Rattle.held.specs.Records.{step_into, found_held}

mapped_cond : {A B : Type 0} (f : A → B) (b : Bool) (x y : Option A) {u v : Option B} → option_map f x ≡ u → option_map f y ≡ v → option_map f (cond b x y) ≡ cond b u v
mapped_cond f true x y p q = p
mapped_cond f false x y p q = q

module _ (h : Host) where
  abbrev keys : ℕ → List ℕ
  keys i = key_at h.records h.letters i

  pub entries_held : (f n : ℕ) (k : List ℕ) → option_map (record_at h) (entry_number keys k f n) ≡ entry_of h f n k
  entries_held f zero k = refl
  entries_held f (suc n) k = mapped_cond (record_at h) (same_text k (keys f)) (Some (f + 1)) (entry_number keys k (f + 2) n) refl (entries_held (f + 2) n k)

  pub member_held : (r : Record) (k : List ℕ) → option_map (record_at h) (member_number keys r k) ≡ entries_find h r k
  member_held rec.Nil k = refl
  member_held (rec.Boolean b) k = refl
  member_held (rec.Whole z) k = refl
  member_held (rec.Text s) k = refl
  member_held (rec.Array s) k = refl
  member_held (rec.Object s) k = entries_held s.first s.count k

  at_found : (g : Found → Held) (i f : ℕ) → ((k : ℕ) → g (at_record (f + k)) ≡ record_at h (i + k)) → (o : Option ℕ) → option_map g (option_map (λ k. at_record (f + k)) o) ≡ option_map (λ k. record_at h (i + k)) o
  at_found g i f e None = refl
  at_found g i f e (Some k) = ap Some (e k)

  -- a step among items, as `g` sees what is found
  items_found : (g : Found → Held) (i f n : ℕ) → ((k : ℕ) → g (at_record (f + k)) ≡ record_at h (i + k)) → g (Size n) ≡ whole (pos n) → (s : code.Step) → option_map g (among_items f n (step_of s)) ≡ step_into_items h i n (step_into s)
  items_found g i f n e m (Number z) = at_found g i f e (place_of n z)
  items_found g i f n e m (Name k) =
      mapped_cond g (same_text k.now (codes "first")) _ _ (at_found g i f e (place_of n (pos 0)))
      (mapped_cond g (same_text k.now (codes "last")) _ _ (at_found g i f e (place_of n (negsuc 0)))
      (mapped_cond g (same_text k.now (codes "size")) (Some (Size n)) None (ap Some m) refl))

  -- what is found among two records from 0 on, moved to record i
  abbrev pub moved : ℕ → Found → Held
  moved i (at_record k) = record_at h (i + k)
  moved i (Size n) = whole (pos n)

  pub pair_stepped : (i : ℕ) (s : code.Step) → option_map (moved i) (among_items 0 2 (step_of s)) ≡ step_into_items h i 2 (step_into s)
  pair_stepped i s = items_found (moved i) i 0 2 (λ k. ap (λ j. record_at h (i + j)) (omega arith)) refl s

  sized_held : (o : Option ℕ) (n : ℕ) (k : List ℕ) → option_map (found_held h) (or_size o n k) ≡ option_or (option_map (record_at h) o) (cond (same_text k (codes "size")) (Some (whole (pos n))) None)
  sized_held None n k = mapped_cond (found_held h) (same_text k (codes "size")) (Some (Size n)) None refl refl
  sized_held (Some i) n k = refl

  entries_stepped : (f n : ℕ) (k : List ℕ) → option_map (found_held h) (among_entries keys f n k) ≡ step_into_entries h f n k
  entries_stepped f n k =
      sized_held (entry_number keys k f n) n k ∙ ap (λ o. option_or o (cond (same_text k (codes "size")) (Some (whole (pos n))) None)) (entries_held f n k)

  keyed : (s : code.Step) → step_text (step_of s) ≡ key_of h (step_into s)
  keyed (Number z) = refl
  keyed (Name k) = refl

  pub record_stepped : (r : Record) (s : code.Step) → option_map (found_held h) (followed keys r (step_of s)) ≡ step_into_record h r (step_into s)
  record_stepped rec.Nil s = refl
  record_stepped (rec.Boolean b) s = refl
  record_stepped (rec.Whole z) s = refl
  record_stepped (rec.Text t) s = refl
  record_stepped (rec.Array t) s = items_found (found_held h) t.first t.first t.count (λ k. refl) refl s
  record_stepped (rec.Object t) s = entries_stepped t.first t.count (step_text (step_of s)) ∙ ap (step_into_entries h t.first t.count) (keyed s)
