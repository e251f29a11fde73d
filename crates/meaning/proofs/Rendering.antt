-- A rendering is confined by what its template reads and writes.
use Rattle.std.proofs.Common.{ℕ, ◌+◌, ◌-◌, ◌≤◌, Bool, true, false, cond, leb, List, [], ◌∷◌, ◌++◌, length, take, drop, ℤ, pos, negsuc, ◌+ℤ◌, ◌-ℤ◌, Some, None, Option, unwrap_or, sym, refl, ap, ◌∙◌, subst}
use Rattle.tray.specs.Parts.{same_text}
use Rattle.std.specs.List.{slice_get}
use Rattle.rows.specs.Windows.{windowed}
use Rattle.tree.specs.Expressions.{Expr, Row, row_from, range}
use Rattle.tree.specs.Elements.{Leaf, plain, output, assign, increment, decrement, cycle, break, continue}
use Rattle.tree.specs.Elements.{Block, if_block, case_block, for_block, tablerow_block, capture_block, ifchanged_block, Guard, holds, fails, equals_one, has_items, always, Tree, done, leaf, block, Arms, no_arms, arm}
use Rattle.meaning.specs.Things.{Thing, name, cycle_name, changed, Drawers, altered, Held, with_shown}
use Rattle.meaning.specs.Frames.{Frames, Manner, once, each, cells, keeping, watching}
use Rattle.meaning.specs.Acts.{Act, ◌and_then◌, pure, aside, Step, step, gives, stops, still, faults, append, look, alter}
use Rattle.meaning.specs.Looking.{World, number_of}
use Rattle.meaning.specs.Leaves.{Flow, onward, broken, continued, count_of, write, store, count_on, cycle_value, cycled, leaf_act}
use Rattle.meaning.specs.Openings.{Opening, whole_number, the_row, counted_row, needs_columns, laid_out, number, number_if, gone_over, opened}
use Rattle.meaning.specs.Blocks.{manner, for_manner, next_visit, after_visit, visits, after_element, keep_text, show_text, closed, around, one_equal, passes, mark_if, enters, leaves, visit}
use Rattle.meaning.specs.Rendering.{render, taken}
use Rattle.meaning.specs.Sharing.{expr_reads, option_reads, exprs_read, row_reads, leaf_reads, leaf_writes, block_reads, block_writes, guard_reads, reads, arms_read, writes, arms_write}
use Rattle.meaning.proofs.Confined.{Confined, and_then_confined, quiet_confined, cond_confined, aside_confined, look_confined, alter_confined, emit_confined, Grown, grown_none, take_front, drop_front}
use Rattle.meaning.proofs.Tied.{Tied, and_then_tied, still_tied, cond_tied, aside_tied, look_tied, alter_tied, append_tied}
use Rattle.meaning.proofs.Covers.{Covers, first, others, left, right}
use Rattle.meaning.proofs.Values.{eval_confined, judged_confined, chained_confined}

-- what a manner needs of the sets
abbrev Allows : (X W : Thing → Type 0) → Manner → Type 0
Allows X W once = Unit {0}
Allows X W (each v n) = Unit {0}
Allows X W (cells v n c) = Unit {0}
Allows X W (keeping n) = W (name n)
Allows X W watching = X changed × W changed

for_allows : (X W : Thing → Type 0) (v : ℕ) (o : Opening) (g : Guard) → Allows X W (for_manner v o g)
for_allows X W v o (holds c) = tt
for_allows X W v o (fails c) = tt
for_allows X W v o (equals_one xs) = tt
for_allows X W v o has_items = tt
for_allows X W v o always = tt

-- a text that stood in the buffer has space there again
put_back : (k : ℕ) (e : Drawers) (o t : List ℕ) (f : Flow) (b : Bool) → length o ≤ k → length (o ++ t) ≤ k → Grown k o (cond b (pure f) (append t and_then λ _. pure f) e o)
unfolding ◌and_then◌ still append
put_back k e o t f true l m = grown_none k o (step e o (gives f)) refl l
put_back k e o t f false l m = record { added = t; is = refl; short = m }

shown_grown : (k p : ℕ) (e : Frames) (f : Flow) (t : List ℕ) (d : Drawers) (o : List ℕ) → length o ≤ k → length (o ++ t) ≤ k → Grown k o (show_text p e f t d o)
unfolding ◌and_then◌ still look alter
shown_grown k p e f t d o l m = either (leb (length t) 1024)
  where
    either : (b : Bool) → Grown k o (cond b (look changed and_then λ c. alter changed (with_shown t) and_then λ _. cond (same_text c.shown t) (pure f) (append t and_then λ _. pure f)) (faults 31 p e) d o)
    either true = put_back k (altered changed (with_shown t) d) o t f (same_text (d changed).shown t) l m
    either false = grown_none k o (faults {A = Flow} 31 p e d o) refl l

watched_grown : (k p : ℕ) (e : Frames) (o : List ℕ) → length o ≤ k → (s : Step Flow) → Grown k o s → Grown k o (closed watching p e (length o) s)
watched_grown k p e o l (step d q (gives f)) g =
    subst (λ (r : List ℕ). Grown k o (show_text p e f (drop (length o) r) d (take (length o) r))) (sym g.is)
    (subst (λ (r : List ℕ). Grown k o (show_text p e f (drop (length o) (o ++ g.added)) d r)) (sym (take_front o g.added))
    (subst (λ (r : List ℕ). Grown k o (show_text p e f r d o)) (sym (drop_front o g.added)) (shown_grown k p e f g.added d o l g.short)))
watched_grown k p e o l (step d q (stops f)) g =
    grown_none k o (closed watching p e (length o) (step d q (stops f))) (ap (take (length o)) g.is ∙ take_front o g.added) l

module _ {X W : Thing → Type 0} where
  show_text_tied : (p : ℕ) (e : Frames) (f : Flow) (t : List ℕ) → X changed → W changed → Tied X W (show_text p e f t)
  show_text_tied p e f t h c =
      cond_tied _
      (and_then_tied (look_tied changed h) (λ q. and_then_tied (alter_tied changed _ c) (λ _. cond_tied _ (still_tied _) (and_then_tied (append_tied t) (λ _. still_tied _)))))
      (still_tied _)

  allows : (b : Block) (o : Opening) (g : Guard) → Covers X (block_reads b) → Covers W (block_writes b) → Allows X W (manner b o g)
  allows if_block o g h c = tt
  allows (case_block x) o g h c = tt
  allows (for_block v r limit offset reversed) o g h c = for_allows X W v o g
  allows (tablerow_block v r cols limit offset) o g h c = tt
  allows (capture_block n) o g h c = first _ [] c
  allows ifchanged_block o g h c = (first _ [] h, first _ [] c)

module _ {most : ℕ} {X W : Thing → Type 0} where
  number_read_confined : (p : ℕ) (e : Frames) (z : Option ℤ) → Confined most X W (whole_number p e z)
  number_read_confined p e None = quiet_confined _
  number_read_confined p e (Some z) = quiet_confined _

  the_row_confined : (p : ℕ) (e : Frames) (xs : Option (List Held)) → Confined most X W (the_row p e xs)
  the_row_confined p e None = quiet_confined _
  the_row_confined p e (Some xs) = quiet_confined _

  counted_row_confined : (a b : ℤ) (p : ℕ) (e : Frames) → Confined most X W (counted_row a b p e)
  counted_row_confined a b p e = cond_confined _ (quiet_confined _) (quiet_confined _)

  needs_columns_confined : (xs : List Held) (k : ℤ) (p : ℕ) (e : Frames) → Confined most X W (needs_columns xs k p e)
  needs_columns_confined [] k p e = quiet_confined _
  needs_columns_confined (x ∷ xs) (pos ℕ.zero) p e = quiet_confined _
  needs_columns_confined (x ∷ xs) (pos (ℕ.suc c)) p e = quiet_confined _
  needs_columns_confined (x ∷ xs) (negsuc c) p e = quiet_confined _

  laid_out_confined : (xs : List Held) (k : Option ℤ) (p : ℕ) (e : Frames) → Confined most X W (laid_out xs k p e)
  laid_out_confined xs k p e = needs_columns_confined xs (unwrap_or k (pos (length xs))) p e

  after_element_confined : (f : Flow) {m : Act Flow} → Confined most X W m → Confined most X W (after_element f m)
  after_element_confined onward h = h
  after_element_confined broken h = quiet_confined _
  after_element_confined continued h = quiet_confined _

  next_visit_confined : (f : Flow) {m : Act Flow} → Confined most X W m → Confined most X W (next_visit f m)
  next_visit_confined onward h = h
  next_visit_confined broken h = quiet_confined _
  next_visit_confined continued h = h

  after_visit_confined : (m : Manner) (f : Flow) {a : Act Flow} → Confined most X W a → Confined most X W (after_visit m f a)
  after_visit_confined once f h = quiet_confined _
  after_visit_confined (each v n) f h = next_visit_confined f h
  after_visit_confined (cells v n c) f h = next_visit_confined f h
  after_visit_confined (keeping n) f h = quiet_confined _
  after_visit_confined watching f h = quiet_confined _

  visits_confined : (m : Manner) (f : Held → ℕ → Act Flow) → ((x : Held) (v : ℕ) → Confined most X W (f x v)) → (xs : List Held) (v : ℕ) → Confined most X W (visits m f xs v)
  visits_confined m f h [] v = quiet_confined _
  visits_confined m f h (x ∷ xs) v = and_then_confined (h x v) (λ r. after_visit_confined m r (visits_confined m f h xs (v + 1)))

  keep_text_confined : (n p : ℕ) (e : Frames) (f : Flow) (t : List ℕ) → W (name n) → Confined most X W (keep_text n p e f t)
  keep_text_confined n p e f t h =
      cond_confined _ (and_then_confined (alter_confined (name n) _ h) (λ _. quiet_confined _)) (quiet_confined _)

  around_confined : (m : Manner) (p : ℕ) (e : Frames) {a : Act Flow} → Allows X W m → Confined most X W a → Confined most X W (around m p e a)
  unfolding around ◌and_then◌ aside
  around_confined once p e a h = h
  around_confined (each v n) p e a h = h
  around_confined (cells v n c) p e a h = h
  around_confined (keeping n) p e a h = and_then_confined (aside_confined h) (λ r. keep_text_confined n p e r.0 r.1 a)
  around_confined watching p e {a = m} a h =
      record {
        tied = and_then_tied (aside_tied h.tied) (λ r. show_text_tied p e r.0 r.1 a.0 a.1);
        grown = λ d o l. watched_grown most p e o l (m d o) (h.grown d o l);
      }

module _ {X W : Thing → Type 0} (w : World) where
  write_confined : (t : List ℕ) (p : ℕ) (e : Frames) → Confined w.limit X W (write w t p e)
  write_confined t p e = and_then_confined (emit_confined p e _) (λ _. quiet_confined _)

  store_confined : (n : ℕ) (v : Held) (p : ℕ) (e : Frames) → W (name n) → Confined w.limit X W (store w n v p e)
  store_confined n v p e h = cond_confined _ (and_then_confined (alter_confined (name n) _ h) (λ _. quiet_confined _)) (quiet_confined _)

  count_on_confined : (n : ℕ) (y z : ℤ) (p : ℕ) (e : Frames) → W (name n) → Confined w.limit X W (count_on w n y z p e)
  count_on_confined n y z p e h =
      cond_confined _
      (and_then_confined (emit_confined p e _) (λ _. and_then_confined (alter_confined (name n) _ h) (λ _. quiet_confined _)))
      (quiet_confined _)

  nth_covered : (xs : List Expr) (k : ℕ) (p : ℕ) (e : Frames) → Covers X (exprs_read xs) → Confined w.limit X W (cycle_value w (slice_get xs k) p e)
  nth_covered [] k p e h = quiet_confined _
  nth_covered (x ∷ xs) ℕ.zero p e h = and_then_confined (eval_confined w x p e (left _ (exprs_read xs) h)) (λ v. write_confined _ p e)
  nth_covered (x ∷ xs) (ℕ.suc k) p e h = nth_covered xs k p e (right (expr_reads x) _ h)

  cycled_confined : (n : ℕ) (xs : List Expr) (p : ℕ) (e : Frames) → X (cycle_name n) → W (cycle_name n) → Covers X (exprs_read xs) → Confined w.limit X W (cycled w n xs p e)
  cycled_confined n [] p e x c h = quiet_confined _
  cycled_confined n (y ∷ ys) p e x c h =
      and_then_confined (look_confined (cycle_name n) x)
      (λ k. and_then_confined (alter_confined (cycle_name n) _ c) (λ _. nth_covered (y ∷ ys) k.position p e h))

  leaf_confined : (l : Leaf) (p : ℕ) (e : Frames) → Covers X (leaf_reads l) → Covers W (leaf_writes l) → Confined w.limit X W (leaf_act w l p e)
  unfolding leaf_act
  leaf_confined (plain t) p e h c = write_confined t p e
  leaf_confined (output k) p e h c = and_then_confined (chained_confined w k p e h) (λ v. write_confined _ p e)
  leaf_confined (assign n k) p e h c = and_then_confined (chained_confined w k p e h) (λ v. store_confined n v p e (first _ [] c))
  leaf_confined (increment n) p e h c = and_then_confined (look_confined (name n) (first _ [] h)) (λ k. count_on_confined n (count_of k) (count_of k +ℤ pos 1) p e (first _ [] c))
  leaf_confined (decrement n) p e h c = and_then_confined (look_confined (name n) (first _ [] h)) (λ k. count_on_confined n (count_of k -ℤ pos 1) (count_of k -ℤ pos 1) p e (first _ [] c))
  leaf_confined (cycle n xs) p e h c = cycled_confined n xs p e (first _ (exprs_read xs) h) (first _ [] c) (others _ (exprs_read xs) h)
  leaf_confined break p e h c = quiet_confined _
  leaf_confined continue p e h c = quiet_confined _

  number_confined : (x : Expr) (p : ℕ) (e : Frames) → Covers X (expr_reads x) → Confined w.limit X W (number w x p e)
  number_confined x p e h = and_then_confined (eval_confined w x p e h) (λ v. number_read_confined p e (number_of v))

  number_if_confined : (x : Option Expr) (p : ℕ) (e : Frames) → Covers X (option_reads x) → Confined w.limit X W (number_if w x p e)
  number_if_confined None p e h = quiet_confined _
  number_if_confined (Some x) p e h = and_then_confined (number_confined x p e h) (λ z. quiet_confined _)

  gone_over_confined : (r : Row) (p : ℕ) (e : Frames) → Covers X (row_reads r) → Confined w.limit X W (gone_over w r p e)
  unfolding gone_over
  gone_over_confined (row_from x) p e h = and_then_confined (eval_confined w x p e h) (λ v. the_row_confined p e _)
  gone_over_confined (range x y) p e h =
      and_then_confined (number_confined x p e (left _ (expr_reads y) h))
      (λ a. and_then_confined (number_confined y p e (right (expr_reads x) _ h)) (λ b. counted_row_confined a b p e))

  opened_confined : (b : Block) (p : ℕ) (e : Frames) → Covers X (block_reads b) → Confined w.limit X W (opened w b p e)
  unfolding opened
  opened_confined if_block p e h = quiet_confined _
  opened_confined (case_block x) p e h = and_then_confined (eval_confined w x p e h) (λ v. quiet_confined _)
  opened_confined (for_block v r limit offset reversed) p e h =
      let h' = right (row_reads r) (option_reads limit ++ option_reads offset) h in
      and_then_confined (gone_over_confined r p e (left _ (option_reads limit ++ option_reads offset) h))
      (λ xs. and_then_confined (number_if_confined limit p e (left _ (option_reads offset) h'))
      (λ l. and_then_confined (number_if_confined offset p e (right (option_reads limit) _ h')) (λ o. quiet_confined _)))
  opened_confined (tablerow_block v r cols limit offset) p e h =
      let h' = right (row_reads r) (option_reads cols ++ (option_reads limit ++ option_reads offset)) h in
      let h'' = right (option_reads cols) (option_reads limit ++ option_reads offset) h' in
      and_then_confined (gone_over_confined r p e (left _ (option_reads cols ++ (option_reads limit ++ option_reads offset)) h))
      (λ xs. and_then_confined (number_if_confined cols p e (left _ (option_reads limit ++ option_reads offset) h'))
      (λ k. and_then_confined (number_if_confined limit p e (left _ (option_reads offset) h''))
      (λ l. and_then_confined (number_if_confined offset p e (right (option_reads limit) _ h'')) (λ o. laid_out_confined (windowed (unwrap_or o (pos 0)) l false xs) k p e))))
  opened_confined (capture_block n) p e h = quiet_confined _
  opened_confined ifchanged_block p e h = quiet_confined _

  one_equal_confined : (xs : List Expr) (t : Held) (p : ℕ) (e : Frames) → Covers X (exprs_read xs) → Confined w.limit X W (one_equal w xs t p e)
  one_equal_confined [] t p e h = quiet_confined _
  one_equal_confined (x ∷ xs) t p e h =
      and_then_confined (eval_confined w x p e (left _ (exprs_read xs) h))
      (λ v. cond_confined _ (quiet_confined _) (one_equal_confined xs t p e (right (expr_reads x) _ h)))

  passes_confined : (g : Guard) (o : Opening) (p : ℕ) (e : Frames) → Covers X (guard_reads g) → Confined w.limit X W (passes w g o p e)
  unfolding passes
  passes_confined (holds c) o p e h = judged_confined w c p e h
  passes_confined (fails c) o p e h = and_then_confined (judged_confined w c p e h) (λ y. quiet_confined _)
  passes_confined (equals_one xs) o p e h = one_equal_confined xs _ p e h
  passes_confined has_items o p e h = quiet_confined _
  passes_confined always o p e h = quiet_confined _

  mark_if_confined : (b : Bool) (t : List ℕ) (p : ℕ) (e : Frames) → Confined w.limit X W (mark_if w b t p e)
  mark_if_confined b t p e = cond_confined b (emit_confined p e _) (quiet_confined _)

  enters_confined : (m : Manner) (i p : ℕ) (e : Frames) → Confined w.limit X W (enters w m i p e)
  enters_confined once i p e = quiet_confined _
  enters_confined (each v n) i p e = quiet_confined _
  enters_confined (cells v n c) i p e = and_then_confined (mark_if_confined _ _ p e) (λ _. emit_confined p e _)
  enters_confined (keeping n) i p e = quiet_confined _
  enters_confined watching i p e = quiet_confined _

  leaves_confined : (m : Manner) (i p : ℕ) (e : Frames) (f : Flow) → Confined w.limit X W (leaves w m i p e f)
  leaves_confined once i p e f = quiet_confined _
  leaves_confined (each v n) i p e f = quiet_confined _
  leaves_confined (cells v n c) i p e f =
      and_then_confined (emit_confined p e _) (λ _. and_then_confined (mark_if_confined _ _ p e) (λ _. quiet_confined _))
  leaves_confined (keeping n) i p e f = quiet_confined _
  leaves_confined watching i p e f = quiet_confined _

  visit_confined : (m : Manner) (p : ℕ) (e : Frames) {body : Frames → Act Flow} → ((e' : Frames) → Confined w.limit X W (body e')) → (x : Held) (v : ℕ) → Confined w.limit X W (visit w m p e body x v)
  visit_confined m p e h x v =
      and_then_confined (enters_confined m (v - 1) p e) (λ _. and_then_confined (h _) (λ f. leaves_confined m (v - 1) p e f))

  mutual
    unfolding render taken

    pub render_confined : (t : Tree) (e : Frames) → Covers X (reads t) → Covers W (writes t) → Confined w.limit X W (render w t e)
    render_confined done e h c = quiet_confined _
    render_confined (leaf p l rest) e h c =
        and_then_confined (leaf_confined l p e (left _ (reads rest) h) (left _ (writes rest) c))
        (λ f. after_element_confined f (render_confined rest e (right (leaf_reads l) _ h) (right (leaf_writes l) _ c)))
    render_confined (block p b arms rest) e h c =
        let c' = right (block_writes b) (arms_write arms ++ writes rest) c in
        let h' = right (block_reads b) (arms_read arms ++ reads rest) h in
        let r = left (block_reads b) (arms_read arms ++ reads rest) h in
        let k = left (block_writes b) (arms_write arms ++ writes rest) c in
        and_then_confined (opened_confined b p e r)
        (λ o. and_then_confined (taken_confined b p o arms e (left _ (reads rest) h') r k (left _ (writes rest) c'))
        (λ f. after_element_confined f (render_confined rest e (right (arms_read arms) _ h') (right (arms_write arms) _ c'))))

    taken_confined : (b : Block) (p : ℕ) (o : Opening) (arms : Arms) (e : Frames) → Covers X (arms_read arms) → Covers X (block_reads b) → Covers W (block_writes b) → Covers W (arms_write arms) → Confined w.limit X W (taken w b p o arms e)
    taken_confined b p o no_arms e h r k c = quiet_confined _
    taken_confined b p o (arm g body arms) e h r k c =
        let h' = right (guard_reads g) (reads body ++ arms_read arms) h in
        and_then_confined (passes_confined g o p e (left _ (reads body ++ arms_read arms) h))
        (λ y. cond_confined y
        (around_confined (manner b o g) p e (allows b o g r k)
        (visits_confined _ _ (visit_confined _ p e (λ e'. render_confined body e' (left _ (arms_read arms) h') (left _ (arms_write arms) c))) _ 1))
        (taken_confined b p o arms e (right (reads body) _ h') r k (right (writes body) _ c)))
