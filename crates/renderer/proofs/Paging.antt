-- What a rendered ticket is as a call.
use Rattle.std.proofs.Common.{◌≡◌, ℕ, zero, suc, ◌≤◌, ◌<◌, true, cond, List, [], ◌∷◌, ◌++◌, length, map, take, replicate, is_some, vec_items, Some, None, Ok, Err, Option, refl, ap, ap₂, sym, ◌∙◌, arith}
use Rattle.std.specs.List.{slice_get}
use Rattle.std.proofs.lemmas.Bool.{le-leb, lt-leb}
use Rattle.std.specs.Option.{unwrap_or}
use Rattle.arguments.specs.Tables.{pool_of}
use Rattle.sheet.specs.declared.templates.Template.{Template}
use Rattle.sheet.specs.Sheets.{templates_of, trees_of}
use Rattle.nodes.specs.Exprs.{each, ◌so◌}
use Rattle.nodes.specs.Trees.{tree_at}
use Rattle.nodes.proofs.Options.{none_some, some_is, so_parts}
use Rattle.banks.specs.Meaning.{Meaning}
use Rattle.sheet.specs.declared.sheet.Sheet as code
use Rattle.frames.specs.declared.frame.TrailRecord as code_record
use Rattle.tree.specs.Elements.{Tree}
use Rattle.renderer.specs.declared.calls.Faulted.{Faulted}
use Rattle.renderer.specs.declared.calls.Refused.TheVariants.{NotRendered}
use Rattle.renderer.specs.Calls.{sheet_of, stood, records_in, fault_of, page_result, PageDone, EndedSo, Rendered}
use Rattle.meaning.specs.Things.{Drawers}
use Rattle.meaning.specs.Hosts.{Host}
use Rattle.meaning.specs.Frames.{Frames, TrailRecord, blank, trail_record, trail_of, sixteen}
use Rattle.meaning.specs.Acts.{End, step, still}
use Rattle.meaning.specs.Looking.{World}
use Rattle.meaning.specs.Leaves.{Flow}
use Rattle.meaning.specs.Calls.{Result, Judged, refusal, renders, judged_page, perform, page, result, act, drawers_after, ticket, rendered, filled}

stood_blank : (k m : ℕ) → stood (take k (replicate m blank)) ≡ []
stood_blank zero m = refl
stood_blank (suc k) zero = refl
stood_blank (suc k) (suc m) = refl

-- the blocks that a trail of sixteen names are those around
stood_all : (fs : Frames) (n m : ℕ) → length fs ≤ n → stood (take n (map trail_record fs ++ replicate m blank)) ≡ map trail_record fs
stood_all [] n m l = stood_blank n m
stood_all (f ∷ fs) zero m l = absurd (omega arith)
stood_all (f ∷ fs) (suc n) m l = ap (λ ts. trail_record f ∷ ts) (stood_all fs n m (omega (arith, l)))

pub stood_sixteen : (fs : Frames) → length fs ≤ 16 → stood (sixteen (trail_of fs)) ≡ trail_of fs
stood_sixteen fs l = stood_all fs 16 16 l

module _ (s : code.Sheet) (m : Meaning) (n : ℕ) (h : Host) (d : Drawers) where
  judged_so : (limit trail : ℕ) (j : Judged) → judged_page (slice_get (sheet_of s).templates n) h limit trail ≡ j → perform (sheet_of s) m (page n h limit trail) d ≡ (result (sheet_of s) m j (act (sheet_of s) m j d []), drawers_after (act (sheet_of s) m j d []))
  unfolding perform
  judged_so limit trail j e = ap (λ j. (result (sheet_of s) m j (act (sheet_of s) m j d []), drawers_after (act (sheet_of s) m j d []))) e

  abbrev world : ℕ → World
  world limit = record { names = (sheet_of s).names; host = h; bank = m; limit = limit }

  ticket_is : (limit : ℕ) (after : Drawers) (text : List ℕ) (e : End Flow) (r : Option Faulted) (ts : List TrailRecord) → EndedSo e r ts → ticket limit (step after text e) ≡ page_result (Ok r) (filled limit text) ts
  ticket_is limit after text e None ts (f, is, blanks) = ap (λ e. ticket limit (step after text e)) is ∙ ap (rendered None (filled limit text)) (sym blanks)
  ticket_is limit after text e (Some k) ts (fs, few, is, records) =
      let same : stood ts ≡ trail_of fs = ap stood records ∙ stood_sixteen fs few in
      ap (λ e. ticket limit (step after text e)) is
      ∙ ap₂ (λ l rs. rendered (Some (record { number = (fault_of k ts).number; cause = (fault_of k ts).cause; place = k.place; trail = l })) (filled limit text) rs) (sym same) (sym records)

  pub page_done : (t : Tree) (after : Drawers) (old new : List ℕ) (before trail : List code_record.TrailRecord) (r : Option Faulted) → slice_get (sheet_of s).templates n ≡ Some t → 16 ≤ length before →
      Rendered (world (length old)) t d after old new before trail r → PageDone s m n h d after old new before trail (Ok r)
  page_done t after old new before trail r there long came =
      let j = renders t h (length old) in
      let judged : judged_page (slice_get (sheet_of s).templates n) h (length old) (length before) ≡ j =
      ap (λ o. judged_page o h (length old) (length before)) there ∙ ap (λ b. cond b j (refusal 12)) (le-leb _ _ long) in
      record {
        result =
            judged_so (length old) (length before) j judged
            ∙ ap (λ q. (ticket (length old) q, drawers_after q)) came.did
            ∙ ap (λ x. (x, after)) (ticket_is (length old) after came.text came.end r (records_in trail) came.ended ∙ ap (λ o. page_result (Ok r) o (records_in trail)) (sym came.buffer));
        buffer = came.long;
        beyond = came.beyond;
        records = came.records;
        refused = tt;
      }

  refuses : (limit trail : ℕ) → judged_page (slice_get (sheet_of s).templates n) h limit trail ≡ refusal 12 → perform (sheet_of s) m (page n h limit trail) d ≡ (Rattle.meaning.specs.Calls.refused 12, d)
  unfolding still
  refuses limit trail e = judged_so limit trail (refusal 12) e

  refused_so : (old : List ℕ) (before : List code_record.TrailRecord) → judged_page (slice_get (sheet_of s).templates n) h (length old) (length before) ≡ refusal 12 → PageDone s m n h d d old old before before (Err NotRendered)
  refused_so old before e = record { result = refuses (length old) (length before) e; buffer = refl; beyond = refl; records = refl; refused = (refl, refl) }

  pub no_template : (old : List ℕ) (before : List code_record.TrailRecord) → slice_get (sheet_of s).templates n ≡ None → PageDone s m n h d d old old before before (Err NotRendered)
  no_template old before e = refused_so old before (ap (λ o. judged_page o h (length old) (length before)) e)

  pub short_trail : (t : Tree) (old : List ℕ) (before : List code_record.TrailRecord) → slice_get (sheet_of s).templates n ≡ Some t → length before < 16 → PageDone s m n h d d old old before before (Err NotRendered)
  short_trail t old before there short =
      refused_so old before (ap (λ o. judged_page o h (length old) (length before)) there ∙ ap (λ b. cond b (renders t h (length old)) (refusal 12)) (lt-leb _ _ short))

-- templates and their trees, by number
each_at : {A B : Type 0} (f : A → Option B) (xs : List A) (ys : List B) (k : ℕ) (x : A) → each f xs ≡ Some ys → slice_get xs k ≡ Some x → (y : B) × (f x ≡ Some y) × (slice_get ys k ≡ Some y)
each_at f [] ys k x h g = none_some x g
each_at f (z ∷ zs) ys zero x h g =
    let (y, a, q) = so_parts (f z) (λ y. each f zs so λ us. Some (y ∷ us)) ys h in
    let (us, b, r) = so_parts (each f zs) (λ us. Some (y ∷ us)) ys q in
    (y, ap f (sym (some_is z x g)) ∙ a, ap (λ l. slice_get l zero) (sym (some_is (y ∷ us) ys r)))
each_at f (z ∷ zs) ys (suc k) x h g =
    let (y, a, q) = so_parts (f z) (λ y. each f zs so λ us. Some (y ∷ us)) ys h in
    let (us, b, r) = so_parts (each f zs) (λ us. Some (y ∷ us)) ys q in
    let (v, c, e) = each_at f zs us k x b g in
    (v, c, ap (λ l. slice_get l (suc k)) (sym (some_is (y ∷ us) ys r)) ∙ e)

each_past : {A B : Type 0} (f : A → Option B) (xs : List A) (ys : List B) (k : ℕ) → each f xs ≡ Some ys → slice_get xs k ≡ None → slice_get ys k ≡ None
each_past f [] ys k h g = ap (λ l. slice_get l k) (sym (some_is [] ys h))
each_past f (z ∷ zs) ys zero h g = none_some z (sym g)
each_past f (z ∷ zs) ys (suc k) h g =
    let (y, a, q) = so_parts (f z) (λ y. each f zs so λ us. Some (y ∷ us)) ys h in
    let (us, b, r) = so_parts (each f zs) (λ us. Some (y ∷ us)) ys q in
    ap (λ l. slice_get l (suc k)) (sym (some_is (y ∷ us) ys r)) ∙ each_past f zs us k b g

given : {A : Type 0} (o : Option A) → is_some o ≡ true → (x : A) × (o ≡ Some x)
given None h = let z : ◌≡◌ {A = ℕ} 0 1 = cc in absurd (omega arith)
given (Some x) h = (x, refl)

pub template_there : (s : code.Sheet) (k : ℕ) (x : Template) → slice_get (templates_of s) k ≡ Some x → (t : Tree) × (tree_at (pool_of s.parser.reader) (vec_items s.parser.reader.nodes) x.from x.end ≡ Some t) × (slice_get (sheet_of s).templates k ≡ Some t)
template_there s k x g =
    let (ts, e) = given (trees_of s) s.decode in
    let (t, a, b) = each_at (λ x. tree_at (pool_of s.parser.reader) (vec_items s.parser.reader.nodes) x.from x.end) (templates_of s) ts k x e g in
    (t, a, ap (λ o. slice_get (unwrap_or o []) k) e ∙ b)

pub template_not : (s : code.Sheet) (k : ℕ) → slice_get (templates_of s) k ≡ None → slice_get (sheet_of s).templates k ≡ None
template_not s k g =
    let (ts, e) = given (trees_of s) s.decode in
    ap (λ o. slice_get (unwrap_or o []) k) e ∙ each_past (λ x. tree_at (pool_of s.parser.reader) (vec_items s.parser.reader.nodes) x.from x.end) (templates_of s) ts k e g
