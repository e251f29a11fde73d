-- What stands in the buffer at the ends of visits and blocks.
use Rattle.std.proofs.Common.{◌≡◌, ℕ, ◌+◌, ◌<◌, ◌≤◌, Bool, true, false, cond, ◌||◌, List, ◌++◌, length, take, drop, min, Some, None, Ok, Err, sym, refl, ap, ap₂, ◌∙◌, subst, arith, take-append-drop}
use Rattle.std.proofs.lemmas.Grind.{common_steps}
use Rattle.std.specs.Prelude.{Result, nat_le}
use Rattle.tray.specs.Parts.{same_text}
use Rattle.held.specs.declared.faults.Fault.{Fault}
use Rattle.held.specs.declared.faults.Fault.TheVariants.{TooLong}
use Rattle.frames.specs.declared.frame.Manner as code_manner
use Rattle.frames.specs.declared.frame.Manner.TheVariants.{Once, Each, Cells, Keeping, Watching}
use Rattle.frames.specs.Views.{manner_of}
use Rattle.pages.specs.Pieces.{Emits}
use Rattle.pages.specs.Written.{Did, Wrote}
use Rattle.meaning.specs.Things.{Drawers, name, changed, altered, text, with_variable, with_shown}
use Rattle.meaning.specs.Frames.{Frames, keeping, watching}
use Rattle.meaning.specs.Acts.{Act, Step, step, gives, stops, fault_at, go_on, ◌and_then◌, still, pure, faults, emit, append, look, alter}
use Rattle.meaning.specs.Looking.{World}
use Rattle.meaning.specs.Leaves.{Flow}
use Rattle.meaning.specs.Blocks.{mark_if, enters, leaves, closed, keep_text, show_text}
use Rattle.renderer.specs.declared.ends.Stopped.{Stopped}
use Rattle.renderer.specs.Ends.{stopping, Ends}

-- nothing is written
pub silent : {A : Type 0} (a : A) (p : ℕ) (e : Frames) (d : Drawers) (filled : ℕ) (out : List ℕ) → filled ≤ length out → Ends (pure a d (take filled out)) a p e d (length out) out (Ok filled)
unfolding still
silent a p e d filled out le = record { long = refl; within = le; did = refl }

pub unmarked : (w : World) (filled : ℕ) (out : List ℕ) (y : Bool) (t : List ℕ) → y ≡ false → Wrote (mark_if w y t) filled out out (Ok filled)
unfolding still
unmarked w filled out y t off le =
    record { long = refl; within = le; did = λ p e d. ap (λ c. cond {A = Act (Unit {0})} c (emit w.limit p e t) (pure tt) d (take filled out)) off }

pub marked : (w : World) (filled : ℕ) (old new : List ℕ) (y : Bool) (t : List ℕ) (r : Result ℕ Fault) → y ≡ true → w.limit ≡ length old → Emits t filled old new r → Wrote (mark_if w y t) filled old new r
marked w filled old new y t r on limit h le =
    let x = h.wrote le in
    record {
      long = x.long;
      within = x.within;
      did = λ p e d. ap₂ (λ c n. cond {A = Act (Unit {0})} c (emit n p e t) (pure tt) d (take filled old)) on limit ∙ x.did p e d;
    }

module _ {A : Type 0} {m : ℕ → Frames → Act (Unit {0})} {filled : ℕ} {old mid : List ℕ} (a : A) (p : ℕ) (e : Frames) (d : Drawers) (rest : Unit {0} → Act A) where
  -- one act, and another behind it
  first_stops : (k : Fault) → Did m filled old mid (Err k) → Ends (go_on (m p e d (take filled old)) rest) a p e d (length old) mid (stopping filled (Err k))
  first_stops k h = record { long = h.long; within = h.within; did = ap (λ s. go_on s rest) (h.did p e d) }

  first_done : (n : ℕ) → Did m filled old mid (Ok n) → (new : List ℕ) (r : Result ℕ Stopped) → Ends (rest tt d (take n mid)) a p e d (length mid) new r → Ends (go_on (m p e d (take filled old)) rest) a p e d (length old) new r
  first_done n h new r x = record { long = x.long ∙ h.long; within = x.within; did = ap (λ s. go_on s rest) (h.did p e d) ∙ x.did }

  -- by the answer of the first
  pub stopped_first : (r : Result ℕ Fault) → Did m filled old mid r → (s : Stopped) → stopping filled r ≡ Err s → (q : Result ℕ Stopped) → q ≡ Err s → Ends (go_on (m p e d (take filled old)) rest) a p e d (length old) mid q
  stopped_first (Ok n) h s is q same = let z : ◌≡◌ {A = ℕ} 0 1 = cc in absurd (omega arith)
  stopped_first (Err k) h s is q same = subst (Ends (go_on (m p e d (take filled old)) rest) a p e d (length old) mid) (is ∙ sym same) (first_stops k h)

  pub done_first : (r : Result ℕ Fault) → Did m filled old mid r → (n : ℕ) → stopping filled r ≡ Ok n → (new : List ℕ) (q : Result ℕ Stopped) → Ends (rest tt d (take n mid)) a p e d (length mid) new q →
      Ends (go_on (m p e d (take filled old)) rest) a p e d (length old) new q
  done_first (Ok n) h k is new q x = let same : n ≡ k = cc in first_done n h new q (subst (λ y. Ends (rest tt d (take y mid)) a p e d (length mid) new q) (sym same) x)
  done_first (Err k) h n is new q x = let z : ◌≡◌ {A = ℕ} 0 1 = cc in absurd (omega arith)

  pub within_first : (r : Result ℕ Fault) → Did m filled old mid r → (n : ℕ) → stopping filled r ≡ Ok n → n ≤ length mid
  within_first (Ok n) h k is = let same : n ≡ k = cc in omega (arith, h.within, same)
  within_first (Err k) h n is = let z : ◌≡◌ {A = ℕ} 0 1 = cc in absurd (omega arith)

-- one act alone
pub alone : {m : ℕ → Frames → Act (Unit {0})} {filled : ℕ} {old new : List ℕ} (p : ℕ) (e : Frames) (d : Drawers) (r : Result ℕ Fault) → Did m filled old new r → Ends (m p e d (take filled old)) tt p e d (length old) new (stopping filled r)
alone p e d (Ok n) h = record { long = h.long; within = h.within; did = h.did p e d }
alone p e d (Err k) h = record { long = h.long; within = h.within; did = h.did p e d }

-- and a flow
pub with_flow : {A : Type 0} {m : ℕ → Frames → Act (Unit {0})} {filled : ℕ} {old new : List ℕ} (a : A) (p : ℕ) (e : Frames) (d : Drawers) (r : Result ℕ Fault) → Did m filled old new r →
    Ends (go_on (m p e d (take filled old)) (λ _. pure a)) a p e d (length old) new (stopping filled r)
unfolding still
with_flow a p e d (Ok n) h = record { long = h.long; within = h.within; did = ap (λ s. go_on s (λ _. pure a)) (h.did p e d) }
with_flow a p e d (Err k) h = record { long = h.long; within = h.within; did = ap (λ s. go_on s (λ _. pure a)) (h.did p e d) }

-- the start of a cell: a mark if any, and another
module _ (w : World) (p : ℕ) (e : Frames) (d : Drawers) (y : Bool) (t u : List ℕ) {filled : ℕ} {old mid : List ℕ} {r : Result ℕ Fault} (limit : w.limit ≡ length old) (le : filled ≤ length old) (h : Wrote (mark_if w y t) filled old mid r) where
  abbrev cell_begins : Step (Unit {0})
  cell_begins = (mark_if w y t p e and_then λ _. emit w.limit p e u) d (take filled old)

  pub row_stops : (s : Stopped) → stopping filled r ≡ Err s → (q : Result ℕ Stopped) → q ≡ Err s → Ends cell_begins tt p e d (length old) mid q
  unfolding ◌and_then◌
  row_stops s is q same = stopped_first tt p e d (λ _. emit w.limit p e u) r (h le) s is q same

  pub row_then_cell : (n : ℕ) → stopping filled r ≡ Ok n → (new : List ℕ) (k : Result ℕ Fault) → Emits u n mid new k → (q : Result ℕ Stopped) → q ≡ stopping n k → Ends cell_begins tt p e d (length old) new q
  unfolding ◌and_then◌
  row_then_cell n is new k x q same =
      let within = within_first tt p e d (λ _. emit w.limit p e u) r (h le) n is in
      let room : w.limit ≡ length mid = limit ∙ sym (h le).long in
      done_first tt p e d (λ _. emit w.limit p e u) r (h le) n is new q
      (subst (λ l. Ends (emit l p e u d (take n mid)) tt p e d (length mid) new q) (sym room)
      (subst (Ends (emit (length mid) p e u d (take n mid)) tt p e d (length mid) new) (sym same) (alone p e d k (x.wrote within))))

-- its end: a mark, and another if any
module _ (w : World) (p : ℕ) (e : Frames) (f : Flow) (d : Drawers) (y : Bool) (t u : List ℕ) {filled : ℕ} {old mid : List ℕ} {r : Result ℕ Fault} (limit : w.limit ≡ length old) (le : filled ≤ length old) (h : Emits t filled old mid r) where
  abbrev cell_ends : Step Flow
  cell_ends = (emit w.limit p e t and_then λ _. mark_if w y u p e and_then λ _. pure f) d (take filled old)

  abbrev then_row : Unit {0} → Act Flow
  then_row _ = mark_if w y u p e and_then λ _. pure f

  with_limit : (new : List ℕ) (q : Result ℕ Stopped) → Ends (go_on (emit (length old) p e t d (take filled old)) then_row) f p e d (length old) new q → Ends cell_ends f p e d (length old) new q
  unfolding ◌and_then◌
  with_limit new q x = subst (λ l. Ends (go_on (emit l p e t d (take filled old)) then_row) f p e d (length old) new q) (sym limit) x

  pub cell_stops : (s : Stopped) → stopping filled r ≡ Err s → (q : Result ℕ Stopped) → q ≡ Err s → Ends cell_ends f p e d (length old) mid q
  cell_stops s is q same = with_limit mid q (stopped_first f p e d then_row r (h.wrote le) s is q same)

  pub cell_then_row : (n : ℕ) → stopping filled r ≡ Ok n → (new : List ℕ) (k : Result ℕ Fault) → ((v : World) → v.limit ≡ length mid → Wrote (mark_if v y u) n mid new k) → (q : Result ℕ Stopped) → q ≡ stopping n k → Ends cell_ends f p e d (length old) new q
  unfolding ◌and_then◌
  cell_then_row n is new k x q same =
      let within = within_first f p e d then_row r (h.wrote le) n is in
      let long = (h.wrote le).long in
      with_limit new q (done_first f p e d then_row r (h.wrote le) n is new q
      (subst (Ends (go_on (mark_if w y u p e d (take n mid)) (λ _. pure f)) f p e d (length mid) new) (sym same) (with_flow f p e d k (x w (limit ∙ sym long) within))))

-- manners without marks
pub enters_quiet : (w : World) (k : code_manner.Manner) (i p : ℕ) (e : Frames) (d : Drawers) (filled : ℕ) (out : List ℕ) → ((v n : ℕ) (c : Rattle.std.proofs.Common.ℤ) → k ≡ Cells v n c → ⊥) → filled ≤ length out →
    Ends (enters w (manner_of k) i p e d (take filled out)) tt p e d (length out) out (Ok filled)
enters_quiet w Once i p e d filled out other le = silent tt p e d filled out le
enters_quiet w (Each v n) i p e d filled out other le = silent tt p e d filled out le
enters_quiet w (Cells v n c) i p e d filled out other le = absurd (other v n c refl)
enters_quiet w (Keeping n) i p e d filled out other le = silent tt p e d filled out le
enters_quiet w Watching i p e d filled out other le = silent tt p e d filled out le

pub leaves_quiet : (w : World) (k : code_manner.Manner) (i p : ℕ) (e : Frames) (f : Flow) (d : Drawers) (filled : ℕ) (out : List ℕ) → ((v n : ℕ) (c : Rattle.std.proofs.Common.ℤ) → k ≡ Cells v n c → ⊥) → filled ≤ length out →
    Ends (leaves w (manner_of k) i p e f d (take filled out)) f p e d (length out) out (Ok filled)
leaves_quiet w Once i p e f d filled out other le = silent f p e d filled out le
leaves_quiet w (Each v n) i p e f d filled out other le = silent f p e d filled out le
leaves_quiet w (Cells v n c) i p e f d filled out other le = absurd (other v n c refl)
leaves_quiet w (Keeping n) i p e f d filled out other le = silent f p e d filled out le
leaves_quiet w Watching i p e f d filled out other le = silent f p e d filled out le

-- what is given where a test passes, and what is not
pub was_given : {A : Type 0} (y : Bool) (v x : A) → Some x ≡ cond y (Some v) None → (y ≡ true) × (x ≡ v)
was_given true v x e = (refl, cc)
was_given false v x e = let z : ◌≡◌ {A = ℕ} 0 1 = cc in absurd (omega arith)

pub was_not_given : {A : Type 0} (y : Bool) (v : A) → None ≡ cond y (Some v) None → y ≡ false
was_not_given true v e = let z : ◌≡◌ {A = ℕ} 0 1 = cc in absurd (omega arith)
was_not_given false v e = refl

-- what stands before the text that is taken out
cut_short : (mark filled end : ℕ) (out : List ℕ) → end ≡ min mark filled → filled ≤ length out → take end out ≡ take mark (take filled out)
cut_short mark filled end out is le = grind (arith, common_steps)

-- a capture that is closed
module _ (target p mark : ℕ) (e : Frames) (f : Flow) (d : Drawers) (filled end : ℕ) (out t : List ℕ) (is : t ≡ drop mark (take filled out)) (le : filled ≤ length out) (ends : end ≡ min mark filled) where
  abbrev o : List ℕ
  o = take filled out

  pub kept : nat_le (length t) 256 ≡ true → (d' : Drawers) → d' ≡ altered (name target) (with_variable (text t)) d → Ends (closed (keeping target) p e mark (step d o (gives f))) f p e d' (length out) out (Ok end)
  unfolding still ◌and_then◌ alter
  kept short d' came = record {
    long = refl;
    within = omega (arith, ends, le);
    did =
        ap₂ (λ x y. keep_text target p e f x d y) (sym is) (sym (cut_short mark filled end out ends le))
        ∙ ap (λ c. cond {A = Act Flow} c (alter (name target) (with_variable (text t)) and_then λ _. pure f) (faults 31 p e) d (take end out)) short
        ∙ ap (λ x. step x (take end out) (gives f)) (sym came);
  }

  pub unkept : nat_le (length t) 256 ≡ false → Ends (closed (keeping target) p e mark (step d o (gives f))) f p e d (length out) out (Err (record { fault = TooLong; filled = end }))
  unfolding still
  unkept long = record {
    long = refl;
    within = omega (arith, ends, le);
    did =
        ap₂ (λ x y. keep_text target p e f x d y) (sym is) (sym (cut_short mark filled end out ends le))
        ∙ ap (λ c. cond {A = Act Flow} c (alter (name target) (with_variable (text t)) and_then λ _. pure f) (faults 31 p e) d (take end out)) long;
  }

-- an `ifchanged` that is closed
module _ (p mark : ℕ) (e : Frames) (f : Flow) (d : Drawers) (filled end : ℕ) (out t : List ℕ) (is : t ≡ drop mark (take filled out)) (le : filled ≤ length out) (ends : end ≡ min mark filled) where
  abbrev behind : List ℕ → Bool → Act Flow
  behind u y = cond y (pure f) (append u and_then λ _. pure f)

  abbrev written : List ℕ → Act Flow
  written u = look changed and_then λ c. alter changed (with_shown u) and_then λ _. behind u (same_text c.shown u)

  abbrev front : List ℕ
  front = take mark (take filled out)

  shown_text : nat_le (length t) 1024 ≡ true → (y : Bool) → same_text (d changed).shown t ≡ y → closed watching p e mark (step d (take filled out) (gives f)) ≡ behind t y (altered changed (with_shown t) d) front
  unfolding ◌and_then◌ look alter
  shown_text short y same =
      ap (λ u. show_text p e f u d front) (sym is)
      ∙ ap (λ c. cond {A = Act Flow} c (written t) (faults 31 p e) d front) short
      ∙ ap (λ c. behind t c (altered changed (with_shown t) d) front) same

  pub same_shown : nat_le (length t) 1024 ≡ true → same_text (d changed).shown t ≡ true → (d' : Drawers) → d' ≡ altered changed (with_shown t) d →
      Ends (closed watching p e mark (step d (take filled out) (gives f))) f p e d' (length out) out (Ok end)
  unfolding still
  same_shown short same d' came = record {
    long = refl;
    within = omega (arith, ends, le);
    did = shown_text short true same ∙ ap₂ (λ x y. step x y (gives f)) (sym came) (sym (cut_short mark filled end out ends le));
  }

  pub other_shown : nat_le (length t) 1024 ≡ true → same_text (d changed).shown t ≡ false → (d' : Drawers) → d' ≡ altered changed (with_shown t) d →
      Ends (closed watching p e mark (step d (take filled out) (gives f))) f p e d' (length out) out (Ok filled)
  unfolding still ◌and_then◌ append
  other_shown short same d' came = record {
    long = refl;
    within = le;
    did = shown_text short false same ∙ ap₂ (λ x y. step x (front ++ y) (gives f)) (sym came) is ∙ ap (λ y. step d' y (gives f)) (take-append-drop mark (take filled out));
  }

  pub unshown : nat_le (length t) 1024 ≡ false → (d' : Drawers) → d' ≡ d → Ends (closed watching p e mark (step d (take filled out) (gives f))) f p e d' (length out) out (Err (record { fault = TooLong; filled = end }))
  unfolding still
  unshown long d' same = record {
    long = refl;
    within = omega (arith, ends, le);
    did =
        ap (λ u. show_text p e f u d front) (sym is)
        ∙ ap (λ c. cond {A = Act Flow} c (written t) (faults 31 p e) d front) long
        ∙ ap₂ (λ x y. step x y (stops (fault_at 31 None p e))) (sym same) (sym (cut_short mark filled end out ends le));
  }
