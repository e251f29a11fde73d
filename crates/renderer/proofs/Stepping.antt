-- Steps of the machine, from what they rest on.
use Rattle.std.proofs.Common.{◌≡◌, ℕ, ◌-◌, ◌<◌, ◌≤◌, Bool, true, false, cond, ltb, List, [], ◌∷◌, length, take, drop, Some, None, Ok, Err, inl, inr, ltb-true, ltb-false, lt-ltb, sym, refl, ap, ap₂, ◌∙◌, subst, subst₂, arith}
use Rattle.std.specs.List.{slice_get}
use Rattle.banks.specs.Meaning.{Meaning}
use Rattle.std.proofs.lemmas.Option.{slice_get_cases}
use Rattle.nodes.specs.Exprs.{where_so}
use Rattle.nodes.proofs.Options.{none_some, some_is, where_parts}
use Rattle.held.specs.declared.faults.Fault.{Fault}
use Rattle.held.specs.declared.scenes.Scene.{Scene}
use Rattle.held.specs.Faults.{number_of, cause_of}
use Rattle.held.specs.Scenes.{host_in, pool_of}
use Rattle.frames.specs.declared.frame.Frame.{Frame}
use Rattle.frames.specs.declared.item.Item.{Item}
use Rattle.frames.specs.Cuts.{cutback}
use Rattle.frames.specs.Views.{open_in, frames_of, manner_of}
use Rattle.frames.specs.declared.stack.Frames.{Frames as Frames_code}
use Rattle.frames.specs.Visits.{visited as at_visit, next_visited}
use Rattle.meaning.specs.Things.{Drawers}
use Rattle.meaning.specs.Frames.{Frames}
use Rattle.meaning.specs.Acts.{Step, step, gives, stops, fault_at}
use Rattle.meaning.specs.Leaves.{Flow, onward}
use Rattle.meaning.specs.Looking.{World}
use Rattle.meaning.specs.Blocks.{enters, leaves, closed}
use Rattle.renderer.specs.declared.flow.Flow as code_flow
use Rattle.renderer.specs.declared.flow.Flow.TheVariants.{Onward}
use Rattle.renderer.specs.declared.ends.Stopped.{Stopped}
use Rattle.renderer.specs.declared.machine.Machine.{Machine}
use Rattle.renderer.specs.declared.machine.Mode.{Mode}
use Rattle.renderer.specs.declared.machine.Mode.TheVariants.{Elements, Ended, Between, Closing}
use Rattle.renderer.specs.declared.machine.Move.{Move}
use Rattle.renderer.specs.declared.machine.Move.TheVariants as move
use Rattle.renderer.specs.Acts.{world}
use Rattle.renderer.specs.Ends.{Ends, TargetFits}
use Rattle.renderer.specs.Flows.{flow_of}
use Rattle.renderer.specs.Leaves.{Few}
use Rattle.renderer.specs.Machines.{CutFrom, next_item, Stands, Done, Stepped}
use Rattle.renderer.specs.Running.{Inside, items_of, Framed, Going, Holds, mode_after, mode_after_visit}
use Rattle.renderer.proofs.Runs.{visit_left, leaving_fault, visit_entered, entering_fault, visits_done, block_closed, closing_fault}

pub top_none : {X : Type 0} (xs : List X) → slice_get xs 0 ≡ None → xs ≡ []
top_none [] e = refl
top_none (x ∷ xs) e = none_some x (sym e)

pub top_some : {X : Type 0} (xs : List X) (x : X) → slice_get xs 0 ≡ Some x → xs ≡ x ∷ drop 1 xs
top_some [] x e = none_some x e
top_some (y ∷ xs) x e = ap (λ z. z ∷ xs) (some_is y x e)

-- the item of the next visit
item_there : (f : Frame) (x : Item) → next_item f ≡ Some x → (f.visit < f.times) × (slice_get (items_of f) f.visit ≡ Some x)
item_there f x is =
    let (lt, there) = where_parts _ _ _ is in
    (ltb-true f.visit f.times lt, there)

-- without one, all visits have been made
all_made : (f : Frame) → length (items_of f) ≡ f.times → next_item f ≡ None → f.times ≤ f.visit
all_made f long none = tested (ltb f.visit f.times) refl
  where
    tested : (y : Bool) → ltb f.visit f.times ≡ y → f.times ≤ f.visit
    tested false e = ltb-false f.visit f.times e
    tested true e =
        let lt = ltb-true f.visit f.times e in
        elim (slice_get_cases (items_of f) f.visit).1 [
          | inl p ↦ none_some p.0 (sym none ∙ ap (λ y. where_so y (slice_get (items_of f) f.visit)) e ∙ p.2)
          | inr p ↦ absurd (omega (arith, p.0, long))
        ]

module _ (s : Scene) (m : Meaning) (limit stop : ℕ) (fin : Step Flow) where
  abbrev pub GoingAt : Mode → ℕ → ℕ → List Frame → Drawers → List ℕ → Type 0
  GoingAt k at e fs d o = Going (pool_of s) s.book.nodes.now stop (world s m limit) k at e fs d o fin

  -- the state of the machine, by what its mode and its frames are
  pub was : (c : Machine) (d : Drawers) (out : List ℕ) → Stands s m limit stop fin c d out → (k : Mode) (fs : List Frame) → c.mode ≡ k → open_in c.frames ≡ fs → GoingAt k c.at c.end fs d (take c.filled out)
  was c d out h k fs ek ef = subst₂ (λ y ys. GoingAt y c.at c.end ys d (take c.filled out)) ek ef h.going

  pub lands : (c : Machine) (d : Drawers) (out : List ℕ) (k : Mode) (fs : List Frame) → c.mode ≡ k → open_in c.frames ≡ fs → Few s → length out ≡ limit → c.filled ≤ length out → GoingAt k c.at c.end fs d (take c.filled out) → Stands s m limit stop fin c d out
  lands c d out k fs ek ef few long within g = record {
    few = few;
    long = long;
    within = within;
    going = subst₂ (λ y ys. GoingAt y c.at c.end ys d (take c.filled out)) (sym ek) (sym ef) g;
  }

  -- a fault, where the text was cut by some frames, and others are open
  pub fails : (c : Machine) (d : Drawers) (out : List ℕ) (fs gs : List Frame) (filled : ℕ) (k : Fault) (p : ℕ) (r : Move) → r ≡ move.Fault k p → CutFrom fs filled c.filled → open_in c.frames ≡ gs → length out ≡ limit → filled ≤ length out →
      fin ≡ step d (cutback fs (take filled out)) (stops (fault_at (number_of k) (cause_of k) p (frames_of (host_in s) gs))) → Stepped s m limit stop fin c d out r
  fails c d out fs gs filled k p r is cut ef long within comes = subst (Stepped s m limit stop fin c d out) (sym is) (record {
    long = long;
    within = omega (arith, cut.within, within);
    comes = comes ∙ ap₂ (λ o e. step d o (stops (fault_at (number_of k) (cause_of k) p (frames_of (host_in s) e)))) (sym (cut.cut out within)) (sym ef);
  })

  -- no block is open, and the list is at its end
  pub through_ended : (c : Machine) (d : Drawers) (out : List ℕ) → Stands s m limit stop fin c d out → (r : code_flow.Flow) → c.mode ≡ Ended r → open_in c.frames ≡ [] → Done s m limit stop fin c d out
  through_ended c d out h r ek ef = record { long = h.long; within = h.within; flow = flow_of r; comes = sym (was c d out h (Ended r) [] ek ef).comes }

  pub through_between : (c : Machine) (d : Drawers) (out : List ℕ) → Stands s m limit stop fin c d out → c.mode ≡ Between → open_in c.frames ≡ [] → Done s m limit stop fin c d out
  through_between c d out h ek ef = record { long = h.long; within = h.within; flow = onward; comes = sym (was c d out h Between [] ek ef).comes }

  pub through_closing : (c : Machine) (d : Drawers) (out : List ℕ) → Stands s m limit stop fin c d out → (r : code_flow.Flow) → c.mode ≡ Closing r → open_in c.frames ≡ [] → Done s m limit stop fin c d out
  through_closing c d out h r ek ef = record { long = h.long; within = h.within; flow = flow_of r; comes = sym (was c d out h (Closing r) [] ek ef).comes }

  module _ (c : Machine) (d : Drawers) (out : List ℕ) (h : Stands s m limit stop fin c d out) (f : Frame) (top : slice_get (open_in c.frames) 0 ≡ Some f) where
    abbrev inside : List Frame
    inside = f ∷ drop 1 (open_in c.frames)

    abbrev around : Frames
    around = frames_of (host_in s) (drop 1 (open_in c.frames))

    abbrev w : World
    w = world s m limit

    open_is : open_in c.frames ≡ inside
    open_is = top_some (open_in c.frames) f top

    -- the end of a visit
    pub left_on : (r : code_flow.Flow) → c.mode ≡ Ended r → (i : ℕ) → i ≡ f.visit - 1 → (n : ℕ) (new : List ℕ) (k : Mode) → k ≡ mode_after_visit f.manner r →
        Ends (leaves w (manner_of f.manner) i f.place around (flow_of r) d (take c.filled out)) (flow_of r) f.place around d (length out) new (Ok n) →
        Stands s m limit stop fin (record c { mode = k; filled = n }) d new
    left_on r ek i ei n new k is x =
        lands (record c { mode = k; filled = n }) d new (mode_after_visit f.manner r) inside is open_is h.few (x.long ∙ h.long) x.within
        (visit_left (pool_of s) s.book.nodes.now stop w c.at c.end f (drop 1 (open_in c.frames)) d (take c.filled out) fin r (take n new) (was c d out h (Ended r) inside ek open_is)
        (ap (λ j. leaves w (manner_of f.manner) j f.place around (flow_of r) d (take c.filled out)) (sym ei) ∙ x.did))

    pub left_fails : (r : code_flow.Flow) → c.mode ≡ Ended r → (i : ℕ) → i ≡ f.visit - 1 → (q : Stopped) (new : List ℕ) (c' : Machine) (v : Move) → v ≡ move.Fault q.fault f.place → open_in c'.frames ≡ drop 1 (open_in c.frames) → CutFrom (open_in c.frames) q.filled c'.filled →
        Ends (leaves w (manner_of f.manner) i f.place around (flow_of r) d (take c.filled out)) (flow_of r) f.place around d (length out) new (Err q) →
        Stepped s m limit stop fin c' d new v
    left_fails r ek i ei q new c' v is ef cut x =
        fails c' d new inside (drop 1 (open_in c.frames)) q.filled q.fault f.place v is (subst (λ fs. CutFrom fs q.filled c'.filled) open_is cut) ef (x.long ∙ h.long) x.within
        (leaving_fault (pool_of s) s.book.nodes.now stop w c.at c.end f (drop 1 (open_in c.frames)) d (take c.filled out) fin r (take q.filled new) _ (was c d out h (Ended r) inside ek open_is)
        (ap (λ j. leaves w (manner_of f.manner) j f.place around (flow_of r) d (take c.filled out)) (sym ei) ∙ x.did))

    -- the innermost frame and what its list is
    framed : (fs : List Frame) (ts : List Inside) (e : ℕ) → Holds (pool_of s) s.book.nodes.now stop (f ∷ fs) ts e → Framed f e
    framed fs [] e k = absurd k
    framed fs (t ∷ ts) e k = k.0

    top_framed : Framed f c.end
    top_framed =
        let g = was c d out h c.mode inside refl open_is in
        framed (drop 1 (open_in c.frames)) g.inside c.end g.held

    -- no visit is left
    pub no_more : c.mode ≡ Between → next_item f ≡ None → Stands s m limit stop fin (record c { mode = Closing Onward }) d out
    no_more ek none =
        lands (record c { mode = Closing Onward }) d out (Closing Onward) inside refl open_is h.few h.long h.within
        (visits_done (pool_of s) s.book.nodes.now stop w c.at c.end f (drop 1 (open_in c.frames)) d (take c.filled out) fin (was c d out h Between inside ek open_is) (all_made f top_framed.times none))

    -- the start of a visit
    pub entered_on : c.mode ≡ Between → (x : Item) → next_item f ≡ Some x → (n : ℕ) (new : List ℕ) (fs : Frames_code) → open_in fs ≡ next_visited x (open_in c.frames) →
        Ends (enters w (manner_of f.manner) f.visit f.place around d (take c.filled out)) tt f.place around d (length out) new (Ok n) →
        Stands s m limit stop fin (record { frames = fs; mode = Elements; at = f.body; end = f.end; filled = n }) d new
    entered_on ek x is n new fs opened y =
        let (lt, there) = item_there f x is in
        lands (record { frames = fs; mode = Elements; at = f.body; end = f.end; filled = n }) d new Elements (at_visit x f ∷ drop 1 (open_in c.frames)) refl
        (opened ∙ ap (next_visited x) open_is ∙ ap (λ y. cond y (at_visit x f) f ∷ drop 1 (open_in c.frames)) (lt-ltb f.visit f.times lt)) h.few (y.long ∙ h.long) y.within
        (visit_entered (pool_of s) s.book.nodes.now stop w c.at c.end f (drop 1 (open_in c.frames)) d (take c.filled out) fin x (take n new) (was c d out h Between inside ek open_is) lt there y.did)

    pub entering_fails : c.mode ≡ Between → (x : Item) → next_item f ≡ Some x → (q : Stopped) (new : List ℕ) (c' : Machine) (v : Move) → v ≡ move.Fault q.fault f.place → open_in c'.frames ≡ drop 1 (open_in c.frames) → CutFrom (open_in c.frames) q.filled c'.filled →
        Ends (enters w (manner_of f.manner) f.visit f.place around d (take c.filled out)) tt f.place around d (length out) new (Err q) →
        Stepped s m limit stop fin c' d new v
    entering_fails ek x is q new c' v faulted ef cut y =
        let (lt, there) = item_there f x is in
        fails c' d new inside (drop 1 (open_in c.frames)) q.filled q.fault f.place v faulted (subst (λ fs. CutFrom fs q.filled c'.filled) open_is cut) ef (y.long ∙ h.long) y.within
        (entering_fault (pool_of s) s.book.nodes.now stop w c.at c.end f (drop 1 (open_in c.frames)) d (take c.filled out) fin x (take q.filled new) _ (was c d out h Between inside ek open_is) lt there y.did)

    -- the closing of a block
    pub closed_on : (r : code_flow.Flow) → c.mode ≡ Closing r → (n : ℕ) (d' : Drawers) (k : Mode) (fs : Frames_code) → k ≡ mode_after r → open_in fs ≡ drop 1 (open_in c.frames) →
        (TargetFits 128 f.manner → Ends (closed (manner_of f.manner) f.place around f.mark (step d (take c.filled out) (gives (flow_of r)))) (flow_of r) f.place around d' (length out) out (Ok n)) →
        Stands s m limit stop fin (record { frames = fs; mode = k; at = f.next; end = f.outer; filled = n }) d' out
    closed_on r ek n d' k fs is ef made =
        let x = made top_framed.target in
        lands (record { frames = fs; mode = k; at = f.next; end = f.outer; filled = n }) d' out (mode_after r) (drop 1 (open_in c.frames)) is ef h.few h.long x.within
        (block_closed (pool_of s) s.book.nodes.now stop w c.at c.end f (drop 1 (open_in c.frames)) d (take c.filled out) fin r d' (take n out) (was c d out h (Closing r) inside ek open_is) x.did)

    pub closing_fails : (r : code_flow.Flow) → c.mode ≡ Closing r → (q : Stopped) (d' : Drawers) (fs : Frames_code) (c' : Machine) (v : Move) → v ≡ move.Fault q.fault f.place → open_in fs ≡ drop 1 (open_in c.frames) → c'.frames ≡ fs → CutFrom (open_in fs) q.filled c'.filled →
        (TargetFits 128 f.manner → Ends (closed (manner_of f.manner) f.place around f.mark (step d (take c.filled out) (gives (flow_of r)))) (flow_of r) f.place around d' (length out) out (Err q)) →
        Stepped s m limit stop fin c' d' out v
    closing_fails r ek q d' fs c' v faulted ef same cut made =
        let x = made top_framed.target in
        fails c' d' out (drop 1 (open_in c.frames)) (drop 1 (open_in c.frames)) q.filled q.fault f.place v faulted (subst (λ gs. CutFrom gs q.filled c'.filled) ef cut) (ap open_in same ∙ ef) h.long x.within
        (closing_fault (pool_of s) s.book.nodes.now stop w c.at c.end f (drop 1 (open_in c.frames)) d (take c.filled out) fin r d' (take q.filled out) _ (was c d out h (Closing r) inside ek open_is) x.did)
