-- The arms of a block that is opened.
use Rattle.std.proofs.Common.{◌≡◌, ℕ, ◌-◌, ◌<◌, ◌≤◌, true, List, ◌∷◌, map, length, take, Some, None, Option, Ok, Err, sym, refl, ap, ◌∙◌, subst, arith}
use Rattle.std.proofs.lemmas.Bool.{ltb-true, leb-true}
use Rattle.std.proofs.lemmas.List.{length-take-le}
use Rattle.banks.specs.Meaning.{Meaning}
use Rattle.tree.specs.Elements.{Tree}
use Rattle.held.specs.declared.faults.Fault.{Fault}
use Rattle.held.specs.declared.scenes.Scene.{Scene}
use Rattle.held.specs.Scenes.{host_in, pool_of, Fits}
use Rattle.frames.specs.declared.frame.Frame.{Frame}
use Rattle.frames.specs.declared.frame.Manner as code_manner
use Rattle.frames.specs.declared.frame.Manner.TheVariants.{Once, Each, Cells, Keeping, Watching}
use Rattle.frames.specs.Items.{item_of}
use Rattle.frames.specs.Views.{open_in, around_in, manner_of}
use Rattle.meaning.specs.Hosts.{Host}
use Rattle.meaning.specs.Things.{Drawers}
use Rattle.meaning.specs.Frames.{Frames, Manner}
use Rattle.meaning.specs.Acts.{Act, Step}
use Rattle.meaning.specs.Leaves.{Flow}
use Rattle.meaning.specs.Looking.{World}
use Rattle.meaning.specs.Openings.{Opening}
use Rattle.meaning.specs.Blocks.{around, visits, visit, visited}
use Rattle.meaning.specs.Rendering.{render}
use Rattle.renderer.specs.declared.guards.First.{First}
use Rattle.renderer.specs.declared.guards.Seen.{Seen}
use Rattle.renderer.specs.declared.guards.Chosen.{Chosen}
use Rattle.renderer.specs.declared.machine.Machine.{Machine}
use Rattle.renderer.specs.declared.machine.Mode.{Mode}
use Rattle.renderer.specs.declared.machine.Mode.TheVariants.{Elements, Between}
use Rattle.renderer.specs.declared.machine.Move.{Move}
use Rattle.renderer.specs.declared.machine.Move.TheVariants as move
use Rattle.renderer.specs.declared.machine.arms.Tag.{Tag}
use Rattle.renderer.specs.declared.machine.opening.Visits.{Visits}
use Rattle.renderer.specs.declared.openings.Opened.{Opened}
use Rattle.renderer.specs.declared.openings.Opened.TheVariants as found
use Rattle.renderer.specs.Acts.{world}
use Rattle.renderer.specs.Arms.{arm_frame, PassedBy, Entered, Passed, AtArms}
use Rattle.renderer.specs.Costs.{cost}
use Rattle.renderer.specs.Ends.{TargetFits}
use Rattle.renderer.specs.Guards.{Sees, Taken}
use Rattle.renderer.specs.Machines.{CutFrom, block_fits, steps_left, Stands, Stepped}
use Rattle.renderer.specs.Openings.{opening_of}
use Rattle.renderer.specs.Running.{Going}
use Rattle.renderer.specs.Visiting.{shown_items, shown_cols, manner_in, visited_items}
use Rattle.renderer.proofs.Costs.{skip_falls, open_falls}
use Rattle.renderer.proofs.Decodes.{both_parts}
use Rattle.renderer.proofs.Runs.{guard_fault, no_arm, arm_taken}
use Rattle.renderer.proofs.Stepping.{fails}

pub fits_parts : (at end depth e : ℕ) → block_fits at end depth e ≡ true → (at < e) × (e ≤ end) × (depth < 16)
fits_parts at end depth e h =
    let (after, more) = both_parts _ _ h in
    let (within, room) = both_parts _ _ more in
    (ltb-true at e after, leb-true e end within, ltb-true depth 16 room)

-- fewer steps are left
pub skipped_falls : (k : Mode) (at e end : ℕ) (fs : List Frame) → k ≡ Elements → at < e → e ≤ end → cost k e end fs < cost k at end fs
skipped_falls k at e end fs is lt le = subst (λ y. cost y e end fs < cost y at end fs) (sym is) (skip_falls at end fs e lt le)

pub arm_falls : (c d : Machine) (t : Tag) (v : Visits) (a : Chosen) → c.mode ≡ Elements → length (open_in c.frames) < 16 → t.end ≤ c.end → c.at < a.body → a.body ≤ a.end → a.end ≤ t.end → v.times < 65536 →
    open_in d.frames ≡ arm_frame c t v a ∷ open_in c.frames → d.mode ≡ Between → d.at ≡ a.end → d.end ≡ a.end → steps_left d < steps_left c
arm_falls c d t v a is room in_list behind le in_block few frames mode at end =
    let before : steps_left c ≡ cost Elements c.at c.end (open_in c.frames) = ap (λ y. cost y c.at c.end (open_in c.frames)) is in
    let after : steps_left d ≡ cost Between a.end a.end (arm_frame c t v a ∷ open_in c.frames) = λ i. cost (mode i) (at i) (end i) (frames i) in
    omega (arith, before, after, open_falls c.at c.end (open_in c.frames) (arm_frame c t v a) refl (omega (arith, few)) behind le in_block in_list refl room)

-- the items of an arm's visits
pub shown_opening : (h : Host) (x : Opened) → map (item_of h) (shown_items x) ≡ Rattle.meaning.specs.Blocks.items (opening_of h x)
shown_opening h found.Bare = refl
shown_opening h (found.Target v) = refl
shown_opening h (found.Loop w n) = refl
shown_opening h (found.Table w n k) = refl

visited_as : (h : Host) (x : Opened) (m : code_manner.Manner) → map (item_of h) (visited_items m (shown_items x)) ≡ visited (manner_of m) (opening_of h x)
visited_as h x Once = refl
visited_as h x (Each v n) = shown_opening h x
visited_as h x (Cells v n k) = shown_opening h x
visited_as h x (Keeping t) = refl
visited_as h x Watching = refl

module _ (s : Scene) (m : Meaning) (limit stop : ℕ) (fin : Step Flow) (c : Machine) (d : Drawers) (out : List ℕ) (t : Tag) (first : First) (x : Opened) (v : Seen) (h : AtArms s m limit stop fin c d out t first x) (sees : Sees v (opening_of (host_in s) x)) where
  abbrev fs : List Frame
  fs = open_in c.frames

  abbrev w : World
  w = world s m limit

  abbrev o : List ℕ
  o = take c.filled out

  abbrev e : Frames
  e = around_in (host_in s) c.frames

  abbrev op : Opening
  op = opening_of (host_in s) x

  abbrev room : ℕ
  room = 16 - length fs - 1

  fits_world : Fits w s
  fits_world = record { names = refl; host = refl }

  abbrev GoingNow : Mode → ℕ → ℕ → List Frame → ℕ → Type 0
  GoingNow k at end gs n = Going (pool_of s) s.book.nodes.now stop w k at end gs d (take n out) fin

  arrives : (c' : Machine) (k : Mode) (at end : ℕ) (gs : List Frame) → open_in c'.frames ≡ gs → c'.mode ≡ k → c'.at ≡ at → c'.end ≡ end → c'.filled ≡ c.filled → GoingNow k at end gs c.filled → Stands s m limit stop fin c' d out
  arrives c' k at end gs ef ek ea ee en g = record {
    few = h.few;
    long = h.long;
    within = subst (λ n. n ≤ length out) (sym en) h.within;
    going =
        let same : ◌≡◌ {A = Mode × ℕ × ℕ × List Frame × ℕ} (c'.mode, c'.at, c'.end, open_in c'.frames, c'.filled) (k, at, end, gs, c.filled) = λ i. (ek i, ea i, ee i, ef i, en i) in
        subst (λ y. GoingNow y.0 y.1 y.2 y.3 y.4) (sym same) g;
  }

  passed_by : (c' : Machine) → PassedBy c c' t → Taken s c.frames d room v h.arms (Ok None) → Stands s m limit stop fin c' d out
  passed_by c' p none =
      arrives c' Elements t.end c.end fs p.frames p.mode p.at p.end p.filled
      (no_arm (pool_of s) s.book.nodes.now stop w c.at c.end fs d o fin h.inside h.held t.place t.end op h.block h.arms h.rest h.spelt h.comes (none w h.block t.place op o fits_world sees))

  abbrev visiting_as : Manner → Tree → Act Flow
  visiting_as k body = around k t.place e (visits k (visit w k t.place e (λ y. render w body y)) (visited k op) 1)

  entered : (c' : Machine) (a : Chosen) → Entered c c' t x a → Taken s c.frames d room v h.arms (Ok (Some a)) → Stands s m limit stop fin c' d out
  entered c' a p took =
      let y = p.are h.counted in
      let k = manner_in t.block (length (shown_items x)) (shown_cols x) a.guard in
      let in_manner : manner_of k ≡ Rattle.meaning.specs.Blocks.manner h.block op took.guard = h.like.manner (host_in s) x a.guard took.guard took.kind in
      arrives c' Between a.end a.end (arm_frame c t p.visits a ∷ fs) p.frames p.mode p.at p.end p.filled
      (arm_taken (pool_of s) s.book.nodes.now stop w c.at c.end fs d o fin h.inside h.held t.place t.end op h.block h.arms h.rest h.spelt h.comes (arm_frame c t p.visits a) took.body h.some
      (took.visits w h.block t.place op o fits_world sees ∙ ap (λ j. visiting_as j took.body d o) (sym (ap manner_of y.manner ∙ in_manner)))
      took.spells
      (refl, refl, refl, refl, sym (length-take-le c.filled out h.within))
      (ap (map (item_of (host_in s))) y.items ∙ visited_as (host_in s) x k ∙ ap (λ j. visited (manner_of j) op) (sym y.manner))
      (ap length y.items ∙ sym y.times)
      (subst (TargetFits 128) (sym y.manner) (h.like.target x a.guard)))

  pub passed_on : (c' : Machine) (r : Option Chosen) → Passed c c' t x r → Taken s c.frames d room v h.arms (Ok r) → Stands s m limit stop fin c' d out
  passed_on c' None p took = passed_by c' p took
  passed_on c' (Some a) p took = entered c' a p took

  pub choosing_fails : (k : Fault) (c' : Machine) (r : Move) → r ≡ move.Fault k t.place → c'.frames ≡ c.frames → CutFrom fs c.filled c'.filled → Taken s c.frames d room v h.arms (Err k) → Stepped s m limit stop fin c' d out r
  choosing_fails k c' r is ef cut stopped =
      fails s m limit stop fin c' d out fs fs c.filled k t.place r is cut (ap open_in ef) h.long h.within
      (guard_fault (pool_of s) s.book.nodes.now stop w c.at c.end fs d o fin h.inside h.held t.place t.end op h.block h.arms h.rest h.spelt h.comes _ (stopped w h.block t.place op o fits_world sees))
