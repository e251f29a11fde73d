-- One step of a rendering.
use Rattle.std.proofs.Common.{◌≡◌, ℕ, suc, ◌+◌, ◌-◌, ◌<◌, ◌≤◌, List, [], ◌∷◌, map, length, drop, Some, sym, refl, ap, ap₂, ◌∙◌, subst, arith, drop-cons}
use Rattle.std.proofs.lemmas.Bool.{eq-eqb}
use Rattle.std.proofs.lemmas.List.{drop-map}
use Rattle.std.proofs.lemmas.Option.{get_or_from_slice_get}
use Rattle.std.proofs.Math.ListN.{drop_of_length-le}
use Rattle.std.specs.List.{slice_get}
use Rattle.tree.specs.Elements as tree
use Rattle.tree.specs.Elements.{Tree, done, leaf, block, Arms}
use Rattle.nodes.specs.declared.table.Leaf.{Leaf}
use Rattle.nodes.specs.declared.table.Node.{Node}
use Rattle.nodes.specs.Exprs.{Pool, only}
use Rattle.frames.specs.declared.frame.Frame as code
use Rattle.frames.specs.declared.frame.Manner as code_manner
use Rattle.frames.specs.declared.frame.Manner.TheVariants.{Once, Each, Cells, Keeping, Watching}
use Rattle.frames.specs.declared.item.Item.{Item}
use Rattle.frames.specs.Items.{item_of}
use Rattle.frames.specs.Cuts.{trimmed, cutback}
use Rattle.frames.specs.Views.{manner_of, frames_of}
use Rattle.frames.specs.Visits.{visited as at_visit}
use Rattle.meaning.specs.Things.{Drawers, Held}
use Rattle.meaning.specs.Frames.{Manner, Frames}
use Rattle.meaning.specs.Acts.{Act, Step, step, gives, stops, Fault, go_on, ◌and_then◌, still}
use Rattle.meaning.specs.Looking.{World}
use Rattle.meaning.specs.Leaves.{Flow, onward, leaf_act}
use Rattle.meaning.specs.Openings.{Opening, opened}
use Rattle.meaning.specs.Blocks.{visits, visit, visited, enters, leaves, after_visit, closed, around, after_element}
use Rattle.meaning.specs.Rendering.{render, taken}
use Rattle.renderer.specs.declared.flow.Flow as code_flow
use Rattle.renderer.specs.declared.flow.Flow.TheVariants.{Onward, Broken, Continued}
use Rattle.renderer.specs.declared.machine.Mode.{Mode}
use Rattle.renderer.specs.declared.machine.Mode.TheVariants.{Elements, Ended, Between, Closing}
use Rattle.renderer.specs.Ends.{TargetFits}
use Rattle.renderer.specs.Flows.{flow_of}
use Rattle.renderer.specs.Running.{Inside, items_of, more, after_block, resume, shut, next_visits, run, Spells, Holds, Going, mode_after, mode_after_visit}
use Rattle.renderer.proofs.Decodes.{LeafAt, BlockAt, nothing_here}

-- a fault goes through a block that is closed
closed_fault : (m : code_manner.Manner) (p : ℕ) (e : Frames) (k : ℕ) (d : Drawers) (o : List ℕ) (x : Fault) → closed (manner_of m) p e k (step d o (stops x)) ≡ step d (trimmed m k o) (stops x)
closed_fault Once p e k d o x = refl
closed_fault (Each v n) p e k d o x = refl
closed_fault (Cells v n c) p e k d o x = refl
closed_fault (Keeping n) p e k d o x = refl
closed_fault Watching p e k d o x = refl

-- the items from a visit on
from_visit : {X Y : Type 0} (g : X → Y) (xs : List X) (i : ℕ) (x : X) → i < length xs → slice_get xs i ≡ Some x → drop i (map g xs) ≡ g x ∷ drop (i + 1) (map g xs)
from_visit g xs i x lt is =
    drop-map g i xs
    ∙ ap (map g) (drop-cons xs i x lt)
    ∙ ap₂ (λ y ys. g y ∷ ys) (get_or_from_slice_get xs i x x is) (sym (drop-map g (suc i) xs))
    ∙ ap (λ n. g x ∷ drop n (map g xs)) (let e : suc i ≡ i + 1 = omega arith in e)

module _ (b : Pool) (ns : List Node) (stop : ℕ) (w : World) where
  abbrev h : Rattle.meaning.specs.Hosts.Host
  h = w.host

  -- and through all the open blocks
  pub resume_fault : (fs : List code.Frame) (ts : List Inside) (e : ℕ) (d : Drawers) (o : List ℕ) (x : Fault) → Holds b ns stop fs ts e → resume w fs ts (step d o (stops x)) ≡ step d (cutback fs o) (stops x)
  resume_fault [] ts e d o x k = refl
  resume_fault (f ∷ fs) [] e d o x k = absurd k
  resume_fault (f ∷ fs) (t ∷ ts) e d o x k =
      ap (λ s. resume w fs ts (go_on s (λ r. after_element r (render w t.rest (frames_of h fs))))) (closed_fault f.manner f.place (frames_of h fs) f.mark d o x)
      ∙ resume_fault fs ts f.outer d (trimmed f.manner f.mark o) x k.3

  module _ (at e : ℕ) (fs : List code.Frame) (d : Drawers) (o : List ℕ) (fin : Step Flow) where
    abbrev Here : Mode → Type 0
    Here m = Going b ns stop w m at e fs d o fin

    abbrev around_here : Frames
    around_here = frames_of h fs

    -- behind an element that came to a flow
    flowed : (r : code_flow.Flow) (rest : Tree) (ts : List Inside) (d' : Drawers) (o' : List ℕ) → resume w fs ts (after_element (flow_of r) (render w rest around_here) d' o') ≡ run w (mode_after r) rest fs ts d' o'
    unfolding still
    flowed Onward rest ts d' o' = refl
    flowed Broken rest ts d' o' = refl
    flowed Continued rest ts d' o' = refl

    pub list_ended : Here Elements → at ≡ e → Here (Ended Onward)
    unfolding render still
    list_ended g eq = record {
      list = g.list;
      inside = g.inside;
      spelt = g.spelt;
      held = g.held;
      comes = sym (ap (λ t. resume w fs g.inside (render w t around_here d o)) (nothing_here b ns _ at e g.list g.spelt eq)) ∙ g.comes;
    }

    pub leaf_done : (g : Here Elements) (p : ℕ) (l : Leaf) (x : LeafAt b ns (16 - length fs) at e p l g.list) (r : code_flow.Flow) (d' : Drawers) (o' : List ℕ) →
        leaf_act w x.element p around_here d o ≡ step d' o' (gives (flow_of r)) → Going b ns stop w (mode_after r) (at + 1) e fs d' o' fin
    unfolding render ◌and_then◌
    leaf_done g p l x r d' o' did = record {
      list = x.rest;
      inside = g.inside;
      spelt = x.spelt;
      held = g.held;
      comes =
          sym (flowed r x.rest g.inside d' o')
          ∙ sym (ap (resume w fs g.inside) (ap (λ t. render w t around_here d o) x.is ∙ ap (λ s. go_on s (λ f. after_element f (render w x.rest around_here))) did))
          ∙ g.comes;
    }

    pub leaf_fault : (g : Here Elements) (p : ℕ) (l : Leaf) (x : LeafAt b ns (16 - length fs) at e p l g.list) (q : Fault) (d' : Drawers) (o' : List ℕ) →
        leaf_act w x.element p around_here d o ≡ step d' o' (stops q) → fin ≡ step d' (cutback fs o') (stops q)
    unfolding render ◌and_then◌
    leaf_fault g p l x q d' o' did =
        sym g.comes
        ∙ ap (resume w fs g.inside) (ap (λ t. render w t around_here d o) x.is ∙ ap (λ s. go_on s (λ f. after_element f (render w x.rest around_here))) did)
        ∙ resume_fault fs g.inside e d' o' q g.held

    module _ (g : Here Elements) (p end : ℕ) {Of : tree.Block → Type 0} {First : Arms → Type 0} (x : BlockAt b ns (16 - length fs) at e p end Of First g.list) where
      abbrev then_arms : Opening → Act Flow
      then_arms op = taken w x.opened p op x.arms around_here

      abbrev then_rest : Flow → Act Flow
      then_rest f = after_element f (render w x.rest around_here)

      begun : resume w fs g.inside (go_on (opened w x.opened p around_here d o) (λ op. then_arms op and_then then_rest)) ≡ fin
      unfolding render ◌and_then◌
      begun = sym (ap (λ t. resume w fs g.inside (render w t around_here d o)) x.is) ∙ g.comes

      pub open_fault : (q : Fault) → opened w x.opened p around_here d o ≡ step d o (stops q) → fin ≡ step d (cutback fs o) (stops q)
      open_fault q did =
          sym begun
          ∙ ap (λ s. resume w fs g.inside (go_on s (λ op. then_arms op and_then then_rest))) did
          ∙ resume_fault fs g.inside e d o q g.held

      pub arms_left : (op : Opening) → opened w x.opened p around_here d o ≡ step d o (gives op) → resume w fs g.inside (go_on (then_arms op d o) then_rest) ≡ fin
      unfolding ◌and_then◌
      arms_left op did = sym (ap (λ s. resume w fs g.inside (go_on s (λ y. then_arms y and_then then_rest))) did) ∙ begun

    -- The arms of a block that is opened.
    module _ (ts : List Inside) (held : Holds b ns stop fs ts e) (p end : ℕ) (op : Opening) (k : tree.Block) (arms : Arms) (rest : Tree) (spelt : Spells b ns (16 - length fs) end e rest)
        (left : resume w fs ts (go_on (taken w k p op arms around_here d o) (λ r. after_element r (render w rest around_here))) ≡ fin) where
      abbrev arms_here : Act Flow
      arms_here = taken w k p op arms around_here

      abbrev behind : Flow → Act Flow
      behind f = after_element f (render w rest around_here)

      pub guard_fault : (q : Fault) → arms_here d o ≡ step d o (stops q) → fin ≡ step d (cutback fs o) (stops q)
      guard_fault q stopped = sym left ∙ ap (λ s. resume w fs ts (go_on s behind)) stopped ∙ resume_fault fs ts e d o q held

      pub no_arm : arms_here d o ≡ step d o (gives onward) → Going b ns stop w Elements end e fs d o fin
      no_arm none = record { list = rest; inside = ts; spelt = spelt; held = held; comes = sym (ap (λ s. resume w fs ts (go_on s behind)) none) ∙ left }

      -- the arm that is taken: its frame is opened before its first visit
      pub arm_taken : (f : code.Frame) (body : Tree) → 0 < 16 - length fs →
          (arms_here d o ≡ around (manner_of f.manner) p around_here (visits (manner_of f.manner) (visit w (manner_of f.manner) p around_here (λ e'. render w body e')) (visited (manner_of f.manner) op) 1) d o) →
          Spells b ns (16 - length fs - 1) f.body f.end body →
          (f.place ≡ p) × (f.visit ≡ 0) × (f.next ≡ end) × (f.outer ≡ e) × (f.mark ≡ length o) →
          map (item_of h) (items_of f) ≡ visited (manner_of f.manner) op → length (items_of f) ≡ f.times → TargetFits 128 f.manner →
          Going b ns stop w Between f.end f.end (f ∷ fs) d o fin
      unfolding around
      arm_taken f body some took inner (place, visit_is, next, outer, mark) items times target =
          let m = manner_of f.manner in
          let same : ◌≡◌ {A = ℕ × ℕ × ℕ × List Held} (f.place, f.mark, f.visit, map (item_of h) (items_of f)) (p, length o, 0, visited m op) = λ i. (place i, mark i, visit_is i, items i) in
          record {
            list = done;
            inside = record { body = body; rest = rest } ∷ ts;
            spelt = record { steps = 0; is = ap (λ c. only c done) (eq-eqb f.end f.end refl) };
            held = (
              record { stop = refl; times = times; target = target },
              subst (λ r. Spells b ns r f.body f.end body) (omega (arith, some)) inner,
              subst (λ y. Spells b ns (16 - length fs) y f.outer rest) (sym next) (subst (λ y. Spells b ns (16 - length fs) end y rest) (sym outer) spelt),
              subst (λ y. Holds b ns stop fs ts y) (sym outer) held,
            );
            comes =
                ap (λ k. resume w fs ts (go_on (closed m k.0 around_here k.1 (visits m (visit w m k.0 around_here (λ e'. render w body e')) (drop k.2 k.3) (k.2 + 1) d o)) behind)) same
                ∙ sym (ap (λ s. resume w fs ts (go_on s behind)) took) ∙ left;
          }

  module _ (at e : ℕ) (f : code.Frame) (fs : List code.Frame) (d : Drawers) (o : List ℕ) (fin : Step Flow) where
    abbrev Inner : Mode → Type 0
    Inner m = Going b ns stop w m at e (f ∷ fs) d o fin

    abbrev m : Manner
    m = manner_of f.manner

    abbrev outside : Frames
    outside = frames_of h fs

    -- what follows a visit that came to a flow
    visited_then : (k : code_manner.Manner) (c : code_flow.Flow) (cur : Tree) (t : Inside) (ts : List Inside) (d' : Drawers) (o' : List ℕ) →
        resume w fs ts (after_block w f t fs (after_visit (manner_of k) (flow_of c) (more w f t fs) d' o')) ≡ run w (mode_after_visit k c) cur (f ∷ fs) (t ∷ ts) d' o'
    unfolding still
    visited_then Once c cur t ts d' o' = refl
    visited_then (Each v n) Onward cur t ts d' o' = refl
    visited_then (Each v n) Broken cur t ts d' o' = refl
    visited_then (Each v n) Continued cur t ts d' o' = refl
    visited_then (Cells v n k) Onward cur t ts d' o' = refl
    visited_then (Cells v n k) Broken cur t ts d' o' = refl
    visited_then (Cells v n k) Continued cur t ts d' o' = refl
    visited_then (Keeping n) c cur t ts d' o' = refl
    visited_then Watching c cur t ts d' o' = refl

    abbrev Hold : List Inside → Type 0
    Hold ts = Holds b ns stop (f ∷ fs) ts e

    left_then : (c : code_flow.Flow) (cur : Tree) (o' : List ℕ) (ts : List Inside) → Hold ts → leaves w m (f.visit - 1) f.place outside (flow_of c) d o ≡ step d o' (gives (flow_of c)) →
        resume w (f ∷ fs) ts (step d o (gives (flow_of c))) ≡ run w (mode_after_visit f.manner c) cur (f ∷ fs) ts d o'
    left_then c cur o' [] k did = absurd k
    left_then c cur o' (t ∷ ts) k did =
        ap (λ s. resume w fs ts (after_block w f t fs (go_on s (λ r. after_visit m r (more w f t fs))))) did
        ∙ visited_then f.manner c cur t ts d o'

    -- the end of a visit, with its marks
    pub visit_left : (c : code_flow.Flow) (o' : List ℕ) → Inner (Ended c) → leaves w m (f.visit - 1) f.place outside (flow_of c) d o ≡ step d o' (gives (flow_of c)) →
        Going b ns stop w (mode_after_visit f.manner c) at e (f ∷ fs) d o' fin
    visit_left c o' g did = record {
      list = g.list;
      inside = g.inside;
      spelt = g.spelt;
      held = g.held;
      comes = sym (left_then c g.list o' g.inside g.held did) ∙ g.comes;
    }

    left_stops : (c : code_flow.Flow) (o' : List ℕ) (q : Fault) (ts : List Inside) → Hold ts → leaves w m (f.visit - 1) f.place outside (flow_of c) d o ≡ step d o' (stops q) →
        resume w (f ∷ fs) ts (step d o (gives (flow_of c))) ≡ step d (cutback (f ∷ fs) o') (stops q)
    left_stops c o' q [] k did = absurd k
    left_stops c o' q (t ∷ ts) k did =
        ap (λ s. resume w fs ts (after_block w f t fs (go_on s (λ r. after_visit m r (more w f t fs))))) did
        ∙ resume_fault (f ∷ fs) (t ∷ ts) e d o' q k

    pub leaving_fault : (c : code_flow.Flow) (o' : List ℕ) (q : Fault) → Inner (Ended c) → leaves w m (f.visit - 1) f.place outside (flow_of c) d o ≡ step d o' (stops q) → fin ≡ step d (cutback (f ∷ fs) o') (stops q)
    leaving_fault c o' q g did = sym g.comes ∙ left_stops c o' q g.inside g.held did

    -- the visits to come
    abbrev visit_body : Tree → Held → ℕ → Act Flow
    visit_body t = visit w m f.place outside (λ e'. render w t e')

    abbrev with_item : Item → List Held
    with_item x = item_of h x ∷ drop (f.visit + 1) (map (item_of h) (items_of f))

    visit_begins : (t : Inside) (ts : List Inside) (x : Item) → f.visit < length (items_of f) → slice_get (items_of f) f.visit ≡ Some x →
        shut w (f ∷ fs) (t ∷ ts) (next_visits w (f ∷ fs) (t ∷ ts) d o) ≡ resume w fs ts (after_block w f t fs (visits m (visit_body t.body) (with_item x) (f.visit + 1) d o))
    visit_begins t ts x lt is = ap (λ ys. resume w fs ts (after_block w f t fs (visits m (visit_body t.body) ys (f.visit + 1) d o))) (from_visit (item_of h) (items_of f) f.visit x lt is)

    -- the body of a visit that has begun, and what follows
    abbrev rest_of_visit : Inside → Item → Act Flow
    rest_of_visit t x =
        (λ d' o'. go_on (render w t.body (frames_of h (at_visit x f ∷ fs)) d' o') (λ r. leaves w m (f.visit + 1 - 1) f.place outside r))

    entered_then : (x : Item) (o' : List ℕ) (t : Inside) (ts : List Inside) → f.visit < length (items_of f) → slice_get (items_of f) f.visit ≡ Some x →
        enters w m (f.visit + 1 - 1) f.place outside d o ≡ step d o' (gives tt) →
        shut w (f ∷ fs) (t ∷ ts) (next_visits w (f ∷ fs) (t ∷ ts) d o) ≡ resume w (at_visit x f ∷ fs) (t ∷ ts) (render w t.body (frames_of h (at_visit x f ∷ fs)) d o')
    unfolding ◌and_then◌
    entered_then x o' t ts lt is did =
        visit_begins t ts x lt is
        ∙ ap (λ s. resume w fs ts (after_block w f t fs (go_on (go_on s (λ _. rest_of_visit t x)) (λ r. after_visit m r (more w (at_visit x f) t fs))))) did

    -- the start of a visit, with its marks
    pub visit_entered : (x : Item) (o' : List ℕ) → Inner Between → f.visit < f.times → slice_get (items_of f) f.visit ≡ Some x → enters w m f.visit f.place outside d o ≡ step d o' (gives tt) →
        Going b ns stop w Elements f.body f.end (at_visit x f ∷ fs) d o' fin
    visit_entered x o' g lt is did = entered g.inside g.held g.comes
      where
        same : f.visit ≡ f.visit + 1 - 1
        same = omega arith

        entered : (ts : List Inside) → Hold ts → shut w (f ∷ fs) ts (next_visits w (f ∷ fs) ts d o) ≡ fin → Going b ns stop w Elements f.body f.end (at_visit x f ∷ fs) d o' fin
        entered [] k r = absurd k
        entered (t ∷ ts) k r = record {
          list = t.body;
          inside = t ∷ ts;
          spelt = k.1;
          held = (record { stop = refl; times = k.0.times; target = k.0.target }, k.1, k.2, k.3);
          comes = sym (entered_then x o' t ts (omega (arith, lt, k.0.times)) is (subst (λ i. enters w m i f.place outside d o ≡ step d o' (gives tt)) same did)) ∙ r;
        }

    pub entering_fault : (x : Item) (o' : List ℕ) (q : Fault) → Inner Between → f.visit < f.times → slice_get (items_of f) f.visit ≡ Some x → enters w m f.visit f.place outside d o ≡ step d o' (stops q) →
        fin ≡ step d (cutback (f ∷ fs) o') (stops q)
    unfolding ◌and_then◌
    entering_fault x o' q g lt is did = entered g.inside g.held g.comes
      where
        same : f.visit ≡ f.visit + 1 - 1
        same = omega arith

        entered : (ts : List Inside) → Hold ts → shut w (f ∷ fs) ts (next_visits w (f ∷ fs) ts d o) ≡ fin → fin ≡ step d (cutback (f ∷ fs) o') (stops q)
        entered [] k r = absurd k
        entered (t ∷ ts) k r =
            sym r
            ∙ visit_begins t ts x (omega (arith, lt, k.0.times)) is
            ∙ ap (λ s. resume w fs ts (after_block w f t fs (go_on (go_on s (λ _. rest_of_visit t x)) (λ r. after_visit m r (more w (at_visit x f) t fs)))))
            (subst (λ i. enters w m i f.place outside d o ≡ step d o' (stops q)) same did)
            ∙ resume_fault (f ∷ fs) (t ∷ ts) e d o' q k

    -- no visit is left
    none_left : (t : Inside) (ts : List Inside) → length (items_of f) ≤ f.visit → shut w (f ∷ fs) (t ∷ ts) (next_visits w (f ∷ fs) (t ∷ ts) d o) ≡ shut w (f ∷ fs) (t ∷ ts) (step d o (gives onward))
    unfolding still
    none_left t ts le =
        ap (λ ys. resume w fs ts (after_block w f t fs (visits m (visit_body t.body) ys (f.visit + 1) d o)))
        (drop-map (item_of h) f.visit (items_of f) ∙ ap (map (item_of h)) (drop_of_length-le (items_of f) le))

    pub visits_done : Inner Between → f.times ≤ f.visit → Inner (Closing Onward)
    visits_done g le = record { list = g.list; inside = g.inside; spelt = g.spelt; held = g.held; comes = done_with g.inside g.held g.comes }
      where
        done_with : (ts : List Inside) → Hold ts → shut w (f ∷ fs) ts (next_visits w (f ∷ fs) ts d o) ≡ fin → shut w (f ∷ fs) ts (step d o (gives onward)) ≡ fin
        done_with [] k r = absurd k
        done_with (t ∷ ts) k r = sym (none_left t ts (omega (arith, k.0.times, le))) ∙ r

    -- the block is closed
    pub block_closed : (c : code_flow.Flow) (d' : Drawers) (o' : List ℕ) → Inner (Closing c) → closed m f.place outside f.mark (step d o (gives (flow_of c))) ≡ step d' o' (gives (flow_of c)) →
        Going b ns stop w (mode_after c) f.next f.outer fs d' o' fin
    block_closed c d' o' g did = shut_then g.inside g.held g.comes
      where
        shut_then : (ts : List Inside) → Hold ts → shut w (f ∷ fs) ts (step d o (gives (flow_of c))) ≡ fin → Going b ns stop w (mode_after c) f.next f.outer fs d' o' fin
        shut_then [] k r = absurd k
        shut_then (t ∷ ts) k r = record {
          list = t.rest;
          inside = ts;
          spelt = k.2;
          held = k.3;
          comes = sym (flowed f.next f.outer fs d' o' fin c t.rest ts d' o') ∙ sym (ap (λ s. resume w fs ts (go_on s (λ r. after_element r (render w t.rest outside)))) did) ∙ r;
        }

    pub closing_fault : (c : code_flow.Flow) (d' : Drawers) (o' : List ℕ) (q : Fault) → Inner (Closing c) → closed m f.place outside f.mark (step d o (gives (flow_of c))) ≡ step d' o' (stops q) →
        fin ≡ step d' (cutback fs o') (stops q)
    closing_fault c d' o' q g did = shut_then g.inside g.held g.comes
      where
        shut_then : (ts : List Inside) → Hold ts → shut w (f ∷ fs) ts (step d o (gives (flow_of c))) ≡ fin → fin ≡ step d' (cutback fs o') (stops q)
        shut_then [] k r = absurd k
        shut_then (t ∷ ts) k r =
            sym r ∙ ap (λ s. resume w fs ts (go_on s (λ r. after_element r (render w t.rest outside)))) did ∙ resume_fault fs ts f.outer d' o' q k.3

  -- the end of the ticket
  pub through : (c : code_flow.Flow) (m : Mode) (at e : ℕ) (d : Drawers) (o : List ℕ) (fin : Step Flow) → Going b ns stop w (Ended c) at e [] d o fin → fin ≡ step d o (gives (flow_of c))
  through c m at e d o fin g = sym g.comes
