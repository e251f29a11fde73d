-- What is left to do behind the last step of a rendering: zeros, and where there was no fault a blank trail.
use Rattle.std.proofs.Common.{◌≡◌, ℕ, ◌-◌, ◌*◌, ◌≤◌, List, [], ◌++◌, length, map, take, drop, replicate, Some, None, Ok, Err, refl, ap, ◌∙◌, arith}
use Rattle.std.proofs.lemmas.List.{take_at, drop_at, length-append, length-replicate, length-take-le}
use Rattle.banks.specs.Meaning.{Meaning}
use Rattle.tree.specs.Elements.{Tree}
use Rattle.nodes.specs.Trees.{tree_at, elements_of}
use Rattle.nodes.proofs.Options.{where_parts}
use Rattle.held.specs.declared.scenes.Scene.{Scene}
use Rattle.held.specs.Scenes.{host_in, pool_of}
use Rattle.frames.specs.declared.frame.Frame.{Frame}
use Rattle.frames.specs.declared.frame.TrailRecord.{TrailRecord}
use Rattle.frames.specs.Trails.{trail_for}
use Rattle.frames.specs.Views.{frames_of, trail_record_of}
use Rattle.frames.proofs.Trails.{trail_length, trail_means}
use Rattle.meaning.specs.Things.{Drawers}
use Rattle.meaning.specs.Hosts.{Host}
use Rattle.meaning.specs.Frames.{sixteen, trail_of}
use Rattle.meaning.specs.Acts.{gives, stops, fault_at}
use Rattle.meaning.specs.Calls.{filled}
use Rattle.held.specs.Faults.{number_of, cause_of}
use Rattle.renderer.specs.declared.machine.running.Failure.{Failure}
use Rattle.renderer.specs.Acts.{world}
use Rattle.renderer.specs.Calls.{Rendered, records_in}
use Rattle.renderer.specs.Rendered.{NodesRendered}
use Rattle.renderer.specs.Running.{Spells}

-- a text of a buffer and then zeros is as long as the buffer
filled_long : (limit n : ℕ) (out : List ℕ) → length out ≡ limit → n ≤ length out → length (filled limit (take n out)) ≡ limit
filled_long limit n out l h =
    let t = length-take-le n out h in
    length-append (take n out) (replicate (limit - length (take n out)) 0) ∙ omega (arith, t, l, h, length-replicate {A = ℕ} (limit - length (take n out)) 0)

-- a trail that names these frames, and then the records of another
module _ (h : Host) (fs : List Frame) (old new : List TrailRecord) (is : new ≡ trail_for fs ++ drop 16 old) (l : 16 ≤ length old) where
  pub names_frames : records_in new ≡ sixteen (trail_of (frames_of h fs))
  names_frames = ap records_in is ∙ ap (map trail_record_of) (take_at (trail_for fs) (drop 16 old) 16 (trail_length fs)) ∙ trail_means h fs

  pub rest_same : drop 16 new ≡ drop 16 old
  rest_same = ap (drop 16) is ∙ drop_at (trail_for fs) (drop 16 old) 16 (trail_length fs)

  pub as_long : length new ≡ length old
  as_long = ap length is ∙ length-append (trail_for fs) (drop 16 old) ∙ omega (arith, trail_length fs, Rattle.std.proofs.lemmas.List.length-drop 16 old, l)

-- the nodes of a template spell its tree
pub spells_tree : (s : Scene) (i e : ℕ) (t : Tree) → tree_at (pool_of s) s.book.nodes.now i e ≡ Some t → Spells (pool_of s) s.book.nodes.now 16 i e t
unfolding tree_at
spells_tree s i e t given =
    record { steps = 2 * length s.book.nodes.now; is = (where_parts (Rattle.std.specs.Prelude.nat_le e (length s.book.nodes.now)) (elements_of (pool_of s) s.book.nodes.now (2 * length s.book.nodes.now) 16 i e) t given).1 }

module _ (s : Scene) (m : Meaning) (t : Tree) (d after : Drawers) (old out new : List ℕ) (before left trail : List TrailRecord) (l : 16 ≤ length before) where
  pub rendered_through : (n : ℕ) → NodesRendered s m t d after old out before left (Ok n) → new ≡ filled (length out) (take n out) → trail ≡ trail_for [] ++ drop 16 left → Rendered (world s m (length old)) t d after old new before trail None
  rendered_through n done zeros blanks =
      let whole : trail ≡ trail_for [] ++ drop 16 before = blanks ∙ ap (λ x. trail_for [] ++ drop 16 x) done.ended.same in
      record {
        text = take n out;
        end = gives done.ended.flow;
        did = done.ended.comes;
        buffer = zeros ∙ ap (λ k. filled k (take n out)) done.long;
        long = ap length zeros ∙ filled_long (length out) n out refl done.ended.within ∙ done.long;
        ended = (done.ended.flow, refl, names_frames (host_in s) [] before trail whole l);
        beyond = rest_same (host_in s) [] before trail whole l;
        records = as_long (host_in s) [] before trail whole l;
      }

  pub rendered_broken : (k : Failure) → NodesRendered s m t d after old out before trail (Err k) → new ≡ filled (length out) (take k.filled out) → Rendered (world s m (length old)) t d after old new before trail (Some (record { fault = k.fault; place = k.place }))
  rendered_broken k done zeros =
      let b = done.ended in
      let whole = b.written l in
      record {
        text = take k.filled out;
        end = stops (fault_at (number_of k.fault) (cause_of k.fault) k.place (frames_of (host_in s) b.inside));
        did = b.comes;
        buffer = zeros ∙ ap (λ j. filled j (take k.filled out)) done.long;
        long = ap length zeros ∙ filled_long (length out) k.filled out refl b.within ∙ done.long;
        ended = (frames_of (host_in s) b.inside, few_frames b.inside b.few, refl, names_frames (host_in s) b.inside before trail whole l);
        beyond = rest_same (host_in s) b.inside before trail whole l;
        records = as_long (host_in s) b.inside before trail whole l;
      }
    where
      few_frames : (fs : List Frame) → length fs ≤ 16 → length (frames_of (host_in s) fs) ≤ 16
      few_frames fs h = omega (arith, h, Rattle.std.proofs.lemmas.List.length-map fs (Rattle.frames.specs.Views.frame_of (host_in s)))
