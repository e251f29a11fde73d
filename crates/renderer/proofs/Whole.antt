-- The rendering of a template, from the first step to the last.
use Rattle.std.proofs.Common.{◌≡◌, ℕ, ◌≤◌, List, [], ◌++◌, map, length, take, drop, Ok, Err, sym, refl, subst, arith}
use Rattle.std.proofs.lemmas.List.{length-reverse, length-take}
use Rattle.banks.specs.Meaning.{Meaning}
use Rattle.tree.specs.Elements.{Tree}
use Rattle.held.specs.declared.faults.Fault.{Fault}
use Rattle.held.specs.declared.scenes.Scene.{Scene}
use Rattle.held.specs.Scenes.{host_in, pool_of}
use Rattle.frames.specs.declared.frame.Frame.{Frame}
use Rattle.frames.specs.declared.stack.Frames.{Frames as Frames_code}
use Rattle.frames.specs.Trails.{trail_for}
use Rattle.frames.specs.declared.frame.TrailRecord.{TrailRecord}
use Rattle.frames.specs.Views.{open_in, around_in, trail_record_of}
use Rattle.meaning.specs.Hosts.{Host}
use Rattle.meaning.specs.Things.{Drawers}
use Rattle.meaning.specs.Frames.{sixteen, trail_of}
use Rattle.meaning.specs.Acts.{Step}
use Rattle.meaning.specs.Leaves.{Flow}
use Rattle.meaning.specs.Rendering.{render}
use Rattle.renderer.specs.declared.machine.Machine.{Machine}
use Rattle.renderer.specs.declared.machine.Mode.{Mode}
use Rattle.renderer.specs.declared.machine.Mode.TheVariants.{Elements}
use Rattle.renderer.specs.Acts.{world}
use Rattle.renderer.specs.Leaves.{Few}
use Rattle.renderer.specs.Machines.{Stands, Done, Failed}
use Rattle.renderer.specs.Rendered.{NodesRendered}
use Rattle.renderer.specs.Running.{Going, Spells}

-- no more than sixteen frames are open
sixteen_open : (fs : Frames_code) → length (open_in fs) ≤ 16
sixteen_open fs = omega (arith, length-reverse (take fs.depth fs.table), length-take fs.depth fs.table, fs.few)

module _ (s : Scene) (m : Meaning) (t : Tree) (d : Drawers) (old : List ℕ) where
  abbrev pub whole : Step Flow
  whole = render (world s m (length old)) t [] d []

  -- the machine before its first step
  pub begins : (c : Machine) (from end : ℕ) → open_in c.frames ≡ [] → (c.mode ≡ Elements) × (c.at ≡ from) × (c.end ≡ end) × (c.filled ≡ 0) → Few s → Spells (pool_of s) s.book.nodes.now 16 from end t → Stands s m (length old) end whole c d old
  begins c from end ef (ek, ea, ee, en) few spelt = record {
    few = few;
    long = refl;
    within = omega (arith, en);
    going =
        let same : ◌≡◌ {A = Mode × ℕ × ℕ × List Frame × ℕ} (c.mode, c.at, c.end, open_in c.frames, c.filled) (Elements, from, end, [], 0) = λ i. (ek i, ea i, ee i, ef i, en i) in
        subst (λ y. Going (pool_of s) s.book.nodes.now end (world s m (length old)) y.0 y.1 y.2 y.3 d (take y.4 old) whole) (sym same)
        (record { list = t; inside = []; spelt = spelt; held = refl; comes = refl });
  }

  module _ (d' : Drawers) (new : List ℕ) (trail_before trail : List TrailRecord) (stop : ℕ) (c : Machine) where
    pub through : Done s m (length old) stop whole c d' new → trail ≡ trail_before → NodesRendered s m t d d' old new trail_before trail (Ok c.filled)
    through h same = record { long = h.long; ended = record { within = h.within; flow = h.flow; comes = h.comes; same = same } }

    pub broken : (k : Fault) (p : ℕ) → Failed s m (length old) stop whole c d' new k p → (now : List TrailRecord) → now ≡ trail_before →
        (16 ≤ length now → trail ≡ trail_for (open_in c.frames) ++ drop 16 now) →
        (16 ≤ length now → (h : Host) → map trail_record_of trail ≡ sixteen (trail_of (around_in h c.frames)) ++ map trail_record_of (drop 16 now)) →
        NodesRendered s m t d d' old new trail_before trail (Err (record { fault = k; place = p; filled = c.filled }))
    broken k p h now same written means = record {
      long = h.long;
      ended = record {
        within = h.within;
        inside = open_in c.frames;
        few = sixteen_open c.frames;
        comes = h.comes;
        written = subst (λ x. 16 ≤ length x → trail ≡ trail_for (open_in c.frames) ++ drop 16 x) same written;
        means = subst (λ x. 16 ≤ length x → map trail_record_of trail ≡ sixteen (trail_of (around_in (host_in s) c.frames)) ++ map trail_record_of (drop 16 x)) same (λ le. means le (host_in s));
      };
    }
