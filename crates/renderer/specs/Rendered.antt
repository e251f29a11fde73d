-- What the rendering of a template leaves.
use Rattle.std.specs.Prelude.{◌≡◌, ℕ, ◌≤◌, List, [], ◌++◌, map, length, take, drop, Ok, Err, Result}
use Rattle.banks.specs.Meaning.{Meaning}
use Rattle.tree.specs.Elements.{Tree}
use Rattle.held.specs.declared.scenes.Scene.{Scene}
use Rattle.held.specs.Faults.{number_of, cause_of}
use Rattle.frames.specs.declared.frame.TrailRecord.{TrailRecord}
use Rattle.frames.specs.declared.frame.Frame.{Frame}
use Rattle.frames.specs.Trails.{trail_for}
use Rattle.frames.specs.Views.{frames_of, trail_record_of}
use Rattle.held.specs.Scenes.{host_in}
use Rattle.meaning.specs.Hosts.{Host}
use Rattle.meaning.specs.Things.{Drawers}
use Rattle.meaning.specs.Frames.{sixteen, trail_of}
use Rattle.meaning.specs.Acts.{Step, step, gives, stops, fault_at}
use Rattle.meaning.specs.Leaves.{Flow}
use Rattle.meaning.specs.Rendering.{render}
use Rattle.renderer.specs.declared.machine.running.Failure.{Failure}
use Rattle.renderer.specs.Acts.{world}

-- The ticket is through: the text ends at `n`, and the trail is as it was.
pub record Through (s : Step Flow) (after : Drawers) (out : List ℕ) (old trail : List TrailRecord) (n : ℕ) : Type 0 where
  pub within : n ≤ length out
  pub flow : Flow
  pub comes : s ≡ step after (take n out) (gives flow)
  pub same : trail ≡ old

-- A fault ended it inside these open frames, the innermost first, which the trail names; its records beyond sixteen are as they were.
pub record Broken (h : Host) (s : Step Flow) (after : Drawers) (out : List ℕ) (old trail : List TrailRecord) (k : Failure) : Type 0 where
  pub within : k.filled ≤ length out
  pub inside : List Frame
  pub few : length inside ≤ 16
  pub comes : s ≡ step after (take k.filled out) (stops (fault_at (number_of k.fault) (cause_of k.fault) k.place (frames_of h inside)))
  pub written : 16 ≤ length old → trail ≡ trail_for inside ++ drop 16 old
  pub means : 16 ≤ length old → map trail_record_of trail ≡ sixteen (trail_of (frames_of h inside)) ++ map trail_record_of (drop 16 old)

abbrev pub Ended : Host → Step Flow → Drawers → List ℕ → (old trail : List TrailRecord) → Result ℕ Failure → Type 0
Ended h s after out old trail (Ok n) = Through s after out old trail n
Ended h s after out old trail (Err k) = Broken h s after out old trail k

-- The buffer has its length, and the call leaves what the definition's rendering of the tree leaves, with nothing in the buffer before.
pub record NodesRendered (s : Scene) (m : Meaning) (t : Tree) (d after : Drawers) (old new : List ℕ) (trail_before trail : List TrailRecord) (r : Result ℕ Failure) : Type 0 where
  pub long : length new ≡ length old
  pub ended : Ended (host_in s) (render (world s m (length old)) t [] d []) after new trail_before trail r
