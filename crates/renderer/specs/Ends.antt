-- What calls at the ends of visits and blocks leave, as the definition's acts.
use Rattle.std.specs.Prelude.{◌≡◌, ℕ, ◌<◌, ◌≤◌, List, length, take, Ok, Err, Result}
use Rattle.held.specs.declared.faults.Fault.{Fault}
use Rattle.held.specs.Faults.{number_of, cause_of}
use Rattle.frames.specs.declared.frame.Manner as code_manner
use Rattle.frames.specs.declared.frame.Manner.TheVariants.{Once, Each, Cells, Keeping, Watching}
use Rattle.meaning.specs.Things.{Drawers}
use Rattle.meaning.specs.Frames.{Frames}
use Rattle.meaning.specs.Acts.{End, gives, stops, fault_at, Step, step}
use Rattle.renderer.specs.declared.ends.Stopped.{Stopped}

-- the same answer; where it is a fault, the text ends at `filled`
abbrev pub stopping : ℕ → Result ℕ Fault → Result ℕ Stopped
stopping filled (Ok n) = Ok n
stopping filled (Err k) = Err (record { fault = k; filled = filled })

-- where the text ends
abbrev pub text_end : Result ℕ Stopped → ℕ
text_end (Ok n) = n
text_end (Err k) = k.filled

-- how the act of the element at place `p` inside `e` ends: it gives `a`, or it is a fault
abbrev pub came_to : {A : Type 0} → A → Result ℕ Stopped → ℕ → Frames → End A
came_to a (Ok n) p e = gives a
came_to a (Err k) p e = stops (fault_at (number_of k.fault) (cause_of k.fault) p e)

-- The step `s` of the element at place `p` inside `e` leaves these drawers and the text in the buffer, of that length, and gives `a`, or the fault.
pub record Ends {A : Type 0} (s : Step A) (a : A) (p : ℕ) (e : Frames) (d : Drawers) (limit : ℕ) (out : List ℕ) (r : Result ℕ Stopped) : Type 0 where
  pub long : length out ≡ limit
  pub within : text_end r ≤ length out
  pub did : s ≡ step d (take (text_end r) out) (came_to a r p e)

-- the target of a capture is one of so many names
abbrev pub TargetFits : ℕ → code_manner.Manner → Type 0
TargetFits names Once = Unit {0}
TargetFits names (Each v n) = Unit {0}
TargetFits names (Cells v n k) = Unit {0}
TargetFits names (Keeping t) = t < names
TargetFits names Watching = Unit {0}
