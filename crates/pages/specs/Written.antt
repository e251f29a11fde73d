-- What a call that writes leaves in the buffer, as the definition's act.
use Rattle.std.specs.Prelude.{◌≡◌, ℕ, ◌≤◌, List, length, take, Ok, Err, Result}
use Rattle.held.specs.declared.faults.Fault.{Fault}
use Rattle.held.specs.Faults.{ended}
use Rattle.meaning.specs.Things.{Drawers}
use Rattle.meaning.specs.Frames.{Frames}
use Rattle.meaning.specs.Acts.{Act, step}

-- where the text ends after a call: its answer, or after a fault where it was
abbrev pub to : ℕ → Result ℕ Fault → ℕ
to filled (Ok n) = n
to filled (Err k) = filled

-- Of a buffer of which `filled` bytes were text: its length is the same, and what the call did to the text is what the act does, at each place and from each drawers.
pub record Did (m : ℕ → Frames → Act (Unit {0})) (filled : ℕ) (old new : List ℕ) (r : Result ℕ Fault) : Type 0 where
  pub long : length new ≡ length old
  pub within : to filled r ≤ length new
  pub did : (p : ℕ) (e : Frames) (d : Drawers) → m p e d (take filled old) ≡ step d (take (to filled r) new) (ended (λ _. tt) r p e)

-- the same, where the text was within the buffer
abbrev pub Wrote : (ℕ → Frames → Act (Unit {0})) → ℕ → List ℕ → List ℕ → Result ℕ Fault → Type 0
Wrote m filled old new r = filled ≤ length old → Did m filled old new r
