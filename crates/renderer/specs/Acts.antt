-- What calls of the renderer do, as the definition's acts.
use Rattle.std.specs.Prelude.{◌≡◌, ℕ, ◌≤◌, List, length, take, Result}
use Rattle.banks.specs.Meaning.{Meaning}
use Rattle.nodes.specs.Books.{names_in}
use Rattle.held.specs.declared.faults.Fault.{Fault}
use Rattle.held.specs.declared.scenes.Scene.{Scene}
use Rattle.held.specs.Faults.{ended}
use Rattle.held.specs.Scenes.{host_in}
use Rattle.pages.specs.Written.{to}
use Rattle.meaning.specs.Things.{Drawers}
use Rattle.meaning.specs.Frames.{Frames}
use Rattle.meaning.specs.Acts.{Act, step}
use Rattle.meaning.specs.Looking.{World}

-- the world of a call: a scene, what the bank means, and a buffer of some length
abbrev pub world : Scene → Meaning → ℕ → World
world s m limit = record { names = names_in s.book; host = host_in s; bank = m; limit = limit }

-- Of a buffer of which `filled` bytes were text: its length is the same, and drawers and text are what the act `m` of the element at place `p` inside `e` leaves;
-- it gives `a`, or the fault.
pub record Does {A : Type 0} (m : Act A) (a : A) (p : ℕ) (e : Frames) (d after : Drawers) (filled : ℕ) (old new : List ℕ) (r : Result ℕ Fault) : Type 0 where
  pub long : length new ≡ length old
  pub within : to filled r ≤ length new
  pub did : m d (take filled old) ≡ step after (take (to filled r) new) (ended (λ _. a) r p e)
