-- How an act that changes nothing ends, and what comes of a text that is sought.
use Rattle.std.specs.Prelude.{◌≡◌, ℕ, ◌<◌, ◌++◌, drop, Bool, cond, List, length, Ok, Err, Result, nat_le}
use Rattle.held.specs.declared.faults.Fault.{Fault}
use Rattle.held.specs.declared.faults.Fault.TheVariants.{TooLong}
use Rattle.held.specs.Faults.{ended}
use Rattle.meaning.specs.Things.{Drawers}
use Rattle.meaning.specs.Frames.{Frames}
use Rattle.meaning.specs.Acts.{Act, step}
use Rattle.meaning.specs.Tests.{stands_in}

-- at each place inside any frames the act leaves drawers and text as they are, and gives the answer or stops with the fault
abbrev pub Ends : {A : Type 0} → (ℕ → Frames → Act A) → Result A Fault → Type 0
Ends act r = (p : ℕ) (e : Frames) (d : Drawers) (o : List ℕ) → act p e d o ≡ step d o (ended (λ y. y) r p e)

-- two texts together have no room in a buffer, and only the first is laid, if that has
pub record OneLaid (first both old new : List ℕ) : Type 0 where
  pub short : length old < length both
  pub laid : new ≡ cond (nat_le (length first) (length old)) (first ++ drop (length first) old) old

-- whether a text of at most 256 bytes stands in another
abbrev pub sought_in : List ℕ → List ℕ → Result Bool Fault
sought_in s t = cond (nat_le (length s) 256) (Ok (stands_in s t)) (Err TooLong)
