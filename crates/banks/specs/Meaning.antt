-- What a bank means.
use Rattle.std.specs.Prelude.{◌≡◌, ℕ, ◌≤◌, Bool, false, List, length, ℤ, Ok, Err, Option, Result}
use Rattle.banks.specs.declared.causes.Cause.{Cause}
use Rattle.banks.specs.declared.causes.Cause.TheVariants.{UnknownName}
use Rattle.banks.specs.Operands.{Datum}

-- a value that a function gives
pub data Given : Type 0 where
  a_number : ℤ → Given
  a_text : List ℕ → Given

-- the known names, and for each the function from an input and an optional argument to a value or a cause
pub record Meaning : Type 0 where
  pub known : List ℕ → Bool
  pub gives : List ℕ → Datum → Option Datum → Result Given Cause

-- a text that is given has at most 256 bytes
abbrev pub FitsBuffer : Result Given Cause → Type 0
FitsBuffer (Ok (a_number z)) = Unit {0}
FitsBuffer (Ok (a_text t)) = length t ≤ 256
FitsBuffer (Err c) = Unit {0}

-- a name that is not known has the cause of that, and every text is short enough
pub record Lawful (m : Meaning) : Type 0 where
  pub unknown : (name : List ℕ) (input : Datum) (argument : Option Datum) → m.known name ≡ false → m.gives name input argument ≡ Err UnknownName
  pub short : (name : List ℕ) (input : Datum) (argument : Option Datum) → FitsBuffer (m.gives name input argument)
