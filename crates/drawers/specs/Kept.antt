-- Which values can be kept.
use Rattle.std.specs.Prelude.{◌≡◌, ◌<◌, ◌≤◌, ℕ, cond, List, length, Some, None, Option, MatchOption}
use Rattle.arrayvec.specs.ArrayVec.{ArrayVec}
use Rattle.meaning.specs.Things.{Held}
use Rattle.meaning.specs.Leaves.{short_enough}

-- a value, where its text has at most 256 bytes
abbrev pub if_short : Held → Option Held
if_short v = cond (short_enough v) (Some v) None

-- bytes become an own text exactly where they are at most 256
abbrev pub IfKept : List ℕ → Option (ArrayVec ℕ) → Type 0
IfKept bytes r = MatchOption r (256 < length bytes) (λ t. (length bytes ≤ 256) × (t.items ≡ bytes))
