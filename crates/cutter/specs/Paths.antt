-- The steps of a path, from their bytes as written. `.` is 46.
use Rattle.std.specs.Prelude.{◌≡◌, ℕ, zero, suc, ◌+◌, ◌^◌, cond, List, [], ◌∷◌, length, drop, ℤ, Some, None, Option, nat_lt}
use Rattle.numerals.specs.Decimal.{whole_of}
use Rattle.cutter.specs.Left.{slice}
use Rattle.cutter.specs.Lengths.{stands, step_length}
use Rattle.cutter.specs.Tokens.{inner, Part}
use Rattle.cutter.specs.declared.lengths.Class.TheVariants.{Is}
use Rattle.cutter.specs.declared.paths.Steps.{Steps}
use Rattle.cutter.specs.declared.paths.StepWord.{StepWord}
use Rattle.cutter.specs.declared.paths.StepWord.TheVariants.{Index, Key}

-- a step is an index, or a key with its place: the name behind a dot, or the text between quotes
pub data PlacedStep : Type 0 where
  at_index : ℤ → PlacedStep
  at_key : ℕ → List ℕ → PlacedStep

-- what stands between brackets, the first of them at this place
abbrev pub bracket_of : ℕ → List ℕ → Option ℤ → PlacedStep
bracket_of place bs (Some z) = at_index z
bracket_of place bs None = at_key (place + 2) (inner bs)

-- the step at this place with these bytes
abbrev pub step_of : ℕ → List ℕ → PlacedStep
step_of place bs = cond (stands (Is 46) bs 0) (at_key (place + 1) (drop 1 bs)) (bracket_of place (inner bs) (whole_of (inner bs)))

-- a step of this length, and what follows behind it
abbrev pub step_begun : ℕ → List ℕ → ℕ → ℕ → (ℕ → List PlacedStep) → List PlacedStep
step_begun place bs at zero f = []
step_begun place bs at (suc n) f = step_of (place + at) (slice bs at (at + suc n)) ∷ f n

-- the steps from `at` on, behind `rest` bytes of the step before; the list is what stands from there on
abbrev pub stepping : ℕ → List ℕ → ℕ → ℕ → List ℕ → List PlacedStep
stepping place bs at rest [] = []
stepping place bs at (suc rest) (x ∷ xs) = stepping place bs (at + 1) rest xs
stepping place bs at zero (x ∷ xs) = step_begun place bs at (step_length bs at) (λ rest. stepping place bs (at + 1) rest xs)

unfoldable pub steps_from : ℕ → List ℕ → ℕ → List PlacedStep
steps_from place bs at = stepping place bs at 0 (drop at bs)

-- the steps of these bytes, the first at this place, up to what is no step; a place has 64 bits, and behind the last there are none
unfoldable pub steps_of : ℕ → List ℕ → List PlacedStep
steps_of place bs = cond (nat_lt (place + length bs) (2 ^ 64)) (steps_from place bs 0) []

abbrev pub steps_left : Steps → List PlacedStep
steps_left s = steps_from s.rest.base s.rest.here.src.now s.rest.here.at

abbrev pub placed_step : StepWord → PlacedStep
placed_step (Index z) = at_index z
placed_step (Key k) = at_key k.place k.bytes.now

-- what `next` answers, by the steps left before and after
abbrev pub Walked : List PlacedStep → Option StepWord → List PlacedStep → Type 0
Walked before None after = (before ≡ []) × (after ≡ [])
Walked before (Some w) after = before ≡ placed_step w ∷ after

-- each key is a part of the bytes
abbrev pub KeysInside : ℕ → List ℕ → List PlacedStep → Type 0
KeysInside place bs [] = Prim.Unit {0}
KeysInside place bs (at_index z ∷ rest) = KeysInside place bs rest
KeysInside place bs (at_key q key ∷ rest) = Part place bs q key × KeysInside place bs rest

abbrev pub KeysAreInside : Type 0
KeysAreInside = (place : ℕ) (bs : List ℕ) → KeysInside place bs (steps_of place bs)
