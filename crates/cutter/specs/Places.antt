-- Places in some bytes.
use Rattle.std.specs.Prelude.{◌≡◌, ℕ, ◌+◌, ◌^◌, ◌<◌, ◌≤◌, cond, List, length, Some, None, Option}
use Rattle.cutter.specs.Lengths.{stands}
use Rattle.cutter.specs.declared.lengths.Class.{Class}
use Rattle.cutter.specs.declared.places.Place.{Place}
use Rattle.cutter.specs.declared.places.Placed.{Placed}
use Rattle.cutter.specs.declared.places.Anchored.{Anchored}

-- q lies behind p by the length that f gives there
abbrev pub Past : (List ℕ → ℕ → ℕ) → Place → Place → Type 0
Past f p q = (q.src.now ≡ p.src.now) × (q.at ≡ p.at + f p.src.now p.at)

-- the place behind what begins at p, whose length f gives; none where that is 0
abbrev pub Behind : (List ℕ → ℕ → ℕ) → Place → Option Place → Type 0
Behind f p None = f p.src.now p.at ≡ 0
Behind f p (Some q) = (0 < f p.src.now p.at) × Past f p q

-- one byte of a class
abbrev pub one : Class → List ℕ → ℕ → ℕ
one class src at = cond (stands class src at) 1 0

-- q is the place before the first of these bytes; none where the place behind the last has more than 64 bits
abbrev pub Anchors : Placed → Option Anchored → Type 0
Anchors w None = 2 ^ 64 ≤ w.place + length w.bytes.now
Anchors w (Some q) = (q.base ≡ w.place) × (q.here.src.now ≡ w.bytes.now) × (q.here.at ≡ 0)
