-- The bytes that are written for records.
use Rattle.std.specs.Prelude.{ℕ, zero, suc, ◌+◌, ◌/◌, ◌%◌, ◌<◌, ◌≤◌, cond, List, [], ◌∷◌, ◌++◌, FitsSigned}
use Rattle.std.specs.Int.{w64}
use Rattle.std.proofs.Common.{of_z}
use Rattle.std.specs.List.{flat_map, AllByRecursion}
use Rattle.tray.specs.Format.{TrayBytes}
use Rattle.tray.specs.declared.records.Record.{Record}
use Rattle.tray.specs.declared.records.Record.TheVariants.{Nil, Boolean, Whole, Text, Array, Object}

-- k bytes of a number, low byte first
abbrev pub low_first : ℕ → ℕ → List ℕ
low_first zero n = []
low_first (suc k) n = (n % 256) ∷ low_first k (n / 256)

-- a kind and two numbers of two bytes
abbrev pub pair_spelt : ℕ → ℕ → ℕ → List ℕ
pair_spelt kind a b = kind ∷ (low_first 2 a ++ low_first 2 b)

abbrev pub spelt : Record → List ℕ
spelt Nil = 0 ∷ []
spelt (Boolean b) = 1 ∷ (cond b 1 0 ∷ [])
spelt (Whole z) = 2 ∷ low_first 8 (of_z w64 z)
spelt (Text s) = pair_spelt 3 s.first s.count
spelt (Array s) = pair_spelt 4 s.first s.count
spelt (Object s) = pair_spelt 5 s.first s.count

abbrev pub all_spelt : List Record → List ℕ
all_spelt rs = flat_map spelt rs

-- a record that the format can say, beside a tray text of `room` bytes
abbrev pub Sayable : ℕ → Record → Type 0
Sayable room Nil = Unit {0}
Sayable room (Boolean b) = Unit {0}
Sayable room (Whole z) = FitsSigned w64 z
Sayable room (Text s) = (s.first < 65536) × (s.count ≤ 256) × (s.first + s.count ≤ room)
Sayable room (Array s) = (s.first < 65536) × (s.count < 65536)
Sayable room (Object s) = (s.first < 65536) × (s.count < 65536)

-- the bytes that are written for records are, to who opens a tray, those of the same records
abbrev pub ReadAsWritten : Type 0
ReadAsWritten = (room : ℕ) (rs : List Record) → AllByRecursion (Sayable room) rs → TrayBytes room (all_spelt rs) rs
