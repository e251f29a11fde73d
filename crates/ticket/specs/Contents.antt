-- What is printed of drawers.
use Rattle.std.specs.Prelude.{ℕ, cond, List, [], ◌∷◌, ◌++◌, length, ℤ, codes, Option, Some, None}
use Rattle.std.specs.Fmt.{decimal, signed_decimal}
use Rattle.std.specs.List.{flat_map, range_with_len, slice_get}
use Rattle.std.specs.Option.{option_map}
use Rattle.arguments.specs.Judging.{Lists}
use Rattle.meaning.specs.Things.{Held, nil, boolean, whole, text, array, object, pair, name, cycle_name, changed, Drawers}
use Rattle.ticket.specs.Quote.{quoted}

-- an array, object or pair by the number of its record
abbrev pub record_words : ℕ → List ℕ
record_words i = 35 ∷ decimal i

abbrev pub held_words : Held → List ℕ
held_words nil = codes "null"
held_words (boolean b) = cond b (codes "true") (codes "false")
held_words (whole z) = signed_decimal z
held_words (text t) = quoted t
held_words (array i) = record_words i
held_words (object i) = record_words i
held_words (pair i) = record_words i

-- the line of a name's variable and that of its counter, where it has them
abbrev pub variable_line : Option (List ℕ) → Option Held → List ℕ
variable_line None v = []
variable_line (Some k) None = []
variable_line (Some k) (Some v) = codes "var " ++ (k ++ (32 ∷ (held_words v ++ (10 ∷ []))))

abbrev pub counter_line : Option (List ℕ) → Option ℤ → List ℕ
counter_line None z = []
counter_line (Some k) None = []
counter_line (Some k) (Some z) = codes "counter " ++ (k ++ (32 ∷ (signed_decimal z ++ (10 ∷ []))))

-- the line of a cycle name
abbrev pub cycle_line : Option (List ℕ) → ℕ → List ℕ
cycle_line None p = []
cycle_line (Some k) p = codes "cycle " ++ (quoted k ++ (32 ∷ (decimal p ++ (10 ∷ []))))

abbrev pub changed_line : List ℕ → List ℕ
changed_line t = codes "changed " ++ (quoted t ++ (10 ∷ []))

module _ (l : Lists) (d : Drawers) where
  abbrev pub variable_at : ℕ → List ℕ
  variable_at n = variable_line (slice_get l.names n) (d (name n)).variable

  abbrev pub counter_at : ℕ → List ℕ
  counter_at n = counter_line (slice_get l.names n) (d (name n)).counter

  abbrev pub cycle_at : ℕ → List ℕ
  cycle_at n = cycle_line (option_map (λ c. c.bytes) (slice_get l.cycles n)) (d (cycle_name n)).position

  -- the variables, the counters, the positions and the changed text, in the order of the sheet
  abbrev pub contents : List ℕ
  contents =
      flat_map variable_at (range_with_len 0 (length l.names)) ++
      (flat_map counter_at (range_with_len 0 (length l.names)) ++
      (flat_map cycle_at (range_with_len 0 (length l.cycles)) ++ changed_line (d changed).shown))
