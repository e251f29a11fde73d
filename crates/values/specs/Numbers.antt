-- Steps into records, by the numbers of the records.
use Rattle.std.specs.Prelude.{ℕ, zero, suc, ◌+◌, ◌-◌, cond, List, ℤ, pos, negsuc, Some, None, codes, Option, nat_lt}
use Rattle.std.specs.Option.{option_map}
use Rattle.tray.specs.declared.records.Record.{Record}
use Rattle.tray.specs.declared.records.Record.TheVariants.{Nil, Boolean, Whole, Text, Array, Object}
use Rattle.tray.specs.Parts.{same_text}
use Rattle.values.specs.declared.steps.Found.{Found}
use Rattle.values.specs.declared.steps.Found.TheVariants as found
use Rattle.values.specs.Steps.{Step, number, name, step_text}

-- the value's record of the first of n entries, from the record i on, that has the key
abbrev pub entry_number : (ℕ → List ℕ) → List ℕ → ℕ → ℕ → Option ℕ
entry_number key k i zero = None
entry_number key k i (suc n) = cond (same_text k (key i)) (Some (i + 1)) (entry_number key k (i + 2) n)

-- the same of a record; only an object has keys
abbrev pub member_number : (ℕ → List ℕ) → Record → List ℕ → Option ℕ
member_number key Nil k = None
member_number key (Boolean b) k = None
member_number key (Whole z) k = None
member_number key (Text s) k = None
member_number key (Array s) k = None
member_number key (Object s) k = entry_number key k s.first s.count

-- the place of an index from 0, or of a negative one from the end, among n
abbrev pub place_of : ℕ → ℤ → Option ℕ
place_of n (pos k) = cond (nat_lt k n) (Some k) None
place_of n (negsuc k) = cond (nat_lt k n) (Some (n - suc k)) None

-- among n items from the record f on
abbrev pub item_found : ℕ → ℕ → ℤ → Option Found
item_found f n z = option_map (λ k. found.Record (f + k)) (place_of n z)

abbrev pub item_named_found : ℕ → ℕ → List ℕ → Option Found
item_named_found f n k =
    cond (same_text k (codes "first")) (item_found f n (pos 0)) (cond (same_text k (codes "last")) (item_found f n (negsuc 0)) (cond (same_text k (codes "size")) (Some (found.Size n)) None))

abbrev pub among_items : ℕ → ℕ → Step → Option Found
among_items f n (number z) = item_found f n z
among_items f n (name k) = item_named_found f n k

abbrev pub or_size : Option ℕ → ℕ → List ℕ → Option Found
or_size None n k = cond (same_text k (codes "size")) (Some (found.Size n)) None
or_size (Some i) n k = Some (found.Record i)

-- among n entries from the record f on
abbrev pub among_entries : (ℕ → List ℕ) → ℕ → ℕ → List ℕ → Option Found
among_entries key f n k = or_size (entry_number key k f n) n k

-- where a step from a record comes to
abbrev pub followed : (ℕ → List ℕ) → Record → Step → Option Found
followed key Nil s = None
followed key (Boolean b) s = None
followed key (Whole z) s = None
followed key (Text r) s = None
followed key (Array r) s = among_items r.first r.count s
followed key (Object r) s = among_entries key r.first r.count (step_text s)
