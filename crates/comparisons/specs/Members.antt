-- The items of an array as a row of values.
use Rattle.std.specs.Prelude.{ℕ, ◌+◌, min, Bool, List, map}
use Rattle.std.specs.Borrow.{Bor}
use Rattle.std.specs.List.{range_with_len}
use Rattle.tray.specs.declared.trays.Tray.{Tray}
use Rattle.values.specs.Value.{equal}
use Rattle.held.specs.declared.value.Value.{Value}
use Rattle.held.specs.declared.value.Value.TheVariants.{Array}
use Rattle.held.specs.Records.{held_in}
use Rattle.held.specs.Scenes.{host_of}
use Rattle.meaning.specs.Hosts.{value_of}

-- the record of the item k from the record first on, cut to 64 bits
abbrev pub number_in : ℕ → ℕ → ℕ
number_in first k = min (first + k) 18446744073709551615

-- n items from the record first on
abbrev pub members : ℕ → ℕ → List (Value (Bor (List ℕ)))
members first n = map (λ k. Array (number_in first k)) (range_with_len 0 n)

-- whether two values are equal in a tray
abbrev pub equal_in : Tray → Value (Bor (List ℕ)) → Value (Bor (List ℕ)) → Bool
equal_in t a b = equal (value_of (host_of t) (held_in a)) (value_of (host_of t) (held_in b))
