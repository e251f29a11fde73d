-- A record of a tray, by its number.
use Rattle.std.specs.Prelude.{ℕ, vec_items}
use Rattle.tray.specs.declared.records.Record.{Record}
use Rattle.tray.specs.declared.trays.Tray.{Tray}
use Rattle.tray.specs.Sound.{at}

-- past the last record there is only nil
abbrev pub record_of : Tray → ℕ → Record
record_of t i = at (vec_items t.records) i
