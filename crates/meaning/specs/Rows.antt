-- What a loop may go over, as a list of values.
use Rattle.std.specs.Prelude.{◌+◌, List, [], ◌∷◌, map, Some, None, Option}
use Rattle.tray.specs.declared.records.Record.{Record}
use Rattle.tray.specs.declared.records.Record.TheVariants.{Nil, Boolean, Whole, Text, Array, Object}
use Rattle.tray.specs.Sound.{at}
use Rattle.values.specs.RowsOf.{stepping}
use Rattle.meaning.specs.Things.{Held, nil, boolean, whole, text, array, object, pair}
use Rattle.meaning.specs.Hosts.{Host, record_at}

module _ (h : Host) where
  -- the items of an array; the entries of an object as pairs, each by the number of its key's record
  abbrev pub record_row : Record → Option (List Held)
  record_row Nil = None
  record_row (Boolean b) = None
  record_row (Whole z) = None
  record_row (Text s) = None
  record_row (Array s) = Some (map (record_at h) (stepping s.first 1 s.count))
  record_row (Object s) = Some (map pair (stepping s.first 2 s.count))

  -- Nil is the empty row.
  -- Kept from liquid-lib: a text is no row, and no loop goes over it once.
  abbrev pub row : Held → Option (List Held)
  row nil = Some []
  row (boolean b) = None
  row (whole z) = None
  row (text t) = None
  row (array i) = record_row (at h.records i)
  row (object i) = record_row (at h.records i)
  row (pair i) = Some (record_at h i ∷ record_at h (i + 1) ∷ [])
