-- Past the last record of a tray there is only nil.
use Rattle.std.proofs.Common.{◌≡◌, ℕ, ◌≤◌, length, vec_items, sym}
use Rattle.std.proofs.lemmas.List.{get_or_past}
use Rattle.tray.specs.declared.records.Record.TheVariants.{Nil}
use Rattle.tray.specs.declared.trays.Tray.{Tray}
use Rattle.values.specs.Value.{nil}
use Rattle.values.specs.Meaning.{value_of}
use Rattle.values.proofs.Unfolds.{stands}

pub past_last : (t : Tray) (i : ℕ) → length (vec_items t.records) ≤ i → value_of t i ≡ nil
past_last t i l = stands (vec_items t.records) t.text.now i Nil t.behind (sym (get_or_past (vec_items t.records) i Nil l))
