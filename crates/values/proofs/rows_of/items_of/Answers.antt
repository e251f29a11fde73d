use Rattle.std.proofs.Common.{ap, ◌∙◌}
use Rattle.values.specs.RowsOf.{items_row}
use Rattle.values.proofs.Listing.{nil_row, array_row, no_items, no_items_row}
use Rattle.values.proofs.rows_of.items_of.Goals as goal

pub returns-in-Nil-clause-values : goal.returns-in-Nil-clause-values
returns-in-Nil-clause-values c = nil_row _ _ c.args.tray.now.behind _ c.in-Nil.ensures

pub returns-in-Array-clause-values : goal.returns-in-Array-clause-values
returns-in-Array-clause-values c = array_row _ _ c.args.tray.now.behind _ _ c.in-Array.ensures

pub returns-in_default : goal.returns-in_default
returns-in_default c =
    record { number = no_items_row c.record.result c.in_default.not-Nil c.in_default.not-Array ∙ ap items_row c.record.ensures; values = no_items _ _ c.args.tray.now.behind _ _ c.record.ensures c.in_default.not-Nil c.in_default.not-Array }
