use Rattle.std.proofs.Common.{ap, ◌∙◌}
use Rattle.values.specs.RowsOf.{pairs_row}
use Rattle.values.proofs.Listing.{object_row, no_pairs, no_pairs_row}
use Rattle.values.proofs.rows_of.pairs_of.Goals as goal

pub returns-in-Object-clause-values : goal.returns-in-Object-clause-values
returns-in-Object-clause-values c = object_row _ _ c.args.tray.now.behind _ c.args.tray.now.keys _ c.in-Object.ensures

pub returns-in_default : goal.returns-in_default
returns-in_default c =
    record { number = no_pairs_row c.record.result c.in_default.not-Object ∙ ap pairs_row c.record.ensures; values = no_pairs _ _ c.args.tray.now.behind _ _ c.record.ensures c.in_default.not-Object }
