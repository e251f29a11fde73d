use Rattle.std.proofs.Common.{sym}
use Rattle.values.proofs.Listing.{length_stepping}
use Rattle.values.proofs.rows_of.PartsRow.count.Goals as goal

pub returns : goal.returns
returns g c = sym (length_stepping _ _ _)
