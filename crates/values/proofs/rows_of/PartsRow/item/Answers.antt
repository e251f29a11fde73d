use Rattle.std.proofs.Common.{sym, arith}
use Rattle.values.proofs.Listing.{nth_stepping, nth_past}
use Rattle.values.proofs.rows_of.PartsRow.item.Goals as goal

pub returns-then-k-self : goal.returns-then-k-self
returns-then-k-self g c = sym (nth_stepping _ _ _ _ (omega arith))

pub returns-else-k-self : goal.returns-else-k-self
returns-else-k-self g c = sym (nth_past _ _ _ c.args.k c.if-k-self.false)
