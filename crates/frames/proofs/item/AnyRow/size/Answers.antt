use Rattle.std.proofs.Common.{rules, arith, Fits, w16}
use Rattle.values.proofs.Listing.{length_stepping}
use Rattle.rows.proofs.Countings.{held_length}
use Rattle.frames.proofs.item.AnyRow.size.Goals as goal

pub overflow_cast-result : goal.overflow_cast-result
overflow_cast-result c =
    let s = c.in-Items.items.span in
    let f : Fits w16 s.count = search rules in
    let h = c.count.ensures in
    grind (arith, length_stepping s.first 1 s.count)

pub overflow_cast-result-in-Pairs : goal.overflow_cast-result-in-Pairs
overflow_cast-result-in-Pairs c =
    let s = c.in-Pairs.pairs.span in
    let f : Fits w16 s.count = search rules in
    grind (arith, length_stepping s.first 2 s.count)

pub overflow_cast-result-in-Numbers : goal.overflow_cast-result-in-Numbers
overflow_cast-result-in-Numbers c =
    let s = c.in-Numbers.numbers in
    grind (arith, held_length s.from s.to)
