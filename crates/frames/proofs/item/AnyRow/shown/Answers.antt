use Rattle.std.proofs.Common.{rules, arith, Fits, w16}
use Rattle.frames.specs.Items.{items_in}
use Rattle.frames.proofs.Shown.{window_within}
use Rattle.frames.proofs.item.AnyRow.shown.Goals as goal

pub overflow_cast-times : goal.overflow_cast-times
overflow_cast-times c =
    let w = c.new-window.result in
    let h = window_within w.offset w.limit w.reversed (items_in w.row) in
    let f : Fits w16 c.size-most.result = search rules in
    grind arith
