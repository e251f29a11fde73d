use Rattle.std.proofs.Common.{sym, ◌∙◌, arith}
use Rattle.rows.proofs.Segments.{window_past, window_ahead, window_back}
use Rattle.rows.proofs.window.WindowRow.item.Goals as goal

pub returns-then-k-len : goal.returns-then-k-len
returns-then-k-len g c = let w = c.args.self.now in sym (window_past w.offset w.limit w.reversed (g.R.Row.items w.row) c.places-places.ensures.start c.places-places.ensures.end c.args.k (omega (arith, c.len.ensures.value)))

pub returns-then-self : goal.returns-then-self
returns-then-self g c =
    let w = c.args.self.now in
    c.item.ensures ∙ sym (window_back w.offset w.limit w.reversed (g.R.Row.items w.row) c.places-places.ensures.start c.places-places.ensures.end c.args.k c.if-self.true (omega (arith, c.len.ensures.value)))

pub returns-else-self : goal.returns-else-self
returns-else-self g c =
    let w = c.args.self.now in
    c.item-else-self.ensures ∙ sym (window_ahead w.offset w.limit w.reversed (g.R.Row.items w.row) c.places-places.ensures.start c.places-places.ensures.end c.args.k c.if-self.false (omega (arith, c.len.ensures.value)))
