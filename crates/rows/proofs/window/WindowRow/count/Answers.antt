use Rattle.std.proofs.Common.{arith}
use Rattle.rows.proofs.Segments.{window_length}
use Rattle.rows.proofs.window.WindowRow.count.Goals as goal

pub returns : goal.returns
returns g c = let w = c.args.self.now in omega (arith, window_length w.offset w.limit w.reversed (g.R.Row.items w.row) c.places.ensures.start c.places.ensures.end, c.len.ensures.value)
