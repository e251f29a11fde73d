use Rattle.std.proofs.Common.{sym, ◌∙◌, arith}
use Rattle.pages.proofs.Past.{past_last}
use Rattle.pages.proofs.pairs.behind.Goals as goal

pub returns-else-i-count : goal.returns-else-i-count
returns-else-i-count c = past_last c.args.tray.now c.args.i (omega (arith, c.count.ensures)) ∙ sym (past_last c.args.tray.now _ (omega (arith, c.count.ensures)))
