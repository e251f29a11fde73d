use Rattle.std.proofs.Common.{◌≡◌, ◌-◌, ◌<◌, true, slice_index_or, arith, rules}
use Rattle.ticket.specs.Excerpt.{is_end}
use Rattle.ticket.proofs.Lines.{last}
use Rattle.ticket.proofs.excerpt.last_line.Goals as goal
use Rattle.ticket.proofs.excerpt.last_line.Goals.{then-loop-from-test+else-text-from-ne10, else-loop-from-test}

pub returns : goal.returns
returns c =
    let text = c.args.text.now in
    let from = c.loop-from.from in
    let found : 0 < from → is_end (slice_index_or text (from - 1) 0) ≡ true = λ l. elim c.loop-from-test.branch [ then-loop-from-test+else-text-from-ne10 w ↦ search rules | else-loop-from-test w ↦ absurd (omega arith) ] in
    last text from c.loop-from.invariant.inside c.loop-from.invariant.passed found
