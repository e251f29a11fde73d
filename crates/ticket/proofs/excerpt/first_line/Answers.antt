use Rattle.std.proofs.Common.{◌≡◌, ◌<◌, true, length, slice_index_or, arith, rules}
use Rattle.ticket.specs.Excerpt.{is_end}
use Rattle.ticket.proofs.Lines.{first}
use Rattle.ticket.proofs.excerpt.first_line.Goals as goal
use Rattle.ticket.proofs.excerpt.first_line.Goals.{then-loop-to-test+else-text-to-ne10, else-loop-to-test}

pub returns : goal.returns
returns c =
    let text = c.args.text.now in
    let to = c.loop-to.to in
    let found : to < length text → is_end (slice_index_or text to 0) ≡ true = λ l. elim c.loop-to-test.branch [ then-loop-to-test+else-text-to-ne10 w ↦ search rules | else-loop-to-test w ↦ absurd (omega arith) ] in
    first text to c.loop-to.invariant.inside c.loop-to.invariant.passed found
