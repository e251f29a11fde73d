use Rattle.std.proofs.Common.{◌≡◌, ◌-◌, ◌<◌, false, slice_index_or, arith, rules}
use Rattle.ticket.specs.Calls.{is_zero}
use Rattle.ticket.proofs.Lines.{trimmed}
use Rattle.ticket.proofs.calls.text_in.Goals as goal
use Rattle.ticket.proofs.calls.text_in.Goals.{then-loop-to-test+else-buffer-to-eq0, else-loop-to-test}

pub returns : goal.returns
returns c =
    let buffer = c.args.buffer.now in
    let to = c.loop-to.to in
    let found : 0 < to → is_zero (slice_index_or buffer (to - 1) 0) ≡ false = λ l. elim c.loop-to-test.branch [ then-loop-to-test+else-buffer-to-eq0 w ↦ search rules | else-loop-to-test w ↦ absurd (omega arith) ] in
    trimmed buffer to c.loop-to.invariant.inside c.loop-to.invariant.passed found
