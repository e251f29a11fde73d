use Rattle.outcomes.proofs.Zeros.{zeros_none, zeros_less, zeros_filled}
use Rattle.outcomes.proofs.memory.without_zeros.Goals as goal

pub loop-end-init : goal.loop-end-init
loop-end-init c = zeros_none _

pub loop-end-preserved : goal.loop-end-preserved
loop-end-preserved c = zeros_less c.loop-end.invariant c.loop-end-test.true c.if-buffer-end-eq0.true

pub returns : goal.returns
returns c = zeros_filled c.loop-end.invariant
