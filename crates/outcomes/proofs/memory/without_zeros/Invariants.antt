use Rattle.outcomes.proofs.Zeros.{Zeros}
use Rattle.outcomes.proofs.memory.without_zeros.Given as goal

abbrev pub invariant-loop-end : goal.invariant-loop-end
invariant-loop-end l = Zeros l.buffer l.end

abbrev pub decreases-loop-end : goal.decreases-loop-end
decreases-loop-end l = l.end
