use Rattle.std.proofs.Common.{length}
use Rattle.cutter.specs.Paths.{steps_of, steps_left}
use Rattle.arguments.proofs.Paths.{Pushing}
use Rattle.arguments.proofs.reader.Reader.push_steps.Given as goal

abbrev pub invariant-loop-step : goal.invariant-loop-step
invariant-loop-step l = Pushing l.fn.self l.self (steps_of l.fn.steps.place l.fn.steps.bytes.now) (steps_left l.walk)

abbrev pub decreases-loop-step : goal.decreases-loop-step
decreases-loop-step l = length (steps_left l.walk)
