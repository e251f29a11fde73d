use Rattle.std.proofs.Common.{◌≡◌, ◌-◌, length}
use Rattle.cutter.specs.Left.{left}
use Rattle.cutter.proofs.pieces.Cutter.next.Given as goal

abbrev pub invariant-loop-b : goal.invariant-loop-b
invariant-loop-b l = left l.self ≡ left l.initial.self

abbrev pub decreases-loop-b : goal.decreases-loop-b
decreases-loop-b l = length l.self.rest.src.now - l.self.rest.at
