use Rattle.std.proofs.Common.{◌≡◌, ◌+◌, ◌-◌, ◌≤◌, length}
use Rattle.cutter.specs.Lengths.{steps_length}
use Rattle.cutter.proofs.places.Place.steps.Given as goal

abbrev pub invariant-loop-next : goal.invariant-loop-next
invariant-loop-next l = (l.end.src.now ≡ l.self.src.now) × (l.self.at ≤ l.end.at) × (l.self.at + steps_length l.self.src.now l.self.at ≡ l.end.at + steps_length l.self.src.now l.end.at)

abbrev pub decreases-loop-next : goal.decreases-loop-next
decreases-loop-next l = length l.end.src.now - l.end.at
