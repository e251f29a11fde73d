use Rattle.std.proofs.Common.{◌≡◌, ◌≤◌, ◌-◌, length, drop}
use Rattle.meaning.specs.Hosts.{Host}
use Rattle.meaning.specs.Frames.{nearest_for}
use Rattle.frames.specs.Views.{around_in}
use Rattle.frames.proofs.stack.Frames.for_within.Given as goal

abbrev pub invariant-loop-k : goal.invariant-loop-k
invariant-loop-k l = record {
  within : l.k ≤ l.self.depth;
  rest : (h : Host) →
      nearest_for (drop (length (around_in h l.self) - l.k) (around_in h l.self))
      ≡ nearest_for (drop (length (around_in h l.self) - l.around) (around_in h l.self));
}

abbrev pub decreases-loop-k : goal.decreases-loop-k
decreases-loop-k l = l.k
