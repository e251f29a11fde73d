use Rattle.std.proofs.Common.{◌≡◌, ◌≤◌}
use Rattle.meaning.specs.Hosts.{Host}
use Rattle.meaning.specs.Frames.{bound}
use Rattle.frames.specs.Views.{frames_of, around_in}
use Rattle.frames.proofs.Opened.{opened}
use Rattle.frames.proofs.stack.Frames.bound.Given as goal

abbrev pub invariant-loop-k : goal.invariant-loop-k
invariant-loop-k l = record {
  within : l.k ≤ l.self.depth;
  rest : (h : Host) → bound (frames_of h (opened l.k l.self.table)) l.name ≡ bound (around_in h l.self) l.name;
}

abbrev pub decreases-loop-k : goal.decreases-loop-k
decreases-loop-k l = l.k
