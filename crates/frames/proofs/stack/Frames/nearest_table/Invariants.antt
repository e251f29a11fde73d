use Rattle.std.proofs.Common.{◌≡◌, ◌≤◌}
use Rattle.meaning.specs.Hosts.{Host}
use Rattle.meaning.specs.Frames.{nearest_table}
use Rattle.frames.specs.Views.{frames_of, around_in}
use Rattle.frames.proofs.Opened.{opened}
use Rattle.frames.proofs.stack.Frames.nearest_table.Given as goal

abbrev pub invariant-loop-k : goal.invariant-loop-k
invariant-loop-k l = record {
  within : l.k ≤ l.self.depth;
  rest : (h : Host) → nearest_table (frames_of h (opened l.k l.self.table)) ≡ nearest_table (around_in h l.self);
}

abbrev pub decreases-loop-k : goal.decreases-loop-k
decreases-loop-k l = l.k
