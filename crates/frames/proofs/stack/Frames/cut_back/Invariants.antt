use Rattle.std.proofs.Common.{◌≡◌, ℕ, ◌≤◌, List, length, take}
use Rattle.frames.specs.Cuts.{cutback}
use Rattle.frames.specs.Views.{open_in}
use Rattle.frames.proofs.Opened.{opened}
use Rattle.frames.proofs.stack.Frames.cut_back.Given as goal

abbrev pub invariant-loop-k : goal.invariant-loop-k
invariant-loop-k l = record {
  within : l.k ≤ l.self.depth;
  less : l.left ≤ l.filled;
  rest : (out : List ℕ) → l.filled ≤ length out → cutback (opened l.k l.self.table) (take l.left out) ≡ cutback (open_in l.self) (take l.filled out);
}

abbrev pub decreases-loop-k : goal.decreases-loop-k
decreases-loop-k l = l.k
