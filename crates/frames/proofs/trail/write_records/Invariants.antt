use Rattle.std.proofs.Common.{◌≡◌, ◌++◌, reverse, take, drop}
use Rattle.frames.specs.Trails.{trail_for}
use Rattle.frames.proofs.trail.write_records.Given as goal

abbrev pub invariant-loop-k : goal.invariant-loop-k
invariant-loop-k l = l.trail ≡ take l.k (trail_for (reverse l.frames)) ++ drop l.k l.initial.trail
