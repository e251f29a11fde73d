use Rattle.std.proofs.Common.{◌≡◌, ◌-◌, ◌≤◌}
use Rattle.tray.specs.Sound.{Took}
use Rattle.tray.proofs.Walks.{Taking}
use Rattle.tray.proofs.holders.hold.Given as goal

abbrev pub invariant-loop-c : goal.invariant-loop-c
invariant-loop-c l = Taking l.h l.fn.records.start l.fn.records.end l.c-iterator.start l.c-iterator.end l.initial.held l.held
