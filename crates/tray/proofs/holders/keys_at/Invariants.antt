use Rattle.tray.specs.Sound.{Keyed}
use Rattle.tray.proofs.holders.keys_at.Given as goal

abbrev pub invariant-loop-j : goal.invariant-loop-j
invariant-loop-j l = Keyed l.records l.entries.first l.j
