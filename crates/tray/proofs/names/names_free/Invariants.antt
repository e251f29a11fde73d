use Rattle.tray.specs.Sound.{Free}
use Rattle.tray.proofs.names.names_free.Given as goal

abbrev pub invariant-loop-j : goal.invariant-loop-j
invariant-loop-j l = Free l.records l.text l.entries.first l.j
