use Rattle.values.specs.Meaning.{value_of, text_at, entries_from}
use Rattle.equality.proofs.Loops.{Looks}
use Rattle.equality.proofs.within.Given as goal

abbrev pub invariant-loop-j : goal.invariant-loop-j
invariant-loop-j l = Looks (text_at l.tray) (value_of l.tray) l.entries.first l.entries.count (entries_from (text_at l.tray) (value_of l.tray) l.others.first l.others.count) l.j
