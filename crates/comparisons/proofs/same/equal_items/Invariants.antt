use Rattle.values.specs.Meaning.{value_of}
use Rattle.equality.proofs.Loops.{Pairs}
use Rattle.comparisons.proofs.same.equal_items.Given as goal

abbrev pub invariant-loop-j : goal.invariant-loop-j
invariant-loop-j l = Pairs (value_of l.tray) l.a.first l.a.count l.b.first l.b.count l.j
