use Rattle.comparisons.proofs.Searches.{Seeks}
use Rattle.comparisons.proofs.search.stands_in.Given as goal

abbrev pub invariant-loop-i : goal.invariant-loop-i
invariant-loop-i l = Seeks l.sought l.text l.i
