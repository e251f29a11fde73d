use Rattle.numerals.proofs.Readings.{Reading}
use Rattle.numerals.proofs.size_of.Given as goal

abbrev pub invariant-loop-c : goal.invariant-loop-c
invariant-loop-c l = Reading l.digits l.c-index l.size
