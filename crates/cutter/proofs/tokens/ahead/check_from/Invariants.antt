use Rattle.std.proofs.Common.{◌≡◌}
use Rattle.cutter.specs.Words.{words_from, verdict}
use Rattle.cutter.specs.Ahead.{ahead}
use Rattle.cutter.proofs.Filled.{word_count}
use Rattle.cutter.proofs.tokens.ahead.check_from.Given as goal

abbrev pub invariant-loop : goal.invariant-loop
invariant-loop l = verdict (words_from l.src l.place) ≡ verdict (ahead l.cursor)

abbrev pub decreases-loop : goal.decreases-loop
decreases-loop l = word_count (ahead l.cursor)
