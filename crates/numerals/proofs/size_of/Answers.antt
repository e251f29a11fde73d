use Rattle.std.proofs.Common.{arith}
use Rattle.numerals.proofs.Readings.{reading_beyond}
use Rattle.numerals.proofs.size_of.Goals as goal

pub returns-then-size-digit : goal.returns-then-size-digit
returns-then-size-digit c = reading_beyond c.loop-c.invariant (omega (arith, c.loop-c-test.true)) (omega (arith, c.if-not-is_ascii_digit.ensures.cases)) (omega (arith, c.if-not-is_ascii_digit.ensures.cases)) (omega (arith, c.if-size-digit.true, c.from-digit.ensures))
