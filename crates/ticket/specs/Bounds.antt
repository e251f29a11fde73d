-- How long an answer of a bank may be.
use Rattle.std.specs.Prelude.{◌≤◌, Ok, Err, Result}
use Rattle.banks.specs.declared.answers.Answer.{Answer}
use Rattle.banks.specs.declared.answers.Answer.TheVariants.{Whole, Text}
use Rattle.banks.specs.declared.causes.Cause.{Cause}

-- a text that is answered has its place in a buffer of 256 bytes
abbrev pub FitsAnswer : Result Answer Cause → Type 0
FitsAnswer (Ok (Whole z)) = Unit {0}
FitsAnswer (Ok (Text n)) = n ≤ 256
FitsAnswer (Err c) = Unit {0}
