-- How a call hands out what a function gives.
use Rattle.std.specs.Prelude.{ℕ, ◌-◌, List, ◌++◌, length, replicate, Ok, Err, Result}
use Rattle.banks.specs.declared.answers.Answer.{Answer}
use Rattle.banks.specs.declared.answers.Answer.TheVariants.{Whole, Text}
use Rattle.banks.specs.declared.causes.Cause.{Cause}
use Rattle.banks.specs.Meaning.{Given, a_number, a_text}

-- what it returns: a number, the length of a text, or a cause
abbrev pub told : Result Given Cause → Result Answer Cause
told (Ok (a_number z)) = Ok (Whole z)
told (Ok (a_text t)) = Ok (Text (length t))
told (Err c) = Err c

-- what it leaves in the answer buffer
abbrev pub leaves : Result Given Cause → List ℕ → List ℕ
leaves (Ok (a_number z)) old = replicate 256 0
leaves (Ok (a_text t)) old = t ++ replicate (256 - length t) 0
leaves (Err c) old = old
