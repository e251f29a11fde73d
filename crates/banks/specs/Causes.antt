-- The numbers of the causes, and their words.
use Rattle.std.specs.Prelude.{ℕ, List, codes}
use Rattle.banks.specs.declared.causes.Cause.{Cause}
use Rattle.banks.specs.declared.causes.Cause.TheVariants.{UnknownName, WrongOperand, Overflow, NoPhrase}

abbrev pub number_of : Cause → ℕ
number_of UnknownName = 1
number_of WrongOperand = 2
number_of Overflow = 3
number_of NoPhrase = 4

abbrev pub words_of : Cause → List ℕ
words_of UnknownName = codes "no bank knows the name"
words_of WrongOperand = codes "an operand is wrong or missing"
words_of Overflow = codes "the result is beyond 64 signed bits"
words_of NoPhrase = codes "there is no such phrase"
