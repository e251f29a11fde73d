-- The numbers of the refusals, and their words.
use Rattle.std.specs.Prelude.{ℕ, List, codes}
use Rattle.arguments.specs.declared.refusals.Refusal.{Refusal}
use Rattle.arguments.specs.declared.refusals.Refusal.TheVariants.{OutsideSource, Limit, Unclosed, NoToken, UnknownTag, Argument, OpenBlock, Reserved, UnknownFilter}

abbrev pub number_of : Refusal → ℕ
number_of OutsideSource = 1
number_of Limit = 2
number_of Unclosed = 3
number_of NoToken = 4
number_of UnknownTag = 5
number_of Argument = 6
number_of OpenBlock = 7
number_of Reserved = 8
number_of UnknownFilter = 9

abbrev pub words_of : Refusal → List ℕ
words_of OutsideSource = codes "the part does not lie inside the source text"
words_of Limit = codes "a limit of the sheet is passed"
words_of Unclosed = codes "a mark is not closed"
words_of NoToken = codes "inside a mark stands something that is no token"
words_of UnknownTag = codes "a tag that is unknown here"
words_of Argument = codes "argument wrong, missing or left over"
words_of OpenBlock = codes "a block is not closed"
words_of Reserved = codes "a reserved word stands where a name is wanted"
words_of UnknownFilter = codes "a filter name that the bank does not know"
