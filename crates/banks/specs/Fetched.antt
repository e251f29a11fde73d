-- What the inner steps of the bank of phrases answer.
use Rattle.std.specs.Prelude.{Ok, Err, Result}
use Rattle.banks.specs.declared.causes.Cause.{Cause}
use Rattle.banks.specs.declared.operands.Short.{Short}
use Rattle.banks.specs.Meaning.{Given, a_text}
use Rattle.banks.specs.Operands.{text_of}

abbrev pub texted : Result Short Cause → Result Given Cause
texted (Ok s) = Ok (a_text (text_of s))
texted (Err c) = Err c
