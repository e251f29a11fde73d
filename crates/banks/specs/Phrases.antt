-- The bank of phrases, over the object that has them by name.
use Rattle.std.specs.Prelude.{cond, length, Some, None, Ok, Err, codes, Option, Result, nat_le}
use Rattle.tray.specs.Parts.{same_text}
use Rattle.values.specs.Steps.{member}
use Rattle.values.specs.Value.{Value, nil, boolean, whole, text, array, object}
use Rattle.banks.specs.declared.causes.Cause.{Cause}
use Rattle.banks.specs.declared.causes.Cause.TheVariants.{UnknownName, WrongOperand, NoPhrase}
use Rattle.banks.specs.Meaning.{Given, a_text, Meaning}
use Rattle.banks.specs.Operands.{Datum, nil as nil_datum, boolean as boolean_datum, whole as whole_datum, text as text_datum}

-- a text of at most 256 bytes is a phrase; no other value is
abbrev pub phrase_of : Value → Result Given Cause
phrase_of nil = Err NoPhrase
phrase_of (boolean b) = Err NoPhrase
phrase_of (whole z) = Err NoPhrase
phrase_of (text t) = cond (nat_le (length t) 256) (Ok (a_text t)) (Err NoPhrase)
phrase_of (array xs) = Err NoPhrase
phrase_of (object es) = Err NoPhrase

abbrev pub phrase_found : Option Value → Result Given Cause
phrase_found None = Err NoPhrase
phrase_found (Some v) = phrase_of v

-- the phrase that an input names
abbrev pub phrase_named : Value → Datum → Result Given Cause
phrase_named names nil_datum = Err WrongOperand
phrase_named names (boolean_datum b) = Err WrongOperand
phrase_named names (whole_datum z) = Err WrongOperand
phrase_named names (text_datum t) = phrase_found (member names t)

-- `phrase` takes no argument
abbrev pub phrase : Value → Datum → Option Datum → Result Given Cause
phrase names input None = phrase_named names input
phrase names input (Some d) = Err WrongOperand

abbrev pub phrases : Value → Meaning
phrases names =
    record {
      known = λ name. same_text name (codes "phrase");
      gives = λ name input argument. cond (same_text name (codes "phrase")) (phrase names input argument) (Err UnknownName);
    }
