-- Why each of the banks is lawful: proofs, of which nothing has to be believed.
use Rattle.std.specs.Prelude.{◌≡◌, ℕ, ◌≤◌, Bool, true, false, cond, ◌||◌, List, length, ℤ, is_some, Some, None, Ok, Err, codes, Option, Result, nat_le, refl}
use Rattle.std.proofs.Common.{leb-true}
use Rattle.numerals.specs.Decimal.{fits}
use Rattle.tray.specs.Parts.{same_text}
use Rattle.values.specs.Steps.{member}
use Rattle.values.specs.Value.{Value, nil, boolean, whole, text, array, object}
use Rattle.banks.specs.declared.causes.Cause.{Cause}
use Rattle.banks.specs.declared.causes.Cause.TheVariants.{UnknownName, Overflow, NoPhrase}
use Rattle.banks.specs.Joined.{joined, nothing}
use Rattle.banks.specs.Meaning.{Given, a_number, a_text, Meaning, FitsBuffer, Lawful}
use Rattle.banks.specs.Operands.{Datum, nil as nil_datum, boolean as boolean_datum, whole as whole_datum, text as text_datum}
use Rattle.banks.specs.Phrases.{phrase_of, phrase_found, phrase_named, phrase, phrases}
use Rattle.banks.specs.Sums.{operation, whole_in, whole_in_argument, calculated, applied, sums}

pub nothing_lawful : Lawful nothing
nothing_lawful = record { unknown = λ name input argument h. refl; short = λ name input argument. tt }

either_unknown : (b c : Bool) (x y : Result Given Cause) → (c ≡ false → y ≡ Err UnknownName) → (b || c) ≡ false → cond b x y ≡ Err UnknownName
either_unknown true c x y q h = cc
either_unknown false c x y q h = q h

either_short : (b : Bool) (x y : Result Given Cause) → FitsBuffer x → FitsBuffer y → FitsBuffer (cond b x y)
either_short true x y p q = p
either_short false x y p q = q

pub joined_lawful : (l r : Meaning) → Lawful l → Lawful r → Lawful (joined l r)
joined_lawful l r p q =
    record {
      unknown = λ name input argument. either_unknown (l.known name) (r.known name) _ _ (q.unknown name input argument);
      short = λ name input argument. either_short (l.known name) _ _ (p.short name input argument) (q.short name input argument);
    }

applied_unknown : (f : Option (ℤ → ℤ → ℤ)) (input : Datum) (argument : Option Datum) → is_some f ≡ false → applied f input argument ≡ Err UnknownName
applied_unknown None input argument h = refl
applied_unknown (Some f) input argument h = cc

calculated_short : (f : ℤ → ℤ → ℤ) (a b : Option ℤ) → FitsBuffer (calculated f a b)
calculated_short f None b = tt
calculated_short f (Some a) None = tt
calculated_short f (Some a) (Some b) = either_short (fits (f a b)) (Ok (a_number (f a b))) (Err Overflow) tt tt

applied_short : (f : Option (ℤ → ℤ → ℤ)) (input : Datum) (argument : Option Datum) → FitsBuffer (applied f input argument)
applied_short None input argument = tt
applied_short (Some f) input argument = calculated_short f (whole_in input) (whole_in_argument argument)

pub sums_lawful : Lawful sums
sums_lawful = record { unknown = λ name. applied_unknown (operation name); short = λ name. applied_short (operation name) }

tested_short : (b : Bool) (t : List ℕ) → (b ≡ true → length t ≤ 256) → FitsBuffer (cond b (Ok (a_text t)) (Err NoPhrase))
tested_short true t h = h refl
tested_short false t h = tt

phrase_of_short : (v : Value) → FitsBuffer (phrase_of v)
phrase_of_short nil = tt
phrase_of_short (boolean b) = tt
phrase_of_short (whole z) = tt
phrase_of_short (text t) = tested_short (nat_le (length t) 256) t (leb-true (length t) 256)
phrase_of_short (array xs) = tt
phrase_of_short (object es) = tt

found_short : (v : Option Value) → FitsBuffer (phrase_found v)
found_short None = tt
found_short (Some v) = phrase_of_short v

named_short : (names : Value) (input : Datum) → FitsBuffer (phrase_named names input)
named_short names nil_datum = tt
named_short names (boolean_datum b) = tt
named_short names (whole_datum z) = tt
named_short names (text_datum k) = found_short (member names k)

phrase_short : (names : Value) (input : Datum) (argument : Option Datum) → FitsBuffer (phrase names input argument)
phrase_short names input None = named_short names input
phrase_short names input (Some d) = tt

chosen_unknown : (b : Bool) (x : Result Given Cause) → b ≡ false → cond b x (Err UnknownName) ≡ Err UnknownName
chosen_unknown true x h = cc
chosen_unknown false x h = refl

pub phrases_lawful : (names : Value) → Lawful (phrases names)
phrases_lawful names =
    record {
      unknown = λ name input argument. chosen_unknown (same_text name (codes "phrase")) (phrase names input argument);
      short = λ name input argument. either_short (same_text name (codes "phrase")) (phrase names input argument) (Err UnknownName) (phrase_short names input argument) tt;
    }
