-- The bank of sums.
use Rattle.std.specs.Prelude.{ℕ, cond, List, ℤ, ◌+ℤ◌, ◌-ℤ◌, ◌*ℤ◌, is_some, Some, None, Ok, Err, codes, Option, Result}
use Rattle.numerals.specs.Decimal.{whole_of, fits}
use Rattle.tray.specs.Parts.{same_text}
use Rattle.banks.specs.declared.causes.Cause.{Cause}
use Rattle.banks.specs.declared.causes.Cause.TheVariants.{UnknownName, WrongOperand, Overflow}
use Rattle.banks.specs.Meaning.{Given, a_number, Meaning}
use Rattle.banks.specs.Operands.{Datum, nil, boolean, whole, text}

-- what each name does to two whole numbers
abbrev pub operation : List ℕ → Option (ℤ → ℤ → ℤ)
operation name =
    cond (same_text name (codes "plus")) (Some ◌+ℤ◌)
    (cond (same_text name (codes "minus")) (Some ◌-ℤ◌)
    (cond (same_text name (codes "times")) (Some ◌*ℤ◌) None))

-- the whole number that an operand is read as
abbrev pub whole_in : Datum → Option ℤ
whole_in nil = None
whole_in (boolean b) = None
whole_in (whole z) = Some z
whole_in (text t) = whole_of t

-- the same of an argument, which may be missing
abbrev pub whole_in_argument : Option Datum → Option ℤ
whole_in_argument None = None
whole_in_argument (Some d) = whole_in d

-- a number, unless it is beyond 64 signed bits
abbrev pub bounded : ℤ → Result Given Cause
bounded z = cond (fits z) (Ok (a_number z)) (Err Overflow)

abbrev pub calculated : (ℤ → ℤ → ℤ) → Option ℤ → Option ℤ → Result Given Cause
calculated f None b = Err WrongOperand
calculated f (Some a) None = Err WrongOperand
calculated f (Some a) (Some b) = bounded (f a b)

abbrev pub applied : Option (ℤ → ℤ → ℤ) → Datum → Option Datum → Result Given Cause
applied None input argument = Err UnknownName
applied (Some f) input argument = calculated f (whole_in input) (whole_in_argument argument)

abbrev pub sums : Meaning
sums =
    record {
      known = λ name. is_some (operation name);
      gives = λ name input argument. applied (operation name) input argument;
    }
