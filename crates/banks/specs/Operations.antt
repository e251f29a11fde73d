-- What the inner steps of the bank of sums answer.
use Rattle.std.specs.Prelude.{ℤ, ◌+ℤ◌, ◌-ℤ◌, ◌*ℤ◌, Ok, Err, Result}
use Rattle.banks.specs.declared.causes.Cause.{Cause}
use Rattle.banks.specs.declared.sums.Operation.{Operation}
use Rattle.banks.specs.declared.sums.Operation.TheVariants.{Plus, Minus, Times}
use Rattle.banks.specs.Meaning.{Given, a_number}

abbrev pub rule : Operation → ℤ → ℤ → ℤ
rule Plus a b = a +ℤ b
rule Minus a b = a -ℤ b
rule Times a b = a *ℤ b

abbrev pub numbered : Result ℤ Cause → Result Given Cause
numbered (Ok z) = Ok (a_number z)
numbered (Err c) = Err c
