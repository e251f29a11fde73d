-- Two banks side by side, and the bank that knows no name.
use Rattle.std.specs.Prelude.{false, cond, ◌||◌, Err}
use Rattle.banks.specs.declared.causes.Cause.TheVariants.{UnknownName}
use Rattle.banks.specs.Meaning.{Meaning}

-- the left bank has the names that it knows, the right one the rest
abbrev pub joined : Meaning → Meaning → Meaning
joined l r =
    record {
      known = λ name. l.known name || r.known name;
      gives = λ name input argument. cond (l.known name) (l.gives name input argument) (r.gives name input argument);
    }

abbrev pub nothing : Meaning
nothing = record { known = λ name. false; gives = λ name input argument. Err UnknownName }
