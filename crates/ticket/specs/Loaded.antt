-- What a template is loaded as.
use Rattle.std.specs.Prelude.{ℕ, Bool, ◌||◌, List, Ok, Err, Result}
use Rattle.values.specs.Value.{nil}
use Rattle.banks.specs.Sums.{sums}
use Rattle.banks.specs.Phrases.{phrases}
use Rattle.arguments.specs.declared.refusals.Stop.{Stop}
use Rattle.ticket.specs.declared.load.Loaded.{Loaded}

-- the filters that sums and phrases have, whatever the phrases are
abbrev pub known : List ℕ → Bool
known name = sums.known name || (phrases nil).known name

abbrev pub number : Result Loaded Stop → Result ℕ Stop
number (Ok l) = Ok l.template
number (Err stop) = Err stop
