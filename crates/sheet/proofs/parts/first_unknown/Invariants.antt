use Rattle.std.proofs.Common.{◌≡◌, map, length}
use Rattle.arguments.specs.Tables.{asked_in}
use Rattle.sheet.specs.Loading.{first_unknown}
use Rattle.sheet.proofs.parts.first_unknown.Given as goal

-- nothing before what is left is unknown
abbrev pub invariant-loop-filter : goal.invariant-loop-filter
invariant-loop-filter g l =
    (g.B.Bank.meaning l.bank ≡ g.B.Bank.meaning l.fn.bank)
    × (first_unknown (g.B.Bank.meaning l.fn.bank).known (map (asked_in l.fn.source) l.fn.filters) ≡ first_unknown (g.B.Bank.meaning l.fn.bank).known (map (asked_in l.fn.source) l.left))

abbrev pub decreases-loop-filter : goal.decreases-loop-filter
decreases-loop-filter g l = length l.left
