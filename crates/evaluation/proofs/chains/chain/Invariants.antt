use Rattle.std.proofs.Common.{◌≡◌, length}
use Rattle.drawers.specs.Shown.{shows}
use Rattle.evaluation.specs.Chains.{chained_in}
use Rattle.evaluation.proofs.Filtered.{Left}
use Rattle.evaluation.proofs.chains.chain.Given as goal

-- from the value so far the filters that are left come to what all come to
abbrev pub invariant-loop-filter : goal.invariant-loop-filter
invariant-loop-filter g l =
    (g.B.Bank.meaning l.bank ≡ g.B.Bank.meaning l.fn.bank)
    × Left l.fn.scene l.fn.frames (shows l.fn.drawers) (g.B.Bank.meaning l.fn.bank) l.fn.chain l.left (chained_in l.answer l.so_far)

abbrev pub decreases-loop-filter : goal.decreases-loop-filter
decreases-loop-filter g l = length l.left
