use Rattle.std.proofs.Common.{◌-◌, ◌*◌}
use Rattle.values.specs.Meaning.{value_of, text_at, count_of, entries_from}
use Rattle.equality.proofs.Loops.{Pairs, Agrees}
use Rattle.equality.proofs.+equal_values.Given as goal

-- the distance to the last record falls
abbrev pub decreases-equal_at : goal.decreases-equal_at
decreases-equal_at l = 2 * (count_of l.tray.now - l.a)

abbrev pub decreases-equal_items : goal.decreases-equal_items
decreases-equal_items l = 2 * (count_of l.tray.now - l.holder) - 1

abbrev pub decreases-agrees : goal.decreases-agrees
decreases-agrees l = 2 * (count_of l.tray.now - l.holder) - 1

abbrev pub invariant-equal_items-loop-j : goal.invariant-equal_items-loop-j
invariant-equal_items-loop-j l = Pairs (value_of l.tray) l.s.first l.s.count l.t.first l.t.count l.j

abbrev pub invariant-agrees-loop-j : goal.invariant-agrees-loop-j
invariant-agrees-loop-j l = Agrees (text_at l.tray) (value_of l.tray) l.s.first l.s.count (entries_from (text_at l.tray) (value_of l.tray) l.t.first l.t.count) l.j
