use Rattle.std.proofs.Common.{◌≡◌, ◌+◌, ◌-◌, ◌*◌}
use Rattle.values.specs.Meaning.{text_at}
use Rattle.values.specs.Numbers.{entry_number}
use Rattle.values.proofs.finds.find_in.Given as goal

abbrev pub invariant-loop-j : goal.invariant-loop-j
invariant-loop-j l =
    entry_number (text_at l.tray) l.key l.entries.first l.entries.count ≡ entry_number (text_at l.tray) l.key (l.entries.first + 2 * l.j) (l.entries.count - l.j)
