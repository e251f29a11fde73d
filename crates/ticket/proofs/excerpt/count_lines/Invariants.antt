use Rattle.std.proofs.Common.{◌≡◌, ◌+◌, take, count_by}
use Rattle.ticket.specs.Excerpt.{is_end}
use Rattle.ticket.proofs.excerpt.count_lines.Given as goal

abbrev pub invariant-loop-b : goal.invariant-loop-b
invariant-loop-b l = l.lines ≡ count_by is_end (take l.b-index l.text) + 1
