use Rattle.std.proofs.Common.{◌≡◌, ◌++◌, take, vec_items}
use Rattle.ticket.specs.Quote.{all_escaped}
use Rattle.ticket.proofs.quote.push_escaped.Given as goal

abbrev pub invariant-loop-b : goal.invariant-loop-b
invariant-loop-b l = vec_items l.out ≡ vec_items l.initial.out ++ all_escaped (take l.b-index l.text)
