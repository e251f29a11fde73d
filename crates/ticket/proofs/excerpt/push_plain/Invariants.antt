use Rattle.std.proofs.Common.{◌≡◌, ◌++◌, take, map, vec_items}
use Rattle.ticket.specs.Excerpt.{plain}
use Rattle.ticket.proofs.excerpt.push_plain.Given as goal

abbrev pub invariant-loop-b : goal.invariant-loop-b
invariant-loop-b l = vec_items l.out ≡ vec_items l.initial.out ++ map plain (take l.b-index l.text)
