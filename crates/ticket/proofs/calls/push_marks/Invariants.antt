use Rattle.std.proofs.Common.{◌≡◌, ◌++◌, take, vec_items}
use Rattle.std.specs.List.{flat_map}
use Rattle.ticket.specs.Calls.{block_mark}
use Rattle.ticket.proofs.calls.push_marks.Given as goal

abbrev pub invariant-loop-block : goal.invariant-loop-block
invariant-loop-block l = vec_items l.out ≡ vec_items l.initial.out ++ flat_map (block_mark l.from) (take l.block-index l.trail)
