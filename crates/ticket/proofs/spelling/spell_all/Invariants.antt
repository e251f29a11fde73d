use Rattle.std.proofs.Common.{◌≡◌, take, vec_items}
use Rattle.ticket.specs.Spelling.{all_spelt}
use Rattle.ticket.proofs.spelling.spell_all.Given as goal

abbrev pub invariant-loop-record : goal.invariant-loop-record
invariant-loop-record l = vec_items l.out ≡ all_spelt (take l.record-index l.records)
