use Rattle.cutter.specs.Ahead.{ahead}
use Rattle.arguments.specs.Judging.{seen}
use Rattle.arguments.specs.Tables.{lists_of, under}
use Rattle.arguments.proofs.Chaining.{grown_then, grown_longer}
use Rattle.tags.proofs.Cycles.{token_ahead}
use Rattle.tags.proofs.stdlib.tags.cycle_tag.parse.Goals as goal

pub unnamed-requires-clause-first : goal.unnamed-requires-clause-first
unnamed-requires-clause-first c =
    let d = c.args.reader.now in
    let w = c.in_ok-first.first in
    let (y, shown, says) = c.in_ok-first.ensures.says in
    token_ahead d.mark (ahead d.cursor) (lists_of d) y (seen w.place w.bytes.now) (under c.word.new.self) says shown.is

pub unnamed-requires-then-has_symbol-2-clause-first : goal.unnamed-requires-then-has_symbol-2-clause-first
unnamed-requires-then-has_symbol-2-clause-first c =
    let d = c.args.reader.now in
    let w = c.in_ok-first.first in
    let (y, shown, says) = c.in_ok-first.ensures.says in
    token_ahead d.mark (ahead d.cursor) (lists_of d) y (seen w.place w.bytes.now) (under c.word.new.self) says shown.is

pub returns-clause-longer : goal.returns-clause-longer
returns-clause-longer c =
    grown_longer c.args.reader.now c.next_word.new.self (grown_then c.args.reader.now c.word.new.self c.next_word.new.self c.in_ok-first.ensures.grown c.in_ok-second.ensures.grown)
