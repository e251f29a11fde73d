use Rattle.std.proofs.Common.{sym, ◌∙◌}
use Rattle.cutter.specs.Ahead.{ahead}
use Rattle.arguments.specs.Tables.{lists_of}
use Rattle.tags.proofs.Firsts.{first_none}
use Rattle.tags.proofs.stdlib.blocks.if_block.room_ahead.Goals as goal

pub returns-in_default : goal.returns-in_default
returns-in_default c =
    let d = c.args.reader.now in
    let w = c.in-Some.word in
    let (rest, e) = rw c.in-Some.is at c.in_ok-word.ensures in
    first_none d.mark (ahead d.cursor) rest w.place w.bytes.now (lists_of d) e (sym c.is_value.ensures ∙ c.if-is_value.false)
