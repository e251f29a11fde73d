use Rattle.cutter.specs.Ahead.{ahead}
use Rattle.arguments.specs.Tables.{lists_of}
use Rattle.arguments.proofs.Tokens.{said_next}
use Rattle.arguments.proofs.reader.Reader.next_word.Goals as goal

pub returns-clause-says : goal.returns-clause-says
returns-clause-says c =
    let d = c.args.self.now in
    said_next d.source.now (ahead d.cursor) (ahead c.next.new.self) (lists_of d) c.in_ok-next.field-0 c.in_ok-next.ensures d.stands
