use Rattle.arguments.specs.Values.{value}
use Rattle.arguments.specs.Tables.{under}
use Rattle.arguments.proofs.Valuing.{said_valued}
use Rattle.arguments.proofs.reader.Reader.enter_value.Goals as goal

pub returns-clause-says : goal.returns-clause-says
returns-clause-says c =
    let d = c.args.self.now in
    let u = c.value.new.self in
    let g = c.in_ok-value.ensures in
    let p = c.push_value.ensures in
    let (y, is, says) = g.says in
    said_valued c.push_value.result d u c.push_value.new.self c.in_ok-value.value y (value d.mark (under d)) says is g.grown p.longer p.pushed p.says
