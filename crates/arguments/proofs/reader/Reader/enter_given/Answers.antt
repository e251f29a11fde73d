use Rattle.std.proofs.Common.{rules, length}
use Rattle.arguments.specs.Tables.{given_name, under}
use Rattle.arguments.proofs.Entering.{cycle_long, too_long}
use Rattle.arguments.proofs.reader.Reader.enter_given.Goals as goal

pub returns-in_err-name-clause-says : goal.returns-in_err-name-clause-says
returns-in_err-name-clause-says c =
    let b = c.args.bytes.now in
    let long = cycle_long c.args.place (given_name b) (under c.args.self.now) (too_long c.new.result (length b) 128 c.in_err-name.ensures.ok_part c.new.ensures.fits.1) in
    search rules
