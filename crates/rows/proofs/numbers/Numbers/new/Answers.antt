use Rattle.rows.proofs.Countings.{numbers_between}
use Rattle.rows.proofs.numbers.Numbers.new.Goals as goal

pub returns-clause-exact : goal.returns-clause-exact
returns-clause-exact c = numbers_between c.args.from c.args.to
