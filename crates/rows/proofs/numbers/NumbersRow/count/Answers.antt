use Rattle.std.proofs.Common.{arith}
use Rattle.std.proofs.lemmas.Int.{ints}
use Rattle.rows.proofs.Countings.{held_length}
use Rattle.rows.proofs.numbers.NumbersRow.count.Goals as goal

pub returns : goal.returns
returns c = grind (arith, ints, held_length c.args.self.now.from c.args.self.now.to)
