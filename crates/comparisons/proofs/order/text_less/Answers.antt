use Rattle.comparisons.proofs.Orders.{less_is}
use Rattle.comparisons.proofs.order.text_less.Goals as goal

pub returns : goal.returns
returns c = less_is c.args.a.now c.args.b.now c.lt.result c.lt.ensures
