use Rattle.std.proofs.Common.{rules, ◌∙◌}
use Rattle.std.proofs.lemmas.Iterator.{YieldsList-from_slice}
use Rattle.std.proofs.lemmas.Iterator.Search.{all_from_yields_List}
use Rattle.ticket.specs.Names.{goes_on}
use Rattle.ticket.proofs.Goes.{all_go}
use Rattle.ticket.proofs.show.all_go_on.Goals as goal

pub returns : goal.returns
returns c = all_from_yields_List goes_on _ _ c.all.result c.all.ensures.ran (YieldsList-from_slice c.args.text.now cc) (λ x b q k. search rules) ∙ all_go c.args.text.now
