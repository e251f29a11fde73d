use Rattle.std.proofs.Common.{◌∙◌}
use Rattle.comparisons.proofs.Searches.{starts_begins}
use Rattle.comparisons.proofs.search.begins.Goals as goal

pub returns : goal.returns
returns c = c.starts_with.ensures.value ∙ starts_begins c.args.sought.now c.args.text.now
