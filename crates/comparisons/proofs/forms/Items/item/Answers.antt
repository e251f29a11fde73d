use Rattle.comparisons.proofs.Records.{cut_is}
use Rattle.comparisons.proofs.forms.Items.item.Goals as goal

pub returns : goal.returns
returns c = record { number = c.saturating_add.ensures; value = λ t. cut_is t _ _ c.saturating_add.ensures }
