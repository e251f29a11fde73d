-- The theorem is proved in proofs/Reorder.antt.
use Rattle.meaning.proofs.Reorder.{order_free}
use Rattle.meaning.proofs.order_stands.Goals as goal

pub returns : goal.returns
returns c = record { order = order_free }
