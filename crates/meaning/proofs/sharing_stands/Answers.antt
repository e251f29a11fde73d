-- The laws are proved in proofs/Laws.antt.
use Rattle.meaning.proofs.Laws.{changes_only, depends_only, without_a_clash, refused_touch_nothing}
use Rattle.meaning.proofs.sharing_stands.Goals as goal

pub returns : goal.returns
returns c = record { changes = changes_only; depends = depends_only; commute = without_a_clash; refused = refused_touch_nothing }
