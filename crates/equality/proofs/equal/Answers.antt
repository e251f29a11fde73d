use Rattle.equality.proofs.Agreeing.{objects_agree, equals_itself, equal_either_way}
use Rattle.equality.proofs.equal.Goals as goal

pub returns : goal.returns
returns c = record { value = c.equal_at.ensures; objects = objects_agree; itself = equals_itself; either = equal_either_way }
