use Rattle.std.proofs.Common.{refl}
use Rattle.held.specs.Scenes.{host_of}
use Rattle.comparisons.proofs.Holds.{around}
use Rattle.comparisons.proofs.members.MembersEqualityValueRefSliceU8.same.Goals as goal

pub returns : goal.returns
returns c = c.same.ensures (around (host_of c.args.self.now.tray.now)) refl
