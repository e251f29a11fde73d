use Rattle.std.proofs.Common.{rules}
use Rattle.tray.proofs.Same.{slices_same}
use Rattle.tray.proofs.parts.same_text.Goals as goal

pub returns : goal.returns
returns c = search (rules, slices_same)
