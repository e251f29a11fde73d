use Rattle.std.proofs.Common.{ap, ◌∙◌}
use Rattle.std.specs.Option.{is_some}
use Rattle.comparisons.proofs.Among.{found_among}
use Rattle.comparisons.proofs.members.among.Goals as goal

pub returns : goal.returns
returns c = c.is_some.ensures ∙ ap is_some c.first_match.ensures.place ∙ found_among c.args.tray.now c.args.sought _ _
