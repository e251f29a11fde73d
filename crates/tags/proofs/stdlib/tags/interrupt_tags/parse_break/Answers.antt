use Rattle.std.proofs.Common.{refl, ap}
use Rattle.tree.specs.Elements.{break}
use Rattle.nodes.specs.Trees.{leaf_of}
use Rattle.arguments.specs.Judging.{went, pure}
use Rattle.tags.specs.Leaves.{break_tag}
use Rattle.tags.proofs.stdlib.tags.interrupt_tags.parse_break.Goals as goal

pub returns-clause-says : goal.returns-clause-says
unfolding break_tag leaf_of
returns-clause-says c =
    let (u, is, says) = c.in_ok-finish.ensures.says in
    (break, refl, ap (λ v. went v (λ x. pure break)) says)
