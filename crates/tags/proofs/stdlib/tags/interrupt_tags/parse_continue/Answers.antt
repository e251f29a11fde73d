use Rattle.std.proofs.Common.{refl, ap}
use Rattle.tree.specs.Elements.{continue}
use Rattle.nodes.specs.Trees.{leaf_of}
use Rattle.arguments.specs.Judging.{went, pure}
use Rattle.tags.specs.Leaves.{continue_tag}
use Rattle.tags.proofs.stdlib.tags.interrupt_tags.parse_continue.Goals as goal

pub returns-clause-says : goal.returns-clause-says
unfolding continue_tag leaf_of
returns-clause-says c =
    let (u, is, says) = c.in_ok-finish.ensures.says in
    (continue, refl, ap (λ v. went v (λ x. pure continue)) says)
