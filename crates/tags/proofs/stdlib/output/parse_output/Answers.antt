use Rattle.std.proofs.Common.{ap}
use Rattle.tree.specs.Elements.{output}
use Rattle.arguments.specs.Judging.{went, pure}
use Rattle.arguments.specs.Tables.{pool_of}
use Rattle.tags.specs.Leaves.{output_of}
use Rattle.tags.proofs.Leaves.{output_leaf}
use Rattle.tags.proofs.stdlib.output.parse_output.Goals as goal

pub returns-clause-says : goal.returns-clause-says
unfolding output_of
returns-clause-says c =
    let (y, is, says) = c.in_ok-chain.ensures.says in
    (output y, output_leaf (pool_of c.chain.new.self) c.in_ok-chain.field-0 y is, ap (λ v. went v (λ x. pure (output x))) says)
