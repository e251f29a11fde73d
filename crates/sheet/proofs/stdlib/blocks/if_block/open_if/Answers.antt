use Rattle.std.proofs.Common.{refl, ap}
use Rattle.tree.specs.Elements.{if_block, holds}
use Rattle.nodes.specs.Trees.{block_of}
use Rattle.arguments.specs.Judging.{went, pure}
use Rattle.arguments.specs.Tables.{pool_of}
use Rattle.sheet.specs.Blocks.{with_arm, opened_if}
use Rattle.sheet.specs.Opening.{nodes_in, long}
use Rattle.sheet.proofs.Guards.{holding}
use Rattle.sheet.proofs.stdlib.blocks.if_block.open_if.Goals as goal

pub returns-clause-says : goal.returns-clause-says
unfolding opened_if block_of
returns-clause-says c =
    let e = c.parse_condition.new.reader in
    let (y, s, g) = c.in_ok-parse_condition.ensures.says in
    (with_arm if_block (holds y), (refl, holding (pool_of e) (nodes_in e) (long c.args.reader.now) (long e) y s), ap (λ v. went v (λ x. pure (with_arm if_block (holds x)))) g)
