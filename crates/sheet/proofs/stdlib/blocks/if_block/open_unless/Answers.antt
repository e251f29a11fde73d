use Rattle.std.proofs.Common.{refl, ap}
use Rattle.tree.specs.Elements.{if_block, fails}
use Rattle.nodes.specs.Trees.{block_of}
use Rattle.arguments.specs.Judging.{went, pure}
use Rattle.arguments.specs.Tables.{pool_of}
use Rattle.sheet.specs.Blocks.{with_arm, opened_unless}
use Rattle.sheet.specs.Opening.{nodes_in, long}
use Rattle.sheet.proofs.Guards.{failing}
use Rattle.sheet.proofs.stdlib.blocks.if_block.open_unless.Goals as goal

pub returns-clause-says : goal.returns-clause-says
unfolding opened_unless block_of
returns-clause-says c =
    let e = c.parse_condition.new.reader in
    let (y, s, g) = c.in_ok-parse_condition.ensures.says in
    (with_arm if_block (fails y), (refl, failing (pool_of e) (nodes_in e) (long c.args.reader.now) (long e) y s), ap (λ v. went v (λ x. pure (with_arm if_block (fails x)))) g)
