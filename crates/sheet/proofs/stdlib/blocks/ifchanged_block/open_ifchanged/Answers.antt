use Rattle.std.proofs.Common.{length, refl, ap}
use Rattle.tree.specs.Elements.{ifchanged_block, always}
use Rattle.nodes.specs.Trees.{block_of}
use Rattle.arguments.specs.Judging.{went, pure}
use Rattle.arguments.specs.Tables.{pool_of}
use Rattle.sheet.specs.Blocks.{with_arm, opened_ifchanged}
use Rattle.sheet.specs.Opening.{nodes_in, long}
use Rattle.sheet.proofs.Guards.{always_taken}
use Rattle.sheet.proofs.stdlib.blocks.ifchanged_block.open_ifchanged.Goals as goal

pub returns-clause-says : goal.returns-clause-says
unfolding opened_ifchanged block_of
returns-clause-says c =
    let e = c.finish.new.self in
    let (u, s, g) = c.in_ok-finish.ensures.says in
    (with_arm ifchanged_block always, (refl, always_taken (pool_of e) (nodes_in e) (long c.args.reader.now) (long e) (ap length c.in_ok-finish.ensures.grown.nodes)), ap (λ v. went v (λ x. pure (with_arm ifchanged_block always))) g)
