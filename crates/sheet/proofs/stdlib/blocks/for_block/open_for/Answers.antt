use Rattle.std.proofs.Common.{length, ap}
use Rattle.tree.specs.Elements.{has_items}
use Rattle.arguments.specs.Judging.{went, pure}
use Rattle.arguments.specs.Tables.{pool_of}
use Rattle.tags.specs.Loops.{for_of}
use Rattle.sheet.specs.Blocks.{with_arm, opened_for}
use Rattle.sheet.specs.Opening.{nodes_in, long}
use Rattle.sheet.proofs.Guards.{itemed}
use Rattle.sheet.proofs.stdlib.blocks.for_block.open_for.Goals as goal

pub returns-clause-says : goal.returns-clause-says
unfolding opened_for
returns-clause-says c =
    let e = c.parse_header.new.reader in
    let (y, s, g) = c.in_ok-header.ensures.says in
    (with_arm (for_of y) has_items, (c.for_of.ensures.stands (pool_of e) y s, itemed (pool_of e) (nodes_in e) (long c.args.reader.now) (long e) (ap length c.in_ok-header.ensures.grown.nodes)), ap (λ v. went v (λ x. pure (with_arm (for_of x) has_items))) g)
