use Rattle.std.proofs.Common.{length, ap}
use Rattle.tree.specs.Elements.{has_items}
use Rattle.arguments.specs.Judging.{went, pure}
use Rattle.arguments.specs.Tables.{pool_of}
use Rattle.tags.specs.Loops.{tablerow_of}
use Rattle.sheet.specs.Blocks.{with_arm, opened_tablerow}
use Rattle.sheet.specs.Opening.{nodes_in, long}
use Rattle.sheet.proofs.Guards.{itemed}
use Rattle.sheet.proofs.stdlib.blocks.for_block.open_tablerow.Goals as goal

pub returns-clause-says : goal.returns-clause-says
unfolding opened_tablerow
returns-clause-says c =
    let e = c.parse_header.new.reader in
    let (y, s, g) = c.in_ok-header.ensures.says in
    (with_arm (tablerow_of y) has_items, (c.tablerow_of.ensures.stands (pool_of e) y s, itemed (pool_of e) (nodes_in e) (long c.args.reader.now) (long e) (ap length c.in_ok-header.ensures.grown.nodes)), ap (λ v. went v (λ x. pure (with_arm (tablerow_of x) has_items))) g)
