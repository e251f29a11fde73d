use Rattle.std.proofs.Common.{vec_items, ◌∙◌, arith}
use Rattle.arguments.specs.Tables.{pool_of}
use Rattle.tags.specs.Whens.{whens}
use Rattle.tags.proofs.Adding.{added_values}
use Rattle.tags.proofs.stdlib.blocks.case_block.parse_values.Goals as goal

pub returns-clause-says : goal.returns-clause-says
unfolding whens
returns-clause-says c =
    let d = c.args.reader.now in
    let g = c.enter_values.new.reader in
    let (ys, added, says) = c.in_ok-enter_values.ensures.says in
    (ys, added_values (vec_items d.values) (pool_of g) ys _ _ added (c.len-from.ensures ∙ d.values.ok.0) (omega (arith, c.len.ensures, g.values.ok.0)), says)
