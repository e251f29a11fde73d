use Rattle.std.proofs.Common.{◌<◌, length, sym, ap, ◌∙◌, arith}
use Rattle.tree.specs.Elements.{equals_one}
use Rattle.arguments.specs.Judging.{went, pure}
use Rattle.arguments.specs.Tables.{pool_of, under}
use Rattle.nodes.specs.Exprs.{values_of}
use Rattle.tags.specs.Whens.{whens}
use Rattle.sheet.specs.Blocks.{an_arm, when}
use Rattle.sheet.specs.Opening.{nodes_in, long}
use Rattle.sheet.proofs.Guards.{when_arm}
use Rattle.sheet.proofs.stdlib.blocks.case_block.when.Goals as goal

pub returns-clause-says : goal.returns-clause-says
unfolding when
returns-clause-says c =
    let d = c.args.reader.now in
    let h = c.hold.new.reader in
    let e = c.parse_values.new.reader in
    let (u, t, held) = c.in_ok-hold.ensures.says in
    let (xs, s, g) = c.in_ok-values.ensures.says in
    let pushed = c.in_ok-hold.ensures.pushed in
    let same = ap length c.in_ok-values.ensures.nodes in (
      an_arm (equals_one xs),
      (omega (arith, pushed, same), when_arm (pool_of e) (nodes_in e) (long d) (long h) (long e) pushed c.in_ok-values.values xs same s),
      ap (λ v. went (went v (λ _. whens d.mark)) (λ x. pure (an_arm (equals_one x)))) held
          ∙ ap (λ i. went (whens i (under h)) (λ x. pure (an_arm (equals_one x)))) (sym c.in_ok-hold.ensures.longer.mark)
          ∙ ap (λ v. went v (λ x. pure (an_arm (equals_one x)))) g,
    )
