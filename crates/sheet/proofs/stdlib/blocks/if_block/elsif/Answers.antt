use Rattle.std.proofs.Common.{◌<◌, length, sym, ap, ◌∙◌, arith}
use Rattle.tree.specs.Elements.{holds}
use Rattle.arguments.specs.Judging.{went, pure}
use Rattle.arguments.specs.Tables.{pool_of, under}
use Rattle.tags.specs.Conditions.{condition}
use Rattle.sheet.specs.Blocks.{an_arm, elsif}
use Rattle.sheet.specs.Opening.{nodes_in, long}
use Rattle.sheet.proofs.Chaining.{front_length}
use Rattle.sheet.proofs.Guards.{elsif_arm}
use Rattle.sheet.proofs.stdlib.blocks.if_block.elsif.Goals as goal

pub returns-clause-says : goal.returns-clause-says
unfolding elsif
returns-clause-says c =
    let d = c.args.reader.now in
    let h = c.hold.new.reader in
    let e = c.parse_condition.new.reader in
    let (u, t, held) = c.in_ok-hold.ensures.says in
    let (y, s, g) = c.in_ok-parse_condition.ensures.says in
    let pushed = c.in_ok-hold.ensures.pushed in (
      an_arm (holds y),
      (omega (arith, pushed, front_length _ _ c.in_ok-parse_condition.ensures.longer.nodes), elsif_arm (pool_of e) (nodes_in e) (long d) (long h) (long e) pushed y s),
      ap (λ v. went (went v (λ _. condition d.mark)) (λ x. pure (an_arm (holds x)))) held
          ∙ ap (λ i. went (condition i (under h)) (λ x. pure (an_arm (holds x)))) (sym c.in_ok-hold.ensures.longer.mark)
          ∙ ap (λ v. went v (λ x. pure (an_arm (holds x)))) g,
    )
