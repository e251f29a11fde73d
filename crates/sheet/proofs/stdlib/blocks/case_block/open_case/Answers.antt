use Rattle.std.proofs.Common.{ap, ◌∙◌}
use Rattle.nodes.proofs.Widens.{keeps_expr}
use Rattle.arguments.specs.Judging.{went, pure, finished, ◌next◌}
use Rattle.arguments.specs.Tables.{pool_of}
use Rattle.arguments.proofs.Chaining.{grown_longer, grown_then}
use Rattle.sheet.specs.Blocks.{a_case, opened_case}
use Rattle.sheet.proofs.stdlib.blocks.case_block.open_case.Goals as goal

pub returns-in_err-finish-clause-longer : goal.returns-in_err-finish-clause-longer
returns-in_err-finish-clause-longer c =
    let d = c.args.reader.now in
    grown_longer d c.finish.new.self (grown_then d c.value.new.self c.finish.new.self c.value.ensures.grown c.finish.ensures.grown)

pub returns-clause-says : goal.returns-clause-says
unfolding opened_case
returns-clause-says c =
    let v = c.value.new.self in
    let e = c.finish.new.self in
    let (y, is, g) = c.in_ok-target.ensures.says in
    let (u, s, f) = c.in_ok-finish.ensures.says in
    let after = c.in_ok-finish.ensures.grown in (
      a_case y,
      (keeps_expr (pool_of v) (pool_of e) after.pool c.in_ok-target.target y is, after.nodes ∙ c.in_ok-target.ensures.grown.nodes),
      ap (λ w. went w (λ x. finished next λ t. pure (a_case x))) g ∙ ap (λ w. went w (λ t. pure (a_case y))) f,
    )

pub returns-clause-longer : goal.returns-clause-longer
returns-clause-longer c =
    let d = c.args.reader.now in
    grown_longer d c.finish.new.self (grown_then d c.value.new.self c.finish.new.self c.value.ensures.grown c.finish.ensures.grown)
