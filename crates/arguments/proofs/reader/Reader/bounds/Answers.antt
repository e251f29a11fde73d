use Rattle.std.proofs.Common.{ap, ◌∙◌}
use Rattle.cutter.specs.Tokens.{token_of}
use Rattle.tree.specs.Expressions.{range}
use Rattle.nodes.proofs.Widens.{keeps_expr}
use Rattle.arguments.specs.Judging.{went, pure, ◌next◌}
use Rattle.arguments.specs.Values.{value_as}
use Rattle.arguments.specs.Tables.{pool_of}
use Rattle.arguments.proofs.Rows.{range_row}
use Rattle.arguments.proofs.reader.Reader.bounds.Goals as goal

pub returns-clause-says : goal.returns-clause-says
returns-clause-says c =
    let p = c.args.place in
    let w = c.args.to in
    let m = pool_of c.value_as.new.self in
    let e = pool_of c.value_as-2.new.self in
    let (u, is_u, says_u) = c.in_ok-from.ensures.says in
    let (v, is_v, says_v) = c.in_ok-to.ensures.says in (
      range u v,
      range_row e c.in_ok-from.from c.in_ok-to.to u v (keeps_expr m e c.in_ok-to.ensures.grown.pool c.in_ok-from.from u is_u) is_v,
      ap (λ t. went t (λ x. value_as p w.place (token_of w.place w.bytes.now) next λ y. pure (range x y))) says_u ∙ ap (λ t. went t (λ y. pure (range u y))) says_v,
    )
