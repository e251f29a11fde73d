use Rattle.std.proofs.Common.{◌≡◌, Some, None, sym, ap, ◌∙◌}
use Rattle.std.specs.Option.{option_map}
use Rattle.tree.specs.Conditions.{exists, compares}
use Rattle.nodes.specs.Exprs.{comparison_of}
use Rattle.nodes.proofs.Widens.{keeps_expr}
use Rattle.arguments.specs.Judging.{token_if, ◌next◌, went, pure}
use Rattle.arguments.specs.Values.{value}
use Rattle.arguments.specs.Tables.{pool_of, under}
use Rattle.tags.specs.Conditions.{comparison, compared, tested}
use Rattle.tags.proofs.Tests.{compares_of}
use Rattle.tags.proofs.stdlib.blocks.if_block.tested.Goals as goal

pub returns-in_default-clause-says : goal.returns-in_default-clause-says
unfolding tested
returns-in_default-clause-says c =
    let m = c.args.reader.now.mark in
    let d = c.first.new.reader in
    let e = c.take_comparison.new.reader in
    let (x, is, says) = c.in_ok-first.ensures.says in
    let (k, found, then) = c.in_ok-comparison.ensures.says in
    let none : k ≡ None = found ∙ ap (option_map comparison_of) c.in_default.is in (
      exists x,
      ap (option_map exists) (keeps_expr (pool_of d) (pool_of e) c.in_ok-comparison.ensures.grown.pool c.in_ok-first.first x is),
      ap (λ v. went v (λ y. token_if comparison next λ o. compared m y o)) says ∙ ap (λ v. went v (λ o. compared m x o)) then ∙ ap (λ o. compared m x o (under e)) none,
    )

pub returns-clause-says : goal.returns-clause-says
unfolding tested
returns-clause-says c =
    let m = c.args.reader.now.mark in
    let d = c.first.new.reader in
    let e = c.take_comparison.new.reader in
    let f = c.value.new.self in
    let h = c.in_ok-comparison.ensures in
    let g = c.in_ok-second.ensures in
    let (x, is, says) = c.in_ok-first.ensures.says in
    let (k, found, then) = h.says in
    let (y, are, last) = g.says in
    let some : k ≡ Some (comparison_of c.in-Some.comparison) = found ∙ ap (option_map comparison_of) c.in-Some.is in
    let first = keeps_expr (pool_of e) (pool_of f) g.grown.pool c.in_ok-first.first x (keeps_expr (pool_of d) (pool_of e) h.grown.pool c.in_ok-first.first x is) in (
      compares x (comparison_of c.in-Some.comparison) y,
      compares_of (pool_of f) c.in_ok-first.first c.in_ok-second.second c.in-Some.comparison x y first are,
      ap (λ v. went v (λ z. token_if comparison next λ o. compared m z o)) says
          ∙ ap (λ v. went v (λ o. compared m x o)) then
          ∙ ap (λ o. compared m x o (under e)) some
          ∙ ap (λ j. went (value j (under e)) (λ z. pure (compares x (comparison_of c.in-Some.comparison) z))) (sym (h.grown.mark ∙ c.in_ok-first.ensures.grown.mark))
          ∙ ap (λ v. went v (λ z. pure (compares x (comparison_of c.in-Some.comparison) z))) last,
    )
