use Rattle.std.proofs.Common.{◌<◌, sym, ap, ◌∙◌, arith}
use Rattle.cutter.specs.declared.lengths.Symbol.TheVariants.{Assign}
use Rattle.tree.specs.Elements.{assign}
use Rattle.arguments.specs.Judging.{passes, went, pure, expect, ◌next◌}
use Rattle.arguments.specs.Values.{is_the_symbol, chain}
use Rattle.arguments.specs.Tables.{pool_of, under}
use Rattle.tags.specs.Leaves.{assign_tag}
use Rattle.tags.proofs.Leaves.{assign_leaf}
use Rattle.tags.proofs.stdlib.tags.assign_tag.parse.Goals as goal

pub returns-clause-says : goal.returns-clause-says
unfolding assign_tag
returns-clause-says c =
    let i = c.args.reader.now.mark in
    let m = c.target.new.self in
    let n = c.expect_symbol.new.self in
    let e = c.chain.new.self in
    let k = c.in_ok-target.target in
    let h = c.in_ok-target.ensures in
    let g = c.in_ok-expect_symbol.ensures in
    let f = c.in_ok-chain.ensures in
    let (y, (same, there), target) = h.says in
    let (u, unit, sign) = g.says in
    let (x, is, says) = f.says in
    let below : k < (pool_of e).names = omega (arith, there, g.grown.pool.names, f.grown.pool.names) in (
      assign k x,
      assign_leaf (pool_of e) k c.in_ok-chain.chain x below is,
      ap (λ v. went v (λ z. expect (is_the_symbol Assign) i next λ t. chain i next λ s. pure (assign z s))) target
          ∙ ap (λ j. went (expect (is_the_symbol Assign) j (under m)) (λ t. chain i next λ s. pure (assign y s))) (sym h.grown.mark)
          ∙ ap (λ v. went v (λ t. chain i next λ s. pure (assign y s))) sign
          ∙ ap (λ j. went (chain j (under n)) (λ s. pure (assign y s))) (sym (g.grown.mark ∙ h.grown.mark))
          ∙ ap (λ v. went v (λ s. pure (assign y s))) says
          ∙ ap (λ z. passes (assign z x) (under e)) same,
    )
