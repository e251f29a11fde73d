use Rattle.std.proofs.Common.{◌<◌, codes, sym, ap, ◌∙◌, arith}
use Rattle.nodes.proofs.Widens.{keeps_row}
use Rattle.arguments.specs.Judging.{went, pure, expect, ◌next◌}
use Rattle.arguments.specs.Values.{is_the_word, a_row}
use Rattle.arguments.specs.Tables.{pool_of, under}
use Rattle.tags.specs.Loops.{attributes, header}
use Rattle.tags.proofs.stdlib.blocks.for_block.parse_header.Goals as goal

pub returns-clause-says : goal.returns-clause-says
unfolding header
returns-clause-says c =
    let i = c.args.reader.now.mark in
    let l = c.args.which in
    let m = c.target.new.self in
    let n = c.expect_word.new.self in
    let o = c.row.new.self in
    let e = c.parse_attributes.new.reader in
    let k = c.in_ok-variable.variable in
    let h = c.in_ok-variable.ensures in
    let g = c.in_ok-expect_word.ensures in
    let f = c.in_ok-row.ensures in
    let j = c.in_ok-attributes.ensures in
    let (v, (same, there), target) = h.says in
    let (u, unit, in_word) = g.says in
    let (r, row, says) = f.says in
    let (a, settings, last) = j.says in
    let below : k < (pool_of e).names = omega (arith, there, g.grown.pool.names, f.grown.pool.names, j.grown.pool.names) in
    let word = expect (is_the_word (codes "in")) in (
      record { variable = v; row = r; attributes = a },
      record { variable = same; there = below; row = keeps_row (pool_of o) (pool_of e) j.grown.pool c.in_ok-row.row r row; attributes = settings },
      ap (λ w. went w (λ x. word i next λ t. a_row i next λ y. attributes l i next λ z. pure (record { variable = x; row = y; attributes = z }))) target
          ∙ ap (λ p. went (word p (under m)) (λ t. a_row i next λ y. attributes l i next λ z. pure (record { variable = v; row = y; attributes = z }))) (sym h.grown.mark)
          ∙ ap (λ w. went w (λ t. a_row i next λ y. attributes l i next λ z. pure (record { variable = v; row = y; attributes = z }))) in_word
          ∙ ap (λ p. went (a_row p (under n)) (λ y. attributes l i next λ z. pure (record { variable = v; row = y; attributes = z }))) (sym (g.grown.mark ∙ h.grown.mark))
          ∙ ap (λ w. went w (λ y. attributes l i next λ z. pure (record { variable = v; row = y; attributes = z }))) says
          ∙ ap (λ p. went (attributes l p (under o)) (λ z. pure (record { variable = v; row = r; attributes = z }))) (sym (f.grown.mark ∙ g.grown.mark ∙ h.grown.mark))
          ∙ ap (λ w. went w (λ z. pure (record { variable = v; row = r; attributes = z }))) last,
    )
