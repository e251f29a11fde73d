use Rattle.std.proofs.Common.{◌-◌, ◌∙◌, ap, vec_items, arith}
use Rattle.tree.specs.Elements.{cycle}
use Rattle.arguments.specs.Judging.{went, ◌next◌, pure}
use Rattle.arguments.specs.Tables.{pool_of}
use Rattle.tags.specs.Cycles.{named, values_of, values_in}
use Rattle.tags.proofs.Adding.{added_values}
use Rattle.tags.proofs.Cycles.{cycle_leaf}
use Rattle.tags.proofs.stdlib.tags.cycle_tag.named.Goals as goal

pub returns-clause-says : goal.returns-clause-says
unfolding named
returns-clause-says c =
    let u = c.enter_name.new.reader in
    let g = c.enter_values.new.reader in
    let b = pool_of g in
    let h = c.in_ok-enter_values.ensures in
    let (k, below, gave) = c.in_ok-cycle.ensures.says in
    let (ws, kept, followed) = h.says in
    let values = added_values (vec_items u.values) b (values_in ws) c.len-from.result (c.len.result - c.len-from.result) kept.added (c.len-from.ensures ∙ u.values.ok.0) (omega (arith, c.len.ensures, g.values.ok.0)) in (
      cycle k (values_in ws),
      cycle_leaf b c.in_ok-cycle.cycle k (record { from = c.len-from.result; count = c.len.result - c.len-from.result }) (values_in ws) values below.0 (omega (arith, below.1, h.longer.pool.cycles)),
      ap (λ v. went v (λ n. values_of 16 next λ xs. pure (cycle n (values_in xs)))) gave ∙ ap (λ v. went v (λ xs. pure (cycle k (values_in xs)))) followed,
    )
