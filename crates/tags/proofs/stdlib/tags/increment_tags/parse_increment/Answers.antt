use Rattle.std.proofs.Common.{ap, ◌∙◌}
use Rattle.tree.specs.Elements.{increment}
use Rattle.arguments.specs.Judging.{passes, went, pure}
use Rattle.arguments.specs.Tables.{pool_of, under}
use Rattle.tags.specs.Leaves.{increment_tag}
use Rattle.tags.proofs.Leaves.{increment_leaf}
use Rattle.tags.proofs.stdlib.tags.increment_tags.parse_increment.Goals as goal

pub returns-clause-says : goal.returns-clause-says
unfolding increment_tag
returns-clause-says c =
    let e = c.parse_target.new.reader in
    let n = c.in_ok-parse_target.field-0 in
    let (y, (same, there), says) = c.in_ok-parse_target.ensures.says in
    (increment n, increment_leaf (pool_of e) n there, ap (λ v. went v (λ i. pure (increment i))) says ∙ ap (λ i. passes (increment i) (under e)) same)
