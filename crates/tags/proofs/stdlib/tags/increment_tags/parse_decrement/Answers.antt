use Rattle.std.proofs.Common.{ap, ◌∙◌}
use Rattle.tree.specs.Elements.{decrement}
use Rattle.arguments.specs.Judging.{passes, went, pure}
use Rattle.arguments.specs.Tables.{pool_of, under}
use Rattle.tags.specs.Leaves.{decrement_tag}
use Rattle.tags.proofs.Leaves.{decrement_leaf}
use Rattle.tags.proofs.stdlib.tags.increment_tags.parse_decrement.Goals as goal

pub returns-clause-says : goal.returns-clause-says
unfolding decrement_tag
returns-clause-says c =
    let e = c.parse_target.new.reader in
    let n = c.in_ok-parse_target.field-0 in
    let (y, (same, there), says) = c.in_ok-parse_target.ensures.says in
    (decrement n, decrement_leaf (pool_of e) n there, ap (λ v. went v (λ i. pure (decrement i))) says ∙ ap (λ i. passes (decrement i) (under e)) same)
