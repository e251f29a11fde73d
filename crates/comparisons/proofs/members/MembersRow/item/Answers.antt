use Rattle.std.proofs.Common.{Some, sym, ap, ◌∙◌}
use Rattle.rows.proofs.Cuts.{nth_counted, nth_uncounted}
use Rattle.held.specs.declared.value.Value.TheVariants.{Array}
use Rattle.comparisons.specs.Members.{number_in}
use Rattle.comparisons.proofs.members.MembersRow.item.Goals as goal

pub returns-then-k-self : goal.returns-then-k-self
returns-then-k-self c =
    let first = c.args.self.now.items.first in
    ap (λ i. Some (Array i)) c.item.ensures.number ∙ sym (nth_counted (λ k. Array (number_in first k)) _ _ c.if-k-self.true)

pub returns-else-k-self : goal.returns-else-k-self
returns-else-k-self c =
    let first = c.args.self.now.items.first in
    sym (nth_uncounted (λ k. Array (number_in first k)) _ c.args.k c.if-k-self.false)
