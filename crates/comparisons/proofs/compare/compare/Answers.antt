use Rattle.std.proofs.Common.{not, ap, ◌∙◌}
use Rattle.std.specs.Prelude.{int_lt}
use Rattle.held.specs.Value.{held_by}
use Rattle.meaning.specs.Tests.{text_less}
use Rattle.comparisons.proofs.Orders.{turned}
use Rattle.comparisons.proofs.Holds.{gives_ends}
use Rattle.comparisons.proofs.compare.compare.Goals as goal

pub returns-in-Equals : goal.returns-in-Equals
returns-in-Equals c = λ w h. rw c.in-Equals.is (gives_ends _ _ (c.same.ensures w h))

pub returns-in-Differs : goal.returns-in-Differs
returns-in-Differs c = λ w h. rw c.in-Differs.is (gives_ends _ _ (ap not (c.same-in-Differs.ensures w h)))

pub returns-in-Less : goal.returns-in-Less
returns-in-Less c = λ w h. rw c.in-Less.is (gives_ends _ _ c.less.ensures)

pub returns-in-More : goal.returns-in-More
returns-in-More c = λ w h. rw c.in-More.is (gives_ends _ _ c.less-in-More.ensures)

pub returns-in-AtMost : goal.returns-in-AtMost
returns-in-AtMost c = λ w h. rw c.in-AtMost.is (gives_ends _ _ c.at_most.ensures)

pub returns-in-AtLeast : goal.returns-in-AtLeast
returns-in-AtLeast c = λ w h. rw c.in-AtLeast.is (gives_ends _ _ (c.at_most-in-AtLeast.ensures ∙ turned (λ x y. not (int_lt y x)) (λ s t. not (text_less t s)) (held_by (λ t. t.now) c.args.a) (held_by (λ t. t.now) c.args.b)))

pub returns-in-Contains : goal.returns-in-Contains
returns-in-Contains c = λ w h. rw c.in-Contains.is (c.contains.ensures w h)
