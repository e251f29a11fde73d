use Rattle.std.proofs.Common.{◌≡◌, ◌-◌, ◌<◌, Some, None, ◌∙◌, arith, subst, vec_items, length}
use Rattle.tree.specs.Conditions.{only, Condition}
use Rattle.arguments.specs.Judging.{went, pure, ◌next◌, finished}
use Rattle.arguments.specs.Tables.{pool_of, under, Said, Is}
use Rattle.arguments.proofs.Chaining.{said_went, said_same}
use Rattle.tags.specs.Conditions.{join, joining, condition_of}
use Rattle.tags.specs.Reading.{Stands, node_of}
use Rattle.tags.proofs.Endings.{said_last}
use Rattle.tags.proofs.Joins.{join_as, rest_stands, last_stands}
use Rattle.tags.proofs.Tests.{tests_step}
use Rattle.tags.proofs.stdlib.blocks.if_block.+push_tests.Goals as goal

pub returns-in_default-clause-says : goal.returns-in_default-clause-says
returns-in_default-clause-says t c =
    let d = c.args.reader.now in
    let u = c.push_test.new.reader in
    let v = c.take_joint.new.reader in
    let g = c.finish.new.self in
    let h = c.finish.ensures in
    let (x, last, first) = c.in_ok-push_test.ensures.says in
    let (j, is, then) = c.in_ok-joint.ensures.says in
    let some : 0 < c.args.left = omega (arith, c.if-left-eq0.false) in
    let same = tests_step c.args.left d.mark (under d) x (under u) j None (under v) some first then (is ∙ c.in_default.is) in
    let stands = last_stands d u v g x last c.in_ok-joint.ensures.grown h.grown in
    let D = Stands (pool_of g) (vec_items g.nodes) (length (vec_items d.nodes)) (length (vec_items g.nodes)) in
    said_same c.finish.result (went (finished (under v)) (λ _. pure (only x))) (condition_of c.args.left d.mark (under d)) D (under g) same
    (said_last c.finish.result (finished (under v)) (λ _. only x) Is D (under g) (λ _ _ _ _. stands) h.says)

pub returns-clause-says : goal.returns-clause-says
returns-clause-says t c =
    let d = c.args.reader.now in
    let u = c.push_test.new.reader in
    let v = c.take_joint.new.reader in
    let w = c.push_joint.new.reader in
    let g = c.push_tests.new.reader in
    let i = c.in-Some.joint in
    let h = c.in_ok-push_joint.ensures in
    let r = c.push_tests.ensures in
    let (x, last, first) = c.in_ok-push_test.ensures.says in
    let (j, is, then) = c.in_ok-joint.ensures.says in
    let (y, _, pushed) = h.says in
    let some : 0 < c.args.left = omega (arith, c.if-left-eq0.false) in
    let same = tests_step c.args.left d.mark (under d) x (under u) j (Some i) (under v) some first then (is ∙ c.in-Some.is) in
    let mark : w.mark ≡ d.mark = h.longer.mark ∙ c.in_ok-joint.ensures.grown.mark ∙ c.in_ok-push_test.ensures.longer.mark in
    let D = Stands (pool_of g) (vec_items g.nodes) (length (vec_items d.nodes)) (length (vec_items g.nodes)) in
    let E = Stands (pool_of g) (vec_items g.nodes) (length (vec_items w.nodes)) (length (vec_items g.nodes)) in
    let rest = λ (z : Condition) (k : E tt z). rest_stands d u v w g x (node_of i) z (join i x z) last c.in_ok-joint.ensures.grown h.pushed h.longer r.longer (join_as (pool_of g) i x z) k in
    let says = subst (λ m. Said c.push_tests.result (condition_of (c.args.left - 1) m (under w)) E (under g)) mark r.says in
    said_same c.push_tests.result _ (condition_of c.args.left d.mark (under d)) D (under g) same
    (said_went c.push_tests.result (joining i (under v)) (λ _. condition_of (c.args.left - 1) d.mark next λ z. pure (join i x z)) y (under w) D (under g) pushed
    (said_last c.push_tests.result (condition_of (c.args.left - 1) d.mark (under w)) (join i x) E D (under g) (λ _ z _ k. rest z k) says))
