use Rattle.std.proofs.Common.{◌≡◌, ◌-◌, ◌<◌, List, [], ◌∷◌, Some, None, ◌∙◌, arith, subst, vec_items}
use Rattle.tree.specs.Expressions.{Expr}
use Rattle.arguments.specs.Judging.{went, pure, finished}
use Rattle.arguments.specs.Tables.{pool_of, under, Said, Is}
use Rattle.arguments.proofs.Chaining.{said_same}
use Rattle.tags.specs.Whens.{whens_of}
use Rattle.tags.specs.Reading.{Added}
use Rattle.tags.proofs.Endings.{said_last}
use Rattle.tags.proofs.Adding.{added_more, added_last}
use Rattle.tags.proofs.Whens.{whens_step}
use Rattle.tags.proofs.stdlib.blocks.case_block.+enter_values.Goals as goal

pub returns-in_default-clause-says : goal.returns-in_default-clause-says
returns-in_default-clause-says t c =
    let d = c.args.reader.now in
    let u = c.enter_value.new.self in
    let v = c.take_separator.new.reader in
    let g = c.finish.new.self in
    let (x, valued, first) = c.in_ok-enter_value.ensures.says in
    let (o, is, then) = c.in_ok-take_separator.ensures.says in
    let some : 0 < c.args.left = omega (arith, c.if-left-eq0.false) in
    let same = whens_step c.args.left d.mark (under d) x (under u) o None (under v) some first then (is ∙ c.in_default.is) in
    let D = Added (vec_items d.values) (pool_of g) in
    let added = added_last d u v g x valued c.in_ok-take_separator.ensures.grown c.finish.ensures.grown in
    said_same c.finish.result (went (finished (under v)) (λ _. pure (x ∷ []))) (whens_of c.args.left d.mark (under d)) D (under g) same
    (said_last c.finish.result (finished (under v)) (λ _. x ∷ []) Is D (under g) (λ _ _ _ _. added) c.finish.ensures.says)

pub returns-clause-says : goal.returns-clause-says
returns-clause-says t c =
    let d = c.args.reader.now in
    let u = c.enter_value.new.self in
    let v = c.take_separator.new.reader in
    let g = c.enter_values.new.reader in
    let r = c.enter_values.ensures in
    let h = c.in_ok-take_separator.ensures in
    let (x, valued, first) = c.in_ok-enter_value.ensures.says in
    let (o, is, then) = h.says in
    let some : 0 < c.args.left = omega (arith, c.if-left-eq0.false) in
    let same = whens_step c.args.left d.mark (under d) x (under u) o (Some c.in-Some.field-0) (under v) some first then (is ∙ c.in-Some.is) in
    let mark : v.mark ≡ d.mark = h.grown.mark ∙ c.in_ok-enter_value.ensures.longer.mark in
    let D = Added (vec_items d.values) (pool_of g) in
    let E = Added (vec_items v.values) (pool_of g) in
    let rest = λ (ys : List Expr) (k : E tt ys). added_more d u v g x ys valued h.grown r.longer k in
    let says = subst (λ m. Said c.enter_values.result (whens_of (c.args.left - 1) m (under v)) E (under g)) mark r.says in
    said_same c.enter_values.result _ (whens_of c.args.left d.mark (under d)) D (under g) same
    (said_last c.enter_values.result (whens_of (c.args.left - 1) d.mark (under v)) (λ ys. x ∷ ys) E D (under g) (λ _ ys _ k. rest ys k) says)
