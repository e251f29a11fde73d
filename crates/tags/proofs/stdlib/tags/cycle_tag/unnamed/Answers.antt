use Rattle.std.proofs.Common.{◌≡◌, ◌-◌, ◌<◌, [], ◌∷◌, length, Err, rules, sym, ap, ◌∙◌, subst, vec_items, arith}
use Rattle.tree.specs.Elements.{cycle}
use Rattle.nodes.proofs.Widens.{keeps_values}
use Rattle.arguments.specs.Judging.{went, ◌next◌, pure, seen, enter_cycle}
use Rattle.arguments.specs.Tables.{made_name, pool_of, under, Refuses}
use Rattle.arguments.proofs.Chaining.{grown_refl, refuses_went}
use Rattle.arguments.proofs.Entering.{cycle_long}
use Rattle.tags.specs.Cycles.{written, made, unnamed, values_of, values_in, joined_with}
use Rattle.tags.specs.Reading.{Names}
use Rattle.tags.proofs.Endings.{said_err}
use Rattle.tags.proofs.Adding.{added_more, added_values}
use Rattle.tags.proofs.Cycles.{cycle_leaf}
use Rattle.tags.proofs.stdlib.tags.cycle_tag.unnamed.Goals as goal

pub returns-in_default-clause-says : goal.returns-in_default-clause-says
unfolding unnamed
returns-in_default-clause-says c =
    let p = c.args.word.place in
    let b = c.args.word.bytes.now in
    let v = c.enter_values.new.reader in
    let w = seen p b in
    let (rest, is) = c.requires.first in
    let (x, valued, first) = c.in_ok-enter_first.ensures.says p b rest is in
    let (ws, kept, followed) = c.in_ok-name.ensures.says in
    let long : 128 < length (joined_with b ws) = subst (λ o. Names o (joined_with b ws)) c.in_default.is (kept.named b (c.extended-name.ensures [] c.new.ensures)) in
    ap (λ r. went r (λ y. values_of 15 next λ xs. made p (written w y ∷ xs))) first
    ∙ ap (λ r. went r (λ xs. made p (written w x ∷ xs))) followed
    ∙ ap (λ r. went r (λ k. pure (cycle k (x ∷ values_in ws)))) (cycle_long p (made_name (joined_with b ws)) (under v) long)

pub returns-in_err-cycle-clause-says : goal.returns-in_err-cycle-clause-says
unfolding unnamed
returns-in_err-cycle-clause-says c =
    let p = c.args.word.place in
    let b = c.args.word.bytes.now in
    let d = c.args.reader.now in
    let v = c.enter_values.new.reader in
    let w = seen p b in
    let e = c.in_err-cycle.field-0.0 in
    let (rest, is) = c.requires.first in
    let (x, valued, first) = c.in_ok-enter_first.ensures.says p b rest is in
    let (ws, kept, followed) = c.in_ok-name.ensures.says in
    let name : c.as_slice.result.now ≡ joined_with b ws = c.as_slice.ensures.value ∙ subst (λ o. Names o (joined_with b ws)) c.in-Some.is (kept.named b (c.extended-name.ensures [] c.new.ensures)) in
    let same : unnamed w (under d) ≡ made p (written w x ∷ ws) (under v) =
    ap (λ r. went r (λ y. values_of 15 next λ xs. made p (written w y ∷ xs))) first ∙ ap (λ r. went r (λ xs. made p (written w x ∷ xs))) followed in
    let q : c.from_residual-in_err-cycle.result ≡ Err e = search rules in
    let says = subst (λ n. Refuses e (enter_cycle p (made_name n) (under v))) name c.in_err-cycle.ensures.says in
    said_err c.from_residual-in_err-cycle.result e (unnamed w (under d)) _ _ q
    (subst (Refuses e) (sym same) (refuses_went e (enter_cycle p (made_name (joined_with b ws)) (under v)) (λ k. pure (cycle k (x ∷ values_in ws))) says))

pub returns-clause-says : goal.returns-clause-says
unfolding unnamed
returns-clause-says c =
    let p = c.args.word.place in
    let b = c.args.word.bytes.now in
    let d = c.args.reader.now in
    let u = c.enter_first.new.reader in
    let v = c.enter_values.new.reader in
    let g = c.enter_made.new.self in
    let w = seen p b in
    let h = c.in_ok-cycle.ensures in
    let (rest, is) = c.requires.first in
    let (x, valued, first) = c.in_ok-enter_first.ensures.says p b rest is in
    let (ws, kept, followed) = c.in_ok-name.ensures.says in
    let (k, below, gave) = h.says in
    let name : c.as_slice.result.now ≡ joined_with b ws = c.as_slice.ensures.value ∙ subst (λ o. Names o (joined_with b ws)) c.in-Some.is (kept.named b (c.extended-name.ensures [] c.new.ensures)) in
    let from = c.len-from.result in
    let count = c.len.result - c.len-from.result in
    let ys = x ∷ values_in ws in
    let added = added_more d u u v x (values_in ws) valued (grown_refl u) c.in_ok-name.ensures.longer kept.added in
    let there = added_values (vec_items d.values) (pool_of v) ys from count added (c.len-from.ensures ∙ d.values.ok.0) (omega (arith, c.len.ensures, g.values.ok.0, ap length h.grown.values)) in (
      cycle k ys,
      cycle_leaf (pool_of g) c.in_ok-cycle.cycle k (record { from = from; count = count }) ys (keeps_values (pool_of v) (pool_of g) h.grown.pool (record { from = from; count = count }) ys there) below.0 below.1,
      ap (λ r. went r (λ y. values_of 15 next λ xs. made p (written w y ∷ xs))) first
          ∙ ap (λ r. went r (λ xs. made p (written w x ∷ xs))) followed
          ∙ ap (λ n. went (enter_cycle p (made_name n) (under v)) (λ i. pure (cycle i ys))) (sym name)
          ∙ ap (λ r. went r (λ i. pure (cycle i ys))) gave,
    )
