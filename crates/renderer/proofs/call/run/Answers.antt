use Rattle.std.proofs.Common.{◌≡◌, ◌<◌, ◌≤◌, ap, sym, subst, ◌∙◌, map, take, drop, length, get_or, arith, ◌+◌, ◌∷◌}
use Rattle.std.proofs.lemmas.List.{take_all, length-map}
use Rattle.drawers.specs.Shown.{shows}
use Rattle.meaning.proofs.Reorder.{order_free}
use Rattle.meaning.specs.Calls.{perform}
use Rattle.renderer.specs.Calls.{sheet_of}
use Rattle.renderer.specs.Call.{call_of, result_of, Leaves}
use Rattle.renderer.proofs.Memory.{made_more, made_all}
use Rattle.renderer.proofs.Sequence.{Ran, ran_more, ran_all, dropped_at, taken_at, same_set}
use Rattle.renderer.proofs.call.run.Goals as goal

pub loop-i-preserved : goal.loop-i-preserved
loop-i-preserved g c =
    let s = sheet_of c.args.sheet.now in
    let m = g.B.Bank.meaning c.args.bank.now in
    let all = map call_of c.args.calls.now in
    let xs = c.loop-i.calls in
    let i = c.loop-i.i in
    let x = c.index-calls-i.result in
    let y = c.make.new.self in
    let (ran, same, means, kept) = c.loop-i.invariant in
    let below : i < length xs = omega (arith, c.loop-i-test.true, c.loop-i.auto.calls) in
    let at : x ≡ get_or xs i x = c.index-calls-i.is in
    let one : drop i all ≡ call_of x ∷ drop (i + 1) all = subst (λ l. drop i l ≡ call_of x ∷ drop (i + 1) l) same (dropped_at call_of xs i x below at) in
    let made = subst (λ k. perform s k (call_of x) (shows c.loop-i.drawers) ≡ (result_of y, shows c.make.new.drawers)) means (subst (λ z. perform s (g.B.Bank.meaning c.loop-i.bank) (call_of z) (shows c.loop-i.drawers) ≡ (result_of y, shows c.make.new.drawers)) (sym at) c.make.ensures.done) in (
      subst (Ran s m all (shows c.args.drawers.now) (shows c.make.new.drawers) (i + 1)) (sym (taken_at result_of xs i y below))
          (ran_more s m all (shows c.args.drawers.now) (shows c.loop-i.drawers) (shows c.make.new.drawers) i (map result_of (take i xs)) (call_of x) (result_of y) ran one made),
      same_set call_of xs i x y at (c.make.ensures.call ∙ ap call_of (sym at)) ∙ same,
      c.make.ensures.same ∙ means,
      made_more i c.args.calls.now xs x y below at (subst (λ z. Leaves z y) (sym at) c.make.ensures.left) kept,
    )

pub returns-clause-done : goal.returns-clause-done
returns-clause-done g c =
    let s = sheet_of c.args.sheet.now in
    let m = g.B.Bank.meaning c.args.bank.now in
    let xs = c.loop-i.calls in
    let i = c.loop-i.i in
    let (ran, same, means, kept) = c.loop-i.invariant in
    let far : length xs ≤ i = omega (arith, c.loop-i-test.false, c.loop-i.auto.calls) in
    ran_all s m (map call_of c.args.calls.now) (shows c.args.drawers.now) (shows c.loop-i.drawers) i (map result_of (take i xs)) ran (omega (arith, far, c.loop-i.auto.calls, length-map c.args.calls.now call_of))
    ∙ ap (λ l. (map result_of l, shows c.loop-i.drawers)) (take_all i xs far)

pub returns-clause-left : goal.returns-clause-left
returns-clause-left g c =
    let (ran, same, means, kept) = c.loop-i.invariant in
    made_all c.loop-i.i c.args.calls.now c.loop-i.calls (omega (arith, c.loop-i-test.false, c.loop-i.auto.calls)) kept

pub returns-clause-order : goal.returns-clause-order
returns-clause-order g c = order_free
