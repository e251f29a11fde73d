use Rattle.std.proofs.Common.{ap₂, arith}
use Rattle.values.specs.Value.{equal}
use Rattle.equality.proofs.Loops.{pair_none, pair_more, pair_stop, pair_all, pair_apart}
use Rattle.comparisons.proofs.same.equal_items.Goals as goal

pub returns-then-a-b : goal.returns-then-a-b
returns-then-a-b c = pair_apart _ _ c.args.a.count _ c.args.b.count c.if-a-b.true

pub loop-j-init : goal.loop-j-init
loop-j-init c = pair_none _ _ _ _ _

pub returns-then-not-equal : goal.returns-then-not-equal
returns-then-not-equal c =
    let e = let t = c.args.tray.now in ap₂ equal (c.item.ensures.value t) (c.item-in-loop-j.ensures.value t) in
    pair_stop c.loop-j.invariant (cc (e, c.equal.ensures.value)) (omega arith) (omega arith)

pub loop-j-preserved : goal.loop-j-preserved
loop-j-preserved c =
    let e = let t = c.args.tray.now in ap₂ equal (c.item.ensures.value t) (c.item-in-loop-j.ensures.value t) in
    pair_more c.loop-j.invariant (cc (e, c.equal.ensures.value)) (omega arith) (omega arith)

pub returns : goal.returns
returns c = pair_all c.loop-j.invariant (omega arith) (omega arith)
