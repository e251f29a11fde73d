use Rattle.std.proofs.Common.{◌≡◌, refl, ◌∙◌, length, ap, arith}
use Rattle.std.proofs.lemmas.List.{length-append}
use Rattle.values.specs.Value.{written}
use Rattle.values.specs.Meaning.{value_of}
use Rattle.texts.proofs.LeafTexts.{text_is, held_lies}
use Rattle.texts.proofs.Fills.{laying_start, laying_room, laying_next, laying_end}
use Rattle.texts.proofs.write.+fill.Goals as goal

pub leaf_at-end-requires : goal.leaf_at-end-requires
leaf_at-end-requires t c =
    let x = c.args.tray.now in
    let e = text_is x c.args.i c.record.result c.record.ensures _ _ c.holds-held.ensures.first c.holds-held.ensures.end in
    omega (arith, ap length e, simp length-append at (ap length e), c.requires)

pub loop-c-init : goal.loop-c-init
loop-c-init t c =
    let x = c.args.tray.now in
    let e = text_is x c.args.i c.record.result c.record.ensures _ _ c.holds-held.ensures.first c.holds-held.ensures.end in
    rw c.into_iter-c-iterator.ensures.into_iter_gives
    (record { low = omega arith; high = refl }, laying_start _ _ _ e c.leaf_at-end.ensures)

pub fill-end-requires : goal.fill-end-requires
fill-end-requires t c =
    let x = c.args.tray.now in
    let n = c.in-Some.ensures.steps in
    let g = c.into_iter-c-iterator.ensures.into_iter_gives in
    let lo = ap (λ r. r.start) g ∙ c.holds-held.ensures.first in
    let hi = ap (λ r. r.end) g ∙ c.holds-held.ensures.end in
    let w = c.loop-c.invariant.0 in
    let l = held_lies x c.args.i c.in-Some.c c.record.result c.record.ensures (omega (arith, n.1, lo)) (omega (arith, n.1, hi)) in
    let here : c.loop-c.c-iterator.start ≡ c.in-Some.c = omega (arith, n.1) in
    (omega (arith, l.0, l.1), omega (arith, laying_room c.loop-c.invariant.1 (omega (arith, n.1)) c.requires, ap (λ k. length (written (value_of x k))) here, c.loop-c.auto.out))

pub loop-c-preserved : goal.loop-c-preserved
loop-c-preserved t c =
    let n = c.in-Some.ensures.steps in
    let w = c.loop-c.invariant.0 in (
      record { low = omega (arith, n.1); high = n.0 ∙ w.high },
      laying_next c.loop-c.invariant.1 (omega (arith, n.1)) (omega (arith, n.1)) n.0 (omega (arith, n.1)) (omega (arith, c.requires)) c.fill-end.ensures,
    )

pub returns : goal.returns
returns t c = laying_end c.loop-c.invariant.1 (omega (arith, c.in-None.ensures.steps.1))
