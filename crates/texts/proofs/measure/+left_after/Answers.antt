use Rattle.std.proofs.Common.{◌≡◌, refl, ◌∙◌, sym, ap, length, arith}
use Rattle.values.specs.Value.{written}
use Rattle.texts.specs.Written.{leaves}
use Rattle.values.specs.Meaning.{value_of}
use Rattle.texts.proofs.LeafTexts.{text_is, held_lies}
use Rattle.texts.proofs.Sums.{left_start, left_short, left_next, left_stop, left_end}
use Rattle.texts.proofs.measure.+left_after.Goals as goal

pub returns-in_err-left : goal.returns-in_err-left
returns-in_err-left t c =
    let x = c.args.tray.now in
    let e = text_is x c.args.i c.record.result c.record.ensures _ _ c.holds-held.ensures.first c.holds-held.ensures.end in
    rw c.from_residual.ensures (left_short (value_of x) _ _ _ c.holds-held.result.start c.holds-held.result.end _ e c.leaf_len.ensures c.in_err-left.ensures)

pub loop-c-init : goal.loop-c-init
loop-c-init t c =
    let x = c.args.tray.now in
    let e = text_is x c.args.i c.record.result c.record.ensures _ _ c.holds-held.ensures.first c.holds-held.ensures.end in
    rw c.into_iter-c-iterator.ensures.into_iter_gives
    (record { low = omega arith; high = refl }, left_start _ _ _ _ _ e c.leaf_len.ensures c.in_ok-left.ensures)

pub left_after-requires : goal.left_after-requires
left_after-requires t c =
    let x = c.args.tray.now in
    let n = c.in-Some.ensures.steps in
    let g = c.into_iter-c-iterator.ensures.into_iter_gives in
    let lo = ap (λ r. r.start) g ∙ c.holds-held.ensures.first in
    let hi = ap (λ r. r.end) g ∙ c.holds-held.ensures.end in
    let w = c.loop-c.invariant.0 in
    let l = held_lies x c.args.i c.in-Some.c c.record.result c.record.ensures (omega (arith, n.1, lo)) (omega (arith, n.1, hi)) in
    (omega (arith, l.0, l.1), tt)

pub returns-in_err-left-2 : goal.returns-in_err-left-2
returns-in_err-left-2 t c =
    let n = c.in-Some.ensures.steps in
    let here : c.loop-c.c-iterator.start ≡ c.in-Some.c = omega (arith, n.1) in
    let s = c.in_err-left-2.ensures ∙ ap (λ k. leaves c.loop-c.left (length (written (value_of c.args.tray.now k)))) (sym here) in
    rw c.from_residual-in_err-left-2.ensures (left_stop c.loop-c.invariant.1 (omega (arith, n.1)) s)

pub loop-c-preserved : goal.loop-c-preserved
loop-c-preserved t c =
    let n = c.in-Some.ensures.steps in
    let w = c.loop-c.invariant.0 in (
      record { low = omega (arith, n.1); high = n.0 ∙ w.high },
      left_next c.loop-c.invariant.1 (omega (arith, n.1)) (omega (arith, n.1)) n.0 (omega (arith, n.1)) _ c.in_ok-left-2.ensures,
    )

pub returns : goal.returns
returns t c = left_end c.loop-c.invariant.1 (omega (arith, c.in-None.ensures.steps.1))
