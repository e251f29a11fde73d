use Rattle.std.proofs.Common.{◌≡◌, ◌<◌, ap, sym, ◌∙◌, subst, Err, to_z-of_z, w64}
use Rattle.std.proofs.lemmas.Result.{err_from_is_err_and}
use Rattle.drawers.specs.Shown.{shows}
use Rattle.numerals.specs.Decimal.{whole_text}
use Rattle.pages.specs.Pieces.{Emits}
use Rattle.meaning.specs.Things.{name, altered, with_counter}
use Rattle.renderer.specs.Leaves.{Counted}
use Rattle.renderer.proofs.Counting.{counted_done, counted_stops}
use Rattle.renderer.proofs.stdlib.leaf_tags.increment_tags.count_on.Goals as goal

pub returns-in_err-end : goal.returns-in_err-end
returns-in_err-end c =
    let d = shows c.args.drawers.now in
    let old = c.args.out.now in
    let new = c.write_number.new.out in
    let (k, is, gave) = err_from_is_err_and c.from_residual.result c.from_residual.ensures.1 in
    let k = c.in_err-end.field-0.0 in
    subst (Counted c.args.target c.args.shown c.args.next d d c.args.filled old new) (sym (is ∙ ap Err gave))
    (counted_stops c.args.target c.args.shown c.args.next d c.args.filled old new k (subst (Emits (whole_text c.args.shown) c.args.filled old new) c.in_err-end.was (subst (λ z. Emits (whole_text z) c.args.filled old new c.write_number.result) (to_z-of_z {w = w64} {z = c.args.shown} c.ranges.shown) c.write_number.ensures)))

pub returns : goal.returns
returns c =
    let d = shows c.args.drawers.now in
    let old = c.args.out.now in
    let new = c.write_number.new.out in
    counted_done c.args.target c.args.shown c.args.next d (shows c.set_counter.new.self) c.args.filled old new c.in_ok-end.end
    (subst (Emits (whole_text c.args.shown) c.args.filled old new) c.in_ok-end.was (subst (λ z. Emits (whole_text z) c.args.filled old new c.write_number.result) (to_z-of_z {w = w64} {z = c.args.shown} c.ranges.shown) c.write_number.ensures))
    (subst (λ z. c.args.target < 128 → shows c.set_counter.new.self ≡ altered (name c.args.target) (with_counter z) d) (to_z-of_z {w = w64} {z = c.args.next} c.ranges.next) c.set_counter.ensures.set)
