use Rattle.std.proofs.Common.{rules, ◌≡◌, subst, sym, ap, ◌∙◌, Err, w64, SFits, to_z, of_z}
use Rattle.std.proofs.lemmas.Int.{to_z-of_z}
use Rattle.std.proofs.lemmas.Result.{err_from_is_err_and}
use Rattle.std.specs.Option.{ok_or}
use Rattle.drawers.specs.Shown.{shows}
use Rattle.nodes.specs.declared.exprs.Row.TheVariants.{Of, Range}
use Rattle.held.specs.declared.faults.Fault.TheVariants.{NoRow}
use Rattle.evaluation.specs.Values.{Evaluated, NumberFound}
use Rattle.renderer.specs.Openings.{RowFound, RangeMade}
use Rattle.renderer.proofs.Opening.{row_found, row_lost, range_found, range_lost, range_cut}
use Rattle.renderer.proofs.stdlib.blocks.for_block.gone_over.Goals as goal

pub returns-in_err-value-in-Of : goal.returns-in_err-value-in-Of
returns-in_err-value-in-Of c =
    let d = shows c.args.drawers.now in
    let s = c.args.scene in
    let f = c.args.frames.now in
    let (k, is, gave) = err_from_is_err_and c.from_residual.result c.from_residual.ensures.1 in
    let q = c.in_err-value-in-Of.field-0.0 in
    subst (λ x. RowFound s f d x c.from_residual.result) (sym c.in-Of.is)
    (subst (RowFound s f d (Of c.in-Of.value)) (sym (is ∙ ap Err gave))
    (row_lost s f d c.in-Of.value q (subst (Evaluated s f d c.in-Of.value) c.in_err-value-in-Of.was c.eval.ensures)))

pub returns-in_ok-value-in-Of : goal.returns-in_ok-value-in-Of
returns-in_ok-value-in-Of c =
    let d = shows c.args.drawers.now in
    let s = c.args.scene in
    let f = c.args.frames.now in
    let end : c.ok_or.result ≡ ok_or c.row_in.result NoRow = search rules in
    subst (λ x. RowFound s f d x c.ok_or.result) (sym c.in-Of.is)
    (row_found s f d c.in-Of.value c.in_ok-value-in-Of.value c.row_in.result c.ok_or.result (subst (Evaluated s f d c.in-Of.value) c.in_ok-value-in-Of.was c.eval.ensures) c.row_in.ensures end)

pub returns-in_err-from-in-Range : goal.returns-in_err-from-in-Range
returns-in_err-from-in-Range c =
    let d = shows c.args.drawers.now in
    let s = c.args.scene in
    let f = c.args.frames.now in
    let r = c.from_residual-in_err-from-in-Range in
    let (k, is, gave) = err_from_is_err_and r.result r.ensures.1 in
    let q = c.in_err-from-in-Range.field-0.0 in
    subst (λ x. RowFound s f d x r.result) (sym c.in-Range.is)
    (subst (RowFound s f d (Range c.in-Range.from c.in-Range.to)) (sym (is ∙ ap Err gave))
    (range_lost s f d c.in-Range.from c.in-Range.to q (subst (NumberFound s f d c.in-Range.from) c.in_err-from-in-Range.was c.number.ensures)))

pub returns-in_err-to-in-Range : goal.returns-in_err-to-in-Range
returns-in_err-to-in-Range c =
    let d = shows c.args.drawers.now in
    let s = c.args.scene in
    let f = c.args.frames.now in
    let r = c.from_residual-in_err-to-in-Range in
    let (k, is, gave) = err_from_is_err_and r.result r.ensures.1 in
    let q = c.in_err-to-in-Range.field-0.0 in
    subst (λ x. RowFound s f d x r.result) (sym c.in-Range.is)
    (subst (RowFound s f d (Range c.in-Range.from c.in-Range.to)) (sym (is ∙ ap Err gave))
    (range_cut s f d c.in-Range.from c.in-Range.to c.in_ok-from-in-Range.from q (subst (NumberFound s f d c.in-Range.from) c.in_ok-from-in-Range.was c.number.ensures) (subst (NumberFound s f d c.in-Range.to) c.in_err-to-in-Range.was c.number-in-Range.ensures)))

pub returns-in_ok-to-in-Range : goal.returns-in_ok-to-in-Range
returns-in_ok-to-in-Range c =
    let d = shows c.args.drawers.now in
    let s = c.args.scene in
    let f = c.args.frames.now in
    let x = c.in_ok-from-in-Range.from in
    let y = c.in_ok-to-in-Range.to in
    let p : SFits w64 x = search rules in
    let q : SFits w64 y = search rules in
    let made : RangeMade x y c.range.result = subst (λ v. RangeMade x v c.range.result) (to_z-of_z w64 y q) (subst (λ u. RangeMade u (to_z w64 (of_z w64 y)) c.range.result) (to_z-of_z w64 x p) c.range.ensures) in
    subst (λ x. RowFound s f d x c.range.result) (sym c.in-Range.is)
    (range_found s f d c.in-Range.from c.in-Range.to x y c.range.result (subst (NumberFound s f d c.in-Range.from) c.in_ok-from-in-Range.was c.number.ensures) (subst (NumberFound s f d c.in-Range.to) c.in_ok-to-in-Range.was c.number-in-Range.ensures) made)
