use Rattle.std.proofs.Common.{subst, sym, ap, ◌∙◌, Err}
use Rattle.std.proofs.lemmas.Result.{err_from_is_err_and}
use Rattle.drawers.specs.Shown.{shows}
use Rattle.renderer.specs.Openings.{RowFound, NumberIfFound, TableOpened}
use Rattle.renderer.proofs.Opening.{table_opened, table_lost_row, table_lost_cols, table_lost_limit, table_lost_offset}
use Rattle.renderer.proofs.stdlib.blocks.for_block.open_table.Goals as goal

pub returns-in_err-row : goal.returns-in_err-row
returns-in_err-row c =
    let d = shows c.args.drawers.now in
    let s = c.args.scene in
    let f = c.args.frames.now in
    let r = c.from_residual in
    let (k, is, gave) = err_from_is_err_and r.result r.ensures.1 in
    subst (TableOpened s f d c.args.row c.args.cols c.args.limit c.args.offset) (sym (is ∙ ap Err gave))
    (table_lost_row s f d c.args.row c.args.cols c.args.limit c.args.offset c.in_err-row.field-0.0 (subst (RowFound s f d c.args.row) c.in_err-row.was c.gone_over.ensures))

pub returns-in_err-cols : goal.returns-in_err-cols
returns-in_err-cols c =
    let d = shows c.args.drawers.now in
    let s = c.args.scene in
    let f = c.args.frames.now in
    let r = c.from_residual-in_err-cols in
    let (k, is, gave) = err_from_is_err_and r.result r.ensures.1 in
    subst (TableOpened s f d c.args.row c.args.cols c.args.limit c.args.offset) (sym (is ∙ ap Err gave))
    (table_lost_cols s f d c.args.row c.args.cols c.args.limit c.args.offset c.in_ok-row.row c.in_err-cols.field-0.0 (subst (RowFound s f d c.args.row) c.in_ok-row.was c.gone_over.ensures) (subst (NumberIfFound s f d c.args.cols) c.in_err-cols.was c.number_if.ensures))

pub returns-in_err-limit : goal.returns-in_err-limit
returns-in_err-limit c =
    let d = shows c.args.drawers.now in
    let s = c.args.scene in
    let f = c.args.frames.now in
    let r = c.from_residual-in_err-limit in
    let (k, is, gave) = err_from_is_err_and r.result r.ensures.1 in
    subst (TableOpened s f d c.args.row c.args.cols c.args.limit c.args.offset) (sym (is ∙ ap Err gave))
    (table_lost_limit s f d c.args.row c.args.cols c.args.limit c.args.offset c.in_ok-row.row c.in_ok-cols.cols c.in_err-limit.field-0.0 (subst (RowFound s f d c.args.row) c.in_ok-row.was c.gone_over.ensures) (subst (NumberIfFound s f d c.args.cols) c.in_ok-cols.was c.number_if.ensures) (subst (NumberIfFound s f d c.args.limit) c.in_err-limit.was c.number_if-2.ensures))

pub returns-in_err-offset : goal.returns-in_err-offset
returns-in_err-offset c =
    let d = shows c.args.drawers.now in
    let s = c.args.scene in
    let f = c.args.frames.now in
    let r = c.from_residual-in_err-offset in
    let (k, is, gave) = err_from_is_err_and r.result r.ensures.1 in
    subst (TableOpened s f d c.args.row c.args.cols c.args.limit c.args.offset) (sym (is ∙ ap Err gave))
    (table_lost_offset s f d c.args.row c.args.cols c.args.limit c.args.offset c.in_ok-row.row c.in_ok-cols.cols c.in_ok-limit.limit c.in_err-offset.field-0.0 (subst (RowFound s f d c.args.row) c.in_ok-row.was c.gone_over.ensures) (subst (NumberIfFound s f d c.args.cols) c.in_ok-cols.was c.number_if.ensures) (subst (NumberIfFound s f d c.args.limit) c.in_ok-limit.was c.number_if-2.ensures) (subst (NumberIfFound s f d c.args.offset) c.in_err-offset.was c.number_if-3.ensures))

pub returns : goal.returns
returns c =
    let d = shows c.args.drawers.now in
    let s = c.args.scene in
    let f = c.args.frames.now in
    table_opened s f d c.args.row c.args.cols c.args.limit c.args.offset c.in_ok-row.row c.in_ok-cols.cols c.in_ok-limit.limit c.in_ok-offset.offset c.shown-times.result.0 c.shown-times.result.1 c.laid_out.result
    (subst (RowFound s f d c.args.row) c.in_ok-row.was c.gone_over.ensures) (subst (NumberIfFound s f d c.args.cols) c.in_ok-cols.was c.number_if.ensures) (subst (NumberIfFound s f d c.args.limit) c.in_ok-limit.was c.number_if-2.ensures) (subst (NumberIfFound s f d c.args.offset) c.in_ok-offset.was c.number_if-3.ensures)
    c.shown-times.ensures.made c.shown-times.ensures.times c.laid_out.ensures
