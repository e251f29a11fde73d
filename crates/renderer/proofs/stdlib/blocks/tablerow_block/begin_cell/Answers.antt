use Rattle.std.proofs.Common.{◌≡◌, ◌+◌, sym, ap, ◌∙◌, subst, Err, rules, to_z-of_z}
use Rattle.std.proofs.lemmas.Result.{err_from_is_err_and}
use Rattle.meaning.specs.Blocks.{row_mark, cell_mark, mark_if}
use Rattle.meaning.specs.Frames.{column, row_number, is_col_first}
use Rattle.pages.specs.Pieces.{Emits}
use Rattle.pages.specs.Written.{Wrote}
use Rattle.renderer.proofs.Endings.{row_stops, row_then_cell}
use Rattle.renderer.proofs.stdlib.blocks.tablerow_block.begin_cell.Goals as goal

pub returns-in_err-filled : goal.returns-in_err-filled
returns-in_err-filled c w p e d v n limit le =
    let cols = c.args.cols in
    let i = c.args.index in
    let (k, is, gave) = err_from_is_err_and c.from_residual.result c.from_residual.ensures.1 in
    let begun : Wrote (mark_if w (is_col_first cols i) (row_mark (row_number cols i + 1))) c.args.filled c.args.out.now c.begin_row.new.out c.begin_row.result =
    subst (λ z. Wrote (mark_if w (is_col_first z i) (row_mark (row_number z i + 1))) c.args.filled c.args.out.now c.begin_row.new.out c.begin_row.result) (to_z-of_z c.ranges.cols) (c.begin_row.ensures w limit) in
    row_stops w p e d (is_col_first cols i) (row_mark (row_number cols i + 1)) (cell_mark (column cols i + 1)) limit le begun c.in_err-filled.field-0.0 (sym c.with_end.ensures ∙ c.in_err-filled.was) _ (is ∙ ap Err gave)

pub returns : goal.returns
returns c w p e d v n limit le =
    let cols = c.args.cols in
    let i = c.args.index in
    let begun : Wrote (mark_if w (is_col_first cols i) (row_mark (row_number cols i + 1))) c.args.filled c.args.out.now c.begin_row.new.out c.begin_row.result =
    subst (λ z. Wrote (mark_if w (is_col_first z i) (row_mark (row_number z i + 1))) c.args.filled c.args.out.now c.begin_row.new.out c.begin_row.result) (to_z-of_z c.ranges.cols) (c.begin_row.ensures w limit) in
    let number : c.column.result ≡ column cols i = search rules in
    let wrote : Emits (cell_mark (column cols i + 1)) c.in_ok-filled.filled c.begin_row.new.out c.write_cell_mark.new.out c.write_cell_mark.result =
    subst (λ n. Emits (cell_mark (n + 1)) c.in_ok-filled.filled c.begin_row.new.out c.write_cell_mark.new.out c.write_cell_mark.result) (c.from-number.ensures ∙ number) c.write_cell_mark.ensures in
    row_then_cell w p e d (is_col_first cols i) (row_mark (row_number cols i + 1)) (cell_mark (column cols i + 1)) limit le begun c.in_ok-filled.filled (sym c.with_end.ensures ∙ c.in_ok-filled.was) _ _ wrote _ c.with_end-2.ensures
