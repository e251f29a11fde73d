use Rattle.std.proofs.Common.{◌≡◌, ◌||◌, sym, ap, ◌∙◌, subst, Err, rules}
use Rattle.std.proofs.lemmas.Result.{err_from_is_err_and}
use Rattle.meaning.specs.Blocks.{cell_end, row_end, is_broken, mark_if}
use Rattle.meaning.specs.Frames.{is_col_last}
use Rattle.pages.specs.Written.{Wrote}
use Rattle.renderer.specs.Flows.{flow_of}
use Rattle.renderer.proofs.Endings.{cell_stops, cell_then_row}
use Rattle.renderer.proofs.stdlib.blocks.tablerow_block.end_cell.Goals as goal

pub returns-in_err-filled : goal.returns-in_err-filled
returns-in_err-filled c w p e d v limit le =
    let (k, is, gave) = err_from_is_err_and c.from_residual.result c.from_residual.ensures.1 in
    cell_stops w p e (flow_of c.args.flow) d (is_col_last c.args.cols c.args.count c.args.index || is_broken (flow_of c.args.flow)) cell_end row_end limit le c.write_cell_end.ensures c.in_err-filled.field-0.0 (sym c.with_end.ensures ∙ c.in_err-filled.was) _ (is ∙ ap Err gave)

pub returns : goal.returns
returns c w p e d v limit le =
    let at_end : c.ends_row-ends.result ≡ (is_col_last c.args.cols c.args.count c.args.index || is_broken (flow_of c.args.flow)) = search rules in
    cell_then_row w p e (flow_of c.args.flow) d (is_col_last c.args.cols c.args.count c.args.index || is_broken (flow_of c.args.flow)) cell_end row_end limit le c.write_cell_end.ensures c.in_ok-filled.filled (sym c.with_end.ensures ∙ c.in_ok-filled.was) _ _
    (λ u room. subst (λ y. Wrote (mark_if u y row_end) c.in_ok-filled.filled c.write_cell_end.new.out c.end_row.new.out c.end_row.result) at_end (c.end_row.ensures u room)) _ c.with_end-2.ensures
