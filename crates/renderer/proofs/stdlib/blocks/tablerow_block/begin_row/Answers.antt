use Rattle.std.proofs.Common.{◌≡◌, ◌+◌, sym, ◌∙◌, subst, rules}
use Rattle.meaning.specs.Blocks.{row_mark}
use Rattle.meaning.specs.Frames.{is_col_first, row_number}
use Rattle.pages.specs.Pieces.{Emits}
use Rattle.renderer.proofs.Endings.{marked, unmarked}
use Rattle.renderer.proofs.stdlib.blocks.tablerow_block.begin_row.Goals as goal

pub returns-then-is_col_first : goal.returns-then-is_col_first
returns-then-is_col_first c w limit =
    let first : c.is_col_first.result ≡ is_col_first c.args.cols c.args.index = search rules in
    let number : c.row_number.result ≡ row_number c.args.cols c.args.index = search rules in
    let wrote : Emits (row_mark (row_number c.args.cols c.args.index + 1)) c.args.filled c.args.out.now c.write_row_mark.new.out c.write_row_mark.result =
    subst (λ n. Emits (row_mark (n + 1)) c.args.filled c.args.out.now c.write_row_mark.new.out c.write_row_mark.result) (c.from.ensures ∙ number) c.write_row_mark.ensures in
    marked w c.args.filled c.args.out.now _ (is_col_first c.args.cols c.args.index) (row_mark (row_number c.args.cols c.args.index + 1)) _ (sym first ∙ c.if-is_col_first.true) limit wrote

pub returns-else-is_col_first : goal.returns-else-is_col_first
returns-else-is_col_first c w limit =
    let first : c.is_col_first.result ≡ is_col_first c.args.cols c.args.index = search rules in
    unmarked w c.args.filled c.args.out.now (is_col_first c.args.cols c.args.index) (row_mark (row_number c.args.cols c.args.index + 1)) (sym first ∙ c.if-is_col_first.false)
