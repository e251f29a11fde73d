use Rattle.std.proofs.Common.{◌≡◌, sym, subst, length, take, w64, to_z, of_z, rules}
use Rattle.frames.specs.Views.{manner_of}
use Rattle.meaning.specs.Blocks.{leaves}
use Rattle.meaning.specs.Frames.{cells}
use Rattle.renderer.specs.Ends.{Ends}
use Rattle.renderer.specs.Flows.{flow_of}
use Rattle.renderer.proofs.Endings.{leaves_quiet}
use Rattle.renderer.proofs.ends.leave.Goals as goal

pub returns-in-Cells : goal.returns-in-Cells
returns-in-Cells c w p e d limit le =
    let out = c.args.out.now in
    let f = flow_of c.args.flow in
    let wide : to_z w64 (of_z w64 c.in-Cells.cols) ≡ c.in-Cells.cols = search rules in
    subst (λ m. Ends (leaves w (manner_of m) c.args.index p e f d (take c.args.filled out)) f p e d (length out) c.end_cell.new.out c.end_cell.result) (sym c.in-Cells.is)
    (subst (λ z. Ends (leaves w (cells c.in-Cells.variable c.in-Cells.count z) c.args.index p e f d (take c.args.filled out)) f p e d (length out) c.end_cell.new.out c.end_cell.result) wide (c.end_cell.ensures w p e d c.in-Cells.variable limit le))

pub returns-in_default : goal.returns-in_default
returns-in_default c w p e d limit le = leaves_quiet w c.args.manner c.args.index p e (flow_of c.args.flow) d c.args.filled c.args.out.now (λ v n k. c.in_default.not-Cells v n k) le
