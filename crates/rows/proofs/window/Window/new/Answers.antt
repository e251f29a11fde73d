use Rattle.std.proofs.Common.{◌≡◌, pos, unwrap_or, refl, ap, ◌∙◌, w64, SFits, to_z, of_z}
use Rattle.std.proofs.lemmas.Int.{to_z-of_z}
use Rattle.rows.specs.Windows.{windowed}
use Rattle.rows.proofs.Segments.{worked}
use Rattle.rows.proofs.window.Window.new.Goals as goal

pub returns : goal.returns
returns g c =
    let f : SFits w64 c.unwrap_or.result = record { sfits = c.unwrap_or.type_inv } in
    let e : to_z w64 (of_z w64 c.unwrap_or.result) ≡ unwrap_or c.args.offset (pos 0) = to_z-of_z w64 c.unwrap_or.result f ∙ c.unwrap_or.ensures in
    record { made = (refl, e, refl, refl); means = ap (λ z. windowed z c.args.limit c.args.reversed (g.R.Row.items c.args.row)) e; worked = worked }
