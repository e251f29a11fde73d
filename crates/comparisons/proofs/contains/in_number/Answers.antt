use Rattle.std.proofs.Common.{sym, ap, ◌∙◌, w64, SFits, rules}
use Rattle.std.proofs.lemmas.Int.{to_z-of_z}
use Rattle.numerals.specs.Decimal.{whole_text}
use Rattle.meaning.specs.Things.{whole}
use Rattle.comparisons.proofs.Fronts.{front_is}
use Rattle.comparisons.proofs.contains.in_number.Goals as goal

pub returns : goal.returns
returns c =
    let f : SFits w64 c.args.n = search rules in
    λ w h. c.in_text.ensures w h (whole c.args.n) (sym (front_is _ _ _ _ c.lay_number-len.ensures ∙ ap whole_text (to_z-of_z w64 c.args.n f)))
