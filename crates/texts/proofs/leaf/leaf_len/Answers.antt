use Rattle.std.proofs.Common.{SFits, w64, refl, length, ap, ◌∙◌, rules}
use Rattle.numerals.proofs.Texts.{written_is}
use Rattle.texts.specs.Written.{leaf_text}
use Rattle.texts.proofs.leaf.leaf_len.Goals as goal

pub returns-in-Whole : goal.returns-in-Whole
returns-in-Whole c =
    let f : SFits w64 c.in-Whole.n = search rules in
    let e = written_is c.in-Whole.n _ _ f refl c.format.ensures.text in
    ap length (e ∙ ap (leaf_text c.args.tray.now.text.now) c.in-Whole.ensures)
