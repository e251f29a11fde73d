use Rattle.std.proofs.Common.{sym, refl, ap, ◌∙◌, w64, SFits, rules}
use Rattle.std.proofs.lemmas.Int.{to_z-of_z}
use Rattle.tray.specs.Parts.{key_of}
use Rattle.values.specs.Value.{text, whole}
use Rattle.comparisons.proofs.Records.{read_is}
use Rattle.comparisons.proofs.forms.record_form.Goals as goal

pub returns-in-Nil : goal.returns-in-Nil
returns-in-Nil c = read_is c.args.tray.now c.args.i _ c.in-Nil.ensures

pub returns-in-Boolean : goal.returns-in-Boolean
returns-in-Boolean c = read_is c.args.tray.now c.args.i _ c.in-Boolean.ensures

pub returns-in-Whole : goal.returns-in-Whole
returns-in-Whole c =
    let f : SFits w64 c.in-Whole.n = search rules in
    read_is c.args.tray.now c.args.i _ c.in-Whole.ensures ∙ ap whole (sym (to_z-of_z w64 c.in-Whole.n f))

pub returns-in-Text : goal.returns-in-Text
returns-in-Text c =
    let t = c.args.tray.now in
    read_is t c.args.i _ c.in-Text.ensures ∙ ap text (sym (c.text_of.ensures ∙ ap (key_of t.text.now) (sym c.in-Text.ensures)))

pub returns-in-Array : goal.returns-in-Array
returns-in-Array c = read_is c.args.tray.now c.args.i _ c.in-Array.ensures

pub returns-in-Object : goal.returns-in-Object
returns-in-Object c = record { entries = _; object = read_is c.args.tray.now c.args.i _ c.in-Object.ensures; at = refl }
