use Rattle.std.proofs.Common.{rules, SFits, w64, sym, ap, ◌∙◌, to_z-of_z}
use Rattle.numerals.specs.Decimal.{whole_text}
use Rattle.numerals.proofs.Texts.{written_is}
use Rattle.values.specs.Meaning.{text_at}
use Rattle.values.specs.Steps.{step_text}
use Rattle.values.specs.Numbers.{among_entries}
use Rattle.values.specs.Found.{step_of}
use Rattle.values.proofs.steps.into_entries.Goals as goal

pub returns-in-Number : goal.returns-in-Number
returns-in-Number c =
    let t = text_at c.args.tray.now in
    let f : SFits w64 c.in-Number.z = search rules in
    let e = written_is c.in-Number.z _ _ f c.as_bytes.ensures.value c.format.ensures.text in
    c.entry_named.ensures ∙ ap (among_entries t c.args.entries.first c.args.entries.count) e
    ∙ sym (ap (λ s. among_entries t c.args.entries.first c.args.entries.count (step_text (step_of s))) c.in-Number.is)
