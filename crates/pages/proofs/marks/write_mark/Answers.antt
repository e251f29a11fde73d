use Rattle.std.proofs.Common.{◌≡◌, ◌++◌, length, codes, sym, ap, ◌∙◌, arith}
use Rattle.std.proofs.lemmas.List.{length-append}
use Rattle.numerals.specs.Decimal.{natural_text}
use Rattle.numerals.proofs.Texts.{text_is}
use Rattle.pages.proofs.Emitted.{three_laid, refuses}
use Rattle.pages.proofs.marks.write_mark.Goals as goal

pub returns-then-room-start : goal.returns-then-room-start
returns-then-room-start c =
    let e : c.as_bytes-digits.result.now ≡ natural_text c.args.number = c.as_bytes-digits.ensures.value ∙ c.format.ensures.text ∙ sym (text_is _ c.ranges.number.fits) in
    let w = natural_text c.args.number ++ codes "\">" in
    refuses (omega (arith, ap length e, c.in-Some.ensures, length-append c.args.start.now w, length-append (natural_text c.args.number) (codes "\">")))

pub returns : goal.returns
returns c =
    let e : c.as_bytes-digits.result.now ≡ natural_text c.args.number = c.as_bytes-digits.ensures.value ∙ c.format.ensures.text ∙ sym (text_is _ c.ranges.number.fits) in
    three_laid c.lay-end.ensures (rw e at c.lay-end-2.ensures) c.lay.ensures (omega (arith, ap length e, c.in-Some.ensures))
