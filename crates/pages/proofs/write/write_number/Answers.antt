use Rattle.numerals.proofs.Texts.{written_is}
use Rattle.pages.proofs.write.write_number.Goals as goal

pub returns : goal.returns
returns c =
    let e = written_is c.args.n _ _ c.ranges.n c.as_bytes.ensures.value c.format.ensures.text in
    rw e at c.write_piece.ensures
