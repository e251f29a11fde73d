use Rattle.std.proofs.Common.{arith}
use Rattle.texts.proofs.LeafTexts.{alone, array_text_joined}
use Rattle.texts.proofs.write.write_text.Goals as goal

pub returns-then-is_empty : goal.returns-then-is_empty
returns-then-is_empty c =
    let e = alone c.args.tray.now c.args.i c.record.result c.record.ensures _ _ c.holds.ensures.first c.holds.ensures.end (grind (arith, c.is_empty.ensures, c.if-is_empty.true)) in
    record { written = rw e c.write_leaf.ensures; joined = array_text_joined }

pub returns-in_err-text_len-clause-joined : goal.returns-in_err-text_len-clause-joined
returns-in_err-text_len-clause-joined c = array_text_joined

pub returns-clause-joined : goal.returns-clause-joined
returns-clause-joined c = array_text_joined
