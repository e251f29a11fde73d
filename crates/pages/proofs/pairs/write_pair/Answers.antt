use Rattle.std.proofs.Common.{◌+◌, Ok, Err, sym, ◌∙◌, arith}
use Rattle.std.proofs.lemmas.Bool.{leb-true, leb-false}
use Rattle.values.specs.Meaning.{value_of}
use Rattle.pages.proofs.Emitted.{emits, pair_laid, pair_long, refuses}
use Rattle.pages.proofs.pairs.write_pair.Goals as goal

pub returns-in_default : goal.returns-in_default
returns-in_default c = emits (Err _) (refuses (omega (arith, c.in_default.ensures)))

pub returns-then-not-both_fit : goal.returns-then-not-both_fit
returns-then-not-both_fit c =
    let v = value_of c.args.tray.now in
    let l = leb-false _ _ (sym c.both_fit.ensures ∙ c.if-not-both_fit.true) in
    let p = pair_long (v c.args.i) (v c.behind-value.result) (v (c.args.i + 1)) c.behind-value.ensures in
    emits (Err _) (refuses (omega (arith, l, p, c.in-Some.ensures)))

pub returns : goal.returns
returns c =
    let v = value_of c.args.tray.now in
    let l = leb-true _ _ (sym c.both_fit.ensures ∙ c.if-not-both_fit.false) in
    emits (Ok _) (pair_laid (v c.args.i) (v c.behind-value.result) (v (c.args.i + 1)) c.behind-value.ensures c.lay_text-end.ensures c.lay_text.ensures (omega (arith, l, c.in-Some.ensures)))
