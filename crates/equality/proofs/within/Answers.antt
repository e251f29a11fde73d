use Rattle.std.proofs.Common.{◌≡◌, true, false, is_some, ap, ◌∙◌, arith, rules}
use Rattle.values.specs.Meaning.{text_at}
use Rattle.equality.proofs.Loops.{look_none, look_more, look_stop, look_all}
use Rattle.equality.proofs.within.Goals as goal

pub loop-j-init : goal.loop-j-init
loop-j-init c = look_none _ _ _ _ _

pub returns-then-is_none : goal.returns-then-is_none
returns-then-is_none c =
    let none : false ≡ is_some c.find_in.result = search rules in
    look_stop c.loop-j.invariant _ _ _ (c.text_of.ensures ∙ ap (text_at c.args.tray.now) c.key.ensures) c.find_in.ensures.value none (omega arith)

pub loop-j-preserved : goal.loop-j-preserved
loop-j-preserved c =
    let some : true ≡ is_some c.find_in.result = search rules in
    look_more c.loop-j.invariant _ _ _ (c.text_of.ensures ∙ ap (text_at c.args.tray.now) c.key.ensures) c.find_in.ensures.value some (omega arith)

pub returns : goal.returns
returns c = look_all c.loop-j.invariant (omega arith)
