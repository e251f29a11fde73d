use Rattle.std.proofs.Common.{refl, sym, ap, ◌∙◌}
use Rattle.std.proofs.lemmas.List.{take_rest}
use Rattle.meaning.specs.Tests.{begins}
use Rattle.comparisons.proofs.Searches.{seek_here, seek_more, seek_all, empty_begins}
use Rattle.comparisons.proofs.search.stands_in.Goals as goal

pub loop-i-init : goal.loop-i-init
loop-i-init c = record { is = refl }

pub returns-then-begins : goal.returns-then-begins
returns-then-begins c = seek_here c.loop-i.invariant c.loop-i-test.true _ (c.begins.ensures ∙ ap (begins c.args.sought.now) (take_rest c.args.text.now c.loop-i.i)) c.if-begins.true

pub loop-i-preserved : goal.loop-i-preserved
loop-i-preserved c = seek_more c.loop-i.invariant c.loop-i-test.true _ (c.begins.ensures ∙ ap (begins c.args.sought.now) (take_rest c.args.text.now c.loop-i.i)) c.if-begins.false

pub returns : goal.returns
returns c = c.is_empty.ensures ∙ empty_begins c.args.sought.now ∙ sym (seek_all c.loop-i.invariant c.loop-i-test.false)
