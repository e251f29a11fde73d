use Rattle.std.proofs.Common.{sym, ap, ◌∙◌}
use Rattle.arguments.specs.Judging.{Seen, seen, token}
use Rattle.arguments.specs.Values.{read, bare, named_filter, filter}
use Rattle.arguments.specs.Tables.{under}
use Rattle.arguments.specs.Reading.{Pushed}
use Rattle.arguments.proofs.Chaining.{said_went, said_same, said_weaker}
use Rattle.arguments.proofs.Chains.{same_filters, token_unasked, pushed_behind}
use Rattle.arguments.proofs.reader.Reader.push_filter.Goals as goal

pub returns-clause-says : goal.returns-clause-says
unfolding filter
returns-clause-says c =
    let d = c.args.self.now in
    let m = c.word.new.self in
    let e = c.push_named.new.self in
    let r = c.push_named.result in
    let w = seen c.in_ok-word.word.place c.in_ok-word.word.bytes.now in
    let h = c.in_ok-word.ensures in
    let (y, shown, says) = h.says in
    let rest = λ (i : _) (t : Seen). named_filter i t.place (bare (read t)) in
    said_went r (token d.mark (under d)) (rest d.mark) y (under m) (Pushed d e) (under e) says
    (said_same r (rest m.mark w (under m)) (rest d.mark y (under m)) (Pushed d e) (under e) (ap (λ t. rest d.mark t (under m)) shown.is ∙ ap (λ i. rest i w (under m)) (sym h.grown.mark))
    (said_weaker r (rest m.mark w (under m)) (Pushed m e) (Pushed d e) (under e) (pushed_behind d m e (same_filters d m h.grown (token_unasked (under d) (under m) d.mark y says))) c.push_named.ensures.says))
