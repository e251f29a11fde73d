use Rattle.std.proofs.Common.{◌≡◌, Err, rules, sym, ap, ◌∙◌, subst}
use Rattle.cutter.specs.Ahead.{ahead}
use Rattle.arguments.specs.Judging.{seen}
use Rattle.arguments.specs.Values.{read, value_as}
use Rattle.arguments.specs.Tables.{lists_of, under, Refuses}
use Rattle.arguments.proofs.Anywhere.{moved}
use Rattle.tags.proofs.Endings.{said_err}
use Rattle.tags.proofs.Cycles.{first_back, refuses_moved}
use Rattle.tags.proofs.stdlib.tags.cycle_tag.enter_first.Goals as goal

pub returns-in_err-enter_value-clause-says : goal.returns-in_err-enter_value-clause-says
returns-in_err-enter_value-clause-says c p b rest h =
    let d = c.args.reader.now in
    let e = c.in_err-enter_value.field-0.0 in
    let q : c.from_residual.result ≡ Err e = search rules in
    said_err c.from_residual.result e (value_as p p (read (seen p b)) (under d)) _ _ q
    (subst (Refuses e) (sym (first_back d.mark (ahead c.args.start) (ahead d.cursor) rest p b (lists_of d) h)) (refuses_moved e (ahead d.cursor) _ c.in_err-enter_value.ensures.says))

pub returns-clause-says : goal.returns-clause-says
returns-clause-says c p b rest h =
    let d = c.args.reader.now in
    let (y, valued, says) = c.in_ok-enter_value.ensures.says in
    (y, record { entry = valued.entry; values = valued.values; is = valued.is }, first_back d.mark (ahead c.args.start) (ahead d.cursor) rest p b (lists_of d) h ∙ ap (moved (ahead d.cursor)) says)
