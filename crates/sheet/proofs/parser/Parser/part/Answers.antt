use Rattle.std.proofs.Common.{map, Some, Ok, Err, sym, ap, ◌∙◌, subst}
use Rattle.std.proofs.lemmas.Result.{err_from_is_err_and}
use Rattle.sheet.specs.Loading.{first_unknown, all_known}
use Rattle.arguments.specs.Tables.{lists_of, asked_in}
use Rattle.sheet.specs.Parts.{PartRead}
use Rattle.sheet.specs.Answers.{ElementsRead}
use Rattle.sheet.proofs.Whole.{slice_end, part_refused, part_tag, part_over}
use Rattle.sheet.proofs.parser.Parser.part.Goals as goal

pub returns-in_err-tag-clause-says : goal.returns-in_err-tag-clause-says
returns-in_err-tag-clause-says g c =
    let known = (g.B.Bank.meaning c.args.bank.now).known in
    let p = c.args.self.now in
    let q = c.elements.new.self in
    let (x, is, gave) = err_from_is_err_and c.from_residual.result c.from_residual.ensures.1 in
    subst (λ r. PartRead known c.args.from c.args.to p r q) (sym (is ∙ ap Err gave))
    (part_refused known p c.turn.new.self q c.args.from c.args.to c.turn.ensures.reader c.turn.ensures.cutter c.turn.ensures.end c.in_err-tag.field-0.0 c.in_err-tag.ensures.says)

pub returns-in-Some-clause-says : goal.returns-in-Some-clause-says
returns-in-Some-clause-says g c =
    let known = (g.B.Bank.meaning c.args.bank.now).known in
    let p = c.args.self.now in
    let q = c.elements.new.self in
    subst (λ x. PartRead known c.args.from c.args.to p (Err x) q) (sym c.unknown.ensures)
    (part_tag known p c.turn.new.self q c.args.from c.args.to c.turn.ensures.reader c.turn.ensures.cutter c.turn.ensures.end c.in-Some.tag
    (subst (λ r. ElementsRead 16 c.turn.new.self r q) (c.in_ok-tag.was ∙ ap Ok c.in-Some.is) c.elements.ensures.says))

pub returns-in-Some-first_unknown-clause-says : goal.returns-in-Some-first_unknown-clause-says
returns-in-Some-first_unknown-clause-says g c =
    let known = (g.B.Bank.meaning c.args.bank.now).known in
    let p = c.args.self.now in
    let q = c.elements.new.self in
    let (y, body, is) = part_over known p c.turn.new.self q c.args.from c.args.to c.turn.ensures.reader c.turn.ensures.cutter c.turn.ensures.end
    (subst (λ r. ElementsRead 16 c.turn.new.self r q) (c.in_ok-tag.was ∙ ap Ok c.in_default.is) c.elements.ensures.says) c.len-asked.result (c.len-asked.ensures ∙ p.reader.filters.ok.0) c.first_unknown.result (c.first_unknown.ensures.is ∙ ap (λ l. first_unknown known (map (asked_in q.reader.source.now) l)) (slice_end c.as_slice.result.now _ c.len-asked.result c.as_slice.ensures.value)) in
    is ∙ ap (all_known y (lists_of q.reader)) c.in-Some-first_unknown.is

pub returns-in-None-clause-says : goal.returns-in-None-clause-says
returns-in-None-clause-says g c =
    let known = (g.B.Bank.meaning c.args.bank.now).known in
    let p = c.args.self.now in
    let q = c.elements.new.self in
    let (y, body, is) = part_over known p c.turn.new.self q c.args.from c.args.to c.turn.ensures.reader c.turn.ensures.cutter c.turn.ensures.end
    (subst (λ r. ElementsRead 16 c.turn.new.self r q) (c.in_ok-tag.was ∙ ap Ok c.in_default.is) c.elements.ensures.says) c.len-asked.result (c.len-asked.ensures ∙ p.reader.filters.ok.0) c.first_unknown.result (c.first_unknown.ensures.is ∙ ap (λ l. first_unknown known (map (asked_in q.reader.source.now) l)) (slice_end c.as_slice.result.now _ c.len-asked.result c.as_slice.ensures.value)) in
    (y, body, is ∙ ap (all_known y (lists_of q.reader)) c.in-None.is)
