use Rattle.std.proofs.Common.{◌≡◌, ap, ap₂, length, sym, subst, ◌∙◌, Err, arith}
use Rattle.std.proofs.lemmas.Result.{err_from_is_err_and}
use Rattle.drawers.specs.Shown.{shows}
use Rattle.held.specs.Scenes.{host_of}
use Rattle.meaning.proofs.Reorder.{order_free}
use Rattle.nodes.specs.Trees.{tree_at}
use Rattle.renderer.specs.Leaves.{Few}
use Rattle.renderer.specs.declared.calls.Refused.TheVariants.{NotRendered}
use Rattle.renderer.specs.Calls.{PageDone, Rendered}
use Rattle.renderer.proofs.Putting.{ok_or_err, ok_or_why, ok_or_ok}
use Rattle.renderer.proofs.Paging.{no_template, short_trail, page_done, template_there, template_not}
use Rattle.renderer.proofs.calls.render.Goals as goal

pub returns-in_err-template-clause-done : goal.returns-in_err-template-clause-done
returns-in_err-template-clause-done g c =
    let s = c.args.sheet.now in
    let m = g.B.Bank.meaning c.args.bank.now in
    let h = host_of c.args.tray.now in
    let d = shows c.args.drawers.now in
    let (e, is, gave) = err_from_is_err_and c.from_residual.result c.from_residual.ensures.1 in
    let asked = sym c.ok_or.ensures.value ∙ c.in_err-template.was in
    let none = ok_or_err c.template.result NotRendered c.in_err-template.field-0.0 asked in
    let why : NotRendered ≡ e = ok_or_why c.template.result NotRendered c.in_err-template.field-0.0 asked ∙ sym gave in
    subst (PageDone s m c.args.number h d d c.args.out.now c.args.out.now c.args.trail.now c.args.trail.now) (ap Err why ∙ sym is)
    (no_template s m c.args.number h d c.args.out.now c.args.trail.now (template_not s c.args.number (sym c.template.ensures ∙ none)))

pub returns-then-trail-lt-RECORDS-clause-done : goal.returns-then-trail-lt-RECORDS-clause-done
returns-then-trail-lt-RECORDS-clause-done g c =
    let s = c.args.sheet.now in
    let m = g.B.Bank.meaning c.args.bank.now in
    let h = host_of c.args.tray.now in
    let d = shows c.args.drawers.now in
    let x = ok_or_ok c.template.result NotRendered c.in_ok-template.template (sym c.ok_or.ensures.value ∙ c.in_ok-template.was) in
    let (t, a, there) = template_there s c.args.number c.in_ok-template.template (sym c.template.ensures ∙ x) in
    short_trail s m c.args.number h d t c.args.out.now c.args.trail.now there c.if-trail-lt-RECORDS.true

pub returns-clause-done : goal.returns-clause-done
returns-clause-done g c =
    let s = c.args.sheet.now in
    let m = g.B.Bank.meaning c.args.bank.now in
    let h = host_of c.args.tray.now in
    let d = shows c.args.drawers.now in
    let x = ok_or_ok c.template.result NotRendered c.in_ok-template.template (sym c.ok_or.ensures.value ∙ c.in_ok-template.was) in
    let (t, a, there) = template_there s c.args.number c.in_ok-template.template (sym c.template.ensures ∙ x) in
    let k = c.in_ok-template.template in
    let b = c.book.result in
    let here = ap₂ (λ p ns. tree_at p ns k.from k.end) c.book.ensures.pool c.book.ensures.nodes ∙ a in
    let few : Few (record { book = b; tray = c.args.tray }) = record { names = c.book.ensures.few_names; cycles = c.book.ensures.few_cycles } in
    let came = c.render_nodes.ensures.done t here few (omega (arith, c.if-trail-lt-RECORDS.false)) in
    page_done s m c.args.number h d t (shows c.render_nodes.new.drawers) c.args.out.now c.render_nodes.new.out c.args.trail.now c.render_nodes.new.trail c.render_nodes.result there (omega (arith, c.if-trail-lt-RECORDS.false))
    (subst (λ ns. Rendered (record { names = ns; host = h; bank = m; limit = length c.args.out.now }) t d (shows c.render_nodes.new.drawers) c.args.out.now c.render_nodes.new.out c.args.trail.now c.render_nodes.new.trail c.render_nodes.result) c.book.ensures.names came)

pub returns-in_err-template-clause-order : goal.returns-in_err-template-clause-order
returns-in_err-template-clause-order g c = order_free

pub returns-then-trail-lt-RECORDS-clause-order : goal.returns-then-trail-lt-RECORDS-clause-order
returns-then-trail-lt-RECORDS-clause-order g c = order_free

pub returns-clause-order : goal.returns-clause-order
returns-clause-order g c = order_free
