use Rattle.std.proofs.Common.{◌≡◌, ◌<◌, ap, sym, subst, ◌∙◌, Some, Err, arith}
use Rattle.std.proofs.lemmas.List.{length-map}
use Rattle.std.proofs.lemmas.Result.{err_from_is_err_and}
use Rattle.std.specs.Option.{option_map}
use Rattle.drawers.specs.Shown.{held_of, shows}
use Rattle.meaning.specs.Calls.{held_datum}
use Rattle.meaning.specs.Things.{Held, name, altered, with_variable}
use Rattle.nodes.specs.Books.{names_in, spelled}
use Rattle.renderer.specs.Calls.{datum_of, named, PutDone}
use Rattle.renderer.specs.declared.calls.Refused.TheVariants.{NotPut}
use Rattle.renderer.proofs.Putting.{no_name, too_long, is_put, named_below, ok_or_err, ok_or_why, ok_or_ok, kept_not, kept_so, short_is}
use Rattle.renderer.proofs.calls.put.Goals as goal

pub returns-in_err-n : goal.returns-in_err-n
returns-in_err-n c =
    let s = c.args.sheet.now in
    let k = c.args.name.now in
    let v = datum_of c.args.datum in
    let d = shows c.args.drawers.now in
    let (e, is, gave) = err_from_is_err_and c.from_residual.result c.from_residual.ensures.1 in
    let asked = sym c.ok_or.ensures.value ∙ c.in_err-n.was in
    let none = ok_or_err c.name_number.result NotPut c.in_err-n.field-0.0 asked in
    let why : NotPut ≡ e = ok_or_why c.name_number.result NotPut c.in_err-n.field-0.0 asked ∙ sym gave in
    subst (PutDone s k v d d) (ap Err why ∙ sym is)
    (no_name s k v d (sym (ap (λ ns. named ns k) c.book.ensures.names) ∙ sym c.name_number.ensures ∙ none))

pub returns-in_err-value : goal.returns-in_err-value
returns-in_err-value c =
    let s = c.args.sheet.now in
    let k = c.args.name.now in
    let v = datum_of c.args.datum in
    let d = shows c.args.drawers.now in
    let r = c.from_residual-in_err-value in
    let (e, is, gave) = err_from_is_err_and r.result r.ensures.1 in
    let asked = sym c.ok_or-2.ensures.value ∙ c.in_err-value.was in
    let none = ok_or_err c.keep.result NotPut c.in_err-value.field-0.0 asked in
    let why : NotPut ≡ e = ok_or_why c.keep.result NotPut c.in_err-value.field-0.0 asked ∙ sym gave in
    let there = ok_or_ok c.name_number.result NotPut c.in_ok-n.n (sym c.ok_or.ensures.value ∙ c.in_ok-n.was) in
    let long = kept_not (held_datum v) (sym (ap (option_map held_of) none) ∙ c.keep.ensures ∙ ap Rattle.drawers.specs.Kept.if_short c.value.ensures) in
    subst (PutDone s k v d d) (ap Err why ∙ sym is)
    (too_long s k v d c.in_ok-n.n (sym (ap (λ ns. named ns k) c.book.ensures.names) ∙ sym c.name_number.ensures ∙ there) (sym (short_is v) ∙ long))

pub returns : goal.returns
returns c =
    let s = c.args.sheet.now in
    let k = c.args.name.now in
    let v = datum_of c.args.datum in
    let d = shows c.args.drawers.now in
    let n = c.in_ok-n.n in
    let there = ok_or_ok c.name_number.result NotPut n (sym c.ok_or.ensures.value ∙ c.in_ok-n.was) in
    let kept = ok_or_ok c.keep.result NotPut c.in_ok-value.value (sym c.ok_or-2.ensures.value ∙ c.in_ok-value.was) in
    let named_so : named (names_in c.book.result) k ≡ Some n = sym c.name_number.ensures ∙ there in
    let (short, same) = kept_so (held_of c.in_ok-value.value) (held_datum v) (sym (ap (option_map held_of) kept) ∙ c.keep.ensures ∙ ap Rattle.drawers.specs.Kept.if_short c.value.ensures) in
    let below : n < 128 = omega (arith, named_below (names_in c.book.result) k n named_so, length-map c.book.result.names.now (spelled c.book.result.source.now), c.book.ensures.few_names) in
    is_put s k v d n (shows c.set_variable.new.self) (sym (ap (λ ns. named ns k) c.book.ensures.names) ∙ named_so) (sym (short_is v) ∙ short)
    (c.set_variable.ensures.set below ∙ ap (λ (u : Held). altered (name n) (with_variable u) d) same)
