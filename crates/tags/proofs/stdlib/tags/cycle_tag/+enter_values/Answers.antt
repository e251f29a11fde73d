use Rattle.std.proofs.Common.{◌≡◌, ◌-◌, ◌<◌, [], ◌∷◌, ◌++◌, Some, None, Err, refl, sym, ap, ◌∙◌, rules, arith, subst, vec_items, append-nil}
use Rattle.cutter.specs.declared.lengths.Symbol.TheVariants.{Comma}
use Rattle.cutter.specs.Ahead.{ahead}
use Rattle.arguments.specs.declared.refusals.Refusal.TheVariants.{NoToken}
use Rattle.arguments.specs.declared.refusals.Stop.TheVariants.{Refused}
use Rattle.arguments.specs.Judging.{went, pure, ◌next◌, finished, seen, token_if}
use Rattle.arguments.specs.Values.{value, symbol_at}
use Rattle.arguments.specs.Tables.{pool_of, lists_of, under, Refuses}
use Rattle.arguments.proofs.Chaining.{refuses_went, said_same}
use Rattle.tags.specs.Cycles.{written, listed, values_of, values_in}
use Rattle.tags.specs.Reading.{Names, Continued}
use Rattle.tags.proofs.Endings.{said_last, said_err}
use Rattle.tags.proofs.Adding.{added_more, added_last}
use Rattle.tags.proofs.Cycles.{values_over, values_wrong, values_full, values_word, values_taken, values_behind, joined_more}
use Rattle.tags.proofs.stdlib.tags.cycle_tag.+enter_values.Goals as goal

pub returns-in_err-word-clause-says : goal.returns-in_err-word-clause-says
returns-in_err-word-clause-says t c =
    let d = c.args.reader.now in
    let p = c.in_err-word.field-0.0.place in
    let q : c.from_residual.result ≡ Err (Refused NoToken p) = search rules in
    said_err c.from_residual.result (Refused NoToken p) (values_of c.args.left (under d)) _ _ q (values_wrong c.args.left (ahead d.cursor) (lists_of d) p c.in_err-word.ensures)

pub returns-in_default-clause-says : goal.returns-in_default-clause-says
returns-in_default-clause-says t c =
    let d = c.args.reader.now in
    let none = rw c.in_default.is at c.in_ok-word.ensures in (
      [],
      record { added = record { new = []; values = sym (append-nil (vec_items d.values)); are = refl }; named = λ a h. h },
      values_over c.args.left (ahead d.cursor) (lists_of d) none,
    )

pub returns-then-left-eq0-clause-says : goal.returns-then-left-eq0-clause-says
returns-then-left-eq0-clause-says t c =
    let d = c.args.reader.now in
    let w = c.in-Some.word in
    let (rest, e) = rw c.in-Some.is at c.in_ok-word.ensures in
    values_full c.args.left (ahead d.cursor) rest w.place w.bytes.now (lists_of d) c.too_many.result c.if-left-eq0.true e c.too_many.ensures

pub returns-in_err-enter_value-clause-says : goal.returns-in_err-enter_value-clause-says
returns-in_err-enter_value-clause-says t c =
    let d = c.args.reader.now in
    let n = c.args.left in
    let w = c.in-Some.word in
    let e = c.in_err-enter_value.field-0.0 in
    let (rest, is) = rw c.in-Some.is at c.in_ok-word.ensures in
    let some : 0 < n = omega (arith, c.if-left-eq0.false) in
    let same = values_word n d.mark (ahead d.cursor) rest w.place w.bytes.now (lists_of d) some is in
    let q : c.from_residual-in_err-enter_value.result ≡ Err e = search rules in
    said_err c.from_residual-in_err-enter_value.result e (values_of n (under d)) _ _ q
    (subst (Refuses e) (sym same) (refuses_went e (value d.mark (under d)) (λ x. token_if (symbol_at Comma) next λ o. listed (values_of (n - 1)) (written (seen w.place w.bytes.now) x) o) c.in_err-enter_value.ensures.says))

pub returns-in_err-take_symbol-clause-says : goal.returns-in_err-take_symbol-clause-says
returns-in_err-take_symbol-clause-says t c =
    let d = c.args.reader.now in
    let u = c.enter_value.new.self in
    let n = c.args.left in
    let w = c.in-Some.word in
    let e = c.in_err-take_symbol.field-0.0 in
    let (rest, is) = rw c.in-Some.is at c.in_ok-word.ensures in
    let (x, valued, first) = c.in_ok-enter_value.ensures.says in
    let some : 0 < n = omega (arith, c.if-left-eq0.false) in
    let same = values_taken n d.mark (ahead d.cursor) rest w.place w.bytes.now (lists_of d) some is x (under u) first in
    let q : c.from_residual-in_err-take_symbol.result ≡ Err e = search rules in
    said_err c.from_residual-in_err-take_symbol.result e (values_of n (under d)) _ _ q
    (subst (Refuses e) (sym same) (refuses_went e (token_if (symbol_at Comma) (under u)) (λ o. listed (values_of (n - 1)) (written (seen w.place w.bytes.now) x) o) c.in_err-take_symbol.ensures.says))

pub returns-in_err-finish-clause-says : goal.returns-in_err-finish-clause-says
returns-in_err-finish-clause-says t c =
    let d = c.args.reader.now in
    let u = c.enter_value.new.self in
    let v = c.take_symbol.new.self in
    let n = c.args.left in
    let w = c.in-Some.word in
    let e = c.in_err-finish.field-0.0 in
    let (rest, is) = rw c.in-Some.is at c.in_ok-word.ensures in
    let (x, valued, first) = c.in_ok-enter_value.ensures.says in
    let (o, found, then) = c.in_ok-take_symbol.ensures.says in
    let some : 0 < n = omega (arith, c.if-left-eq0.false) in
    let same = values_behind n d.mark (ahead d.cursor) rest w.place w.bytes.now (lists_of d) some is x (under u) o None (under v) first then (found ∙ c.in_default-2.is) in
    let q : c.from_residual-in_err-finish.result ≡ Err e = search rules in
    said_err c.from_residual-in_err-finish.result e (values_of n (under d)) _ _ q
    (subst (Refuses e) (sym same) (refuses_went e (finished (under v)) (λ _. pure (written (seen w.place w.bytes.now) x ∷ [])) c.in_err-finish.ensures.says))

pub returns-in_default-2-clause-says : goal.returns-in_default-2-clause-says
returns-in_default-2-clause-says t c =
    let d = c.args.reader.now in
    let u = c.enter_value.new.self in
    let v = c.take_symbol.new.self in
    let g = c.finish.new.self in
    let n = c.args.left in
    let w = c.in-Some.word in
    let (rest, is) = rw c.in-Some.is at c.in_ok-word.ensures in
    let (x, valued, first) = c.in_ok-enter_value.ensures.says in
    let (o, found, then) = c.in_ok-take_symbol.ensures.says in
    let (z, _, ended) = c.in_ok-finish.ensures.says in
    let some : 0 < n = omega (arith, c.if-left-eq0.false) in
    let same = values_behind n d.mark (ahead d.cursor) rest w.place w.bytes.now (lists_of d) some is x (under u) o None (under v) first then (found ∙ c.in_default-2.is) in
    let s = written (seen w.place w.bytes.now) x in (
      s ∷ [],
      record { added = added_last d u v g x valued c.in_ok-take_symbol.ensures.grown c.in_ok-finish.ensures.grown; named = c.continued-name.ensures },
      same ∙ ap (λ y. went y (λ _. pure (s ∷ []))) ended,
    )

pub returns-clause-says : goal.returns-clause-says
returns-clause-says t c =
    let d = c.args.reader.now in
    let u = c.enter_value.new.self in
    let v = c.take_symbol.new.self in
    let g = c.enter_values.new.reader in
    let r = c.enter_values.ensures in
    let h = c.in_ok-take_symbol.ensures in
    let n = c.args.left in
    let w = c.in-Some.word in
    let (rest, is) = rw c.in-Some.is at c.in_ok-word.ensures in
    let (x, valued, first) = c.in_ok-enter_value.ensures.says in
    let (o, found, then) = h.says in
    let some : 0 < n = omega (arith, c.if-left-eq0.false) in
    let same = values_behind n d.mark (ahead d.cursor) rest w.place w.bytes.now (lists_of d) some is x (under u) o (Some c.in-Some-2.field-0) (under v) first then (found ∙ c.in-Some-2.is) in
    let s = written (seen w.place w.bytes.now) x in
    let D = Continued (vec_items d.values) (pool_of g) c.args.name in
    let E = Continued (vec_items v.values) (pool_of g) c.continued-name.result in
    said_same c.enter_values.result _ (values_of n (under d)) D (under g) same
    (said_last c.enter_values.result (values_of (n - 1) (under v)) (λ ws. s ∷ ws) E D (under g)
    (λ y ws _ k.
    record {
      added = added_more d u v g x (values_in ws) valued h.grown r.longer k.added;
      named = λ a b. subst (Names y) (joined_more a w.bytes.now ws) (k.named (a ++ (44 ∷ 32 ∷ w.bytes.now)) (c.continued-name.ensures a b));
    }) r.says)
