use Rattle.std.proofs.Common.{◌≡◌, ◌+◌, true, false, is_some, Some, None, vec_items, sym, refl, ap, ap₂, ◌∙◌, arith, w64, SFits, rules}
use Rattle.tray.specs.declared.records.Record.TheVariants.{Nil, Boolean, Whole, Text, Array, Object}
use Rattle.tray.specs.Parts.{key_of, same_text}
use Rattle.tray.specs.Sound.{at}
use Rattle.values.specs.Value.{equal}
use Rattle.values.specs.Meaning.{value_of, text_at}
use Rattle.values.proofs.Unfolds.{array_lies, object_lies, not_nil, not_boolean, not_whole, not_text, not_array, not_object}
use Rattle.equality.proofs.Loops.{pair_none, pair_more, pair_stop, pair_all, pair_apart, agree_none, agree_more, agree_stop, agree_all, pass_hidden, pass_seen, and_goes, and_stops, booleans_same, wholes_same, pair_is}
use Rattle.equality.proofs.+equal_values.Goals as goal
use Rattle.equality.proofs.+equal_values.Goals.{agrees-then-is_none+in-Some+else-not-equal_at, agrees-else-is_none}

pub agrees-loop-j-init : goal.agrees-loop-j-init
agrees-loop-j-init t c = agree_none _ _ _ _ _

pub agrees-returns-in_default : goal.agrees-returns-in_default
agrees-returns-in_default t c =
    let h : is_some c.find_in.result ≡ false = search rules in
    let k = c.text_of-key.ensures ∙ ap (text_at c.args.tray.now) c.key-at.ensures in
    agree_stop c.loop-j.invariant (pass_seen _ _ _ _ _ _ c.find_in.result None k c.find_in.ensures.value h c.in_default.ensures.value false refl) (omega arith)

pub agrees-returns-then-not-equal_at : goal.agrees-returns-then-not-equal_at
agrees-returns-then-not-equal_at t c =
    let v = value_of c.args.tray.now in
    let h : is_some c.find_in.result ≡ false = search rules in
    let k = c.text_of-key.ensures ∙ ap (text_at c.args.tray.now) c.key-at.ensures in
    let q = c.if-not-equal_at.ensures ∙ ap (λ i. equal (v (i + 1)) (v c.in-Some.c)) c.key-at.ensures in
    agree_stop c.loop-j.invariant (pass_seen _ _ _ _ _ _ c.find_in.result (Some c.in-Some.c) k c.find_in.ensures.value h c.in-Some.ensures.value false q) (omega arith)

pub agrees-loop-j-preserved : goal.agrees-loop-j-preserved
agrees-loop-j-preserved t c =
    let v = value_of c.args.tray.now in
    let k = c.text_of-key.ensures ∙ ap (text_at c.args.tray.now) c.key-at.ensures in
    agree_more c.loop-j.invariant
    (elim c.if-is_none.branch [ agrees-then-is_none+in-Some+else-not-equal_at w ↦ let h : is_some c.find_in.result ≡ false = search rules in pass_seen _ _ _ _ _ _ c.find_in.result (Some w.in-Some.c) k c.find_in.ensures.value h w.in-Some.ensures.value true (w.if-not-equal_at.ensures ∙ ap (λ i. equal (v (i + 1)) (v w.in-Some.c)) c.key-at.ensures) | agrees-else-is_none w ↦ let h : is_some c.find_in.result ≡ true = search rules in pass_hidden _ _ _ _ _ _ c.find_in.result k c.find_in.ensures.value h ])
    (omega arith)

pub agrees-returns : goal.agrees-returns
agrees-returns t c = agree_all c.loop-j.invariant (omega arith)

pub equal_items-returns-then-s-t : goal.equal_items-returns-then-s-t
equal_items-returns-then-s-t t c = pair_apart _ _ c.args.s.count _ c.args.t.count c.if-s-t.true

pub equal_items-loop-j-init : goal.equal_items-loop-j-init
equal_items-loop-j-init t c = pair_none _ _ _ _ _

pub equal_items-returns-then-not-equal_at : goal.equal_items-returns-then-not-equal_at
equal_items-returns-then-not-equal_at t c = pair_stop c.loop-j.invariant (cc c.if-not-equal_at.ensures) (omega arith) (omega arith)

pub equal_items-loop-j-preserved : goal.equal_items-loop-j-preserved
equal_items-loop-j-preserved t c = pair_more c.loop-j.invariant (cc c.if-not-equal_at.ensures) (omega arith) (omega arith)

pub equal_items-returns : goal.equal_items-returns
equal_items-returns t c = pair_all c.loop-j.invariant (omega arith) (omega arith)

pub equal_at-returns-in-Nil-Nil : goal.equal_at-returns-in-Nil-Nil
equal_at-returns-in-Nil-Nil t c = pair_is c.args.tray.now c.args.a c.args.b Nil Nil (search rules) (search rules)

pub equal_at-returns-in-Boolean-Boolean : goal.equal_at-returns-in-Boolean-Boolean
equal_at-returns-in-Boolean-Boolean t c = booleans_same c.in-Boolean-Boolean.x c.in-Boolean-Boolean.y ∙ pair_is c.args.tray.now c.args.a c.args.b (Boolean c.in-Boolean-Boolean.x) (Boolean c.in-Boolean-Boolean.y) (search rules) (search rules)

pub equal_at-returns-in-Whole-Whole : goal.equal_at-returns-in-Whole-Whole
equal_at-returns-in-Whole-Whole t c = wholes_same c.in-Whole-Whole.x c.in-Whole-Whole.y (search rules) (search rules) ∙ pair_is c.args.tray.now c.args.a c.args.b (Whole c.in-Whole-Whole.x) (Whole c.in-Whole-Whole.y) (search rules) (search rules)

pub equal_at-returns-in-Text-Text : goal.equal_at-returns-in-Text-Text
equal_at-returns-in-Text-Text t c =
    let x = c.args.tray.now in
    let e : Text c.in-Text-Text.field-0-0 ≡ at (vec_items x.records) c.args.a = search rules in
    let f : Text c.in-Text-Text.field-0-1 ≡ at (vec_items x.records) c.args.b = search rules in
    c.same_text.ensures ∙ ap₂ same_text (c.text_of.ensures ∙ ap (key_of x.text.now) (sym e)) (c.text_of-in-Text-Text.ensures ∙ ap (key_of x.text.now) (sym f))
    ∙ pair_is x c.args.a c.args.b _ _ e f

pub equal_at-returns-in-Array-Array : goal.equal_at-returns-in-Array-Array
equal_at-returns-in-Array-Array t c = c.equal_items.ensures ∙ pair_is c.args.tray.now c.args.a c.args.b (Array c.in-Array-Array.s) (Array c.in-Array-Array.t) (search rules) (search rules)

pub equal_at-returns-then-agrees : goal.equal_at-returns-then-agrees
equal_at-returns-then-agrees t c = and_goes _ _ _ c.if-agrees.ensures c.within.ensures ∙ pair_is c.args.tray.now c.args.a c.args.b (Object c.in-Object-Object.s) (Object c.in-Object-Object.t) (search rules) (search rules)

pub equal_at-returns-else-agrees : goal.equal_at-returns-else-agrees
equal_at-returns-else-agrees t c = and_stops _ _ _ c.if-agrees.ensures c.if-agrees.false ∙ pair_is c.args.tray.now c.args.a c.args.b (Object c.in-Object-Object.s) (Object c.in-Object-Object.t) (search rules) (search rules)

pub equal_at-returns-in_default : goal.equal_at-returns-in_default
equal_at-returns-in_default t c = not_nil _ _ _ _ c.in_default.not-Nil-1 ∙ pair_is c.args.tray.now c.args.a c.args.b Nil _ (search rules) c.record-2.ensures

pub equal_at-returns-in_default-2 : goal.equal_at-returns-in_default-2
equal_at-returns-in_default-2 t c = not_boolean _ _ _ _ _ c.in_default.not-Boolean-1 ∙ pair_is c.args.tray.now c.args.a c.args.b (Boolean c.in_default.field-0-0) _ (search rules) c.record-2.ensures

pub equal_at-returns-in_default-3 : goal.equal_at-returns-in_default-3
equal_at-returns-in_default-3 t c = not_whole _ _ _ _ _ c.in_default.not-Whole-1 ∙ pair_is c.args.tray.now c.args.a c.args.b (Whole c.in_default.field-0-0) _ (search rules) c.record-2.ensures

pub equal_at-returns-in_default-4 : goal.equal_at-returns-in_default-4
equal_at-returns-in_default-4 t c = not_text _ _ _ _ _ c.in_default.not-Text-1 ∙ pair_is c.args.tray.now c.args.a c.args.b (Text c.in_default.field-0-0) _ (search rules) c.record-2.ensures

pub equal_at-returns-in_default-5 : goal.equal_at-returns-in_default-5
equal_at-returns-in_default-5 t c = not_array _ _ _ _ _ c.in_default.not-Array-1 ∙ pair_is c.args.tray.now c.args.a c.args.b (Array c.in_default.field-0-0) _ (search rules) c.record-2.ensures

pub equal_at-returns-in_default-6 : goal.equal_at-returns-in_default-6
equal_at-returns-in_default-6 t c = not_object _ _ _ _ _ c.in_default.not-Object-1 ∙ pair_is c.args.tray.now c.args.a c.args.b (Object c.in_default.field-0-0) _ (search rules) c.record-2.ensures

pub equal_at-equal_items-requires : goal.equal_at-equal_items-requires
equal_at-equal_items-requires t c =
    let x = c.args.tray.now in
    let e : Array c.in-Array-Array.s ≡ at (vec_items x.records) c.args.a = search rules in
    let lies = array_lies (vec_items x.records) c.args.a _ x.behind x.inside e in
    (omega (arith, lies.0), lies)

pub equal_at-agrees-requires : goal.equal_at-agrees-requires
equal_at-agrees-requires t c =
    let x = c.args.tray.now in
    let e : Object c.in-Object-Object.s ≡ at (vec_items x.records) c.args.a = search rules in
    let lies = object_lies (vec_items x.records) c.args.a _ x.behind x.inside e in
    (omega (arith, lies.0), lies)
