use Rattle.std.proofs.Common.{◌≡◌, ◌+◌, ◌*◌, ◌<◌, Some, None, sym, ap, ◌∙◌, arith}
use Rattle.std.specs.Option.{option_map}
use Rattle.tray.specs.Parts.{same_text}
use Rattle.values.specs.Meaning.{value_of, text_at}
use Rattle.values.specs.Numbers.{entry_number}
use Rattle.values.proofs.Listing.{number_none, number_here, number_more, number_all, number_value}
use Rattle.values.proofs.finds.find_in.Goals as goal

pub loop-j-init : goal.loop-j-init
loop-j-init c = number_none _ _ _ _

pub loop-j-preserved : goal.loop-j-preserved
loop-j-preserved c =
    let t = c.args.tray.now in
    let q = c.args.key.now in
    let e : same_text q (text_at t (c.args.entries.first + 2 * c.loop-j.j)) ≡ c.same_text.result = sym (ap (λ i. same_text q (text_at t i)) c.key-at.ensures) ∙ sym (ap (same_text q) c.text_of.ensures) ∙ sym c.same_text.ensures in
    c.loop-j.invariant ∙ number_more (text_at t) q _ _ _ (omega arith) (e ∙ c.if-same_text.false)

pub returns-then-same_text : goal.returns-then-same_text
returns-then-same_text c =
    let t = c.args.tray.now in
    let q = c.args.key.now in
    let first = c.args.entries.first in
    let at = c.key-at.ensures in
    let below : c.loop-j.j < c.args.entries.count = omega arith in
    let e : same_text q (text_at t (first + 2 * c.loop-j.j)) ≡ c.same_text.result = sym (ap (λ i. same_text q (text_at t i)) at) ∙ sym (ap (same_text q) c.text_of.ensures) ∙ sym c.same_text.ensures in
    let n : Some (c.key-at.result + 1) ≡ entry_number (text_at t) q first c.args.entries.count = ap (λ i. Some (i + 1)) at ∙ sym (c.loop-j.invariant ∙ number_here (text_at t) q first c.args.entries.count c.loop-j.j below (e ∙ c.if-same_text.true)) in
    record { number = n; value = ap (option_map (value_of t)) n ∙ number_value q (text_at t) (value_of t) first c.args.entries.count; place = (omega arith, omega arith) }

pub returns : goal.returns
returns c =
    let t = c.args.tray.now in
    let n : None ≡ entry_number (text_at t) c.args.key.now c.args.entries.first c.args.entries.count = sym (c.loop-j.invariant ∙ number_all _ _ _ _ _ (omega arith)) in
    record { number = n; value = ap (option_map (value_of t)) n ∙ number_value c.args.key.now (text_at t) (value_of t) c.args.entries.first c.args.entries.count; place = tt }
