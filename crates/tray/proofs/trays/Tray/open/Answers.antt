use Rattle.std.proofs.Common.{vec_items, sym, refl, subst}
use Rattle.std.proofs.lemmas.Bool.{both_ways}
use Rattle.std.proofs.lemmas.Result.{err_from_is_err_and}
use Rattle.tray.specs.Sound.{Sound}
use Rattle.tray.proofs.Formats.{never_read, never_sound, accepted, why_so}
use Rattle.tray.proofs.trays.Tray.open.Goals as goal

pub returns-in_err-records : goal.returns-in_err-records
returns-in_err-records c =
    let p = err_from_is_err_and c.from_residual.result c.from_residual.ensures.1 in
    rw (p.1, p.2) (why_so _ (never_read c.args.bytes.now c.args.text.now) c.in_err-records.ensures)

pub returns-then-not-branch : goal.returns-then-not-branch
returns-then-not-branch c =
    never_sound c.args.bytes.now c.args.text.now _ c.in_ok-records.ensures
    (λ s. both_ways _ c.if-not-branch.true (c.in_ok-sound.ensures.1 (subst (λ rs. Sound rs c.args.text.now) (sym c.as_slice.ensures.value) s)))

pub invariant_of-result : goal.invariant_of-result
invariant_of-result c =
    let s : Sound (vec_items c.in_ok-records.records) c.args.text.now = subst (λ rs. Sound rs c.args.text.now) c.as_slice.ensures.value (c.in_ok-sound.ensures.0 c.if-not-branch.false) in
    record { root = s.root; behind = s.held.behind; inside = s.held.inside; once = s.held.once; keys = s.keys }

pub returns : goal.returns
returns c =
    (accepted c.args.bytes.now c.args.text.now _ c.in_ok-records.ensures (subst (λ rs. Sound rs c.args.text.now) c.as_slice.ensures.value (c.in_ok-sound.ensures.0 c.if-not-branch.false)), refl)
