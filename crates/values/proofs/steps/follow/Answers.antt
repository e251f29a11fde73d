use Rattle.std.proofs.Common.{◌≡◌, None, vec_items, ap, ◌∙◌}
use Rattle.tray.specs.Sound.{at}
use Rattle.values.specs.Meaning.{text_at}
use Rattle.values.specs.Numbers.{followed}
use Rattle.values.specs.Found.{step_of}
use Rattle.values.proofs.Stepping.{follow_so, no_step}
use Rattle.values.proofs.steps.follow.Goals as goal

pub returns-in-Array : goal.returns-in-Array
returns-in-Array c =
    let t = c.args.tray.now in
    let s = step_of c.args.step in
    let n : c.into_items.result ≡ followed (text_at t) (at (vec_items t.records) c.args.i) s = c.into_items.ensures ∙ ap (λ r. followed (text_at t) r s) c.in-Array.ensures in
    record { number = n; value = follow_so (vec_items t.records) t.text.now t.behind c.args.i s c.into_items.result n }

pub returns-in-Object : goal.returns-in-Object
returns-in-Object c =
    let t = c.args.tray.now in
    let s = step_of c.args.step in
    let n : c.into_entries.result ≡ followed (text_at t) (at (vec_items t.records) c.args.i) s = c.into_entries.ensures ∙ ap (λ r. followed (text_at t) r s) c.in-Object.ensures in
    record { number = n; value = follow_so (vec_items t.records) t.text.now t.behind c.args.i s c.into_entries.result n }

pub returns-in_default : goal.returns-in_default
returns-in_default c =
    let t = c.args.tray.now in
    let s = step_of c.args.step in
    let n : None ≡ followed (text_at t) (at (vec_items t.records) c.args.i) s = no_step (text_at t) c.record.result s c.in_default.not-Array c.in_default.not-Object ∙ ap (λ r. followed (text_at t) r s) c.record.ensures in
    record { number = n; value = follow_so (vec_items t.records) t.text.now t.behind c.args.i s None n }
