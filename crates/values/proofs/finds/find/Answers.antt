use Rattle.std.proofs.Common.{◌≡◌, None, vec_items, ap, ◌∙◌}
use Rattle.tray.specs.Sound.{at}
use Rattle.values.specs.Meaning.{text_at}
use Rattle.values.specs.Numbers.{member_number}
use Rattle.values.proofs.Stepping.{member_so, no_number}
use Rattle.values.proofs.finds.find.Goals as goal

pub returns-in-Object : goal.returns-in-Object
returns-in-Object c =
    let t = c.args.tray.now in
    let n : c.find_in.result ≡ member_number (text_at t) (at (vec_items t.records) c.args.i) c.args.key.now = c.find_in.ensures.number ∙ ap (λ r. member_number (text_at t) r c.args.key.now) c.in-Object.ensures in
    record { number = n; value = member_so (vec_items t.records) t.text.now t.behind c.args.i c.args.key.now c.find_in.result n }

pub returns-in_default : goal.returns-in_default
returns-in_default c =
    let t = c.args.tray.now in
    let n : None ≡ member_number (text_at t) (at (vec_items t.records) c.args.i) c.args.key.now = no_number (text_at t) c.record.result c.args.key.now c.in_default.not-Object ∙ ap (λ r. member_number (text_at t) r c.args.key.now) c.record.ensures in
    record { number = n; value = member_so (vec_items t.records) t.text.now t.behind c.args.i c.args.key.now None n }
