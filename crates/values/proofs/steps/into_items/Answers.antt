use Rattle.std.proofs.Common.{sym, ap, ◌∙◌, w64, SFits, rules}
use Rattle.std.proofs.lemmas.Int.{to_z-of_z}
use Rattle.values.specs.Numbers.{item_found, among_items}
use Rattle.values.specs.Found.{step_of}
use Rattle.values.proofs.steps.into_items.Goals as goal

pub returns-in-Number : goal.returns-in-Number
returns-in-Number c =
    let fits : SFits w64 c.in-Number.z = search rules in
    c.item.ensures ∙ ap (item_found c.args.items.first c.args.items.count) (to_z-of_z w64 c.in-Number.z fits)
    ∙ sym (ap (λ s. among_items c.args.items.first c.args.items.count (step_of s)) c.in-Number.is)
