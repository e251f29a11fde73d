use Rattle.std.proofs.Common.{subst, sym, ap, ◌∙◌, Some, None, Ok, Err, rules, w64, SFits, to_z, of_z}
use Rattle.std.proofs.lemmas.Int.{to_z-of_z}
use Rattle.std.proofs.lemmas.Result.{err_from_is_err_and}
use Rattle.drawers.specs.Shown.{shows}
use Rattle.evaluation.specs.Values.{NumberFound}
use Rattle.renderer.specs.Openings.{NumberIfFound}
use Rattle.renderer.proofs.Opening.{number_none, number_some, number_lost}
use Rattle.renderer.proofs.stdlib.blocks.for_block.number_if.Goals as goal

pub returns-in-None : goal.returns-in-None
returns-in-None c =
    let d = shows c.args.drawers.now in
    subst (λ x. NumberIfFound c.args.scene c.args.frames.now d x (Ok None)) (sym c.in-None.is) (number_none c.args.scene c.args.frames.now d)

pub returns-in_err-number-in-Some : goal.returns-in_err-number-in-Some
returns-in_err-number-in-Some c =
    let d = shows c.args.drawers.now in
    let (k, is, gave) = err_from_is_err_and c.from_residual.result c.from_residual.ensures.1 in
    let q = c.in_err-number-in-Some.field-0.0 in
    subst (λ x. NumberIfFound c.args.scene c.args.frames.now d x c.from_residual.result) (sym c.in-Some.is)
    (subst (NumberIfFound c.args.scene c.args.frames.now d (Some c.in-Some.value)) (sym (is ∙ ap Err gave))
    (number_lost c.args.scene c.args.frames.now d c.in-Some.value q (subst (NumberFound c.args.scene c.args.frames.now d c.in-Some.value) c.in_err-number-in-Some.was c.number.ensures)))

pub returns-in_ok-number-in-Some : goal.returns-in_ok-number-in-Some
returns-in_ok-number-in-Some c =
    let d = shows c.args.drawers.now in
    let z = c.in_ok-number-in-Some.field-0 in
    let f : SFits w64 z = search rules in
    subst (λ x. NumberIfFound c.args.scene c.args.frames.now d x (Ok (Some (to_z w64 (of_z w64 z))))) (sym c.in-Some.is)
    (subst (λ y. NumberIfFound c.args.scene c.args.frames.now d (Some c.in-Some.value) (Ok (Some y))) (sym (to_z-of_z w64 z f))
    (number_some c.args.scene c.args.frames.now d c.in-Some.value z (subst (NumberFound c.args.scene c.args.frames.now d c.in-Some.value) c.in_ok-number-in-Some.was c.number.ensures)))
