use Rattle.std.proofs.Common.{◌≡◌, Some, None, ap, sym, ◌∙◌}
use Rattle.std.specs.Option.{option_map}
use Rattle.frames.specs.Views.{around_in, met_of}
use Rattle.held.specs.Scenes.{host_in}
use Rattle.evaluation.specs.Steps.{step_in}
use Rattle.evaluation.proofs.Walking.{walked_on, walked_off, walked_through}
use Rattle.evaluation.proofs.steps.walk.Goals as goal

pub returns-in_err-met : goal.returns-in_err-met
returns-in_err-met c w fits =
    let source = c.args.scene.book.source.now in
    let e = around_in (host_in c.args.scene) c.args.frames.now in
    let came = c.step_from.ensures w fits ∙ ap (Rattle.meaning.specs.Looking.met_step w (met_of e c.loop-step.met)) c.spelled.ensures in
    c.loop-step.invariant w fits
    ∙ walked_off w (step_in source) (met_of e c.loop-step.met) c.loop-step.left.now c.in-Some.rest.now c.in-Some.step.now _ c.in-Some.ensures.cases.0 came (ap (option_map (met_of e)) c.in_err-met.was)
    ∙ sym (ap (option_map (met_of e)) c.from_residual.ensures)

pub loop-step-preserved : goal.loop-step-preserved
loop-step-preserved c w fits =
    let source = c.args.scene.book.source.now in
    let e = around_in (host_in c.args.scene) c.args.frames.now in
    let came = c.step_from.ensures w fits ∙ ap (Rattle.meaning.specs.Looking.met_step w (met_of e c.loop-step.met)) c.spelled.ensures in
    c.loop-step.invariant w fits
    ∙ walked_on w (step_in source) (met_of e c.loop-step.met) c.loop-step.left.now c.in-Some.rest.now c.in-Some.step.now _ c.in-Some.ensures.cases.0 came
    ∙ ap (λ q. Rattle.meaning.specs.Looking.walked w (option_map (met_of e) q) (Rattle.std.proofs.Common.map (step_in source) c.in-Some.rest.now)) c.in_ok-met.was

pub returns : goal.returns
returns c w fits =
    let e = around_in (host_in c.args.scene) c.args.frames.now in
    c.loop-step.invariant w fits ∙ walked_through w (step_in c.args.scene.book.source.now) (met_of e c.loop-step.met) c.loop-step.left.now c.in_default.ensures.cases
