use Rattle.std.proofs.Common.{◌≡◌, ap, sym, ◌∙◌, subst, map, Some, None}
use Rattle.std.specs.Option.{option_map}
use Rattle.frames.specs.Views.{around_in, met_of}
use Rattle.drawers.specs.Shown.{shows}
use Rattle.held.specs.Scenes.{host_in}
use Rattle.evaluation.specs.Steps.{step_in}
use Rattle.evaluation.specs.Values.{Found, Reached}
use Rattle.evaluation.proofs.Founds.{reached_literal, reached_path}
use Rattle.evaluation.proofs.Walking.{walked_nowhere}
use Rattle.evaluation.proofs.looking.reach.Goals as goal

pub returns-in_default : goal.returns-in_default
returns-in_default c = reached_literal c.args.scene c.args.frames.now (shows c.args.drawers.now) c.args.value c.literal.result c.in_default.not-Path c.literal.ensures

pub returns-in_err-met-in-Path : goal.returns-in_err-met-in-Path
returns-in_err-met-in-Path c =
    let s = c.args.scene in
    let e = around_in (host_in s) c.args.frames.now in
    let found : Found s c.args.frames.now (shows c.args.drawers.now) c.in-Path.head None = subst (λ m. Found s c.args.frames.now (shows c.args.drawers.now) c.in-Path.head m) c.in_err-met-in-Path.was c.find.ensures in
    subst (λ x. Reached s c.args.frames.now (shows c.args.drawers.now) x c.from_residual.result) (sym c.in-Path.is)
    (reached_path s c.args.frames.now (shows c.args.drawers.now) c.in-Path.head c.in-Path.steps None c.from_residual.result _ found Rattle.std.proofs.Common.refl
    (λ w fits. walked_nowhere w (step_in s.book.source.now) _ ∙ sym (ap (option_map (met_of e)) c.from_residual.ensures)))

pub returns-in_ok-met-in-Path : goal.returns-in_ok-met-in-Path
returns-in_ok-met-in-Path c =
    let s = c.args.scene in
    let found : Found s c.args.frames.now (shows c.args.drawers.now) c.in-Path.head (Some c.in_ok-met-in-Path.met) = subst (λ m. Found s c.args.frames.now (shows c.args.drawers.now) c.in-Path.head m) c.in_ok-met-in-Path.was c.find.ensures in
    subst (λ x. Reached s c.args.frames.now (shows c.args.drawers.now) x c.walk.result) (sym c.in-Path.is)
    (reached_path s c.args.frames.now (shows c.args.drawers.now) c.in-Path.head c.in-Path.steps (Some c.in_ok-met-in-Path.met) c.walk.result c.entries.result.now found c.entries.ensures c.walk.ensures)
