use Rattle.std.proofs.Common.{◌≡◌, length, map, Some}
use Rattle.held.specs.Scenes.{Fits, host_in}
use Rattle.frames.specs.Views.{around_in, met_of}
use Rattle.meaning.specs.Looking.{World, walked}
use Rattle.evaluation.specs.Steps.{step_in}
use Rattle.evaluation.proofs.steps.walk.Given as goal

-- the steps that are left come from here to what all steps come to
abbrev pub invariant-loop-step : goal.invariant-loop-step
invariant-loop-step l =
    (w : World) → Fits w l.fn.scene →
    walked w (Some (met_of (around_in (host_in l.fn.scene) l.fn.frames) l.fn.from)) (map (step_in l.fn.scene.book.source.now) l.fn.steps)
    ≡ walked w (Some (met_of (around_in (host_in l.fn.scene) l.fn.frames) l.met)) (map (step_in l.fn.scene.book.source.now) l.left)

abbrev pub decreases-loop-step : goal.decreases-loop-step
decreases-loop-step l = length l.left
