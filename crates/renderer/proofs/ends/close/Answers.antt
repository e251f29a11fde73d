use Rattle.std.proofs.Common.{sym, subst, length, take}
use Rattle.drawers.specs.Shown.{shows}
use Rattle.frames.specs.Views.{manner_of}
use Rattle.meaning.specs.Acts.{step, gives}
use Rattle.meaning.specs.Blocks.{closed}
use Rattle.renderer.specs.Ends.{Ends, TargetFits}
use Rattle.renderer.proofs.ends.close.Goals as goal

pub returns-in-Keeping : goal.returns-in-Keeping
returns-in-Keeping c p e f fits le =
    let out = c.args.out.now in
    subst (λ m. Ends (closed (manner_of m) p e c.args.mark (step (shows c.args.drawers.now) (take c.args.filled out) (gives f))) f p e (shows c.keep_text.new.drawers) (length out) out c.keep_text.result) (sym c.in-Keeping.is)
    (c.keep_text.ensures p e f (subst (TargetFits 128) c.in-Keeping.is fits) le)

pub returns-in-Watching : goal.returns-in-Watching
returns-in-Watching c p e f fits le =
    let out = c.args.out.now in
    subst (λ m. Ends (closed (manner_of m) p e c.args.mark (step (shows c.args.drawers.now) (take c.args.filled out) (gives f))) f p e (shows c.show_text.new.drawers) (length out) out c.show_text.result) (sym c.in-Watching.is)
    (c.show_text.ensures p e f le)
