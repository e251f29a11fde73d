use Rattle.std.proofs.Common.{◌++◌, ◌∙◌, ap, reverse, drop}
use Rattle.frames.specs.Trails.{trail_for}
use Rattle.frames.specs.Views.{open_in}
use Rattle.frames.proofs.Trails.{written_means}
use Rattle.frames.proofs.stack.Frames.write_trail.Goals as goal

pub returns-clause-means : goal.returns-clause-means
returns-clause-means c = λ l h. (
    let old = c.args.trail.now in
    written_means h (open_in c.args.self.now) old c.write_records.new.trail
    (c.write_records.ensures.written l ∙ ap (λ fs. trail_for (reverse fs) ++ drop 16 old) c.open_frames.ensures))
