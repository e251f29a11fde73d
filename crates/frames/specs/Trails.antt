-- The trail of a fault, in the code's records.
use Rattle.std.specs.Prelude.{ℕ, List, ◌++◌, map, take, replicate}
use Rattle.frames.specs.declared.frame.Manner as code_manner
use Rattle.frames.specs.declared.frame.Manner.TheVariants.{Once, Each, Cells, Keeping, Watching}
use Rattle.frames.specs.declared.frame.Frame as code_frame
use Rattle.frames.specs.declared.frame.TrailRecord.{TrailRecord}
use Rattle.frames.specs.declared.frame.TrailRecord.TheVariants.{Blank, Stands}

-- only the visits of loops are counted
abbrev pub counted : code_manner.Manner → ℕ → ℕ
counted Once v = 0
counted (Each x n) v = v
counted (Cells x n k) v = v
counted (Keeping t) v = 0
counted Watching v = 0

abbrev pub record_for : code_frame.Frame → TrailRecord
record_for f = Stands f.place (counted f.manner f.visit)

-- sixteen records: those of the frames, the innermost first, the rest blank
abbrev pub trail_for : List code_frame.Frame → List TrailRecord
trail_for fs = take 16 (map record_for fs ++ replicate 16 Blank)
