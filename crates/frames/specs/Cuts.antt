-- What a fault leaves of the text.
use Rattle.std.specs.Prelude.{ℕ, List, [], ◌∷◌, take}
use Rattle.frames.specs.declared.frame.Manner as code_manner
use Rattle.frames.specs.declared.frame.Manner.TheVariants.{Once, Each, Cells, Keeping, Watching}
use Rattle.frames.specs.declared.frame.Frame.{Frame}

-- An open block that keeps its text, or watches it, gives none: of the text `o`, what stood before is left.
abbrev pub trimmed : code_manner.Manner → ℕ → List ℕ → List ℕ
trimmed Once mark o = o
trimmed (Each v n) mark o = o
trimmed (Cells v n k) mark o = o
trimmed (Keeping t) mark o = take mark o
trimmed Watching mark o = take mark o

-- the same for each of the open frames
abbrev pub cutback : List Frame → List ℕ → List ℕ
cutback [] o = o
cutback (f ∷ fs) o = cutback fs (trimmed f.manner f.mark o)
