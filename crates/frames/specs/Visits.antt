-- The changes of the open frames.
use Rattle.std.specs.Prelude.{◌+◌, Bool, false, List, [], ◌∷◌, nat_lt, cond}
use Rattle.frames.specs.declared.item.Item.{Item}
use Rattle.frames.specs.declared.frame.Frame.{Frame}

-- the frame at its next visit, to an item
abbrev pub visited : Item → Frame → Frame
visited x f = record f { visit = f.visit + 1; item = x }

-- whether a visit is left
abbrev pub has_next : Frame → Bool
has_next f = nat_lt f.visit f.times

-- the innermost frame at its next visit, where one is left
abbrev pub next_visited : Item → List Frame → List Frame
next_visited x [] = []
next_visited x (f ∷ fs) = cond (has_next f) (visited x f) f ∷ fs

-- whether the innermost frame has a visit left
abbrev pub goes_on : List Frame → Bool
goes_on [] = false
goes_on (f ∷ fs) = has_next f
