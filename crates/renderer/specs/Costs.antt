-- How many steps a rendering has left at most, whatever its nodes are.
use Rattle.std.specs.Prelude.{ℕ, suc, ◌+◌, ◌-◌, ◌*◌, ◌^◌, List, [], ◌∷◌, length}
use Rattle.frames.specs.declared.frame.Frame.{Frame}
use Rattle.renderer.specs.declared.machine.Mode.{Mode}
use Rattle.renderer.specs.declared.machine.Mode.TheVariants.{Elements, Ended, Between, Closing}

-- the steps that are set aside for a node with so many open frames around: those for all visits of a block inside are fewer
abbrev pub weight : ℕ → ℕ
weight around = 2 ^ (20 * (16 - around))

-- those for the nodes from `at` up to e
abbrev pub list_cost : ℕ → ℕ → ℕ → ℕ
list_cost around at e = (e - at) * weight around

-- those for the visits of a frame to come, and for the elements behind its block
abbrev pub frame_cost : ℕ → Frame → ℕ
frame_cost around f = (f.times - f.visit) * (list_cost (suc around) f.body f.end + 5) + list_cost around f.next f.outer + 4

abbrev pub frames_cost : List Frame → ℕ
frames_cost [] = 0
frames_cost (f ∷ fs) = frame_cost (length fs) f + frames_cost fs

abbrev pub mode_cost : Mode → ℕ → ℕ
mode_cost Elements n = n + 3
mode_cost (Ended r) n = 2
mode_cost Between n = 1
mode_cost (Closing r) n = 0

abbrev pub cost : Mode → ℕ → ℕ → List Frame → ℕ
cost m at e fs = mode_cost m (list_cost (length fs) at e) + frames_cost fs
