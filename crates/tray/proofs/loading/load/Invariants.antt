use Rattle.std.proofs.Common.{◌-◌, ◌≤◌, vec_items, vec_len}
use Rattle.tray.specs.Decode.{decoded}
use Rattle.tray.proofs.Decodes.{Loading}
use Rattle.tray.proofs.loading.load.Given as goal

-- what is left gives the rest of the records
abbrev pub invariant-loop-left : goal.invariant-loop-left
invariant-loop-left l = (vec_len l.records ≤ l.most) × Loading (decoded l.most l.room l.bytes) (vec_items l.records) (l.most - vec_len l.records) l.room l.left

abbrev pub decreases-loop-left : goal.decreases-loop-left
decreases-loop-left l = l.most - vec_len l.records
