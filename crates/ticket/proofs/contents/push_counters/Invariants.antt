use Rattle.std.proofs.Common.{◌≡◌, ◌++◌, vec_items}
use Rattle.std.specs.List.{flat_map, range_with_len}
use Rattle.drawers.specs.Shown.{shows}
use Rattle.sheet.specs.Sheets.{lists}
use Rattle.ticket.specs.Contents.{counter_at}
use Rattle.ticket.proofs.contents.push_counters.Given as goal

abbrev pub invariant-loop-n : goal.invariant-loop-n
invariant-loop-n l = vec_items l.lines ≡ vec_items l.initial.lines ++ flat_map (counter_at (lists l.sheet) (shows l.drawers)) (range_with_len 0 l.n)
