use Rattle.std.proofs.Common.{◌≡◌, ℕ, ◌<◌, ◌≤◌, false, length, slice_index_or}
use Rattle.ticket.specs.Excerpt.{is_end}
use Rattle.ticket.proofs.excerpt.last_line.Given as goal

abbrev pub invariant-loop-from : goal.invariant-loop-from
invariant-loop-from l = record { inside : l.from ≤ length l.text; passed : (k : ℕ) → l.from ≤ k → k < length l.text → is_end (slice_index_or l.text k 0) ≡ false }

abbrev pub decreases-loop-from : goal.decreases-loop-from
decreases-loop-from l = l.from
