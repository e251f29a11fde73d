use Rattle.std.proofs.Common.{◌≡◌, ℕ, ◌-◌, ◌<◌, ◌≤◌, false, length, slice_index_or}
use Rattle.ticket.specs.Excerpt.{is_end}
use Rattle.ticket.proofs.excerpt.first_line.Given as goal

abbrev pub invariant-loop-to : goal.invariant-loop-to
invariant-loop-to l = record { inside : l.to ≤ length l.text; passed : (k : ℕ) → k < l.to → is_end (slice_index_or l.text k 0) ≡ false }

abbrev pub decreases-loop-to : goal.decreases-loop-to
decreases-loop-to l = length l.text - l.to
