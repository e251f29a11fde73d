use Rattle.std.proofs.Common.{◌≡◌, ℕ, ◌<◌, ◌≤◌, true, length, slice_index_or}
use Rattle.ticket.specs.Calls.{is_zero}
use Rattle.ticket.proofs.calls.text_in.Given as goal

abbrev pub invariant-loop-to : goal.invariant-loop-to
invariant-loop-to l = record { inside : l.to ≤ length l.buffer; passed : (k : ℕ) → l.to ≤ k → k < length l.buffer → is_zero (slice_index_or l.buffer k 0) ≡ true }

abbrev pub decreases-loop-to : goal.decreases-loop-to
decreases-loop-to l = l.to
