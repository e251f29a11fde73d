use Rattle.std.proofs.Common.{◌≤◌, length, vec_len}
use Rattle.ticket.proofs.cursor.Cursor.text.Given as goal

abbrev pub invariant-loop-self : goal.invariant-loop-self
invariant-loop-self l = (length l.self.rest.now ≤ length l.initial.self.rest.now) × (vec_len l.initial.texts ≤ vec_len l.texts)

abbrev pub decreases-loop-self : goal.decreases-loop-self
decreases-loop-self l = length l.self.rest.now
