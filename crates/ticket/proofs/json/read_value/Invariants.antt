use Rattle.std.proofs.Common.{length}
use Rattle.ticket.proofs.json.read_value.Given as goal

abbrev pub decreases-loop-want : goal.decreases-loop-want
decreases-loop-want l = length l.cursor.rest.now
