use Rattle.std.proofs.Common.{sym, ◌∙◌}
use Rattle.cutter.proofs.Steps.{closes}
use Rattle.cutter.proofs.pieces.Cutter.next.Goals as goal

pub returns-in-Closes : goal.returns-in-Closes
returns-in-Closes c =
    let (within, byte) = c.in-Some.ensures.lookup.3 in
    sym c.loop-b.invariant ∙ closes _ _ _ _ _ _ c.loop-b.self.placed within (byte 0) _ c.in-Closes.ensures
