use Rattle.std.proofs.Common.{ap, ◌∙◌}
use Rattle.sheet.specs.Standing.{pieces_stand}
use Rattle.sheet.specs.Answers.{source_of}
use Rattle.sheet.proofs.Standing.{part_stands}
use Rattle.sheet.proofs.parser.Parser.turn.Goals as goal

pub invariant_of-self : goal.invariant_of-self
invariant_of-self c =
    let p = c.args.self.now in
    record { stand = ap (pieces_stand (source_of p)) c.at-self.ensures.cuts ∙ part_stands c.at-self.ensures.right (source_of p) c.args.from c.args.to }
