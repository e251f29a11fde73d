use Rattle.std.proofs.Common.{ℕ, ◌+◌, ◌*◌}
use Rattle.sheet.specs.Steps.{pieces}
use Rattle.sheet.specs.Answers.{cut_of}
use Rattle.sheet.proofs.Walking.{Walking}
use Rattle.sheet.proofs.parser.Parser.+walk.Given as goal

abbrev pub decreases-elements : goal.decreases-elements
decreases-elements l = 8 * pieces (cut_of l.self.now)

abbrev pub decreases-inner : goal.decreases-inner
decreases-inner l = 8 * pieces (cut_of l.self.now) + 1

abbrev pub decreases-arm : goal.decreases-arm
decreases-arm l = 8 * pieces (cut_of l.self.now) + 2

abbrev pub decreases-rest : goal.decreases-rest
decreases-rest l = 8 * pieces (cut_of l.self.now) + 3

abbrev pub decreases-block : goal.decreases-block
decreases-block l = 8 * pieces (cut_of l.self.now) + 4

abbrev pub decreases-tag : goal.decreases-tag
decreases-tag l = 8 * pieces (cut_of l.self.now) + 5

abbrev pub decreases-mark : goal.decreases-mark
decreases-mark l = 8 * pieces (cut_of l.self.now) + 6

abbrev pub decreases-element : goal.decreases-element
decreases-element l = 8 * pieces (cut_of l.self.now) + 7

abbrev pub invariant-elements-loop-piece : goal.invariant-elements-loop-piece
invariant-elements-loop-piece l = Walking l.fn.room l.fn.self l.self

abbrev pub decreases-elements-loop-piece : goal.decreases-elements-loop-piece
decreases-elements-loop-piece l = pieces (cut_of l.self)
