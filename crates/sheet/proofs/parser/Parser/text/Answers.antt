use Rattle.std.proofs.Common.{refl}
use Rattle.cutter.specs.Words.{over}
use Rattle.tree.specs.Elements.{plain}
use Rattle.sheet.specs.Parsing.{a_text}
use Rattle.sheet.proofs.Leaving.{text_did}
use Rattle.sheet.proofs.parser.Parser.text.Goals as goal

pub returns-clause-says : goal.returns-clause-says
unfolding a_text
returns-clause-says c = text_did c.read_text.result c.args.text.place (plain c.args.text.bytes.now) over c.args.self.now _ c.read_text.ensures.says refl
