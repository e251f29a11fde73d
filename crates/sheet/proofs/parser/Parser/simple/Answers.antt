use Rattle.sheet.specs.Blocks.{leaf_tag}
use Rattle.std.proofs.Common.{refl}
use Rattle.sheet.specs.Parsing.{a_simple}
use Rattle.sheet.proofs.Leaving.{leaf_did}
use Rattle.sheet.proofs.parser.Parser.simple.Goals as goal

pub returns-clause-says : goal.returns-clause-says
unfolding a_simple
returns-clause-says c = leaf_did c.read_simple.result c.args.self.now.reader.mark (leaf_tag c.args.kind c.args.self.now.reader.mark) c.args.self.now _ c.read_simple.ensures.says refl
