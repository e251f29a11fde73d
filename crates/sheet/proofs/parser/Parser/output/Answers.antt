use Rattle.tags.specs.Leaves.{output_of}
use Rattle.std.proofs.Common.{refl}
use Rattle.sheet.specs.Parsing.{an_output}
use Rattle.sheet.proofs.Leaving.{leaf_did}
use Rattle.sheet.proofs.parser.Parser.output.Goals as goal

pub returns-clause-says : goal.returns-clause-says
unfolding an_output
returns-clause-says c = leaf_did c.read_output.result c.args.self.now.reader.mark (output_of c.args.self.now.reader.mark) c.args.self.now _ c.read_output.ensures.says refl
