use Rattle.std.proofs.Common.{sym}
use Rattle.std.proofs.lemmas.List.{take_all}
use Rattle.banks.proofs.operands.Short.bytes.Goals as goal

pub returns-clause-value : goal.returns-clause-value
returns-clause-value c = sym (take_all 256 c.args.self.bytes.now c.args.self.short)
