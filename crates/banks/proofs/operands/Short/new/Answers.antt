use Rattle.std.proofs.Common.{arith}
use Rattle.std.proofs.lemmas.List.{take_all}
use Rattle.banks.proofs.operands.Short.new.Goals as goal

pub returns-then-bytes-le-LONGEST : goal.returns-then-bytes-le-LONGEST
returns-then-bytes-le-LONGEST c = take_all 256 c.args.bytes.now (omega arith)
