use Rattle.std.proofs.Common.{Ok, Err, refl, arith}
use Rattle.std.proofs.lemmas.Grind.{common_steps}
use Rattle.pages.proofs.Emitted.{emits}
use Rattle.pages.proofs.write.write_record.Goals as goal

pub returns-in_default : goal.returns-in_default
returns-in_default c = emits (Err _) (record { why = refl; short = grind (arith, common_steps); same = grind (arith, common_steps) })

pub returns : goal.returns
returns c = emits (Ok _) (record { room = grind (arith, common_steps); laid = record { long = grind (arith, common_steps); holds = grind (arith, common_steps) } })
