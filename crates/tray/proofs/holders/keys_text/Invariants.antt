use Rattle.tray.proofs.Walks.{Keying}
use Rattle.tray.proofs.holders.keys_text.Given as goal

abbrev pub invariant-loop-record : goal.invariant-loop-record
invariant-loop-record l = Keying l.records l.record-index
