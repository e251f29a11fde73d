use Rattle.tray.proofs.Walks.{Walked}
use Rattle.tray.proofs.holders.held_once.Given as goal

abbrev pub invariant-loop-h : goal.invariant-loop-h
invariant-loop-h l = Walked l.records l.h l.held
