use Rattle.std.proofs.Common.{◌≡◌, map, take}
use Rattle.drawers.specs.Shown.{shows}
use Rattle.renderer.specs.Calls.{sheet_of}
use Rattle.renderer.specs.Call.{call_of, result_of}
use Rattle.renderer.proofs.Memory.{Made}
use Rattle.renderer.proofs.Sequence.{Ran}
use Rattle.renderer.proofs.call.run.Given as goal

-- what the calls up to here came to, and that no call is another; and what they left of their memory
abbrev pub invariant-loop-i : goal.invariant-loop-i
invariant-loop-i g l =
    Ran (sheet_of l.fn.sheet) (g.B.Bank.meaning l.fn.bank) (map call_of l.fn.calls) (shows l.fn.drawers) (shows l.drawers) l.i (map result_of (take l.i l.calls))
    × (map call_of l.calls ≡ map call_of l.fn.calls)
    × (g.B.Bank.meaning l.bank ≡ g.B.Bank.meaning l.fn.bank)
    × Made l.i l.fn.calls l.calls
