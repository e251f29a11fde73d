-- The cases are computed in proofs/Worked.antt.
use Rattle.meaning.proofs.Worked.{worked_cases, fault_cases, page_cases, more_cases, object_cases}
use Rattle.meaning.proofs.worked_cases_stand.Goals as goal

pub returns : goal.returns
returns c = record { cases = worked_cases; faults = fault_cases; pages = page_cases; more = more_cases; objects = object_cases }
