-- What faults stand for, and how a result stands for the end of an act.
use Rattle.std.specs.Prelude.{ℕ, List, Some, None, Ok, Err, codes, Option, Result}
use Rattle.banks.specs.Causes as causes
use Rattle.held.specs.declared.faults.Fault.{Fault}
use Rattle.held.specs.declared.faults.Fault.TheVariants.{Absent, NoNumber, NoRow, NoColumn, PastValues, NoValues, LongRange, FullCounter, InNil, LoopObject, TooLong, Filter, NoRoom}
use Rattle.meaning.specs.Frames.{Frames}
use Rattle.meaning.specs.Acts.{End, gives, stops, fault_at}

abbrev pub number_of : Fault → ℕ
number_of Absent = 21
number_of NoNumber = 22
number_of NoRow = 23
number_of NoColumn = 24
number_of PastValues = 25
number_of NoValues = 26
number_of LongRange = 27
number_of FullCounter = 28
number_of InNil = 29
number_of LoopObject = 30
number_of TooLong = 31
number_of (Filter c) = 32
number_of NoRoom = 33

-- a filter's cause, by its number
abbrev pub cause_of : Fault → Option ℕ
cause_of Absent = None
cause_of NoNumber = None
cause_of NoRow = None
cause_of NoColumn = None
cause_of PastValues = None
cause_of NoValues = None
cause_of LongRange = None
cause_of FullCounter = None
cause_of InNil = None
cause_of LoopObject = None
cause_of TooLong = None
cause_of (Filter c) = Some (causes.number_of c)
cause_of NoRoom = None

-- the end of an act of the element at place `p` inside the frames `e`: what `f` makes of an answer, or a fault
abbrev pub ended : {A B : Type 0} → (A → B) → Result A Fault → ℕ → Frames → End B
ended f (Ok x) p e = gives (f x)
ended f (Err k) p e = stops (fault_at (number_of k) (cause_of k) p e)

abbrev pub words_of : Fault → List ℕ
words_of Absent = codes "a name or a step is not there"
words_of NoNumber = codes "no whole number"
words_of NoRow = codes "nothing that a loop can go over"
words_of NoColumn = codes "a table with items has no column"
words_of PastValues = codes "the cycle has fewer values than its position"
words_of NoValues = codes "the cycle has no values"
words_of LongRange = codes "a range of more than 4,096 numbers"
words_of FullCounter = codes "the counter would leave 64 bits"
words_of InNil = codes "nothing can be in nil"
words_of LoopObject = codes "a loop object is no value"
words_of TooLong = codes "a text is too long to be kept or sought"
words_of (Filter c) = codes "a filter gives no value"
words_of NoRoom = codes "the buffer has no room for a piece of text"
