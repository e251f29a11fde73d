-- Calls with the memory that their results are left in.
use Rattle.std.specs.Prelude.{◌≡◌, List, [], ◌∷◌, drop, length, OnErr}
use Rattle.held.specs.Scenes.{host_of}
use Rattle.renderer.specs.declared.call.Call as code
use Rattle.renderer.specs.declared.call.Call.TheVariants.{Put, Render}
use Rattle.renderer.specs.declared.call.Putting.{Putting}
use Rattle.renderer.specs.declared.call.Page.{Page}
use Rattle.renderer.specs.Calls.{datum_of, put_result, page_result, records_in}
use Rattle.meaning.specs.Calls.{Call, put, page, Result}

abbrev pub putting_call : Putting → Call
putting_call p = put p.name.now (datum_of p.datum)

abbrev pub putting_result : Putting → Result
putting_result p = put_result p.answer

abbrev pub page_call : Page → Call
page_call p = page p.number (host_of p.tray.now) (length p.buffer.items) (length p.trail.items)

abbrev pub page_answer : Page → Result
page_answer p = page_result p.answer p.buffer.items (records_in p.trail.items)

-- the call
abbrev pub call_of : code.Call → Call
call_of (Put p) = putting_call p
call_of (Render p) = page_call p

-- its result, once it is made
abbrev pub result_of : code.Call → Result
result_of (Put p) = putting_result p
result_of (Render p) = page_answer p

-- What a result does not say of the memory of a call of `render`: trail records beyond sixteen are as they were, and where it is refused, buffer and trail are whole as they were.
pub record LeavesPage (old new : Page) : Type 0 where
  pub beyond : drop 16 new.trail.items ≡ drop 16 old.trail.items
  pub refused : OnErr new.answer ((new.buffer.items ≡ old.buffer.items) × (new.trail.items ≡ old.trail.items))

abbrev pub Leaves : code.Call → code.Call → Type 0
Leaves (Put p) (Put q) = Unit {0}
Leaves (Put p) (Render q) = ⊥
Leaves (Render p) (Put q) = ⊥
Leaves (Render p) (Render q) = LeavesPage p q

-- the same of each call of a list
abbrev pub EachLeaves : List code.Call → List code.Call → Type 0
EachLeaves [] [] = Unit {0}
EachLeaves [] (d ∷ ds) = ⊥
EachLeaves (c ∷ cs) [] = ⊥
EachLeaves (c ∷ cs) (d ∷ ds) = Leaves c d × EachLeaves cs ds
