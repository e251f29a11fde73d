-- What is printed of calls.
use Rattle.std.specs.Prelude.{ℕ, ◌-◌, Bool, List, [], ◌∷◌, ◌++◌, length, map, take, drop, codes, Option, Some, None, Result, Ok, Err, ◌==◌}
use Rattle.std.specs.Fmt.{decimal}
use Rattle.std.specs.List.{flat_map, suffix_len}
use Rattle.frames.specs.declared.frame.TrailRecord.{TrailRecord}
use Rattle.frames.specs.declared.frame.TrailRecord.TheVariants.{Blank, Stands}
use Rattle.held.specs.declared.faults.Fault.{Fault}
use Rattle.held.specs.Faults as faults
use Rattle.renderer.specs.declared.call.Call.{Call}
use Rattle.renderer.specs.declared.call.Call.TheVariants.{Put, Render}
use Rattle.renderer.specs.declared.call.Page.{Page}
use Rattle.renderer.specs.declared.calls.Faulted.{Faulted}
use Rattle.renderer.specs.declared.calls.Refused.{Refused}
use Rattle.renderer.specs.Calls.{number_of}
use Rattle.ticket.specs.declared.calls.Asked.{Asked}
use Rattle.ticket.specs.Excerpt.{plain, place_words}
use Rattle.ticket.specs.Quote.{quoted}

abbrev pub is_zero : ℕ → Bool
is_zero b = b == 0

-- all but the zeros at the end
abbrev pub text_in : List ℕ → List ℕ
text_in buffer = take (length buffer - suffix_len is_zero buffer) buffer

abbrev pub refused_words : Refused → List ℕ
refused_words r = codes " refused " ++ (decimal (number_of r) ++ (10 ∷ []))

abbrev pub put_words : Result (Unit {0}) Refused → List ℕ
put_words (Ok u) = codes " ok" ++ (10 ∷ [])
put_words (Err r) = refused_words r

-- behind a point
abbrev pub cause_words : Option ℕ → List ℕ
cause_words None = []
cause_words (Some n) = 46 ∷ decimal n

-- the number of a fault, and of a filter's its cause
abbrev pub number_words : Fault → List ℕ
number_words k = codes " fault " ++ (decimal (faults.number_of k) ++ cause_words (faults.cause_of k))

-- behind a comma, the place of a block and the number of a visit, in a template that begins at `from`
abbrev pub block_mark : ℕ → TrailRecord → List ℕ
block_mark from Blank = []
block_mark from (Stands place visit) = 44 ∷ (decimal (place - from) ++ (58 ∷ decimal visit))

-- with no comma before the first
abbrev pub trail_words : ℕ → List TrailRecord → List ℕ
trail_words from trail = drop 1 (flat_map (block_mark from) trail)

-- a place and the blocks around it, counted from the beginning of the template
abbrev pub where_words : Asked → ℕ → List TrailRecord → List ℕ
where_words a place trail = place_words (place - a.place) a.text.now ++ (codes " trail=[" ++ (trail_words a.place trail ++ (codes "]" ++ (10 ∷ []))))

-- a fault behind some text
abbrev pub fault_words : Asked → List ℕ → List TrailRecord → Faulted → List ℕ
fault_words a text trail f = number_words f.fault ++ (codes " text=" ++ (quoted text ++ where_words a f.place trail))

abbrev pub ended_words : Asked → List ℕ → List TrailRecord → Result (Option Faulted) Refused → List ℕ
ended_words a text trail (Ok None) = codes " ok text=" ++ (quoted text ++ (10 ∷ []))
ended_words a text trail (Ok (Some f)) = fault_words a text trail f
ended_words a text trail (Err r) = refused_words r

abbrev pub page_words : Asked → Page → List ℕ
page_words a p = ended_words a (text_in p.buffer.items) p.trail.items p.answer

-- a call with its result; of one that renders a template, this was asked for
abbrev pub call_line : Asked → Call → List ℕ
call_line a (Put p) = codes "put " ++ (map plain p.name.now ++ put_words p.answer)
call_line a (Render p) = codes "render " ++ (map plain a.name.now ++ page_words a p)
