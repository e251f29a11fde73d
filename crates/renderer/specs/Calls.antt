-- What the calls on a sheet answer and leave: all of it as the definition has it.
use Rattle.std.specs.Prelude.{◌≡◌, ℕ, ◌≤◌, cond, List, [], ◌∷◌, map, length, take, drop, Some, None, Ok, Err, Option, Result, OnErr}
use Rattle.std.specs.Option.{unwrap_or}
use Rattle.rows.specs.First.{first_from}
use Rattle.tray.specs.Parts.{same_text}
use Rattle.tray.specs.Sound.{reserved}
use Rattle.banks.specs.Meaning.{Meaning}
use Rattle.banks.specs.Operands as operand
use Rattle.sheet.specs.declared.sheet.Sheet as code
use Rattle.sheet.specs.Sheets.{lists, trees_of}
use Rattle.renderer.specs.declared.calls.Datum.{Datum}
use Rattle.renderer.specs.declared.calls.Datum.TheVariants.{Nil, Boolean, Whole, Text}
use Rattle.renderer.specs.declared.calls.Refused.{Refused}
use Rattle.renderer.specs.declared.calls.Refused.TheVariants.{NotPut, NotRendered}
use Rattle.renderer.specs.declared.calls.Faulted.{Faulted}
use Rattle.held.specs.Faults as faults
use Rattle.frames.specs.declared.frame.TrailRecord as code_record
use Rattle.frames.specs.Views.{trail_record_of}
use Rattle.tree.specs.Elements.{Tree}
use Rattle.meaning.specs.Things.{Drawers}
use Rattle.meaning.specs.Hosts.{Host}
use Rattle.meaning.specs.Frames.{Frames, TrailRecord, blank, stands, trail_of, sixteen}
use Rattle.meaning.specs.Acts.{End, gives, stops, Fault, fault_at, step}
use Rattle.meaning.specs.Looking.{World}
use Rattle.meaning.specs.Leaves.{Flow}
use Rattle.meaning.specs.Rendering.{render}
use Rattle.meaning.specs.Calls as meaning

-- the sheet of the definition
abbrev pub sheet_of : code.Sheet → meaning.Sheet
sheet_of s = record { names = (lists s).names; templates = unwrap_or (trees_of s) [] }

abbrev pub number_of : Refused → ℕ
number_of NotPut = 11
number_of NotRendered = 12

abbrev pub datum_of : Datum → operand.Datum
datum_of Nil = operand.nil
datum_of (Boolean b) = operand.boolean b
datum_of (Whole z) = operand.whole z
datum_of (Text t) = operand.text t.now

-- the number of a name among these
abbrev pub named : List (List ℕ) → List ℕ → Option ℕ
named names k = cond (reserved k) None (first_from (same_text k) 0 names)

abbrev pub put_result : Result (Unit {0}) Refused → meaning.Result
put_result (Ok u) = meaning.accepted
put_result (Err r) = meaning.refused (number_of r)

-- the call with its result and the drawers after it, whatever the bank means
abbrev pub PutDone : code.Sheet → List ℕ → operand.Datum → Drawers → Drawers → Result (Unit {0}) Refused → Type 0
PutDone s name v d after r = (bank : Meaning) → meaning.perform (sheet_of s) bank (meaning.put name v) d ≡ (put_result r, after)

-- the records of a trail up to the first blank one
abbrev pub stood : List TrailRecord → List TrailRecord
stood [] = []
stood (blank ∷ ts) = []
stood (stands p v ∷ ts) = stands p v ∷ stood ts

-- the sixteen records of a trail
abbrev pub records_in : List code_record.TrailRecord → List TrailRecord
records_in trail = map trail_record_of (take 16 trail)

-- a fault, with the blocks that the trail names
abbrev pub fault_of : Faulted → List TrailRecord → Fault
fault_of f ts = record { number = faults.number_of f.fault; cause = faults.cause_of f.fault; place = f.place; trail = stood ts }

abbrev pub page_result : Result (Option Faulted) Refused → List ℕ → List TrailRecord → meaning.Result
page_result (Ok None) out ts = meaning.rendered None out ts
page_result (Ok (Some f)) out ts = meaning.rendered (Some (fault_of f ts)) out ts
page_result (Err r) out ts = meaning.refused (number_of r)

-- A call of `render`: its result, the whole buffer, the sixteen records of the trail and the drawers after it are those of the definition.
-- Trail records beyond sixteen are as they were, and a refused call leaves buffer and trail whole as they were.
pub record PageDone (s : code.Sheet) (bank : Meaning) (number : ℕ) (h : Host) (d after : Drawers) (old new : List ℕ) (before trail : List code_record.TrailRecord) (r : Result (Option Faulted) Refused) : Type 0 where
  pub result : meaning.perform (sheet_of s) bank (meaning.page number h (length old) (length before)) d ≡ (page_result r new (records_in trail), after)
  pub buffer : length new ≡ length old
  pub beyond : drop 16 trail ≡ drop 16 before
  pub records : length trail ≡ length before
  pub refused : OnErr r ((new ≡ old) × (trail ≡ before))

-- how a rendering ended: with the template, or by a fault of the element at a place inside some frames, which the trail names
abbrev pub EndedSo : End Flow → Option Faulted → List TrailRecord → Type 0
EndedSo e None ts = (f : Flow) × (e ≡ gives f) × (ts ≡ sixteen [])
EndedSo e (Some k) ts = (fs : Frames) × (length fs ≤ 16) × (e ≡ stops (fault_at (faults.number_of k.fault) (faults.cause_of k.fault) k.place fs)) × (ts ≡ sixteen (trail_of fs))

-- The rendering of a tree from these drawers: it leaves the drawers `after`, the text in the buffer and then zeros, and sixteen trail records; those beyond are as they were.
pub record Rendered (w : World) (t : Tree) (d after : Drawers) (old new : List ℕ) (before trail : List code_record.TrailRecord) (r : Option Faulted) : Type 0 where
  pub text : List ℕ
  pub end : End Flow
  pub did : render w t [] d [] ≡ step after text end
  pub buffer : new ≡ meaning.filled (length old) text
  pub long : length new ≡ length old
  pub ended : EndedSo end r (records_in trail)
  pub beyond : drop 16 trail ≡ drop 16 before
  pub records : length trail ≡ length before
