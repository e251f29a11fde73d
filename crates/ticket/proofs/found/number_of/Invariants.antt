use Rattle.std.proofs.Common.{◌≡◌, ◌<◌, ◌≤◌, ℕ, Some, length, true}
use Rattle.std.specs.List.{slice_get}
use Rattle.tray.specs.Parts.{same_text}
use Rattle.ticket.specs.Found.{Lent, name_of}
use Rattle.ticket.proofs.found.number_of.Given as goal

abbrev pub invariant-loop-i : goal.invariant-loop-i
invariant-loop-i l = record { within : l.number ≤ length l.templates; named : (t : Lent) → slice_get l.templates l.number ≡ Some t → same_text (name_of t) l.name ≡ true; last : (k : ℕ) (t : Lent) → k < l.i → slice_get l.templates k ≡ Some t → same_text (name_of t) l.name ≡ true → (k ≤ l.number) × (l.number < length l.templates) }
