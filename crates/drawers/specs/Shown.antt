-- What drawers hold, thing by thing.
use Rattle.std.specs.Prelude.{ℕ, [], None, Option, vec_items, slice_index_or}
use Rattle.std.specs.Option.{option_map, unwrap_or}
use Rattle.held.specs.Value.{held_by}
use Rattle.drawers.specs.declared.drawer.Drawer.{Drawer}
use Rattle.arrayvec.specs.ArrayVec.{ArrayVec}
use Rattle.held.specs.declared.value.Value.{Value}
use Rattle.drawers.specs.declared.things.Drawers as code
use Rattle.meaning.specs.Things.{name, cycle_name, changed, Held, Drawers}

-- the value that is kept
abbrev pub held_of : Value (ArrayVec ℕ) → Held
held_of v = held_by (λ t. t.items) v

-- what is at a place of a drawer
abbrev pub at : {T : Type 0} → Drawer T → ℕ → Option T
at d n = slice_index_or (vec_items d.slots) n None

-- the drawers of the definition
abbrev pub shows : code.Drawers → Drawers
shows d (name n) = record { variable = option_map held_of (at d.variables n); counter = at d.counters n; position = 0; shown = [] }
shows d (cycle_name n) = record { variable = None; counter = None; position = unwrap_or (at d.positions n) 0; shown = [] }
shows d changed = record { variable = None; counter = None; position = 0; shown = d.changed.items }
