-- What outlives a ticket: things, and the drawers that hold what each of them has.
use Rattle.std.specs.Prelude.{ℕ, Bool, true, false, cond, List, [], ℤ, Some, None, Option, ◌==◌}

-- A name of the sheet, a cycle name of the sheet (both by number), and the changed text.
pub data Thing : Type 0 where
  name : ℕ → Thing
  cycle_name : ℕ → Thing
  changed : Thing
  deriving Discrete as Thing-discrete

-- A value that can be kept: an array or object by the number of its record, a pair by that of its key's record.
pub data Held : Type 0 where
  nil : Held
  boolean : Bool → Held
  whole : ℤ → Held
  text : List ℕ → Held
  array : ℕ → Held
  object : ℕ → Held
  pair : ℕ → Held

-- What a drawer holds. Only a name uses the variable and the counter, only a cycle name the position, and only the changed text the last.
pub record Content : Type 0 where
  pub variable : Option Held
  pub counter : Option ℤ
  pub position : ℕ
  pub shown : List ℕ

abbrev pub Drawers : Type 0
Drawers = Thing → Content

abbrev pub unset : Drawers
unset t = record { variable = None; counter = None; position = 0; shown = [] }

abbrev pub same_thing : Thing → Thing → Bool
same_thing (name n) (name m) = n == m
same_thing (name n) (cycle_name m) = false
same_thing (name n) changed = false
same_thing (cycle_name n) (name m) = false
same_thing (cycle_name n) (cycle_name m) = n == m
same_thing (cycle_name n) changed = false
same_thing changed (name m) = false
same_thing changed (cycle_name m) = false
same_thing changed changed = true

-- the drawers with `f` done to what `t` holds
abbrev pub altered : Thing → (Content → Content) → Drawers → Drawers
altered t f d u = cond (same_thing t u) (f (d u)) (d u)

-- the ways in which a thing is changed
abbrev pub with_variable : Held → Content → Content
with_variable v c = record { variable = Some v; counter = c.counter; position = c.position; shown = c.shown }

abbrev pub with_counter : ℤ → Content → Content
with_counter z c = record { variable = c.variable; counter = Some z; position = c.position; shown = c.shown }

abbrev pub with_position : ℕ → Content → Content
with_position p c = record { variable = c.variable; counter = c.counter; position = p; shown = c.shown }

abbrev pub with_shown : List ℕ → Content → Content
with_shown t c = record { variable = c.variable; counter = c.counter; position = c.position; shown = t }
