-- What values and steps stand for.
use Rattle.std.specs.Prelude.{ℕ, List, pos}
use Rattle.std.specs.Borrow.{Bor}
use Rattle.held.specs.declared.value.Value.{Value}
use Rattle.held.specs.Value.{held_by}
use Rattle.values.specs.declared.steps.Step as code
use Rattle.values.specs.declared.steps.Step.TheVariants.{Number, Name}
use Rattle.tree.specs.Expressions.{Step, index, key}
use Rattle.values.specs.declared.steps.Found.{Found}
use Rattle.values.specs.declared.steps.Found.TheVariants.{Record, Size}
use Rattle.meaning.specs.Things.{Held, whole}
use Rattle.meaning.specs.Hosts.{Host, record_at}

-- the value, with the bytes of its text
abbrev pub held_in : Value (Bor (List ℕ)) → Held
held_in v = held_by (λ t. t.now) v

-- a step as the tree has it
abbrev pub step_into : code.Step → Step
step_into (Number z) = index z
step_into (Name k) = key k.now

-- what a step found, in a tray
abbrev pub found_held : Host → Found → Held
found_held h (Record i) = record_at h i
found_held h (Size n) = whole (pos n)
