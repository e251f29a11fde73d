-- What the code's steps and answers mean.
use Rattle.std.specs.Prelude.{ℕ, pos}
use Rattle.values.specs.declared.steps.Step.{Step as StepOf}
use Rattle.values.specs.declared.steps.Step.TheVariants.{Number, Name}
use Rattle.values.specs.declared.steps.Found.{Found}
use Rattle.values.specs.declared.steps.Found.TheVariants.{Record, Size}
use Rattle.values.specs.Value.{Value, whole}
use Rattle.values.specs.Steps.{Step, number, name}

abbrev pub step_of : StepOf → Step
step_of (Number z) = number z
step_of (Name k) = name k.now

-- a record by the value that it stands for, or a count
abbrev pub found_by : (ℕ → Value) → Found → Value
found_by f (Record i) = f i
found_by f (Size n) = whole (pos n)
