-- What values with their texts stand for.
use Rattle.std.specs.Prelude.{ℕ, List}
use Rattle.held.specs.declared.value.Value.{Value}
use Rattle.held.specs.declared.value.Value.TheVariants.{Nil, Boolean, Whole, Text, Array, Object, Pair}
use Rattle.meaning.specs.Things.{Held, nil, boolean, whole, text, array, object, pair}

-- the value, with the bytes of its text
abbrev pub held_by : {T : Type 0} → (T → List ℕ) → Value T → Held
held_by bytes Nil = nil
held_by bytes (Boolean b) = boolean b
held_by bytes (Whole z) = whole z
held_by bytes (Text t) = text (bytes t)
held_by bytes (Array i) = array i
held_by bytes (Object i) = object i
held_by bytes (Pair i) = pair i
