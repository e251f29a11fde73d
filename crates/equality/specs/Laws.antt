-- Laws of equality, in the words of a reader.
use Rattle.std.specs.Prelude.{◌≡◌, ℕ, true, List, Some, None, Decides, Option}
use Rattle.values.specs.Value.{Value, object, Entries, find, equal}

abbrev pub Agreed : Option Value → Option Value → Type 0
Agreed None None = Unit {0}
Agreed None (Some w) = ⊥
Agreed (Some v) None = ⊥
Agreed (Some v) (Some w) = equal v w ≡ true

-- objects are equal exactly when every key of either finds equal values in both
abbrev pub ObjectsAgree : Type 0
ObjectsAgree = (es fs : Entries) → Decides (equal (object es) (object fs)) ((k : List ℕ) → Agreed (find k es) (find k fs))

-- every value equals itself
abbrev pub EqualsItself : Type 0
EqualsItself = (v : Value) → equal v v ≡ true

-- it does not matter which of two values is asked
abbrev pub EqualEitherWay : Type 0
EqualEitherWay = (v w : Value) → equal v w ≡ equal w v
