-- Steps of a path: from a value to one that it holds, or to how many it holds.
use Rattle.std.specs.Prelude.{ℕ, zero, suc, ◌-◌, cond, List, ℤ, pos, negsuc, Some, None, codes, Option, nat_lt}
use Rattle.numerals.specs.Decimal.{whole_text}
use Rattle.tray.specs.Parts.{same_text}
use Rattle.values.specs.Value.{Value, nil, boolean, whole, text, array, object, Items, none, item, Entries, empty, entry, find}

-- the value of a key of an object; nothing else has keys
abbrev pub member : Value → List ℕ → Option Value
member nil k = None
member (boolean b) k = None
member (whole z) k = None
member (text t) k = None
member (array xs) k = None
member (object es) k = find k es

-- a number, or a name or key
pub data Step : Type 0 where
  number : ℤ → Step
  name : List ℕ → Step

abbrev pub item_count : Items → ℕ
item_count none = 0
item_count (item v vs) = suc (item_count vs)

abbrev pub entry_count : Entries → ℕ
entry_count empty = 0
entry_count (entry k v rest) = suc (entry_count rest)

abbrev pub item_at : Items → ℕ → Option Value
item_at none k = None
item_at (item v vs) zero = Some v
item_at (item v vs) (suc k) = item_at vs k

-- an index from 0, or a negative one from the end
abbrev pub indexed : Items → ℤ → Option Value
indexed xs (pos k) = item_at xs k
indexed xs (negsuc k) = cond (nat_lt k (item_count xs)) (item_at xs (item_count xs - suc k)) None

abbrev pub sized : ℕ → Option Value
sized n = Some (whole (pos n))

-- `first`, `last` and `size` of an array; no other name steps into one
abbrev pub item_named : Items → List ℕ → Option Value
item_named xs k =
    cond (same_text k (codes "first")) (indexed xs (pos 0)) (cond (same_text k (codes "last")) (indexed xs (negsuc 0)) (cond (same_text k (codes "size")) (sized (item_count xs)) None))

abbrev pub or_else : Option Value → Option Value → Option Value
or_else None other = other
or_else (Some v) other = Some v

-- the value of a key of an object, else `size`
abbrev pub keyed : Entries → List ℕ → Option Value
keyed es k = or_else (find k es) (cond (same_text k (codes "size")) (sized (entry_count es)) None)

-- a number steps into an object by its text
abbrev pub step_text : Step → List ℕ
step_text (number z) = whole_text z
step_text (name k) = k

abbrev pub into_items : Items → Step → Option Value
into_items xs (number z) = indexed xs z
into_items xs (name k) = item_named xs k

-- the value that a step from v comes to, if there is one
abbrev pub stepped : Value → Step → Option Value
stepped nil s = None
stepped (boolean b) s = None
stepped (whole z) s = None
stepped (text t) s = None
stepped (array xs) s = into_items xs s
stepped (object es) s = keyed es (step_text s)
