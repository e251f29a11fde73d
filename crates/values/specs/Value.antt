-- Host values as trees, when two are equal, and the text of one.
use Rattle.std.specs.Prelude.{ℕ, Bool, true, false, cond, not, ◌&&◌, ◌||◌, List, [], ◌++◌, ℤ, pos, negsuc, is_some, Some, None, codes, Option, ◌==◌}
use Rattle.numerals.specs.Decimal.{whole_text}
use Rattle.tray.specs.Parts.{same_text}

mutual
  pub data Value : Type 0 where
    nil : Value
    boolean : Bool → Value
    whole : ℤ → Value
    text : List ℕ → Value
    array : Items → Value
    object : Entries → Value

  -- the items of an array, in order
  pub data Items : Type 0 where
    none : Items
    item : Value → Items → Items

  -- the entries of an object, each a key and its value, in order
  pub data Entries : Type 0 where
    empty : Entries
    entry : List ℕ → Value → Entries → Entries

-- the value of the first entry with the key
abbrev pub find : List ℕ → Entries → Option Value
find k empty = None
find k (entry q v rest) = cond (same_text k q) (Some v) (find k rest)

-- an entry behind all others
abbrev pub put : Entries → List ℕ → Value → Entries
put empty k v = entry k v empty
put (entry q w rest) k v = entry q w (put rest k v)

-- each key of the first is one of the second
abbrev pub within : Entries → Entries → Bool
within empty fs = true
within (entry k v rest) fs = is_some (find k fs) && within rest fs

abbrev pub same_boolean : Bool → Bool → Bool
same_boolean true b = b
same_boolean false b = not b

abbrev pub same_whole : ℤ → ℤ → Bool
same_whole (pos a) (pos b) = a == b
same_whole (pos a) (negsuc b) = false
same_whole (negsuc a) (pos b) = false
same_whole (negsuc a) (negsuc b) = a == b

abbrev pub is_nil : Value → Bool
is_nil nil = true
is_nil (boolean b) = false
is_nil (whole z) = false
is_nil (text t) = false
is_nil (array xs) = false
is_nil (object es) = false

abbrev pub is_boolean : Bool → Value → Bool
is_boolean c nil = false
is_boolean c (boolean b) = same_boolean c b
is_boolean c (whole z) = false
is_boolean c (text t) = false
is_boolean c (array xs) = false
is_boolean c (object es) = false

abbrev pub is_whole : ℤ → Value → Bool
is_whole y nil = false
is_whole y (boolean b) = false
is_whole y (whole z) = same_whole y z
is_whole y (text t) = false
is_whole y (array xs) = false
is_whole y (object es) = false

abbrev pub is_text : List ℕ → Value → Bool
is_text s nil = false
is_text s (boolean b) = false
is_text s (whole z) = false
is_text s (text t) = same_text s t
is_text s (array xs) = false
is_text s (object es) = false

abbrev pub is_array : (Items → Bool) → Value → Bool
is_array p nil = false
is_array p (boolean b) = false
is_array p (whole z) = false
is_array p (text t) = false
is_array p (array xs) = p xs
is_array p (object es) = false

abbrev pub is_object : (Entries → Bool) → Value → Bool
is_object p nil = false
is_object p (boolean b) = false
is_object p (whole z) = false
is_object p (text t) = false
is_object p (array xs) = false
is_object p (object es) = p es

abbrev pub found : Option Value → (Value → Bool) → Bool
found None p = false
found (Some v) p = p v

abbrev pub head_of : Items → (Value → Items → Bool) → Bool
head_of none p = false
head_of (item v vs) p = p v vs

abbrev pub is_none : Items → Bool
is_none none = true
is_none (item v vs) = false

-- Values of different kinds are unequal; arrays compare in order;
-- objects are equal when each key of either finds equal values in both.
abbrev mutual
  pub equal : Value → Value → Bool
  equal nil w = is_nil w
  equal (boolean b) w = is_boolean b w
  equal (whole z) w = is_whole z w
  equal (text t) w = is_text t w
  equal (array xs) w = is_array (λ ys. equal_items xs ys) w
  equal (object es) w = is_object (λ fs. agrees es empty fs && within fs es) w

  pub equal_items : Items → Items → Bool
  equal_items none ys = is_none ys
  equal_items (item v vs) ys = head_of ys (λ w ws. equal v w && equal_items vs ws)

  -- each entry that no key in `done` hides finds an equal value
  pub agrees : Entries → Entries → Entries → Bool
  agrees empty done fs = true
  agrees (entry k v rest) done fs = (is_some (find k done) || found (find k fs) (λ w. equal v w)) && agrees rest (put done k v) fs

-- the text of a value
abbrev mutual
  pub written : Value → List ℕ
  written nil = []
  written (boolean b) = cond b (codes "true") (codes "false")
  written (whole z) = whole_text z
  written (text t) = t
  written (array xs) = written_items xs
  written (object es) = written_entries es

  pub written_items : Items → List ℕ
  written_items none = []
  written_items (item v vs) = written v ++ written_items vs

  pub written_entries : Entries → List ℕ
  written_entries empty = []
  written_entries (entry k v rest) = k ++ (written v ++ written_entries rest)
