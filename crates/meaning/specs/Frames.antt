-- The open blocks around an element: they bind loop variables and loop objects, and they are the trail of a fault.
use Rattle.std.specs.Prelude.{ℕ, ◌+◌, ◌-◌, ◌/◌, ◌%◌, Bool, false, cond, ◌||◌, List, [], ◌∷◌, ◌++◌, map, take, replicate, ℤ, pos, negsuc, Some, None, codes, Option, ◌==◌}
use Rattle.tray.specs.Parts.{same_text}
use Rattle.meaning.specs.Things.{Held, nil, boolean, whole}

-- How the arm of a block that was taken is visited: once; once for each of `count` items; the same as cells of a table;
-- once, with its text kept as a variable; once, with its text shown where it has changed.
pub data Manner : Type 0 where
  once : Manner
  each : (variable count : ℕ) → Manner
  cells : (variable count : ℕ) (cols : ℤ) → Manner
  keeping : (target : ℕ) → Manner
  watching : Manner

-- A visit that is under way: the place of its block, its number from 1, and the item.
pub record Frame : Type 0 where
  pub place : ℕ
  pub manner : Manner
  pub visit : ℕ
  pub item : Held

-- the visits around an element, the innermost first
abbrev pub Frames : Type 0
Frames = List Frame

-- the visit's index from 0
abbrev pub index_of : Frame → ℕ
index_of f = f.visit - 1

abbrev pub binding : Manner → Held → ℕ → Option Held → Option Held
binding once x n outer = outer
binding (each v c) x n outer = cond (v == n) (Some x) outer
binding (cells v c k) x n outer = cond (v == n) (Some x) outer
binding (keeping t) x n outer = outer
binding watching x n outer = outer

-- the item of the innermost loop with that variable
abbrev pub bound : Frames → ℕ → Option Held
bound [] n = None
bound (f ∷ fs) n = binding f.manner f.item n (bound fs n)

-- A loop object: that of visit `i`, from 0, of `n`, of a `for` inside other frames, or of a table.
pub data LoopObject : Type 0 where
  of_for : (n i : ℕ) (around : Frames) → LoopObject
  of_table : (n i : ℕ) (cols : ℤ) → LoopObject

abbrev pub for_at : Manner → ℕ → Frames → Option LoopObject → Option LoopObject
for_at once i fs outer = outer
for_at (each v n) i fs outer = Some (of_for n i fs)
for_at (cells v n k) i fs outer = outer
for_at (keeping t) i fs outer = outer
for_at watching i fs outer = outer

-- the object of the nearest `for`; tables are passed over
abbrev pub nearest_for : Frames → Option LoopObject
nearest_for [] = None
nearest_for (f ∷ fs) = for_at f.manner (index_of f) fs (nearest_for fs)

abbrev pub table_at : Manner → ℕ → Option LoopObject → Option LoopObject
table_at once i outer = outer
table_at (each v n) i outer = outer
table_at (cells v n k) i outer = Some (of_table n i k)
table_at (keeping t) i outer = outer
table_at watching i outer = outer

-- the object of the nearest `tablerow`; `for`s are passed over
abbrev pub nearest_table : Frames → Option LoopObject
nearest_table [] = None
nearest_table (f ∷ fs) = table_at f.manner (index_of f) (nearest_table fs)

-- the column, and the row, of visit `i`, both from 0; a negative `cols` is larger than any row
abbrev pub column : ℤ → ℕ → ℕ
column (pos c) i = i % c
column (negsuc c) i = i

abbrev pub row_number : ℤ → ℕ → ℕ
row_number (pos c) i = i / c
row_number (negsuc c) i = 0

abbrev pub is_last : ℕ → ℕ → Bool
is_last n i = i + 1 == n

abbrev pub ends_columns : ℤ → ℕ → Bool
ends_columns (pos c) i = i % c + 1 == c
ends_columns (negsuc c) i = false

-- Kept from liquid-lib: the last visit is the last of its row, however short that is.
abbrev pub is_col_last : ℤ → ℕ → ℕ → Bool
is_col_last k n i = ends_columns k i || is_last n i

abbrev pub is_col_first : ℤ → ℕ → Bool
is_col_first k i = column k i == 0

-- what a path comes to: a value, or a loop object
pub data Met : Type 0 where
  value : Held → Met
  loop : LoopObject → Met

abbrev pub a_number : ℕ → Option Met
a_number n = Some (value (whole (pos n)))

abbrev pub a_truth : Bool → Option Met
a_truth b = Some (value (boolean b))

-- the object of the `for` around, or nil
abbrev pub parent : Option LoopObject → Option Met
parent None = Some (value nil)
parent (Some l) = Some (loop l)

-- the fields that both kinds of loop object have; else `other`
abbrev pub common_field : ℕ → ℕ → List ℕ → Option Met → Option Met
common_field n i k other =
    cond (same_text k (codes "length")) (a_number n)
    (cond (same_text k (codes "index0")) (a_number i)
    (cond (same_text k (codes "index")) (a_number (i + 1))
    (cond (same_text k (codes "rindex0")) (a_number (n - i - 1))
    (cond (same_text k (codes "rindex")) (a_number (n - i))
    (cond (same_text k (codes "first")) (a_truth (i == 0))
    (cond (same_text k (codes "last")) (a_truth (is_last n i)) other))))))

abbrev pub field : LoopObject → List ℕ → Option Met
field (of_for n i fs) k =
    common_field n i k (cond (same_text k (codes "parentloop")) (parent (nearest_for fs)) None)
field (of_table n i c) k =
    common_field n i k
    (cond (same_text k (codes "col0")) (a_number (column c i))
    (cond (same_text k (codes "col")) (a_number (column c i + 1))
    (cond (same_text k (codes "row")) (a_number (row_number c i + 1))
    (cond (same_text k (codes "col_first")) (a_truth (is_col_first c i))
    (cond (same_text k (codes "col_last")) (a_truth (is_col_last c n i)) None)))))

-- A trail record is blank, or has the place of a block and the number of a visit.
pub data TrailRecord : Type 0 where
  blank : TrailRecord
  stands : (place visit : ℕ) → TrailRecord

-- only the visits of loops are counted
abbrev pub counted : Manner → ℕ → ℕ
counted once v = 0
counted (each x n) v = v
counted (cells x n k) v = v
counted (keeping t) v = 0
counted watching v = 0

abbrev pub trail_record : Frame → TrailRecord
trail_record f = stands f.place (counted f.manner f.visit)

-- sixteen records: the blocks around, the innermost first, the rest blank
abbrev pub sixteen : List TrailRecord → List TrailRecord
sixteen ts = take 16 (ts ++ replicate 16 blank)

abbrev pub trail_of : Frames → List TrailRecord
trail_of fs = map trail_record fs
