-- Which records make a tray.
use Rattle.std.specs.Prelude.{◌≡◌, ℕ, ◌+◌, ◌*◌, ◌<◌, ◌≤◌, Bool, true, false, ◌||◌, ◌⊎◌, List, length, codes, slice_index_or}
use Rattle.tray.specs.declared.records.Span.{Span}
use Rattle.tray.specs.declared.records.Record.{Record}
use Rattle.tray.specs.declared.records.Record.TheVariants.{Nil, Boolean, Whole, Text, Array, Object}
use Rattle.tray.specs.Parts.{key_of, same_text}

-- a record by number; past the end there is only nil, which holds nothing
abbrev pub at : List Record → ℕ → Record
at rs i = slice_index_or rs i Nil

abbrev pub first_of : Record → ℕ
first_of Nil = 0
first_of (Boolean b) = 0
first_of (Whole z) = 0
first_of (Text s) = 0
first_of (Array s) = s.first
first_of (Object s) = s.first

abbrev pub width_of : Record → ℕ
width_of Nil = 0
width_of (Boolean b) = 0
width_of (Whole z) = 0
width_of (Text s) = 0
width_of (Array s) = s.count
width_of (Object s) = 2 * s.count

abbrev pub is_text : Record → Bool
is_text Nil = false
is_text (Boolean b) = false
is_text (Whole z) = false
is_text (Text s) = true
is_text (Array s) = false
is_text (Object s) = false

abbrev pub is_object : Record → Bool
is_object Nil = false
is_object (Boolean b) = false
is_object (Whole z) = false
is_object (Text s) = false
is_object (Array s) = false
is_object (Object s) = true

-- the record h holds the record c
pub record Holds (rs : List Record) (h c : ℕ) : Type 0 where
  pub low : first_of (at rs h) ≤ c
  pub high : c < first_of (at rs h) + width_of (at rs h)

abbrev pub Behind : List Record → Type 0
Behind rs = (h c : ℕ) → Holds rs h c → h < c

abbrev pub Inside : List Record → Type 0
Inside rs = (h c : ℕ) → Holds rs h c → c < length rs

pub record Shared (rs : List Record) (h k : ℕ) : Type 0 where
  pub c : ℕ
  pub left : Holds rs h c
  pub right : Holds rs k c

abbrev pub Once : List Record → Type 0
Once rs = (h k : ℕ) → Shared rs h k → h ≡ k

-- each record is held at most once, by a record before it, and is there
pub record HeldOnce (rs : List Record) : Type 0 where
  pub behind : Behind rs
  pub inside : Inside rs
  pub once : Once rs

abbrev pub Keyed : List Record → ℕ → ℕ → Type 0
Keyed rs f n = (j : ℕ) → j < n → is_text (at rs (f + 2 * j)) ≡ true

-- the record c is the key of the entry j of the object h
pub record KeyOf (rs : List Record) (c : ℕ) : Type 0 where
  pub h : ℕ
  pub s : Span
  pub j : ℕ
  pub is : at rs h ≡ Object s
  pub below : j < s.count
  pub place : s.first + 2 * j ≡ c

abbrev pub KeysText : List Record → Type 0
KeysText rs = (c : ℕ) → KeyOf rs c → is_text (at rs c) ≡ true

abbrev pub Rooted : List Record → Type 0
Rooted rs = is_object (at rs 0) ≡ true

-- names that belong to the language
abbrev pub reserved : List ℕ → Bool
reserved name = same_text name (codes "forloop") || (same_text name (codes "tablerowloop") || (same_text name (codes "empty") || same_text name (codes "blank")))

-- no key of the n entries from the record f on is a reserved name
abbrev pub Free : List Record → List ℕ → ℕ → ℕ → Type 0
Free rs text f n = (j : ℕ) → j < n → reserved (key_of text (at rs (f + 2 * j))) ≡ false

-- record 0 holds the host names, and none of them is reserved
abbrev pub Unreserved : List Record → List ℕ → Type 0
Unreserved rs text = (s : Span) → at rs 0 ≡ Object s → Free rs text s.first s.count

-- records that make a tray, beside its text
pub record Sound (rs : List Record) (text : List ℕ) : Type 0 where
  pub root : Rooted rs
  pub held : HeldOnce rs
  pub keys : KeysText rs
  pub free : Unreserved rs text

-- the walk that checks it: marks of the records held so far
abbrev pub Held : List Bool → ℕ → Type 0
Held marks c = slice_index_or marks c false ≡ true

-- h took width records from `from` on: they stood behind it and were free, and are marked now
pub record Took (h from width : ℕ) (old new : List Bool) : Type 0 where
  pub behind : (c : ℕ) → from ≤ c → c < from + width → h < c
  pub inside : (c : ℕ) → from ≤ c → c < from + width → c < length old
  pub free : (c : ℕ) → from ≤ c → c < from + width → Held old c → ⊥
  pub into : (c : ℕ) → from ≤ c → c < from + width → Held new c
  pub kept : (c : ℕ) → Held old c → Held new c
  pub back : (c : ℕ) → Held new c → Held old c ⊎ ((from ≤ c) × (c < from + width))

-- one of them cannot be taken
pub record Barred (h from width : ℕ) (marks : List Bool) : Type 0 where
  pub c : ℕ
  pub low : from ≤ c
  pub high : c < from + width
  pub why : (c ≤ h) ⊎ ((length marks ≤ c) ⊎ Held marks c)
