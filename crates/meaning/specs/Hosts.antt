-- Host data: the records and the text of a tray, and held values read in it.
use Rattle.std.specs.Prelude.{ℕ, zero, suc, ◌+◌, cond, List, length, ℤ, pos, negsuc, Some, None, codes, Option, nat_lt}
use Rattle.std.specs.Option.{option_map, option_or}
use Rattle.numerals.specs.Decimal.{whole_text}
use Rattle.tray.specs.declared.records.Record.{Record}
use Rattle.tray.specs.declared.records.Record.TheVariants.{Nil, Boolean, Whole, Text, Array, Object}
use Rattle.tray.specs.Parts.{cut, same_text}
use Rattle.tray.specs.Sound.{at}
use Rattle.values.specs.Numbers.{place_of}
use Rattle.values.specs.Meaning.{value_at, key_at}
use Rattle.values.specs.RowsOf.{paired}
use Rattle.values.specs.Value.{Value}
use Rattle.values.specs.Value as tree
use Rattle.tree.specs.Expressions.{Step, index, key}
use Rattle.meaning.specs.Things.{Held, nil, boolean, whole, text, array, object, pair}

-- a tray
pub record Host : Type 0 where
  pub records : List Record
  pub letters : List ℕ

module _ (h : Host) where
  -- the value tree of a held value
  abbrev pub value_of : Held → Value
  value_of nil = tree.nil
  value_of (boolean b) = tree.boolean b
  value_of (whole z) = tree.whole z
  value_of (text t) = tree.text t
  value_of (array i) = value_at h.records h.letters i
  value_of (object i) = value_at h.records h.letters i
  value_of (pair i) = paired (value_at h.records h.letters i) (value_at h.records h.letters (i + 1))

  -- a record, as it can be kept; `i` is its number
  abbrev pub kept_record : ℕ → Record → Held
  kept_record i Nil = nil
  kept_record i (Boolean b) = boolean b
  kept_record i (Whole z) = whole z
  kept_record i (Text s) = text (cut h.letters s.first s.count)
  kept_record i (Array s) = array i
  kept_record i (Object s) = object i

  abbrev pub record_at : ℕ → Held
  record_at i = kept_record i (at h.records i)

  abbrev pub if_array : ℕ → Record → Held
  if_array i Nil = nil
  if_array i (Boolean b) = nil
  if_array i (Whole z) = nil
  if_array i (Text s) = nil
  if_array i (Array s) = array i
  if_array i (Object s) = nil

  abbrev pub if_object : ℕ → Record → Held
  if_object i Nil = nil
  if_object i (Boolean b) = nil
  if_object i (Whole z) = nil
  if_object i (Text s) = nil
  if_object i (Array s) = nil
  if_object i (Object s) = object i

  -- a pair is there where its key is a text and a record stands behind it
  abbrev pub if_pair : ℕ → Record → Held
  if_pair i Nil = nil
  if_pair i (Boolean b) = nil
  if_pair i (Whole z) = nil
  if_pair i (Text s) = cond (nat_lt (i + 1) (length h.records)) (pair i) nil
  if_pair i (Array s) = nil
  if_pair i (Object s) = nil

  -- A variable may have been kept from another tray. It is nil unless records of its kind are there.
  abbrev pub read_again : Held → Held
  read_again nil = nil
  read_again (boolean b) = boolean b
  read_again (whole z) = whole z
  read_again (text t) = text t
  read_again (array i) = if_array i (at h.records i)
  read_again (object i) = if_object i (at h.records i)
  read_again (pair i) = if_pair i (at h.records i)

  -- the item at an index among `n` records from `f` on; a negative index counts from the end
  abbrev pub item_at : ℕ → ℕ → ℤ → Option Held
  item_at f n z = option_map (λ k. record_at (f + k)) (place_of n z)

  -- no key but these three steps into an array
  abbrev pub item_keyed : ℕ → ℕ → List ℕ → Option Held
  item_keyed f n k =
      cond (same_text k (codes "first")) (item_at f n (pos 0))
      (cond (same_text k (codes "last")) (item_at f n (negsuc 0))
      (cond (same_text k (codes "size")) (Some (whole (pos n))) None))

  abbrev pub step_into_items : ℕ → ℕ → Step → Option Held
  step_into_items f n (index z) = item_at f n z
  step_into_items f n (key k) = item_keyed f n k

  -- the value of the first of `n` entries from record `f` on that has the key
  abbrev pub entry_of : ℕ → ℕ → List ℕ → Option Held
  entry_of f zero k = None
  entry_of f (suc n) k =
      cond (same_text k (key_at h.records h.letters f)) (Some (record_at (f + 1))) (entry_of (f + 2) n k)

  -- an index steps into an object by its decimal text
  abbrev pub key_of : Step → List ℕ
  key_of (index z) = whole_text z
  key_of (key k) = k

  -- an own key `size` wins over the count of entries
  abbrev pub step_into_entries : ℕ → ℕ → List ℕ → Option Held
  step_into_entries f n k = option_or (entry_of f n k) (cond (same_text k (codes "size")) (Some (whole (pos n))) None)

  -- what a step into record `i` comes to
  abbrev pub step_into_record : Record → Step → Option Held
  step_into_record Nil s = None
  step_into_record (Boolean b) s = None
  step_into_record (Whole z) s = None
  step_into_record (Text r) s = None
  step_into_record (Array r) s = step_into_items r.first r.count s
  step_into_record (Object r) s = step_into_entries r.first r.count (key_of s)

  abbrev pub stepped : Held → Step → Option Held
  stepped nil s = None
  stepped (boolean b) s = None
  stepped (whole z) s = None
  stepped (text t) s = None
  stepped (array i) s = step_into_record (at h.records i) s
  stepped (object i) s = step_into_record (at h.records i) s
  stepped (pair i) s = step_into_items i 2 s

  abbrev pub entries_find : Record → List ℕ → Option Held
  entries_find Nil k = None
  entries_find (Boolean b) k = None
  entries_find (Whole z) k = None
  entries_find (Text s) k = None
  entries_find (Array s) k = None
  entries_find (Object s) k = entry_of s.first s.count k

  -- what a host name means: the value of that key of record 0
  abbrev pub host_name : List ℕ → Option Held
  host_name k = entries_find (at h.records 0) k
