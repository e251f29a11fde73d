-- What reading and writing have to do with each other.
use Rattle.std.specs.Prelude.{◌≡◌, ℕ, ◌^◌, ◌<◌, ◌≤◌, true, List, ◌∷◌, length, ℤ, pos, neg_ℤ, ◌≤ℤ◌, ◌<ℤ◌, Some, slice_index}
use Rattle.numerals.specs.Decimal.{are_digits, value_of, whole_of, whole_text, natural_text}

-- a number of 64 signed bits
pub record Fits64 (n : ℤ) : Type 0 where
  pub least : neg_ℤ (pos (2 ^ 63)) ≤ℤ n
  pub most : n <ℤ pos (2 ^ 63)

-- one or more digits
pub record Digits (ds : List ℕ) : Type 0 where
  pub some : 0 < length ds
  pub all : are_digits ds ≡ true

-- a text spells n: an optional sign, then digits of the value n
pub data Spells : List ℕ → ℤ → Type 0 where
  plain : {ds : List ℕ} → Digits ds → Spells ds (pos (value_of ds))
  plus : {ds : List ℕ} → Digits ds → Spells (43 ∷ ds) (pos (value_of ds))
  minus : {ds : List ℕ} → Digits ds → Spells (45 ∷ ds) (neg_ℤ (pos (value_of ds)))

-- a text reads as n exactly when it spells n, and n has 64 bits
abbrev pub ReadsWhatIsSpelled : Type 0
ReadsWhatIsSpelled = (t : List ℕ) (n : ℤ) → (whole_of t ≡ Some n → Spells t n × Fits64 n) × (Spells t n → Fits64 n → whole_of t ≡ Some n)

-- the decimal text of n reads as n
abbrev pub ReadsBack : Type 0
ReadsBack = (n : ℤ) → Fits64 n → whole_of (whole_text n) ≡ Some n

-- the decimal text of n is at most 20 bytes long
abbrev pub AtMost20Bytes : Type 0
AtMost20Bytes = (n : ℤ) → Fits64 n → length (whole_text n) ≤ 20

-- the decimal text of a number above 0 begins with no `0`
abbrev pub NoLeadingZero : Type 0
NoLeadingZero = (n : ℕ) → 0 < n → n ≤ 2 ^ 63 → 48 < slice_index (natural_text n) 0
