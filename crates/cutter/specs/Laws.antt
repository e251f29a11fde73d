-- What holds of every cut.
use Rattle.std.specs.Prelude.{◌≡◌, ℕ, ◌<◌, List, [], ◌++◌, length}
use Rattle.cutter.specs.Cuts.{Cut, done, unclosed, text, mark, opening, closing, Opens, Closes, Cuts}
use Rattle.cutter.specs.Scan.{cut, cut_at}

-- every part has one right cut, and `cut` is it
abbrev pub RightCut : Type 0
RightCut = (part : List ℕ) → Cuts 0 part (cut part)

abbrev pub OnlyCut : Type 0
OnlyCut = (part : List ℕ) (w : Cut) → Cuts 0 part w → w ≡ cut part

-- so has every part, wherever it begins
abbrev pub RightCutAt : Type 0
RightCutAt = (at : ℕ) (part : List ℕ) → Cuts at part (cut_at at part)

abbrev pub OnlyCutAt : Type 0
OnlyCutAt = (at : ℕ) (part : List ℕ) (w : Cut) → Cuts at part w → w ≡ cut_at at part

-- no mark is left unclosed
abbrev pub Whole : Cut → Type 0
Whole done = Prim.Unit {0}
Whole (unclosed place) = ⊥
Whole (text place t rest) = Whole rest
Whole (mark k place inside rest) = Whole rest

-- the pieces joined, with their marks
abbrev pub written : Cut → List ℕ
written done = []
written (unclosed place) = []
written (text place t rest) = t ++ written rest
written (mark k place inside rest) = opening k ++ (inside ++ (closing k ++ written rest))

-- where all marks are closed, the pieces joined are the part
abbrev pub Joins : Type 0
Joins = (part : List ℕ) → Whole (cut part) → written (cut part) ≡ part

-- the same of a part that begins at any place
abbrev pub JoinsAt : Type 0
JoinsAt = (at : ℕ) (part : List ℕ) → Whole (cut_at at part) → written (cut_at at part) ≡ part

-- no text is empty or holds an opening mark, no inside holds its closing mark outside quotes
abbrev pub Tidy : Cut → Type 0
Tidy done = Prim.Unit {0}
Tidy (unclosed place) = Prim.Unit {0}
Tidy (text place t rest) = (0 < length t) × ((a b : List ℕ) → t ≡ a ++ b → Opens a b → ⊥) × Tidy rest
Tidy (mark k place inside rest) = ((a b : List ℕ) → inside ≡ a ++ b → Closes k a b → ⊥) × Tidy rest

-- every cut is so
abbrev pub TidyPieces : Type 0
TidyPieces = (part : List ℕ) → Tidy (cut part)

-- the same of a part that begins at any place
abbrev pub TidyPiecesAt : Type 0
TidyPiecesAt = (at : ℕ) (part : List ℕ) → Tidy (cut_at at part)
