-- What loading a part of the source gives.
use Rattle.std.specs.Prelude.{ℕ, suc, ◌+◌, Bool, cond, ◌&&◌, List, [], ◌∷◌, length, take, drop, Some, None, Option, nat_le, nat_lt}
use Rattle.cutter.specs.Cuts.{Cut}
use Rattle.cutter.specs.Scan.{cut_at}
use Rattle.tree.specs.Elements.{Tree}
use Rattle.arguments.specs.Judging.{Asked, Lists}
use Rattle.sheet.specs.Steps.{Outcome, fails, gives, pieces}
use Rattle.sheet.specs.Blocks.{Tag}
use Rattle.sheet.specs.Parsing.{Elements, elements}

-- a refusal by its number and place; or the tree of the template, and the lists then
pub data Answer : Type 0 where
  refused : (number place : ℕ) → Answer
  loaded : Tree → Lists → Answer

-- the place of the first filter that is asked for and not known
abbrev pub first_unknown : (List ℕ → Bool) → List Asked → Option ℕ
first_unknown known [] = None
first_unknown known (a ∷ others) = cond (known a.name) (first_unknown known others) (Some a.place)

abbrev pub all_known : Tree → Lists → Option ℕ → Answer
all_known t l None = loaded t l
all_known t l (Some p) = refused 9 p

-- no tag may be left over; last of all, the filters that the part asks for must be known: those behind the first n
abbrev pub ended : (List ℕ → Bool) → ℕ → Tree → Option Tag → Lists → Answer
ended known n t None l = all_known t l (first_unknown known (drop n l.asked))
ended known n t (Some e) l = refused 5 e.name.place

abbrev pub finished : (List ℕ → Bool) → ℕ → Outcome Elements → Answer
finished known n (fails k p) = refused k p
finished known n (gives y c l) = ended known n y.tree y.ending l

-- the pieces of the part from one place up to another
abbrev pub part_of : List ℕ → ℕ → ℕ → Cut
part_of source from to = cut_at from (drop from (take to source))

-- sixteen blocks may stand in one another
abbrev pub read_part : (List ℕ → Bool) → List ℕ → ℕ → ℕ → Lists → Answer
read_part known source from to l = finished known (length l.asked) (elements source to (suc (pieces (part_of source from to))) 16 (part_of source from to) l)

-- Loads the part of so many bytes at a place of the source into a sheet with so many templates and these lists, with a bank that knows some names.
unfoldable pub load : (List ℕ → Bool) → List ℕ → ℕ → ℕ → ℕ → Lists → Answer
load known source templates place len l =
    cond (nat_le (place + len) (length source))
    (cond (nat_lt templates 32 && nat_le len 16384) (read_part known source place (place + len) l) (refused 2 place))
    (refused 1 place)
