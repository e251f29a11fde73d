-- Text laid into a buffer, whole or not at all.
use Rattle.std.specs.Prelude.{◌≡◌, ℕ, ◌+◌, ◌-◌, ◌<◌, cond, List, [], ◌++◌, length, take, drop, Some, None, codes, Option, MatchOption, nat_le}
use Rattle.numerals.specs.Decimal.{whole_text}
use Rattle.tray.specs.declared.records.Record.{Record}
use Rattle.tray.specs.declared.records.Record.TheVariants.{Nil, Boolean, Whole, Text, Array, Object}
use Rattle.tray.specs.Parts.{cut}

-- the bytes stand at the front, and behind them all is as it was
pub record Laid (bytes old new : List ℕ) (end : ℕ) : Type 0 where
  pub long : end ≡ length bytes
  pub holds : new ≡ bytes ++ drop end old

-- the bytes stand from a place on, and before and behind them all is as it was
pub record LaidAt (from : ℕ) (bytes old new : List ℕ) (end : ℕ) : Type 0 where
  pub long : end ≡ from + length bytes
  pub holds : new ≡ take from old ++ (bytes ++ drop end old)

-- there is no room, and all is as it was
pub record NoRoom (bytes old new : List ℕ) : Type 0 where
  pub short : length old < length bytes
  pub same : new ≡ old

-- a text is laid at the front of a buffer, where it has room
abbrev pub Lays : List ℕ → List ℕ → List ℕ → Option ℕ → Type 0
Lays bytes old new r = MatchOption r (NoRoom bytes old new) (λ end. Laid bytes old new end)

-- a length, where it is at most `room`
abbrev pub if_room : ℕ → ℕ → Option ℕ
if_room room n = cond (nat_le n room) (Some n) None

-- what is left of `room` after n, where n is at most that
abbrev pub leaves : ℕ → ℕ → Option ℕ
leaves room n = cond (nat_le n room) (Some (room - n)) None

-- the text of a record that holds no other
abbrev pub leaf_text : List ℕ → Record → List ℕ
leaf_text tx Nil = []
leaf_text tx (Boolean b) = cond b (codes "true") (codes "false")
leaf_text tx (Whole z) = whole_text z
leaf_text tx (Text s) = cut tx s.first s.count
leaf_text tx (Array s) = []
leaf_text tx (Object s) = []

-- the same where that is no number
abbrev pub plain_text : List ℕ → Record → List ℕ
plain_text tx Nil = []
plain_text tx (Boolean b) = cond b (codes "true") (codes "false")
plain_text tx (Whole z) = []
plain_text tx (Text s) = cut tx s.first s.count
plain_text tx (Array s) = []
plain_text tx (Object s) = []
