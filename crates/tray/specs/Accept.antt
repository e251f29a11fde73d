-- Which bytes are a tray, beside its text.
use Rattle.std.specs.Prelude.{ℕ, ◌≤◌, List, length}
use Rattle.tray.specs.declared.records.Record.{Record}
use Rattle.tray.specs.Format.{TrayBytes}
use Rattle.tray.specs.Sound.{Sound}

-- the bytes are those of the records, at most 2,048, and the records make a tray
pub record Accepts (bytes text : List ℕ) (rs : List Record) : Type 0 where
  pub spelt : TrayBytes (length text) bytes rs
  pub few : length rs ≤ 2048
  pub sound : Sound rs text

-- the bytes are those of no tray
abbrev pub Never : List ℕ → List ℕ → Type 0
Never bytes text = (rs : List Record) → Accepts bytes text rs → ⊥
