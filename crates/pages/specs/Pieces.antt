-- A piece of text that is written behind what stands in a buffer, whole or not at all.
use Rattle.std.specs.Prelude.{◌≡◌, ℕ, ◌+◌, ◌<◌, ◌≤◌, List, length, Result, MatchResult}
use Rattle.held.specs.declared.faults.Fault.{Fault}
use Rattle.held.specs.declared.faults.Fault.TheVariants.{NoRoom}
use Rattle.held.specs.Scenes.{host_of}
use Rattle.tray.specs.declared.trays.Tray.{Tray}
use Rattle.values.specs.Value.{written}
use Rattle.texts.specs.Written.{LaidAt}
use Rattle.meaning.specs.Things.{Held}
use Rattle.meaning.specs.Hosts.{value_of}
use Rattle.meaning.specs.Acts.{emit}
use Rattle.pages.specs.Written.{Wrote}

-- there was room, and the piece stands behind the text, up to `end`
pub record Stands (w : List ℕ) (filled : ℕ) (old new : List ℕ) (end : ℕ) : Type 0 where
  pub room : filled + length w ≤ length old
  pub laid : LaidAt filled w old new end

-- there was no room, and all is as it was
pub record Refused (w : List ℕ) (filled : ℕ) (old new : List ℕ) (k : Fault) : Type 0 where
  pub why : k ≡ NoRoom
  pub short : length old < filled + length w
  pub same : new ≡ old

abbrev pub Puts : List ℕ → ℕ → List ℕ → List ℕ → Result ℕ Fault → Type 0
Puts w filled old new r = MatchResult r (λ end. Stands w filled old new end) (λ k. Refused w filled old new k)

-- The piece is written, as the definition's act does, and nothing else in the buffer is changed.
pub record Emits (w : List ℕ) (filled : ℕ) (old new : List ℕ) (r : Result ℕ Fault) : Type 0 where
  pub wrote : Wrote (λ p e. emit (length old) p e w) filled old new r
  pub puts : Puts w filled old new r
  pub past : length old < filled → new ≡ old

-- the text of a value
abbrev pub text_in : Tray → Held → List ℕ
text_in t v = written (value_of (host_of t) v)
