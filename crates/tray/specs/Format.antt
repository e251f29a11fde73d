-- The record format: which bytes are which records.
use Rattle.std.specs.Prelude.{ℕ, ◌+◌, ◌*◌, ◌≤◌, true, false, List, [], ◌∷◌, ◌++◌}
use Rattle.std.specs.Int.{w64}
use Rattle.std.proofs.Common.{to_z}
use Rattle.tray.specs.declared.records.Record.{Record}
use Rattle.tray.specs.declared.records.Record.TheVariants.{Nil, Boolean, Whole, Text, Array, Object}
use Rattle.tray.specs.Parts.{span}

-- the number that bytes write, low byte first
abbrev pub little : List ℕ → ℕ
little [] = 0
little (b ∷ bs) = b + 256 * little bs

-- The bytes of one record: a kind, then a body whose length the kind fixes.
-- A text has at most 256 bytes, and lies inside the tray text, which has `room` bytes.
pub data RecordBytes (room : ℕ) : List ℕ → Record → Type 0 where
  a_nil : RecordBytes room (0 ∷ []) Nil
  a_false : RecordBytes room (1 ∷ 0 ∷ []) (Boolean false)
  a_true : RecordBytes room (1 ∷ 1 ∷ []) (Boolean true)
  a_whole : (a b c d e f g h : ℕ) → RecordBytes room (2 ∷ a ∷ b ∷ c ∷ d ∷ e ∷ f ∷ g ∷ h ∷ []) (Whole (to_z w64 (little (a ∷ b ∷ c ∷ d ∷ e ∷ f ∷ g ∷ h ∷ []))))
  a_text : (p q n m : ℕ) → little (n ∷ m ∷ []) ≤ 256 → little (p ∷ q ∷ []) + little (n ∷ m ∷ []) ≤ room → RecordBytes room (3 ∷ p ∷ q ∷ n ∷ m ∷ []) (Text (span (little (p ∷ q ∷ [])) (little (n ∷ m ∷ []))))
  an_array : (p q n m : ℕ) → RecordBytes room (4 ∷ p ∷ q ∷ n ∷ m ∷ []) (Array (span (little (p ∷ q ∷ [])) (little (n ∷ m ∷ []))))
  an_object : (p q n m : ℕ) → RecordBytes room (5 ∷ p ∷ q ∷ n ∷ m ∷ []) (Object (span (little (p ∷ q ∷ [])) (little (n ∷ m ∷ []))))

-- records one after another, with nothing left over
pub data TrayBytes (room : ℕ) : List ℕ → List Record → Type 0 where
  none : TrayBytes room [] []
  more : {bs rest : List ℕ} {r : Record} {rs : List Record} → RecordBytes room bs r → TrayBytes room rest rs → TrayBytes room (bs ++ rest) (r ∷ rs)
