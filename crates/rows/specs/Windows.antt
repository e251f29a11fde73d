-- A window over a list. Places are natural numbers from 0; an offset and a limit are any whole numbers.
use Rattle.std.specs.Prelude.{◌≡◌, ℕ, ◌+◌, Bool, true, false, cond, ◌&&◌, List, [], ◌∷◌, reverse, ℤ, pos, negsuc, ◌+ℤ◌, Some, None, Option, int_le, int_lt}

-- place k is not below the offset and, given a limit, below offset plus limit
abbrev pub in_window : ℤ → Option ℤ → ℕ → Bool
in_window offset None k = int_le offset (pos k)
in_window offset (Some limit) k = int_le offset (pos k) && int_lt (pos k) (offset +ℤ limit)

-- the items whose places pass a test, in order; the first item's place is k
abbrev pub kept_from : {X : Type 0} → (ℕ → Bool) → ℕ → List X → List X
kept_from p k [] = []
kept_from p k (x ∷ xs) = cond (p k) (x ∷ kept_from p (k + 1) xs) (kept_from p (k + 1) xs)

abbrev pub turned : {X : Type 0} → Bool → List X → List X
turned true xs = reverse xs
turned false xs = xs

-- the items at the places in the window, reversed last
unfoldable pub windowed : {X : Type 0} → ℤ → Option ℤ → Bool → List X → List X
windowed offset limit reversed xs = turned reversed (kept_from (in_window offset limit) 0 xs)

-- worked cases
pub record Worked {X : Type 0} (a b c : X) : Type 0 where
  pub cut_off : windowed (pos 2) (Some (pos 3)) false (a ∷ b ∷ c ∷ []) ≡ c ∷ []
  pub backwards : windowed (pos 1) (Some (pos 3)) true (a ∷ b ∷ c ∷ []) ≡ c ∷ b ∷ []
  pub past : windowed (pos 5) (Some (pos 1)) false (a ∷ b ∷ c ∷ []) ≡ []
  pub limit_0 : windowed (pos 0) (Some (pos 0)) false (a ∷ b ∷ c ∷ []) ≡ []
  pub limit_below_0 : windowed (pos 0) (Some (negsuc 0)) false (a ∷ b ∷ c ∷ []) ≡ []
  pub offset_below_0 : windowed (negsuc 0) (Some (pos 2)) false (a ∷ b ∷ c ∷ []) ≡ a ∷ []

-- they hold of any three items
abbrev pub WorkedWindows : Type 0 → Type 0
WorkedWindows X = (a b c : X) → Worked a b c
