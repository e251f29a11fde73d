-- What a right cut of a part into text, tags and outputs is. `{` is 123, `%` is 37, `}` is 125, `'` is 39, `"` is 34.
use Rattle.std.specs.Prelude.{◌≡◌, ℕ, ◌+◌, ◌<◌, ◌≤◌, Bool, cond, ◌||◌, ◌⊎◌, List, [], ◌∷◌, ◌++◌, length, Some, None, Option, ◌==◌}
use Rattle.cutter.specs.declared.state.Kind.{Kind}
use Rattle.cutter.specs.declared.state.Kind.TheVariants.{Tag, Output}

abbrev pub opening : Kind → List ℕ
opening Tag = 123 ∷ 37 ∷ []
opening Output = 123 ∷ 123 ∷ []

abbrev pub closing : Kind → List ℕ
closing Tag = 37 ∷ 125 ∷ []
closing Output = 125 ∷ 125 ∷ []

-- the pieces in order, each with its place and, of a mark, its inside; at last the end, or a mark that is not closed
pub data Cut : Type 0 where
  done : Cut
  unclosed : ℕ → Cut
  text : ℕ → List ℕ → Cut → Cut
  mark : Kind → ℕ → List ℕ → Cut → Cut

abbrev pub is_quote : ℕ → Bool
is_quote b = b == 39 || b == 34

-- the quote that is open behind b, by the one that is open before it
abbrev pub turned : Option ℕ → ℕ → Option ℕ
turned None b = cond (is_quote b) (Some b) None
turned (Some q) b = cond (b == q) None (Some q)

-- the same behind any bytes
abbrev pub quote_after : Option ℕ → List ℕ → Option ℕ
quote_after q [] = q
quote_after q (b ∷ bs) = quote_after (turned q b) bs

-- l falls into a and b, with an opening mark at the front of b
pub record Opens (a b : List ℕ) : Type 0 where
  pub kind : Kind
  pub behind : List ℕ
  pub is : b ≡ opening kind ++ behind

-- the same with the closing mark of a kind, outside quotes
pub record Closes (k : Kind) (a b : List ℕ) : Type 0 where
  pub outside : quote_after None a ≡ None
  pub behind : List ℕ
  pub is : b ≡ closing k ++ behind

-- l does not fall so before place n
abbrev pub NoneBefore : (List ℕ → List ℕ → Type 0) → List ℕ → ℕ → Type 0
NoneBefore P l n = (a b : List ℕ) → l ≡ a ++ b → P a b → n ≤ length a

-- the part begins with the text t: some bytes up to the first opening mark, or up to the end
pub record IsText (part t behind : List ℕ) : Type 0 where
  pub joins : part ≡ t ++ behind
  pub some : 0 < length t
  pub none : NoneBefore Opens part (length t)
  pub ahead : (behind ≡ []) ⊎ Opens t behind

-- the part begins with a mark whose inside goes up to the first closing mark outside quotes
pub record IsMark (k : Kind) (part inside behind : List ℕ) : Type 0 where
  pub joins : part ≡ opening k ++ (inside ++ (closing k ++ behind))
  pub outside : quote_after None inside ≡ None
  pub first : NoneBefore (Closes k) (inside ++ (closing k ++ behind)) (length inside)

-- the part begins with a mark that has no closing mark outside quotes
pub record IsUnclosed (part : List ℕ) : Type 0 where
  pub kind : Kind
  pub behind : List ℕ
  pub joins : part ≡ opening kind ++ behind
  pub never : (a b : List ℕ) → behind ≡ a ++ b → Closes kind a b → ⊥

-- the pieces are those of the part, whose first byte is at this place
abbrev pub Cuts : ℕ → List ℕ → Cut → Type 0
Cuts at part done = part ≡ []
Cuts at part (unclosed place) = (place ≡ at) × IsUnclosed part
Cuts at part (text place t rest) = (place ≡ at) × ((behind : List ℕ) × IsText part t behind × Cuts (at + length t) behind rest)
Cuts at part (mark k place inside rest) = (place ≡ at) × ((behind : List ℕ) × IsMark k part inside behind × Cuts (at + (length inside + 4)) behind rest)
