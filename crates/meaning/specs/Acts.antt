-- The acts that rendering is made of: what each does to the drawers and to the text in the buffer.
use Rattle.std.specs.Prelude.{ℕ, ◌+◌, cond, List, ◌++◌, length, take, drop, Some, None, Option, nat_le}
use Rattle.meaning.specs.Things.{Thing, Content, Drawers, altered}
use Rattle.meaning.specs.Frames.{Frames, TrailRecord, trail_of}

-- A fault has a number, for 32 a cause, the place of its element, and the blocks around that.
pub record Fault : Type 0 where
  pub number : ℕ
  pub cause : Option ℕ
  pub place : ℕ
  pub trail : List TrailRecord

pub data End (A : Type 0) : Type 0 where
  gives : A → End A
  stops : Fault → End A

-- What an act leaves: the drawers, the text that stands in the buffer, and how it ended.
pub data Step (A : Type 0) : Type 0 where
  step : Drawers → List ℕ → End A → Step A

abbrev pub Act : Type 0 → Type 0
Act A = Drawers → List ℕ → Step A

abbrev pub go_on : {A B : Type 0} → Step A → (A → Act B) → Step B
go_on (step d o (gives a)) k = k a d o
go_on (step d o (stops f)) k = step d o (stops f)

-- first `m`, and with what it gives `k`; a fault of `m` is the end
unfoldable pub ◌and_then◌ : {A B : Type 0} → Act A → (A → Act B) → Act B
◌and_then◌ m k d o = go_on (m d o) k

infixr 20 ◌and_then◌
-- an act that leaves the drawers alone
unfoldable pub still : {A : Type 0} → (List ℕ → List ℕ × End A) → Act A
still f d o = step d (f o).0 (f o).1

abbrev pub pure : {A : Type 0} → A → Act A
pure a = still (λ o. (o, gives a))

-- a fault with a number and perhaps a cause, of the element at place `p` inside the frames `e`
abbrev pub fault_at : ℕ → Option ℕ → ℕ → Frames → Fault
fault_at n c p e = record { number = n; cause = c; place = p; trail = trail_of e }

abbrev pub faults : {A : Type 0} → ℕ → ℕ → Frames → Act A
faults n p e = still (λ o. (o, stops (fault_at n None p e)))

abbrev pub faults_for : {A : Type 0} → ℕ → ℕ → Frames → Act A
faults_for cause p e = still (λ o. (o, stops (fault_at 32 (Some cause) p e)))

-- writes a piece, whole or not at all: where it is longer than the space left it is fault 33
unfoldable pub emit : (limit : ℕ) → ℕ → Frames → List ℕ → Act (Unit {0})
emit limit p e w =
    still (λ o. cond (nat_le (length o + length w) limit) (o ++ w, gives tt) (o, stops (fault_at 33 None p e)))

-- puts back text for which there was space before
unfoldable pub append : List ℕ → Act (Unit {0})
append w = still (λ o. (o ++ w, gives tt))

-- what a thing holds
unfoldable pub look : Thing → Act Content
look t d o = step d o (gives (d t))

-- changes what a thing holds
unfoldable pub alter : Thing → (Content → Content) → Act (Unit {0})
alter t f d o = step (altered t f d) o (gives tt)

-- takes all text after the first `k` bytes out of the buffer and gives it; after a fault it is dropped
abbrev pub cut : {A : Type 0} → ℕ → Step A → Step (A × List ℕ)
cut k (step d o (gives a)) = step d (take k o) (gives (a, drop k o))
cut k (step d o (stops f)) = step d (take k o) (stops f)

-- `m`, and what it wrote, taken out again
unfoldable pub aside : {A : Type 0} → Act A → Act (A × List ℕ)
aside m d o = cut (length o) (m d o)
