-- How the tokens of a mark are judged: one after another, each as it is taken, with the lists of the sheet that it may add to.
use Rattle.std.specs.Prelude.{ℕ, ◌+◌, Bool, true, false, cond, ◌&&◌, not, List, [], ◌∷◌, ◌++◌, length, Some, None, Option, nat_le, nat_lt}
use Rattle.rows.specs.First.{first_from}
use Rattle.tray.specs.Parts.{same_text}
use Rattle.cutter.specs.Words.{Words, over, wrong, word}

-- A cycle name: given in the tag, or made of its values; and its bytes.
pub record CycleName : Type 0 where
  pub given : Bool
  pub bytes : List ℕ

-- A filter's name, with its place in the source.
pub record Asked : Type 0 where
  pub place : ℕ
  pub name : List ℕ

-- What loading adds to a sheet: names, cycle names, nodes by their count, and the filters that it asks for, in order of place.
pub record Lists : Type 0 where
  pub names : List (List ℕ)
  pub cycles : List CycleName
  pub nodes : ℕ
  pub asked : List Asked

-- The tokens of a mark that are ahead, and the lists.
pub record State : Type 0 where
  pub ahead : Words
  pub lists : Lists

abbrev pub state : Words → Lists → State
state a l = record { ahead = a; lists = l }

-- A refusal by its number and place; or what was read, and what is ahead then.
pub data Verdict (A : Type 0) : Type 0 where
  refuses : (number place : ℕ) → Verdict A
  passes : A → State → Verdict A

abbrev pub Judge : Type 0 → Type 0
Judge A = State → Verdict A

abbrev pub went : {A B : Type 0} → Verdict A → (A → Judge B) → Verdict B
went (refuses n p) k = refuses n p
went (passes a s) k = k a s

-- first the one, and with what it read the other; a refusal is the end
abbrev pub ◌next◌ : {A B : Type 0} → Judge A → (A → Judge B) → Judge B
◌next◌ m k s = went (m s) k

infixr 20 ◌next◌
abbrev pub pure : {A : Type 0} → A → Judge A
pure a s = passes a s

abbrev pub refuse : {A : Type 0} → ℕ → ℕ → Judge A
refuse n p s = refuses n p

-- a token as written, with its place
pub record Seen : Type 0 where
  pub place : ℕ
  pub bytes : List ℕ

abbrev pub seen : ℕ → List ℕ → Seen
seen p b = record { place = p; bytes = b }

abbrev pub taken : ℕ → Words → Lists → Verdict Seen
taken m over l = refuses 6 m
taken m (wrong p) l = refuses 4 p
taken m (word p b rest) l = passes (seen p b) (state rest l)

-- the next token; where there is none, an argument of the mark at place m is missing
unfoldable pub token : ℕ → Judge Seen
token m s = taken m s.ahead s.lists

abbrev pub kept_or : {A : Type 0} → Option A → State → State → Verdict (Option A)
kept_or None old new = passes None old
kept_or (Some a) old new = passes (Some a) new

abbrev pub taken_if : {A : Type 0} → (Seen → Option A) → Words → Lists → Verdict (Option A)
taken_if f over l = passes None (state over l)
taken_if f (wrong p) l = refuses 4 p
taken_if f (word p b rest) l = kept_or (f (seen p b)) (state (word p b rest) l) (state rest l)

-- the next token, if there is one that f makes something of; else it stays ahead
unfoldable pub token_if : {A : Type 0} → (Seen → Option A) → Judge (Option A)
token_if f s = taken_if f s.ahead s.lists

abbrev pub none_left : Words → Lists → Verdict (Prim.Unit {0})
none_left over l = passes tt (state over l)
none_left (wrong p) l = refuses 4 p
none_left (word p b rest) l = refuses 6 p

-- no token is left over
unfoldable pub finished : Judge (Prim.Unit {0})
finished s = none_left s.ahead s.lists

abbrev pub right_or : Bool → ℕ → Judge (Prim.Unit {0})
right_or true p = pure tt
right_or false p = refuse 6 p

-- the next token is such a one
unfoldable pub expect : (Seen → Bool) → ℕ → Judge (Prim.Unit {0})
expect f m = token m next λ w. right_or (f w) w.place

-- the lists with another count of nodes
abbrev pub noted : ℕ → Lists → Lists
noted n l = record { names = l.names; cycles = l.cycles; nodes = n; asked = l.asked }

-- there is room for one node more, for what stands at place p: 4,096 are the most
unfoldable pub room_at : ℕ → Judge (Prim.Unit {0})
room_at p s = cond (nat_lt s.lists.nodes 4096) (passes tt s) (refuses 2 p)

-- one node more
unfoldable pub one_more : Judge (Prim.Unit {0})
one_more s = passes tt (state s.ahead (noted (s.lists.nodes + 1) s.lists))

abbrev pub with_name : List ℕ → Lists → Lists
with_name n l = record { names = l.names ++ (n ∷ []); cycles = l.cycles; nodes = l.nodes; asked = l.asked }

abbrev pub entered : ℕ → List ℕ → Option ℕ → Judge ℕ
entered p n (Some k) s = passes k s
entered p n None s =
    cond (nat_le (length n) 32 && nat_lt (length s.lists.names) 128)
    (passes (length s.lists.names) (state s.ahead (with_name n s.lists))) (refuses 2 p)

-- the number of a name, which enters where it is new: at most 128 of at most 32 bytes
unfoldable pub enter : ℕ → List ℕ → Judge ℕ
enter p n s = entered p n (first_from (λ m. same_text m n) 0 s.lists.names) s

abbrev pub with_asked : ℕ → List ℕ → Lists → Lists
with_asked p n l = record { names = l.names; cycles = l.cycles; nodes = l.nodes; asked = l.asked ++ (record { place = p; name = n } ∷ []) }

-- notes a filter, for which the bank is asked last of all
unfoldable pub ask : ℕ → List ℕ → Judge (Prim.Unit {0})
ask p n s = passes tt (state s.ahead (with_asked p n s.lists))

abbrev pub with_cycle : CycleName → Lists → Lists
with_cycle c l = record { names = l.names; cycles = l.cycles ++ (c ∷ []); nodes = l.nodes; asked = l.asked }

-- both given or both made, with the same bytes
abbrev pub same_cycle : CycleName → CycleName → Bool
same_cycle c d = cond c.given d.given (not d.given) && same_text c.bytes d.bytes

abbrev pub cycle_entered : ℕ → CycleName → Option ℕ → Judge ℕ
cycle_entered p c (Some k) s = passes k s
cycle_entered p c None s = cond (nat_lt (length s.lists.cycles) 32) (passes (length s.lists.cycles) (state s.ahead (with_cycle c s.lists))) (refuses 2 p)

-- the number of a cycle name, which enters where it is new: at most 32 of at most 128 bytes
unfoldable pub enter_cycle : ℕ → CycleName → Judge ℕ
enter_cycle p c s = cond (nat_le (length c.bytes) 128) (cycle_entered p c (first_from (λ d. same_cycle d c) 0 s.lists.cycles) s) (refuses 2 p)
