-- How a part is read: piece by piece, with the lists of the sheet that it may add to.
use Rattle.std.specs.Prelude.{ℕ, zero, suc}
use Rattle.cutter.specs.Words.{Words}
use Rattle.cutter.specs.Cuts.{Cut, done, unclosed, text, mark}
use Rattle.arguments.specs.Judging.{Lists, state, Verdict, refuses, passes, Judge}

-- a refusal by its number and place; or what was read, the pieces that are left, and the lists then
pub data Outcome (A : Type 0) : Type 0 where
  fails : (number place : ℕ) → Outcome A
  gives : A → Cut → Lists → Outcome A

abbrev pub Step : Type 0 → Type 0
Step A = Cut → Lists → Outcome A

abbrev pub followed : {A B : Type 0} → Outcome A → (A → Step B) → Outcome B
followed (fails n p) k = fails n p
followed (gives a c l) k = k a c l

-- first the one, and with what it read the other; a refusal is the end
abbrev pub ◌then◌ : {A B : Type 0} → Step A → (A → Step B) → Step B
◌then◌ m k c l = followed (m c l) k

infixr 20 ◌then◌
abbrev pub give : {A : Type 0} → A → Step A
give a c l = gives a c l

abbrev pub fail : {A : Type 0} → ℕ → ℕ → Step A
fail n p c l = fails n p

abbrev pub settled : {A : Type 0} → Verdict A → Cut → Outcome A
settled (refuses n p) c = fails n p
settled (passes a s) c = gives a c s.lists

-- the tokens ahead in a mark, judged
abbrev pub judged : {A : Type 0} → Judge A → Words → Step A
judged j w c l = settled (j (state w l)) c

-- how many pieces are left
abbrev pub pieces : Cut → ℕ
pieces done = zero
pieces (unclosed p) = zero
pieces (text p b c) = suc (pieces c)
pieces (mark k p b c) = suc (pieces c)
