-- A value is judged the same whatever is ahead, and leaves it ahead.
use Rattle.std.proofs.Common.{◌≡◌, ℕ, ◌+◌, Bool, true, false, cond, ◌&&◌, leb, ltb, List, [], length, Some, None, Option, refl, ap, ◌∙◌}
use Rattle.rows.specs.First.{first_from}
use Rattle.tray.specs.Parts.{same_text}
use Rattle.cutter.specs.Paths.{PlacedStep, steps_of}
use Rattle.cutter.specs.Words.{Words}
use Rattle.cutter.specs.Tokens.{Reading, is_nil, is_boolean, is_number, is_text, is_name, is_path, is_range, is_symbol}
use Rattle.arguments.specs.declared.words.Special.{Special}
use Rattle.arguments.specs.declared.words.Special.TheVariants.{Forloop, Tablerowloop, Barred, Free}
use Rattle.arguments.specs.Judging.{Lists, state, Verdict, refuses, passes, Judge, went, ◌next◌, pure, refuse, with_name, entered, enter}
use Rattle.arguments.specs.Values.{special, headed, head, a_path, value_as}

-- the same verdict, with other tokens ahead
abbrev pub moved : {A : Type 0} → Words → Verdict A → Verdict A
moved b (refuses n p) = refuses n p
moved b (passes x s) = passes x (state b s.lists)

abbrev pub Anywhere : {A : Type 0} → Judge A → Type 0
Anywhere j = (a b : Words) (l : Lists) → j (state b l) ≡ moved b (j (state a l))

anywhere_pure : {A : Type 0} (x : A) → Anywhere (pure x)
anywhere_pure x a b l = refl

anywhere_refuse : {A : Type 0} (n p : ℕ) → Anywhere (refuse {A = A} n p)
anywhere_refuse n p a b l = refl

went_moved : {A B : Type 0} (b : Words) (v : Verdict A) (k : A → Judge B) → ((x : A) → Anywhere (k x)) → went (moved b v) k ≡ moved b (went v k)
went_moved b (refuses n p) k h = refl
went_moved b (passes x s) k h = h x s.ahead b s.lists

anywhere_next : {A B : Type 0} (m : Judge A) (k : A → Judge B) → Anywhere m → ((x : A) → Anywhere (k x)) → Anywhere (m next k)
anywhere_next m k h g a b l = ap (λ v. went v k) (h a b l) ∙ went_moved b (m (state a l)) k g

anywhere_cond : {A : Type 0} (t : Bool) (j : Judge A) (n p : ℕ) → Anywhere j → Anywhere (cond t j (refuse n p))
anywhere_cond true j n p h = h
anywhere_cond false j n p h = anywhere_refuse n p

new_anywhere : (t : Bool) (p : ℕ) (n : List ℕ) (a b : Words) (l : Lists) →
    cond t (passes (length l.names) (state b (with_name n l))) (refuses 2 p) ≡ moved b (cond t (passes (length l.names) (state a (with_name n l))) (refuses 2 p))
new_anywhere true p n a b l = refl
new_anywhere false p n a b l = refl

entered_anywhere : (p : ℕ) (n : List ℕ) (o : Option ℕ) → Anywhere (entered p n o)
entered_anywhere p n (Some k) a b l = refl
entered_anywhere p n None a b l = new_anywhere (leb (length n) 32 && ltb (length l.names) 128) p n a b l

enter_anywhere : (p : ℕ) (n : List ℕ) → Anywhere (enter p n)
unfolding enter
enter_anywhere p n a b l = entered_anywhere p n (first_from (λ m. same_text m n) 0 l.names) a b l

headed_anywhere : (h : Special) (p : ℕ) (n : List ℕ) → Anywhere (headed h p n)
headed_anywhere Forloop p n = anywhere_pure _
headed_anywhere Tablerowloop p n = anywhere_pure _
headed_anywhere Barred p n = anywhere_refuse 8 p
headed_anywhere Free p n = anywhere_next (enter p n) _ (enter_anywhere p n) (λ k. anywhere_pure _)

path_anywhere : (p : ℕ) (n : List ℕ) (ss : List PlacedStep) → Anywhere (a_path p n ss)
path_anywhere p n ss = anywhere_cond (leb (length ss) 4) _ 2 p (anywhere_next (head p n) _ (headed_anywhere (special n) p n) (λ h. anywhere_pure _))

pub value_anywhere : (p q : ℕ) (r : Reading) → Anywhere (value_as p q r)
unfolding value_as
value_anywhere p q is_nil = anywhere_pure _
value_anywhere p q (is_boolean b) = anywhere_pure _
value_anywhere p q (is_number z) = anywhere_pure _
value_anywhere p q (is_text b) = anywhere_pure _
value_anywhere p q (is_name n) = path_anywhere p n []
value_anywhere p q (is_path n ss) = path_anywhere p n (steps_of (q + length n) ss)
value_anywhere p q (is_range a x b y) = anywhere_refuse 6 p
value_anywhere p q (is_symbol b) = anywhere_refuse 6 p
