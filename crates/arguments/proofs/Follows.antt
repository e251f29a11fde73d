-- What holds along each token that is taken, and along each name that enters, holds along targets, values and colons with a value.
use Rattle.std.proofs.Common.{◌≡◌, ℕ, ◌+◌, Bool, true, false, cond, ◌&&◌, leb, ltb, List, [], length, Some, None, Option, refl, subst}
use Rattle.cutter.specs.Paths.{PlacedStep, steps_of}
use Rattle.cutter.specs.Words.{Words, over, wrong, word}
use Rattle.cutter.specs.Tokens.{Reading, is_nil, is_boolean, is_number, is_text, is_name, is_path, is_range, is_symbol}
use Rattle.arguments.specs.declared.words.Special.{Special}
use Rattle.arguments.specs.declared.words.Special.TheVariants.{Forloop, Tablerowloop, Barred, Free}
use Rattle.arguments.specs.Judging.{Lists, State, state, Verdict, refuses, passes, Judge, went, ◌next◌, pure, refuse, Seen, seen, token, taken, token_if, taken_if, kept_or, right_or, expect, with_name, entered, enter}
use Rattle.arguments.specs.Values.{read, special, headed, head, a_path, value_as, value}

module _ (R : State → State → Type 0) (same : (s : State) → R s s) (then : (s t u : State) → R s t → R t u → R s u)
    (takes : (p : ℕ) (b : List ℕ) (rest : Words) (l : Lists) → R (state (word p b rest) l) (state rest l)) where
  -- a judgement that leaves such states behind, where it passes
  abbrev pub Along : {A : Type 0} → Judge A → Type 0
  Along {A} j = (s : State) (y : A) (t : State) → j s ≡ passes y t → R s t

  pub along_pure : {A : Type 0} (x : A) → Along (pure x)
  along_pure x s y t e = let h : s ≡ t = cc in subst (R s) h (same s)

  pub along_refuse : {A : Type 0} (n p : ℕ) → Along (refuse {A = A} n p)
  along_refuse n p s y t e = cc

  went_along : {A B : Type 0} (s : State) (v : Verdict A) (k : A → Judge B) → ((x : A) (u : State) → v ≡ passes x u → R s u) → ((x : A) → Along (k x)) →
      (y : B) (t : State) → went v k ≡ passes y t → R s t
  went_along s (refuses n p) k h g y t e = cc
  went_along s (passes x u) k h g y t e = then s u t (h x u refl) (g x u y t e)

  pub along_next : {A B : Type 0} (m : Judge A) (k : A → Judge B) → Along m → ((x : A) → Along (k x)) → Along (m next k)
  along_next m k h g s y t e = went_along s (m s) k (h s) g y t e

  taken_along : (m : ℕ) (a : Words) (l : Lists) (y : Seen) (t : State) → taken m a l ≡ passes y t → R (state a l) t
  taken_along m over l y t e = cc
  taken_along m (wrong p) l y t e = cc
  taken_along m (word p b rest) l y t e = let h : state rest l ≡ t = cc in subst (R (state (word p b rest) l)) h (takes p b rest l)

  pub along_token : (m : ℕ) → Along (token m)
  unfolding token
  along_token m s y t e = taken_along m s.ahead s.lists y t e

  kept_along : {A : Type 0} (o : Option A) (p : ℕ) (b : List ℕ) (rest : Words) (l : Lists) (y : Option A) (t : State) →
      kept_or o (state (word p b rest) l) (state rest l) ≡ passes y t → R (state (word p b rest) l) t
  kept_along None p b rest l y t e = let h : state (word p b rest) l ≡ t = cc in subst (R (state (word p b rest) l)) h (same (state (word p b rest) l))
  kept_along (Some x) p b rest l y t e = let h : state rest l ≡ t = cc in subst (R (state (word p b rest) l)) h (takes p b rest l)

  taken_if_along : {A : Type 0} (f : Seen → Option A) (a : Words) (l : Lists) (y : Option A) (t : State) → taken_if f a l ≡ passes y t → R (state a l) t
  taken_if_along f over l y t e = let h : state over l ≡ t = cc in subst (R (state over l)) h (same (state over l))
  taken_if_along f (wrong p) l y t e = cc
  taken_if_along f (word p b rest) l y t e = kept_along (f (seen p b)) p b rest l y t e

  pub along_token_if : {A : Type 0} (f : Seen → Option A) → Along (token_if f)
  unfolding token_if
  along_token_if f s y t e = taken_if_along f s.ahead s.lists y t e

  along_right : (b : Bool) (p : ℕ) → Along (right_or b p)
  along_right true p = along_pure tt
  along_right false p = along_refuse 6 p

  pub along_expect : (f : Seen → Bool) (m : ℕ) → Along (expect f m)
  unfolding expect
  along_expect f m = along_next (token m) _ (along_token m) (λ w. along_right (f w) w.place)

  -- a value may enter a name
  module _ (enters : (n : List ℕ) (s : State) → R s (state s.ahead (with_name n s.lists))) where
    new_along : (b : Bool) (p : ℕ) (n : List ℕ) (s : State) (y : ℕ) (t : State) →
        cond b (passes (length s.lists.names) (state s.ahead (with_name n s.lists))) (refuses 2 p) ≡ passes y t → R s t
    new_along true p n s y t e = let h : state s.ahead (with_name n s.lists) ≡ t = cc in subst (R s) h (enters n s)
    new_along false p n s y t e = cc

    entered_along : (p : ℕ) (n : List ℕ) (o : Option ℕ) → Along (entered p n o)
    entered_along p n (Some k) s y t e = along_pure k s y t e
    entered_along p n None s y t e = new_along (leb (length n) 32 && ltb (length s.lists.names) 128) p n s y t e

    along_enter : (p : ℕ) (n : List ℕ) → Along (enter p n)
    unfolding enter
    along_enter p n s y t e = entered_along p n _ s y t e

    headed_along : (h : Special) (p : ℕ) (n : List ℕ) → Along (headed h p n)
    headed_along Forloop p n = along_pure _
    headed_along Tablerowloop p n = along_pure _
    headed_along Barred p n = along_refuse 8 p
    headed_along Free p n = along_next (enter p n) _ (along_enter p n) (λ k. along_pure _)

    few_along : {A : Type 0} (b : Bool) (j : Judge A) (n p : ℕ) → Along j → Along (cond b j (refuse n p))
    few_along true j n p h = h
    few_along false j n p h = along_refuse n p

    path_along : (p : ℕ) (n : List ℕ) (ss : List PlacedStep) → Along (a_path p n ss)
    path_along p n ss = few_along (leb (length ss) 4) _ 2 p (along_next (head p n) _ (headed_along (special n) p n) (λ h. along_pure _))

    pub along_value_as : (p q : ℕ) (r : Reading) → Along (value_as p q r)
    unfolding value_as
    along_value_as p q is_nil = along_pure _
    along_value_as p q (is_boolean b) = along_pure _
    along_value_as p q (is_number z) = along_pure _
    along_value_as p q (is_text b) = along_pure _
    along_value_as p q (is_name n) = path_along p n []
    along_value_as p q (is_path n ss) = path_along p n (steps_of (q + length n) ss)
    along_value_as p q (is_range a x b y) = along_refuse 6 p
    along_value_as p q (is_symbol b) = along_refuse 6 p

    pub along_value : (m : ℕ) → Along (value m)
    unfolding value
    along_value m = along_next (token m) _ (along_token m) (λ w. along_value_as w.place w.place (read w))
