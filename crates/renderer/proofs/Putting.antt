-- What `put` comes to.
use Rattle.std.proofs.Common.{◌≡◌, ℕ, ◌+◌, ◌<◌, Bool, true, false, cond, List, [], ◌∷◌, length, Some, None, Ok, Err, Option, refl, ap, sym, ◌∙◌, arith}
use Rattle.std.specs.Option.{ok_or}
use Rattle.std.proofs.lemmas.Result.{IfOk-at_ok, IfErr-at_err}
use Rattle.rows.specs.First.{first_from}
use Rattle.tray.specs.Parts.{same_text}
use Rattle.tray.specs.Sound.{reserved}
use Rattle.drawers.specs.Kept.{if_short}
use Rattle.banks.specs.Meaning.{Meaning}
use Rattle.banks.specs.Operands as operand
use Rattle.sheet.specs.declared.sheet.Sheet as code
use Rattle.sheet.specs.Sheets.{lists}
use Rattle.nodes.proofs.Options.{none_some, some_is}
use Rattle.renderer.specs.declared.calls.Refused.TheVariants.{NotPut}
use Rattle.renderer.specs.Calls.{sheet_of, named, PutDone}
use Rattle.meaning.specs.Things.{Drawers, Held, name, altered, with_variable}
use Rattle.meaning.specs.Acts.{still, alter, ◌and_then◌}
use Rattle.meaning.specs.Leaves.{short_enough}
use Rattle.meaning.specs.Calls.{Judged, refusal, sets, judged_put, short_datum, held_datum, perform, put, result, act, drawers_after}

-- the number of a name is below the count of names
below_there : {A : Type 0} (k n : ℕ) (x : A) (xs : List A) (b : Bool) (o : Option ℕ) → (o ≡ Some n → n < (k + 1) + length xs) → cond b (Some k) o ≡ Some n → n < k + length (x ∷ xs)
below_there k n x xs true o l h = let e = some_is k n h in omega (arith, e)
below_there k n x xs false o l h = let m = l h in omega (arith, m)

first_below : {A : Type 0} (p : A → Bool) (k : ℕ) (xs : List A) (n : ℕ) → first_from p k xs ≡ Some n → n < k + length xs
first_below p k [] n h = none_some n h
first_below p k (x ∷ xs) n h = below_there k n x xs (p x) (first_from p (k + 1) xs) (first_below p (k + 1) xs n) h

unless : (b : Bool) (o : Option ℕ) (n : ℕ) → cond b None o ≡ Some n → o ≡ Some n
unless true o n h = none_some n h
unless false o n h = h

pub named_below : (names : List (List ℕ)) (k : List ℕ) (n : ℕ) → named names k ≡ Some n → n < length names
named_below names k n h =
    let l = first_below (same_text k) 0 names n (unless (reserved k) (first_from (same_text k) 0 names) n h) in
    omega (arith, l)

-- what is asked for, and is there or not
pub ok_or_err : {A E : Type 0} (o : Option A) (x y : E) → ok_or o x ≡ Err y → o ≡ None
ok_or_err None x y h = refl
ok_or_err {A} {E} (Some a) x y h = absurd (IfOk-at_ok (λ _. ⊥) {r = Err y} (sym h) tt)

pub ok_or_why : {A E : Type 0} (o : Option A) (x y : E) → ok_or o x ≡ Err y → x ≡ y
ok_or_why None x y h = cc
ok_or_why {A} {E} (Some a) x y h = absurd (IfOk-at_ok (λ _. ⊥) {r = Err y} (sym h) tt)

pub ok_or_ok : {A E : Type 0} (o : Option A) (x : E) (a : A) → ok_or o x ≡ Ok a → o ≡ Some a
ok_or_ok None x a h = absurd (IfErr-at_err (λ _. ⊥) {r = Ok a} (sym h) tt)
ok_or_ok (Some b) x a h = ap Some cc

-- what can be kept
pub kept_not : (v : Held) → ◌≡◌ {A = Option Held} None (if_short v) → short_enough v ≡ false
kept_not v h = go (short_enough v) h
  where
    go : (b : Bool) → ◌≡◌ {A = Option Held} None (cond b (Some v) None) → b ≡ false
    go true h = none_some v h
    go false h = refl

pub kept_so : (u v : Held) → Some u ≡ if_short v → (short_enough v ≡ true) × (u ≡ v)
kept_so u v h = go (short_enough v) h
  where
    go : (b : Bool) → Some u ≡ cond b (Some v) None → (b ≡ true) × (u ≡ v)
    go true h = (refl, some_is u v h)
    go false h = none_some u (sym h)

pub short_is : (v : operand.Datum) → short_enough (held_datum v) ≡ short_datum v
short_is operand.nil = refl
short_is (operand.boolean b) = refl
short_is (operand.whole z) = refl
short_is (operand.text t) = refl

module _ (s : code.Sheet) (k : List ℕ) (v : operand.Datum) (d : Drawers) where
  -- a call that is judged so
  judged_so : (j : Judged) (m : Meaning) → judged_put (named (lists s).names k) v ≡ j → perform (sheet_of s) m (put k v) d ≡ (result (sheet_of s) m j (act (sheet_of s) m j d []), drawers_after (act (sheet_of s) m j d []))
  unfolding perform
  judged_so j m h = ap (λ j. (result (sheet_of s) m j (act (sheet_of s) m j d []), drawers_after (act (sheet_of s) m j d []))) h

  pub no_name : named (lists s).names k ≡ None → PutDone s k v d d (Err NotPut)
  unfolding still
  no_name h m = judged_so (refusal 11) m (ap (λ o. judged_put o v) h)

  pub too_long : (n : ℕ) → named (lists s).names k ≡ Some n → short_datum v ≡ false → PutDone s k v d d (Err NotPut)
  unfolding still
  too_long n h l m = judged_so (refusal 11) m (ap (λ o. judged_put o v) h ∙ ap (λ b. cond b (sets n (held_datum v)) (refusal 11)) l)

  pub is_put : (n : ℕ) (after : Drawers) → named (lists s).names k ≡ Some n → short_datum v ≡ true → after ≡ altered (name n) (with_variable (held_datum v)) d → PutDone s k v d after (Ok tt)
  unfolding still alter ◌and_then◌
  is_put n after h l e m =
      judged_so (sets n (held_datum v)) m (ap (λ o. judged_put o v) h ∙ ap (λ b. cond b (sets n (held_datum v)) (refusal 11)) l)
      ∙ ap (λ x. (Rattle.meaning.specs.Calls.accepted, x)) (sym e)
