-- Two calls that do not clash commute.
use Rattle.std.proofs.Common.{◌≡◌, ℕ, ◌⊎◌, List, [], ◌∷◌, ◌++◌, sym, refl, ◌∙◌, inl, inr}
use mathlib.Core.Path.{fun_ext}
use native.Mathlib.Decide.{ℕ_discrete}
use Rattle.banks.specs.Meaning.{Meaning}
use Rattle.meaning.specs.Things.{Thing, name, Thing-discrete, Drawers}
use Rattle.meaning.specs.Acts.{gives, stops, Step, step}
use Rattle.meaning.specs.Leaves.{Flow}
use Rattle.meaning.specs.Calls.{Sheet, Call, Judged, refusal, sets, renders, judged, judged_reads, judged_writes, call_reads, call_writes}
use Rattle.meaning.specs.Calls.{In, Meet, Clash, act, result, drawers_after, perform}
use Rattle.meaning.proofs.Tied.{Agree, Alike, alike, Kept}
use Rattle.meaning.proofs.Confined.{Confined, and_then_confined, quiet_confined, alter_confined}
use Rattle.meaning.proofs.Covers.{Covers, in_left, in_right}
use Rattle.meaning.proofs.Rendering.{render_confined}

in_dec : (t : Thing) (l : List Thing) → Dec (In t l)
in_dec t [] = no (λ i. i)
in_dec t (u ∷ l) = either (Thing-discrete ℕ_discrete t u) (in_dec t l)
  where
    either : Dec (t ≡ u) → Dec (In t l) → Dec ((t ≡ u) ⊎ In t l)
    either (yes e) h = yes (inl e)
    either (no n) (yes i) = yes (inr i)
    either (no n) (no m) = no (λ s. elim s [ inl e ↦ n e | inr i ↦ m i ])

alike_result : (sheet : Sheet) (bank : Meaning) (j : Judged) {X : Thing → Type 0} {r s : Step Flow} → Alike X r s → (result sheet bank j r ≡ result sheet bank j s) × Agree X (drawers_after r) (drawers_after s)
alike_result sheet bank (refusal n) (alike h) = (refl, h)
alike_result sheet bank (sets n v) (alike h) = (refl, h)
alike_result sheet bank (renders t w k) (alike {r = gives f} h) = (refl, h)
alike_result sheet bank (renders t w k) (alike {r = stops f} h) = (refl, h)

kept_after : (W : Thing → Type 0) (d : Drawers) (s : Step Flow) → Kept W d s → (t : Thing) → ¬ (W t) → drawers_after s t ≡ d t
kept_after W d (step e o r) h = h

-- the space that a call has
abbrev space : Judged → ℕ
space (refusal n) = 0
space (sets n v) = 0
space (renders t w k) = k

module _ (sheet : Sheet) (bank : Meaning) where
  pub act_confined : {X W : Thing → Type 0} (j : Judged) →
      Covers X (judged_reads j) → Covers W (judged_writes j) → Confined (space j) X W (act sheet bank j)
  act_confined (refusal n) h g = quiet_confined _
  act_confined (sets n v) h g = and_then_confined (alter_confined (name n) _ (g (name n) (inl refl))) (λ _. quiet_confined _)
  act_confined (renders t w k) h g = render_confined _ t [] h g

  -- a call changes only what it writes
  pub keeps : (c : Call) (d : Drawers) (t : Thing) → ¬ (In t (call_writes sheet c)) → (perform sheet bank c d).1 t ≡ d t
  unfolding perform
  keeps c d =
      kept_after (λ t. In t (call_writes sheet c)) d (act sheet bank (judged sheet c) d [])
      ((act_confined {X = λ _. Unit {0}} (judged sheet c) (λ _ _. tt) (λ _ i. i)).tied.frame d [])

  -- a call depends only on what it reads, and drawers that agree on more than that agree there afterwards
  pub agrees : (X : Thing → Type 0) (c : Call) (d e : Drawers) → Covers X (call_reads sheet c) → Agree X d e →
      ((perform sheet bank c d).0 ≡ (perform sheet bank c e).0) × Agree X (perform sheet bank c d).1 (perform sheet bank c e).1
  unfolding perform
  agrees X c d e h a = alike_result sheet bank (judged sheet c) ((act_confined {W = λ _. Unit {0}} (judged sheet c) h (λ _ _. tt)).tied.same d e [] a)

  -- `b` after an `a` that writes nothing that `b` reads or writes
  quiet : (a b : Call) → ¬ (Meet (call_writes sheet a) (call_reads sheet b ++ call_writes sheet b)) → (d : Drawers) →
      ((perform sheet bank b (perform sheet bank a d).1).0 ≡ (perform sheet bank b d).0) ×
      Agree (λ t. ¬ (In t (call_writes sheet a))) (perform sheet bank b (perform sheet bank a d).1).1 (perform sheet bank b d).1
  quiet a b n d =
      agrees (λ t. ¬ (In t (call_writes sheet a))) b (perform sheet bank a d).1 d
      (λ t i j. n (t, j, in_left t (call_reads sheet b) (call_writes sheet b) i))
      (keeps a d)

  -- what either order gives and leaves
  pub record Commutes (a b : Call) (d : Drawers) : Type 0 where
    pub first : (perform sheet bank a (perform sheet bank b d).1).0 ≡ (perform sheet bank a d).0
    pub second : (perform sheet bank b (perform sheet bank a d).1).0 ≡ (perform sheet bank b d).0
    pub drawers : (perform sheet bank a (perform sheet bank b d).1).1 ≡ (perform sheet bank b (perform sheet bank a d).1).1

  pub commute : (a b : Call) → ¬ (Clash sheet a b) → (d : Drawers) → Commutes a b d
  commute a b n d =
      record {
        first = ba.0;
        second = ab.0;
        drawers = fun_ext (λ t. at_thing t (in_dec t (call_writes sheet a)));
      }
    where
      ab : ((perform sheet bank b (perform sheet bank a d).1).0 ≡ (perform sheet bank b d).0) ×
          Agree (λ t. ¬ (In t (call_writes sheet a))) (perform sheet bank b (perform sheet bank a d).1).1 (perform sheet bank b d).1
      ab = quiet a b (λ m. n (inl m)) d

      ba : ((perform sheet bank a (perform sheet bank b d).1).0 ≡ (perform sheet bank a d).0) ×
          Agree (λ t. ¬ (In t (call_writes sheet b))) (perform sheet bank a (perform sheet bank b d).1).1 (perform sheet bank a d).1
      ba = quiet b a (λ m. n (inr m)) d

      at_thing : (t : Thing) → Dec (In t (call_writes sheet a)) →
          (perform sheet bank a (perform sheet bank b d).1).1 t ≡ (perform sheet bank b (perform sheet bank a d).1).1 t
      at_thing t (yes i) =
          let free : ¬ (In t (call_writes sheet b)) =
          λ j. n (inl (t, i, in_right t (call_reads sheet b) (call_writes sheet b) j)) in
          ba.1 t free ∙ sym (keeps b (perform sheet bank a d).1 t free)
      at_thing t (no f) = keeps a (perform sheet bank b d).1 t f ∙ sym (ab.1 t f)
