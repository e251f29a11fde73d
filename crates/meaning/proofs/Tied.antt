-- An act is tied to two sets of things, X and W, where what it does depends on no thing outside X, and it changes no thing outside W.
use Rattle.std.proofs.Common.{◌≡◌, ℕ, Bool, true, false, cond, T, List, length, refl, ap, ◌∙◌, subst, eqb→eq}
use Rattle.meaning.specs.Things.{Thing, name, cycle_name, changed, Content, Drawers, same_thing}
use Rattle.meaning.specs.Frames.{Frames}
use Rattle.meaning.specs.Acts.{End, gives, stops, Step, step, Act, go_on, ◌and_then◌, still, look, alter, append, emit, cut, aside}

-- the two drawers have the same in each thing of X
abbrev pub Agree : (Thing → Type 0) → Drawers → Drawers → Type 0
Agree X d e = (t : Thing) → X t → d t ≡ e t

-- the two steps ended alike, with the same text, and their drawers agree on X
pub data Alike {A : Type 0} (X : Thing → Type 0) : Step A → Step A → Type 0 where
  alike : {d e : Drawers} {o : List ℕ} {r : End A} → Agree X d e → Alike X (step d o r) (step e o r)

-- the step changed only things of W
abbrev pub Kept : {A : Type 0} → (Thing → Type 0) → Drawers → Step A → Type 0
Kept W d (step e o r) = (t : Thing) → ¬ (W t) → e t ≡ d t

pub record Tied {A : Type 0} (X W : Thing → Type 0) (m : Act A) : Type 0 where
  pub same : (d e : Drawers) (o : List ℕ) → Agree X d e → Alike X (m d o) (m e o)
  pub frame : (d : Drawers) (o : List ℕ) → Kept W d (m d o)

module _ (W : Thing → Type 0) {A : Type 0} where
  kept_trans : (d e : Drawers) (s : Step A) → ((t : Thing) → ¬ (W t) → e t ≡ d t) → Kept W e s → Kept W d s
  kept_trans d e (step e' o r) h k = λ t n. k t n ∙ h t n

  kept_cut : (d : Drawers) (s : ℕ) (u : Step A) → Kept W d u → Kept W d (cut s u)
  kept_cut d s (step e o (gives a)) h = h
  kept_cut d s (step e o (stops f)) h = h

module _ {X : Thing → Type 0} {A : Type 0} where
  alike_cut : (s : ℕ) {u v : Step A} → Alike X u v → Alike X (cut s u) (cut s v)
  alike_cut s (alike {r = gives a} h) = alike h
  alike_cut s (alike {r = stops f} h) = alike h

module _ {X W : Thing → Type 0} {A B : Type 0} where
  alike_on : (k : A → Act B) → ((a : A) → Tied X W (k a)) → {r s : Step A} → Alike X r s → Alike X (go_on r k) (go_on s k)
  alike_on k hk (alike {r = gives a} h) = (hk a).same _ _ _ h
  alike_on k hk (alike {r = stops f} h) = alike h

  kept_on : (d : Drawers) (k : A → Act B) → ((a : A) → Tied X W (k a)) → (s : Step A) → Kept W d s → Kept W d (go_on s k)
  kept_on d k hk (step e o (gives a)) h = kept_trans W d e (k a e o) h ((hk a).frame e o)
  kept_on d k hk (step e o (stops f)) h = h

  pub and_then_tied : {m : Act A} {k : A → Act B} →
      Tied X W m → ((a : A) → Tied X W (k a)) → Tied X W (m and_then k)
  unfolding ◌and_then◌
  and_then_tied {m} {k} hm hk =
      record {
        same = λ d e o h. alike_on k hk (hm.same d e o h);
        frame = λ d o. kept_on d k hk (m d o) (hm.frame d o);
      }

module _ {X W : Thing → Type 0} {A : Type 0} where
  pub still_tied : (f : List ℕ → List ℕ × End A) → Tied X W (still f)
  unfolding still
  still_tied f = record { same = λ d e o h. alike h; frame = λ d o t n. refl }

  pub cond_tied : (b : Bool) {m n : Act A} → Tied X W m → Tied X W n → Tied X W (cond b m n)
  cond_tied true hm hn = hm
  cond_tied false hm hn = hn

  pub aside_tied : {m : Act A} → Tied X W m → Tied X W (aside m)
  unfolding aside
  aside_tied {m} hm =
      record { same = λ d e o h. alike_cut (length o) (hm.same d e o h); frame = λ d o. kept_cut W d (length o) (m d o) (hm.frame d o) }

left_out : {A : Type 0} (b : Bool) (x y : A) → (T b → ⊥) → cond b x y ≡ y
left_out true x y n = absurd (n tt)
left_out false x y n = refl

module _ {X W : Thing → Type 0} where
  pub emit_tied : (limit p : ℕ) (e : Frames) (w : List ℕ) → Tied X W (emit limit p e w)
  unfolding emit
  emit_tied limit p e w = still_tied _

  pub append_tied : (w : List ℕ) → Tied X W (append w)
  unfolding append
  append_tied w = still_tied _

-- what passes the test is the same thing
pub same_is : (t u : Thing) → T (same_thing t u) → t ≡ u
same_is (name n) (name m) h = ap name (eqb→eq n m h)
same_is (name n) (cycle_name m) h = absurd h
same_is (name n) changed h = absurd h
same_is (cycle_name n) (name m) h = absurd h
same_is (cycle_name n) (cycle_name m) h = ap cycle_name (eqb→eq n m h)
same_is (cycle_name n) changed h = absurd h
same_is changed (name m) h = absurd h
same_is changed (cycle_name m) h = absurd h
same_is changed changed h = refl

module _ {X W : Thing → Type 0} where
  pub look_tied : (t : Thing) → X t → Tied X W (look t)
  unfolding look
  look_tied t x =
      record {
        same = λ d e o h. subst (λ (c : Content). Alike X (step d o (gives (d t))) (step e o (gives c))) (h t x) (alike h);
        frame = λ d o u n. refl;
      }

  pub alter_tied : (t : Thing) (f : Content → Content) → W t → Tied X W (alter t f)
  unfolding alter
  alter_tied t f w =
      record {
        same = λ d e o h. alike (λ u x. ap (λ c. cond (same_thing t u) (f c) c) (h u x));
        frame = λ d o u n. left_out (same_thing t u) _ _ (λ q. n (subst (λ (k : Thing). W k) (same_is t u q) w));
      }
